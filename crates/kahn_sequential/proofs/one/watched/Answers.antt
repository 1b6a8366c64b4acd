use Rattle.kahn_sequential.proofs.Common.{◌≡◌, Some, refl, sym, ap, ◌∙◌, subst, slice_get, channel_names, IsUndeclared, IsWatched}
use Rattle.kahn_sequential.proofs.Watching.{named_nowhere, named_there}
use Rattle.kahn_sequential.proofs.one.watched.Goals as goal

pub returns-in-Some-channel_named : goal.returns-in-Some-channel_named
returns-in-Some-channel_named c =
    let t = c.args.network.now in
    let n = c.in-Some-channel_named.channel in
    let h = c.in-Some-channel_named.ensures in
    subst (λ name. IsWatched t name (Some n)) (sym c.in-Some.is)
    (subst (λ x. slice_get (channel_names t) n ≡ Some x) c.as_str.ensures.value (named_there (channel_names t) c.as_str.result.now n h.0 h.1))

pub returns-in-None-channel_named : goal.returns-in-None-channel_named
returns-in-None-channel_named c =
    let t = c.args.network.now in (
      refl,
      subst (IsUndeclared t) (sym c.in-Some.is)
          (λ k e. named_nowhere (channel_names t) c.as_str.result.now c.in-None-channel_named.ensures k (e ∙ ap Some (sym c.as_str.ensures.value))),
    )
