use Rattle.kahn_streams.proofs.Common.{ap, sym, ◌∙◌, map, slice_set, map-set}
use Rattle.kahn_streams.proofs.Few.{put_few, same_few}
use Rattle.kahn_streams.proofs.input.Input.give.Goals as goal

pub returns : goal.returns
returns c =
    map-set (λ v. v.items) c.self.inside.lists.items c.args.channel c.args.values
    ∙ ap (λ l. slice_set l c.args.channel c.args.values.items) c.self.view_is

pub invariant_of-self : goal.invariant_of-self
invariant_of-self c =
    put_few c.args.self.now (map (λ v. v.items) (slice_set c.self.inside.lists.items c.args.channel c.args.values)) c.args.channel c.args.values.items
    c.requires.here (same_few (map (λ v. v.items) c.self.inside.lists.items) c.args.self.now c.self.invariant (sym c.self.view_is)) c.requires.few
    (map-set (λ v. v.items) c.self.inside.lists.items c.args.channel c.args.values ∙ ap (λ l. slice_set l c.args.channel c.args.values.items) c.self.view_is)
