use Rattle.kahn_streams.proofs.Common.{◌≡◌, ◌∙◌, sym, subst}
use Rattle.std.specs.String.{string_eq}
use Rattle.indexmap.specs.IndexMap.{insert_all}
use Rattle.indexmap.proofs.CallerLemmas.{Drains-YieldsInOrder}
use Rattle.kahn_streams.specs.Wires.{IsKept}
use Rattle.kahn_streams.proofs.Kept_names.{wires_put}
use Rattle.kahn_streams.proofs.network.kept.Goals as goal

pub invariant_of-result : goal.invariant_of-result
invariant_of-result c =
    let ran = c.in_ok-extend.ensures.ran in
    let ws = c.args.wires.items in
    let all : ran.1 ≡ ws = Drains-YieldsInOrder _ _ ran.0 ran.1 ran.2.3 ran.4 ∙ ran.2.0 in
    let put = ran.3.0 ∙ (λ j. insert_all string_eq (c.with_hasher-by_name.ensures.empty j) (all j)) ∙ wires_put c.args.program ws c.requires.wired c.requires.lines in
    subst (λ z. IsKept c.args.program z c.args.processes.items) (sym put) c.requires
