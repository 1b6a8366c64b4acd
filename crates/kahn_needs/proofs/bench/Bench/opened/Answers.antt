use Rattle.kahn_needs.proofs.Common.{subst, sym, ap, ◌∙◌, HaveNotMoved, Seats, replicate, events_total}
use Rattle.kahn_needs.proofs.{Benched.laid_first, Searching.total_none}
use Rattle.kahn_needs.proofs.bench.Bench.opened.Goals as goal

pub named-requires : goal.named-requires
named-requires c =
    laid_first c.args.network.now c.args.code.network.value c.args.input.now c.args.watch c.in_ok-cells.cells.items c.in_ok-ports.ports c.in_ok-done.done.items
    c.program-program.ensures.wired c.requires c.in_ok-cells.ensures c.in_ok-ports.ensures.names c.in_ok-ports.ensures.first c.counted.ensures
    (c.in_ok-done.ensures ∙ ap (λ n. replicate n 0) c.instances.ensures)

pub returns-clause-none : goal.returns-clause-none
returns-clause-none c = ap (λ (b : Seats). events_total b.done) c.named.ensures ∙ total_none c.instances.result c.in_ok-done.done.items c.in_ok-done.ensures

pub returns-clause-idle : goal.returns-clause-idle
returns-clause-idle c =
    subst HaveNotMoved (sym (ap (λ (b : Seats). b.cells) c.named.ensures)) (λ p x e. let f = c.in_ok-cells.ensures.each p x e in (f.events, f.taken))
