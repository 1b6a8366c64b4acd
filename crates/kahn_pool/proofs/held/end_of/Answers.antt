use Rattle.kahn_pool.proofs.Common.{◌≡◌, inl, sym, ap, ◌∙◌, subst, length, refl, same_Some, Tasked, IsToldAs, slice_get_read}
use Rattle.kahn_pool.proofs.held.end_of.Goals as goal
use Rattle.kahn_pool.proofs.held.end_of.Goals.{in-Going, in-Ended, in-Faulted, in-Dry}

pub dry_outcome-outcome-requires-clause-reads : goal.dry_outcome-outcome-requires-clause-reads
dry_outcome-outcome-requires-clause-reads c =
    let tasks = c.args.tasks.now in
    let p = c.args.instance in
    let y = c.index-tasks-instance.result in
    let at = slice_get_read tasks (length tasks) p y refl c.requires.here c.index-tasks-instance.is in
    c.requires.told.dry p c.in-Dry.parameter y at (sym c.standing.ensures.result ∙ c.in-Dry.is)

pub returns : goal.returns
returns c x e =
    let t = c.args.part.now.network.now in
    let tasks = c.args.tasks.now in
    let p = c.args.instance in
    let y = c.index-tasks-instance.result in
    let at = slice_get_read tasks (length tasks) p y refl c.requires.here c.index-tasks-instance.is in
    let same : y ≡ x = same_Some _ _ (sym at ∙ e) in
    let stands : x.standing ≡ c.standing.result = ap (λ (z : Tasked). z.standing) (sym same) ∙ sym c.standing.ensures.result in
    record {
      events = c.events-events.ensures ∙ ap (λ (z : Tasked). z.work.cell.events) same;
      told = elim c.match-standing.branch [
        | in-Going w ↦ subst (IsToldAs t c.args.part.now.input.now tasks x) (sym w.outcome-is) (inl (stands ∙ w.in-Going.is))
        | in-Ended w ↦ subst (IsToldAs t c.args.part.now.input.now tasks x) (sym w.outcome-is) (stands ∙ w.in-Ended.is)
        | in-Faulted w ↦ subst (IsToldAs t c.args.part.now.input.now tasks x) (sym w.outcome-is) (stands ∙ w.in-Faulted.is)
        | in-Dry w ↦ subst (IsToldAs t c.args.part.now.input.now tasks x) (sym w.outcome-is) (w.dry_outcome-outcome.ensures x e (stands ∙ w.in-Dry.is))
      ];
    }
