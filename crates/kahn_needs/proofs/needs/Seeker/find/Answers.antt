use Rattle.kahn_needs.proofs.Common.{arith, ◌+◌, ◌∙◌, ap, inl, inr, subst, sym, refl, inputs_of, network_of, AreNeedsFound, IsFoundBy, Seeking, seeking_of, events_total}
use Rattle.std.specs.Prelude.{IfOk}
use Rattle.kahn_needs.specs.declared.needs.Found.TheVariants as found
use Rattle.kahn_needs.proofs.{Seeking.as_sought, Seeking.first_later, Seeking.forced_later, Seeking.root_there, Telling.found_all, Telling.never_stands}
use Rattle.kahn_needs.proofs.needs.Seeker.find.Goals as goal
use Rattle.kahn_needs.proofs.needs.Seeker.find.Goals.{in-Come, in-Never, in-Ring, in-Bound, in-Spent, in-NoMemory}

pub search-requires-clause-root : goal.search-requires-clause-root
search-requires-clause-root c = root_there c.self.inside.bench c.self.inside.line c.args.place c.self.inside.next c.self.invariant

pub search-requires-clause-forced : goal.search-requires-clause-forced
search-requires-clause-forced c =
    let i = c.self.inside in
    forced_later i.bench i.line i.next c.args.place (first_later i.bench i.line i.next i.left c.args.place c.self.view_is c.requires) c.self.invariant.forced

pub returns-clause-found : goal.returns-clause-found
returns-clause-found c =
    let i = c.self.inside in
    let s = c.args.self.now in
    let b = c.search.new.bench in
    let k = c.args.place in
    let same = c.search.ensures.same in
    elim c.match-search.branch [
      | in-Come w ↦ subst (λ r. IfOk r (AreNeedsFound (network_of s.network) (inputs_of s.input) s.line k)) (sym w.result-is)
          (as_sought i.bench b i.line i.next i.left (λ t l d. IfOk w.told.result (AreNeedsFound (network_of t) (inputs_of l) d k)) c.self.view_is same w.told.ensures.found)
      | in-Never w ↦ subst (λ r. IfOk r (AreNeedsFound (network_of s.network) (inputs_of s.input) s.line k)) (sym w.result-is)
          (as_sought i.bench b i.line i.next i.left (λ t l d. AreNeedsFound (network_of t) (inputs_of l) d k found.Never) c.self.view_is same
          (never_stands b b.network b.input refl refl i.line k w.in-Never.ensures.sought.0, w.in-Never.ensures.sought.1))
      | in-Ring w ↦ subst (λ r. IfOk r (AreNeedsFound (network_of s.network) (inputs_of s.input) s.line k)) (sym w.result-is)
          (as_sought i.bench b i.line i.next i.left (λ t l d. AreNeedsFound (network_of t) (inputs_of l) d k found.Ring) c.self.view_is same
          (never_stands b b.network b.input refl refl i.line k w.in-Ring.ensures.sought.0, w.in-Ring.ensures.sought.1))
      | in-Bound w ↦ subst (λ r. IfOk r (AreNeedsFound (network_of s.network) (inputs_of s.input) s.line k)) (sym w.result-is) tt
      | in-Spent w ↦ subst (λ r. IfOk r (AreNeedsFound (network_of s.network) (inputs_of s.input) s.line k)) (sym w.result-is) tt
      | in-NoMemory w ↦ subst (λ r. IfOk r (AreNeedsFound (network_of s.network) (inputs_of s.input) s.line k)) (sym w.result-is) tt
    ]

pub returns-clause-left : goal.returns-clause-left
returns-clause-left c = omega (arith, c.search.ensures.left, ap (λ (s : Seeking). s.left) c.self.view_is)

pub returns-clause-counted : goal.returns-clause-counted
returns-clause-counted c = c.search.ensures.counted ∙ ap (λ (s : Seeking). s.left + events_total s.done) c.self.view_is

pub returns-clause-by : goal.returns-clause-by
returns-clause-by c =
    let i = c.self.inside in
    let n = seeking_of c.search.new.bench i.line c.args.place c.search.new.left in
    elim c.match-search.branch [
      | in-Come w ↦ subst (λ r. IfOk r (IsFoundBy n)) (sym w.result-is) (found_all n w.told.result w.told.ensures.needs)
      | in-Never w ↦ subst (λ r. IfOk r (IsFoundBy n)) (sym w.result-is) tt
      | in-Ring w ↦ subst (λ r. IfOk r (IsFoundBy n)) (sym w.result-is) tt
      | in-Bound w ↦ subst (λ r. IfOk r (IsFoundBy n)) (sym w.result-is) (inr w.in-Bound.ensures.sought)
      | in-Spent w ↦ subst (λ r. IfOk r (IsFoundBy n)) (sym w.result-is) (inl w.in-Spent.ensures.sought)
      | in-NoMemory w ↦ subst (λ r. IfOk r (IsFoundBy n)) (sym w.result-is) tt
    ]
