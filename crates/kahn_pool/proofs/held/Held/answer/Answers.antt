use Rattle.kahn_pool.proofs.Common.{◌-◌, List, sym, ◌∙◌, subst, refl, AreKeptOf, Work, cells_of, IsConcluded, HeldRun, IsAnswerOf, AreEnded, held_state, Answer, planned, End, are_streams, answer_right}
use Rattle.kahn_pool.proofs.{Held_runs.answer_is, Kept.idle_lists}
use Rattle.kahn_pool.proofs.held.Held.answer.Goals as goal

pub fill-requires-clause-named : goal.fill-requires-clause-named
fill-requires-clause-named c = (c.self.inside.crew.watch, c.in_ok-streams.ensures.lines)

pub fill-requires-clause-lists : goal.fill-requires-clause-lists
fill-requires-clause-lists c =
    let i = c.self.inside in
    let kept = subst (λ (xs : List Work). AreKeptOf (cells_of xs) c.in_ok-lists.lists.items) c.deref.ensures.value c.in_ok-lists.ensures in
    idle_lists i.network.now i.input i.idles.items c.self.invariant.0.held.idle c.in_ok-lists.lists.items kept

pub returns : goal.returns
returns c =
    let i = c.self.inside in
    let t = i.network.now in
    let ws = i.idles.items in
    let s = held_state t i.input i.crew.watch ws in
    let v = c.in-Some.verdict in
    let ended = subst (AreEnded s i.bound i.budget i.ends.items) c.in-Some.is c.self.invariant.0.ended in
    let a : Answer = record { verdict = v; streams = c.fill.new.streams; ends = c.in_ok-ends.ends; events = i.bound - i.budget } in
    let concluded : IsConcluded s i.bound i.budget ended.0 v c.in_ok-ends.ends.items =
    subst (λ (xs : List End). IsConcluded s i.bound i.budget ended.0 v xs) (sym (c.in_ok-ends.ensures.items ∙ c.deref-2.ensures.value)) ended.1
    in
    let kept = subst (λ (xs : List Work). AreKeptOf (cells_of xs) c.in_ok-lists.lists.items) c.deref.ensures.value c.in_ok-lists.ensures in
    let streams = are_streams t i.input i.crew.watch (cells_of ws) kept c.in_ok-streams.ensures c.fill.ensures in
    subst (λ (h : HeldRun). IsAnswerOf h a) c.self.view_is (answer_is t i.input (planned i.crew i.bound) ws i.verdict c.program-program.ensures.wired a concluded streams c.in-Some.is (answer_right a concluded streams refl))
