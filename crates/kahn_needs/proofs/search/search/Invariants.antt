use Rattle.kahn_needs.proofs.Common.{◌≡◌, ◌+◌, ◌≤◌, events_total, AreSeatsOf, AreForced, AreDemands, IsWaitChain, IsDemand}
use Rattle.kahn_needs.proofs.search.search.Given as goal

abbrev pub invariant-loop : goal.invariant-loop
invariant-loop g l = record {
  same : AreSeatsOf l.fn.bench.network l.fn.bench.input l.fn.bench.watch l.bench;
  forced : AreForced l.bench l.root.line l.root.place;
  root : IsDemand l.bench l.root.line l.root.place l.root.line l.root.place;
  chain : IsWaitChain l.bench l.root.line l.root.place l.chain;
  waiting : AreDemands l.bench l.root.line l.root.place l.waiting.items;
  left : l.left ≤ l.fn.left;
  counted : l.left + events_total l.bench.done ≡ l.fn.left + events_total l.fn.bench.done;
}
