use Rattle.kahn_sequential.proofs.Common.{◌≡◌, ◌+◌, ◌<◌, ◌^◌, ap, ◌∙◌, subst, length, slice_get, SomeIff, network_of, role_at, inputs_of, taken_of, waiting_of, Table}
use Rattle.kahn_sequential.proofs.Emptied.{given_all}
use Rattle.kahn_sequential.proofs.bench.Sequential.given.Goals as goal

pub returns : goal.returns
returns c =
    let r = c.checked_add.result in
    let d = c.args.channel in
    let q = c.self.inside.queues in
    let sum = given_all _ c.self.invariant c.counted.ensures d (ap (λ (x : Table). role_at (network_of x.network) d) c.self.view_is ∙ c.requires) in
    let counts : c.taken-taken.result + c.waiting.result ≡ taken_of (slice_get q.queues d) + waiting_of (slice_get q.queues d) =
    ap (λ n. n + c.waiting.result) c.taken-taken.ensures ∙ ap (λ n. taken_of (slice_get q.queues d) + n) c.waiting.ensures in
    subst (λ (x : Table). SomeIff r (length (inputs_of x.input d) < 2 ^ 64) (length (inputs_of x.input d))) c.self.view_is
    (subst (λ k. SomeIff r (k < 2 ^ 64) k) (counts ∙ sum) c.checked_add.ensures)
