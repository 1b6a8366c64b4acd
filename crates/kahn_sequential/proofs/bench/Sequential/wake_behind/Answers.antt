use Rattle.kahn_sequential.proofs.Common.{◌≡◌, ◌∙◌, ap, sym, route_of, IsReadyBy}
use Rattle.kahn_sequential.proofs.{Benched.same_actual, Noted.nobody_reads, Noted.nobody_woken, Noted.own_reader, Noted.reader_is, Noted.woken_as}
use Rattle.kahn_sequential.proofs.bench.Sequential.wake_behind.Goals as goal

pub returns-in_default-reader_of : goal.returns-in_default-reader_of
returns-in_default-reader_of c =
    let b = c.args.self.now in
    let r = c.args.instance in
    let q = c.args.parameter in
    let route = sym (c.in-Some.ensures ∙ ap route_of (same_actual c.self.view_is c.self.invariant r q)) in
    nobody_woken (IsReadyBy b r q) c.args.woken.now (nobody_reads b r q c.in-Some.channel route c.in_default-reader_of.ensures)

pub returns-then-reader-instance : goal.returns-then-reader-instance
returns-then-reader-instance c =
    let b = c.args.self.now in
    let r = c.args.instance in
    let q = c.args.parameter in
    let route = sym (c.in-Some.ensures ∙ ap route_of (same_actual c.self.view_is c.self.invariant r q)) in
    let s = c.in-Some-reader_of in
    nobody_woken (IsReadyBy b r q) c.args.woken.now (own_reader b r q c.in-Some.channel route s.reader s.ensures c.if-reader-instance.true)

pub returns : goal.returns
returns c =
    let b = c.args.self.now in
    let r = c.args.instance in
    let q = c.args.parameter in
    let route = sym (c.in-Some.ensures ∙ ap route_of (same_actual c.self.view_is c.self.invariant r q)) in
    let s = c.in-Some-reader_of in
    woken_as (λ p. p ≡ s.reader) (IsReadyBy b r q) c.args.woken.now c.add.new.self c.add.ensures (reader_is b r q c.in-Some.channel route s.reader s.ensures)
