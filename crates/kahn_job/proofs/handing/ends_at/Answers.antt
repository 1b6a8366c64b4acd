use Rattle.kahn_job.proofs.Common.{arith, rules, ◌≡◌, ◌∙◌, false, true, refl, ap, sym, slice_get, Some, receiver_lane, sent}
use Rattle.kahn_job.proofs.Handed.{given_is, inner_is_not_input}
use Rattle.kahn_job.specs.inner.Words.{given_of}
use Rattle.kahn_job.proofs.handing.ends_at.Goals as goal

pub returns-in_ok-_flushed-in-Inner : goal.returns-in_ok-_flushed-in-Inner
returns-in_ok-_flushed-in-Inner c =
    let opened = c.in-Ok.ensures in
    let i = c.loop-number.invariant in
    let f = c.flush.ensures in
    let all = c.in_ok-_flushed-in-Inner.ensures.flushed.1 in
    let queue = slice_get c.args.queues.now.queues c.args.channel in
    let given : sent c.loop-number.sender ≡ given_of queue =
    omega (arith, given_is queue, i.sent, c.taken-taken.ensures, c.waiting-number-end.ensures, c.loop-number.auto.number-end, c.loop-number-test.false) in
    rw (c.puts.ensures, c.takes.ensures) (record {
      puts = λ n. (λ o. (refl, f.same.0.1 ∙ i.name), λ o. f.same.1 ∙ given);
      takes = λ n. ((refl, opened.name.1, λ e. absurd (inner_is_not_input (search rules) e)), opened.start.2 ∙ c.taken-taken.ensures);
      lane = λ e. (receiver_lane c.in-Ok.receiver, ap Some (f.same.0.0 ∙ i.lane), refl);
      every = (
        (omega (arith, all, f.same.1), λ w. all ∙ sym f.same.1),
        (omega arith, λ w. let never : false ≡ true = w in absurd cc),
      );
    })
