use Rattle.kahn_texts.proofs.Common.{ends_text, Appends-trans}
use Rattle.kahn_texts.proofs.{Flushes.flushed_once, Flushes.unflushed, Writing.fails, Writing.flushed, Writing.goes_on_front, Writing.stops}
use Rattle.kahn_texts.proofs.write.closing_counted.Goals as goal

pub returns-in_err-put_ends-clause-text : goal.returns-in_err-put_ends-clause-text
returns-in_err-put_ends-clause-text g c = fails _ _ _ _ c.from_residual.ensures.0 (stops _ _ _ _ c.in_err-put_ends.ensures.text)

pub returns-in_err-put_ends-clause-once : goal.returns-in_err-put_ends-clause-once
returns-in_err-put_ends-clause-once g c = unflushed _ _ c.from_residual.ensures.0

pub returns-in_err-put_last-clause-text : goal.returns-in_err-put_last-clause-text
returns-in_err-put_last-clause-text g c =
    fails _ _ _ _ c.from_residual-in_err-put_last.ensures.0 (goes_on_front _ _ _ (ends_text c.args.network.now 0 c.args.ends.now) _ c.in_ok-put_ends.ensures.text c.in_err-put_last.ensures.text)

pub returns-in_err-put_last-clause-once : goal.returns-in_err-put_last-clause-once
returns-in_err-put_last-clause-once g c = unflushed _ _ c.from_residual-in_err-put_last.ensures.0

pub returns-clause-text : goal.returns-clause-text
returns-clause-text g c =
    flushed _ _ _ _ _ (Appends-trans _ _ _ (ends_text c.args.network.now 0 c.args.ends.now) _ c.in_ok-put_ends.ensures.text c.in_ok-put_last.ensures.text) c.flush.ensures.kept

pub returns-clause-once : goal.returns-clause-once
returns-clause-once g c = flushed_once _ _ _ c.flush.ensures.once
