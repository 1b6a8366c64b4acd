use Rattle.kahn_texts.proofs.{Flushes.flushed_once, Flushes.unflushed, Writing.fails, Writing.flushed}
use Rattle.kahn_fault.proofs.Common.{subst, WritesCounted}
use Rattle.kahn_fault.proofs.message.line_counted.Goals as goal

pub returns-in_err-put_said-clause-line : goal.returns-in_err-put_said-clause-line
returns-in_err-put_said-clause-line g c =
    subst
    (WritesCounted g.W.Write.contents g.C.CallCount.count c.args.writer.now c.put_said.new.writer c.from_residual.result c.args.writes.now c.put_said.new.writes)
    (c.fault_said.ensures c.args.program.now) (fails _ _ _ _ c.from_residual.ensures.0 c.in_err-put_said.ensures.0, c.put_said.ensures.1)

pub returns-in_err-put_said-clause-once : goal.returns-in_err-put_said-clause-once
returns-in_err-put_said-clause-once g c = unflushed _ _ c.from_residual.ensures.0

pub returns-clause-line : goal.returns-clause-line
returns-clause-line g c =
    subst
    (WritesCounted g.W.Write.contents g.C.CallCount.count c.args.writer.now c.flush.new.writer c.flush.result c.args.writes.now c.put_said.new.writes)
    (c.fault_said.ensures c.args.program.now) (flushed _ _ _ _ _ c.in_ok-put_said.ensures.0 c.flush.ensures.kept, c.put_said.ensures.1)

pub returns-clause-once : goal.returns-clause-once
returns-clause-once g c = flushed_once _ _ _ c.flush.ensures.once
