use Rattle.std.proofs.Common.{Err, None, refl}
use Rattle.kahn_fault.specs.declared.fault.Fault.TheVariants.{InputText, Program}
use Rattle.kahn_texts.specs.declared.read.ReadFault.TheVariants.{Failed, NotUtf8}
use Rattle.kahn_web.proofs.Common.{IsSaidAlone}
use Rattle.kahn_web.proofs.Reasons.{of_bytes}
use Rattle.kahn_web.proofs.whole.run_texts.Goals as goal

pub returns-in_default : goal.returns-in_default
returns-in_default g c =
    (Err (Program None NotUtf8), g.W.Write.contents c.args.writer.now, c.tell.result.line, (c.in_default.ensures.cases.0, refl), c.tell.ensures.status, c.tell.ensures.line)

pub returns-in_default-from_utf8 : goal.returns-in_default-from_utf8
returns-in_default-from_utf8 g c =
    let tell = c.tell-in_default-from_utf8 in
    of_bytes (λ p i. IsSaidAlone p i c.args.bound (g.W.Write.contents c.args.writer.now) (g.W.Write.contents tell.new.writer) tell.result.status)
    c.in-Ok.text.now c.args.input.now _ _ c.in-Ok.ensures.cases.0 refl
    (Err (InputText c.new.result NotUtf8), g.W.Write.contents c.args.writer.now, tell.result.line, (c.in_default-from_utf8.ensures.cases.0, refl), tell.ensures.status, tell.ensures.line)

pub returns-in_default-new : goal.returns-in_default-new
returns-in_default-new g c =
    let tell = c.tell-in_default-new in
    of_bytes (λ p i. IsSaidAlone p i c.args.bound (g.W.Write.contents c.args.writer.now) (g.W.Write.contents tell.new.writer) tell.result.status)
    c.in-Ok.text.now c.in-Ok-from_utf8.input.now _ _ c.in-Ok.ensures.cases.0 c.in-Ok-from_utf8.ensures.cases.0
    (Err (Program None Failed), g.W.Write.contents c.args.writer.now, tell.result.line, (tt {0}, refl), tell.ensures.status, tell.ensures.line)

pub returns : goal.returns
returns g c =
    let tell = c.tell-2 in
    of_bytes (λ p i. IsSaidAlone p i c.args.bound (g.W.Write.contents c.args.writer.now) (g.W.Write.contents tell.new.writer) tell.result.status)
    c.in-Ok.text.now c.in-Ok-from_utf8.input.now _ _ c.in-Ok.ensures.cases.0 c.in-Ok-from_utf8.ensures.cases.0
    (c.work_alone-answer.result, g.W.Write.contents c.work_alone-answer.new.writer, tell.result.line, c.work_alone-answer.ensures, tell.ensures.status, tell.ensures.line)
