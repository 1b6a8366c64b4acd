use Rattle.std.proofs.Common.{rules}
use Rattle.std.specs.Prelude.{Err, Result}
use Rattle.kahn_fault.proofs.Common.{Option, ◌≡◌, ◌∙◌, ap, subst, sym}
use Rattle.kahn_streams.specs.{Written.Writes, declared.answer.Verdict.Verdict, declared.span.Span.Span}
use Rattle.kahn_fault.specs.{Telling.explain_line, Telling.pointer_text, declared.fault.Fault.Fault, declared.fault.Fault.TheVariants.Work}
use Rattle.kahn_fault.proofs.fault.tell_explain.Goals as goal

pub returns-in-Some : goal.returns-in-Some
returns-in-Some g c =
    let is : c.args.answer.now ≡ Err (Work c.in-Err-Work.fault) = search rules in
    subst (λ (a : Result Verdict Fault). Writes (g.W.Write.contents c.args.writer.now) (g.W.Write.contents c.write_line.new.writer) c.write_line.result (pointer_text c.args.path.now a)) (sym is)
    (subst (λ (o : Option Span). Writes (g.W.Write.contents c.args.writer.now) (g.W.Write.contents c.write_line.new.writer) c.write_line.result (explain_line o c.args.path.now))
    (sym c.in-Some.is ∙ c.fault_span.ensures) (rw c.as_bytes.ensures.value at c.write_line.ensures))
