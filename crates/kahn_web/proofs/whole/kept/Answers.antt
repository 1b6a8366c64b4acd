use Rattle.kahn_web.proofs.Common.{right_lines, IsWholeText}
use Rattle.kahn_web.proofs.Reasons.{of_bytes}
use Rattle.kahn_web.proofs.whole.kept.Goals as goal

pub written-requires : goal.written-requires
written-requires c =
    let h = c.in-Ok-run_recorded.ensures.told in
    right_lines c.in-Ok-checked.network h.1.0 c.in-Ok-run_recorded.run'.answer h.1.2.0.named

pub returns-in-Ok-written : goal.returns-in-Ok-written
returns-in-Ok-written c =
    of_bytes (λ p i. IsWholeText p i c.args.quantum c.args.bound c.in-Ok-written.text.items) c.in-Ok.program.now c.in-Ok-from_utf8.input.now _ _
    c.in-Ok.ensures.cases.0 c.in-Ok-from_utf8.ensures.cases.0
    (c.in-Ok-checked.network, c.in-Ok-read_input.input, c.in-Ok-run_recorded.run', c.in-Ok-checked.ensures, c.in-Ok-read_input.ensures.read, c.in-Ok-run_recorded.ensures.told, c.in-Ok-written.ensures)
