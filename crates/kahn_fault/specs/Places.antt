-- Believed. Where a program text is at fault.
use Rattle.std.specs.Prelude.{ℕ, ◌≤◌, List, length, Option, None}
use Rattle.kahn_streams.specs.declared.span.Span.{Span}
use Rattle.kahn_fault.specs.{declared.work.WorkFault.WorkFault, Message.check_span, Message.syntax_span}
use Rattle.kahn_fault.specs.declared.work.WorkFault.TheVariants as work

-- the span of a fault of the program text, if it has one
abbrev pub fault_span : WorkFault → Option Span
fault_span (work.Syntax fault) = syntax_span fault
fault_span (work.Check fault) = check_span fault
fault_span (work.Text fault) = None
fault_span (work.Run fault) = None
fault_span (work.Write fault) = None

-- the span is within the text
abbrev pub LiesIn : List ℕ → Span → Type 0
LiesIn text at = (at.from ≤ length text) × (at.to ≤ length text)
