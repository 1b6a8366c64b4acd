use Rattle.std.proofs.Common.{inr, refl, string_bytes}
use Rattle.kahn_explanation.proofs.Parts.{refusal_out}
use Rattle.kahn_explanation.proofs.explaining.admit.Goals as goal

pub returns-in-Err : goal.returns-in-Err
returns-in-Err g c = c.refuse.ensures c.args.strict

pub returns-in_default : goal.returns-in_default
returns-in_default g c = (refl, refl)

pub returns-then-is_strict_about : goal.returns-then-is_strict_about
returns-then-is_strict_about g c =
    let notes = string_bytes c.in-Ok-warned_lines.notes in
    let are = rw c.program.ensures.same at c.in-Ok-warned_lines.ensures in
    let some = rw c.as_str.ensures.value at c.if-is_strict_about.ensures in
    refusal_out c.args.path.now c.args.program.now c.args.strict notes _ _ _ (inr (some.0, (c.in-Ok.network, c.in-Ok.ensures, are), some.1))
    (rw c.as_str-then-is_strict_about.ensures.value at c.write_both.ensures)

pub returns : goal.returns
returns g c = (
  record {
    checked = c.in-Ok.ensures;
    notes = rw c.program.ensures.same at c.in-Ok-warned_lines.ensures;
    none = rw c.as_str.ensures.value at c.if-is_strict_about.ensures;
  },
  refl,
)
