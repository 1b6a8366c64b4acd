use Rattle.kahn_explain.proofs.Common.{[], inr, string_bytes, broke_off, went_out, answered}
use Rattle.kahn_explain.proofs.Parts.{counted_right, explained_out, notes_before, refused, unexplained, unfed, unrun}
use Rattle.kahn_explain.proofs.running.explain.Goals as goal

pub returns-in-Err : goal.returns-in-Err
returns-in-Err g c = refused c.args.of _ _ _ _ _ _ c.in-Err.ensures

pub returns-in-Err-read_input : goal.returns-in-Err-read_input
returns-in-Err-read_input g c = (unfed c.args.of c.in-Ok.it c.in-Ok.ensures.0 c.in-Err-read_input.fault c.in-Err-read_input.ensures.read, c.in-Ok.ensures.1)

pub returns-in-Err-write_line : goal.returns-in-Err-write_line
returns-in-Err-write_line g c = (
  string_bytes c.in-Ok.it.notes,
  inr (notes_before c.args.of c.in-Ok.it c.in-Ok.ensures.0 c.in-Ok-read_input.lists c.in-Ok-read_input.ensures.read),
  broke_off _ _ [] (string_bytes c.in-Ok.it.notes) (rw (c.as_bytes.ensures.value, c.in-Ok.ensures.1) at c.in-Err-write_line.ensures),
)

pub returns-in-Err-run_counted : goal.returns-in-Err-run_counted
returns-in-Err-run_counted g c =
    inr (
      string_bytes c.in-Ok.it.notes,
      unrun c.args.of c.in-Ok.it c.in-Ok.ensures.0 c.in-Ok-read_input.lists c.in-Ok-read_input.ensures.read c.args.config c.in-Err-run_counted.fault c.in-Err-run_counted.ensures.told,
      went_out _ _ [] (string_bytes c.in-Ok.it.notes) (rw (c.as_bytes.ensures.value, c.in-Ok.ensures.1) at c.in_default.ensures),
    )

pub told_of-requires : goal.told_of-requires
told_of-requires g c = answered c.args.of.program.now c.in-Ok.it.network c.args.config c.in-Ok-read_input.lists c.in-Ok-run_counted.run'.answer c.in-Ok.ensures.0.checked
    (counted_right c.in-Ok.it.network c.in-Ok-read_input.lists c.args.config c.in-Ok-run_counted.run' c.in-Ok-run_counted.ensures.told)

pub returns-in_default-told_of : goal.returns-in_default-told_of
returns-in_default-told_of g c =
    inr (
      string_bytes c.in-Ok.it.notes,
      unexplained c.args.of c.in-Ok.it c.in-Ok.ensures.0 c.in-Ok-read_input.lists c.in-Ok-read_input.ensures.read c.args.config c.in-Ok-run_counted.run' c.in-Ok-run_counted.ensures.told,
      went_out _ _ [] (string_bytes c.in-Ok.it.notes) (rw (c.as_bytes.ensures.value, c.in-Ok.ensures.1) at c.in_default.ensures),
    )

pub returns : goal.returns
returns g c =
    explained_out c.args.of c.in-Ok.it c.in-Ok.ensures.0 c.in-Ok-read_input.lists c.in-Ok-read_input.ensures.read c.args.config c.in-Ok-run_counted.run' c.in-Ok-told_of.told
    (string_bytes c.in-Ok-told_of.text) _ _ _ _ (went_out _ _ [] (string_bytes c.in-Ok.it.notes) (rw (c.as_bytes.ensures.value, c.in-Ok.ensures.1) at c.in_default.ensures))
    c.in-Ok-run_counted.ensures.told c.in-Ok-told_of.ensures (rw c.as_str.ensures.value at c.write_both.ensures)
