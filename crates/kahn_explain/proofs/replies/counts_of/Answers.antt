use Rattle.kahn_explain.proofs.Common.{refl, string_bytes, answered, are_allowed}
use Rattle.kahn_explain.proofs.Parts.{counted_right}
use Rattle.kahn_explain.proofs.replies.counts_of.Goals as goal

pub told_of-requires : goal.told_of-requires
told_of-requires c =
    let ran = c.in_ok-run.ensures in
    answered c.args.of.program.now c.args.it.now.network c.args.config ran.0 c.in_ok-run.run'.answer c.requires.checked
    (counted_right c.args.it.now.network ran.0 c.args.config c.in_ok-run.run' ran.2)

pub returns : goal.returns
returns c =
    let it = c.args.it.now in (
      string_bytes it.notes,
      string_bytes c.beside.result,
      are_allowed c.args.of.path.now c.args.of.program.now c.args.of.strict it c.requires,
      (it.network, c.in_ok-run.run', string_bytes c.in-Ok-told_of.words, c.requires.checked, c.in_ok-run.ensures, c.in-Ok-told_of.ensures, c.beside.ensures),
      refl,
    )
