use Rattle.kahn_explain.proofs.Common.{inl, inr, refl, false, string_bytes, answered, are_allowed, ◌++◌, Stopped}
use Rattle.kahn_explain.proofs.Kept_columns.{right_run}
use Rattle.kahn_explain.proofs.Sheets.{no_reply, put_text, traced}
use Rattle.kahn_explain.specs.Running.{beside}
use Rattle.kahn_explain.specs.declared.running.Sheet.TheVariants.{Table}
use Rattle.kahn_explain.proofs.replies.trace_out.Goals as goal

pub returns-in-Err : goal.returns-in-Err
returns-in-Err g c = no_reply c.args.of (Table false) c.args.config c.args.it.now _ _ _ c.in-Err.fault c.requires refl (inr c.in-Err.ensures)

pub new-requires : goal.new-requires
new-requires g c = let ran = c.in-Ok.ensures in (ran.0, c.args.config, ran.2)

pub told_of-requires : goal.told_of-requires
told_of-requires g c =
    let ran = c.in-Ok.ensures in
    answered c.args.of.program.now c.args.it.now.network c.args.config ran.0 c.in-Ok.kept.answer c.requires.checked
    (right_run c.args.it.now.network ran.0 c.args.config c.in-Ok.kept ran.2)

pub returns-in-Err-put : goal.returns-in-Err-put
returns-in-Err-put g c =
    let it = c.args.it.now in
    let gone = c.in-Err-put.ensures in (
      Stopped c.in-Ok-told_of.told,
      gone.0,
      string_bytes it.notes ++ beside c.in-Ok-told_of.told (string_bytes c.in-Ok-told_of.words),
      traced c.args.of c.args.config it c.in-Ok.kept c.in-Ok-told_of.told gone.0 (string_bytes c.in-Ok-told_of.words) c.requires c.in-Ok.ensures c.in-Ok-told_of.ensures,
      inl (gone.1, refl),
    )

pub returns : goal.returns
returns g c =
    let it = c.args.it.now in
    let gone = c.in_default-put.ensures in
    put_text c.args.of (Table false) c.args.config (Stopped c.in-Ok-told_of.told) gone.0 (string_bytes it.notes ++ beside c.in-Ok-told_of.told (string_bytes c.in-Ok-told_of.words)) _ _ _ _ _
    (traced c.args.of c.args.config it c.in-Ok.kept c.in-Ok-told_of.told gone.0 (string_bytes c.in-Ok-told_of.words) c.requires c.in-Ok.ensures c.in-Ok-told_of.ensures)
    gone.1 (rw (c.as_str.ensures.value, c.as_str-2.ensures.value, c.beside-words.ensures) at c.write_both.ensures)
