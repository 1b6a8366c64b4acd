use Rattle.kahn_explain.proofs.Common.{false, string_bytes, [], ◌++◌, Stopped}
use Rattle.kahn_explain.proofs.Sheets.{broken_rows, put_text, rows_told, unfound}
use Rattle.kahn_explain.specs.declared.running.Sheet.TheVariants.{Needs}
use Rattle.kahn_explain.proofs.replies.needs_out.Goals as goal

pub returns-in-Err : goal.returns-in-Err
returns-in-Err g c config = unfound c.args.of config c.args.it.now _ _ c.in-Err.fault c.requires.admitted c.in-Err.ensures.read

pub new-requires-clause-line : goal.new-requires-clause-line
new-requires-clause-line g c = c.requires.asked.1

pub new-requires-clause-written : goal.new-requires-clause-written
new-requires-clause-written g c = c.requires.asked.0.1

pub put_needs-requires : goal.put_needs-requires
put_needs-requires g c = c.in-Ok-new.ensures.seeking.3

pub returns-in-Ok-put_needs : goal.returns-in-Ok-put_needs
returns-in-Ok-put_needs g c config =
    let it = c.args.it.now in
    let gone = c.in-Ok-put_needs.ensures.put in
    put_text c.args.of (Needs false) config (Stopped _) gone.0 (string_bytes it.notes ++ []) _ _ _ _ _
    (rows_told c.args.of config it c.in-Ok.input c.args.line gone.0 c.in-Ok-put_needs.found _ c.in-Ok-new.seeker c.requires.admitted c.requires.asked c.in-Ok.ensures.read c.in-Ok-new.ensures.seeking c.in-Ok-put_needs.ensures.rows c.found_end.ensures)
    gone.1 (rw c.as_str-in-Ok-put_needs.ensures.value at c.write_both.ensures)

pub returns : goal.returns
returns g c config =
    rw c.rows_fault.ensures (broken_rows c.args.of config c.args.it.now c.in-Ok.input c.args.line _ _ _ c.in-Err-put_needs.fault c.requires.admitted c.requires.asked c.in-Ok.ensures.read
    c.in-Err-put_needs.ensures.put)
