use Rattle.kahn_explain.proofs.Parts.{looked_out, refused, unfed}
use Rattle.kahn_explain.proofs.running.look.Goals as goal

pub returns-in-Err : goal.returns-in-Err
returns-in-Err g c = refused c.args.of _ _ _ _ _ _ c.in-Err.ensures

pub returns-in-Err-read_input : goal.returns-in-Err-read_input
returns-in-Err-read_input g c = (unfed c.args.of c.in-Ok.it c.in-Ok.ensures.0 c.in-Err-read_input.fault c.in-Err-read_input.ensures.read, c.in-Ok.ensures.1)

pub returns : goal.returns
returns g c =
    looked_out c.args.of c.in-Ok.it c.in-Ok.ensures.0 c.in-Ok-read_input.lists c.in-Ok-read_input.ensures.read _ _ _ (rw (c.as_str.ensures.value, c.in-Ok.ensures.1) at c.write_both.ensures)
