use Rattle.kahn_live.proofs.Common.{subst, LiveTelling, Output, telling_of, output_of, HasRunText}
use Rattle.kahn_live.specs.Running.{unwritten}
use Rattle.kahn_live.proofs.running.ran.Goals as goal

pub returns : goal.returns
returns g c =
    let text = g.I.Read.remaining c.args.input in
    let made = output_of g.W.Write.contents c.run-ending.result.1 in
    let first = telling_of g.E.Write.contents c.new-teller.result in
    let last = telling_of g.E.Write.contents c.run-ending.result.2 in
    let r = c.run-ending.result.0 in
    let begun = subst (λ (o : Output). HasRunText c.args.program.now c.args.options text o made first last r) c.new-outlet.ensures c.run-ending.ensures in
    let run = subst (λ (p : LiveTelling). HasRunText c.args.program.now c.args.options text (unwritten (g.W.Write.contents c.args.out)) made p last r) c.new-teller.ensures begun in
    (r, last, run, c.told-status.ensures.told, c.told-status.ensures.status)
