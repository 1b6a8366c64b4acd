use Rattle.kahn_sequential.proofs.Common.{arith, ◌-◌, refl, Answer}
use Rattle.kahn_sequential.proofs.{Lacking.cut_short, Righted.answer_right}
use Rattle.kahn_sequential.proofs.one.answered.Goals as goal

pub returns : goal.returns
returns c =
    let (halted, ended, lacks) = c.requires.ended in
    let part = c.args.part in
    let a : Answer = record { verdict = part.verdict; streams = c.into_streams.result; ends = part.ends; events = c.args.bound - part.left } in
    (answer_right a ended c.into_streams.ensures refl, cut_short _ c.args.bound part.left halted a ended.last lacks ended.rule (omega (arith, ended.last.total)))
