use Rattle.kahn_explain.proofs.Sheets.{asked_table, asked_text, unasked}
use Rattle.kahn_explain.proofs.replies.wanted.Goals as goal

pub returns-in-Err : goal.returns-in-Err
returns-in-Err c = unasked c.args.of c.args.wakes c.args.config c.args.it.now c.in-Err.fault c.unasked.result c.requires.checked c.in-Err.ensures.sought c.unasked.ensures

pub returns-then-wakes : goal.returns-then-wakes
returns-then-wakes c =
    asked_text c.args.of c.args.wakes c.args.config c.args.it.now c.in-Ok.question c.worded-reply.result c.in_ok-first.first.1 c.requires c.in-Ok.ensures.sought c.worded-reply.ensures
    (rw c.if-wakes.true c.in_ok-first.ensures)

pub returns-in-None : goal.returns-in-None
returns-in-None c =
    asked_table c.args.of c.args.wakes c.args.config c.args.it.now c.in-Ok.question c.if-wakes.false c.in-Ok.ensures.sought c.in-Ok.ensures.listed c.in-None.is

pub returns-in_ok-found-in-Some : goal.returns-in_ok-found-in-Some
returns-in_ok-found-in-Some c =
    asked_text c.args.of c.args.wakes c.args.config c.args.it.now c.in-Ok.question c.worded-text.result c.in_ok-found-in-Some.found.1 c.requires c.in-Ok.ensures.sought c.worded-text.ensures
    (rw (c.if-wakes.false, c.in-Some.is) c.in_ok-found-in-Some.ensures)
