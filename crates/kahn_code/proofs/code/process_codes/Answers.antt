use Rattle.std.proofs.Common.{arith}
use Rattle.kahn_code.proofs.{Bodies.Declares, Bodies.declares_one, Lists.one_first}
use Rattle.kahn_code.proofs.code.process_codes.Goals as goal

pub loop-declaration-preserved : goal.loop-declaration-preserved
loop-declaration-preserved g c =
    one_first (Declares c.args.declarations.now) c.loop-declaration.process_codes.items c.push.new.self.items c.in_ok-process_code_of.field-0 c.loop-declaration.declaration-index c.loop-declaration.invariant c.in_ok-push.ensures.items (declares_one c.args.declarations.now c.loop-declaration.declaration-index c.in_ok-process_code_of.field-0 c.declaration-item.result (omega (arith, c.loop-declaration-test.true, c.loop-declaration.auto.declaration-index-end)) c.declaration-item.is c.in_ok-process_code_of.ensures)
