use Rattle.std.proofs.Common.{rules}
use Rattle.kahn_sequential.proofs.Emptied.{one_spent, one_stays, others_stay}
use Rattle.kahn_sequential.proofs.taps.forget_at.Goals as goal

pub returns : goal.returns
returns c = record {
  stays = one_stays c.args.taps.now.items c.args.instance _ c.forget.new.self (search rules) c.index_mut.ensures.value c.forget.ensures;
  here = one_spent c.args.taps.now.items c.args.instance _ c.forget.new.self (search rules) c.index_mut.ensures.value c.forget.ensures;
  others = others_stay c.args.taps.now.items c.args.instance c.forget.new.self;
}
