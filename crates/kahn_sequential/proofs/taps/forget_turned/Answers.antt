use Rattle.std.proofs.Common.{rules, ◌≡◌, true}
use Rattle.kahn_sequential.proofs.Emptied.{fewer_left, none_changed, none_left, stays_on}
use Rattle.kahn_sequential.proofs.taps.forget_turned.Goals as goal

pub turned-init : goal.turned-init
turned-init c =
    let known : c.args.turned.now.known ≡ true = search rules in
    record { stays = none_changed c.args.taps.now.items; spent = c.requires known }

pub turned-preserved : goal.turned-preserved
turned-preserved c =
    let f = c.forget_at.ensures in record {
      stays = stays_on c.turned.invariant.stays f.stays;
      spent = fewer_left c.turned.turned c.take.new.self c.in-Some.instance c.turned.taps.items c.forget_at.new.taps.items c.turned.invariant.spent c.in-Some.ensures.taken f.here f.others;
    }

pub returns : goal.returns
returns c = none_left c.turned.turned c.take.new.self c.args.taps.now.items c.turned.taps.items c.turned.invariant.stays c.turned.invariant.spent c.in_default.ensures.taken
