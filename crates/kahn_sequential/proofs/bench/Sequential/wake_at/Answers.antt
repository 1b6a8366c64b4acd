use Rattle.kahn_sequential.proofs.Common.{◌≡◌, sight_of, IsReaderOf}
use Rattle.kahn_sequential.proofs.Noted.{nobody_woken, woken_as}
use Rattle.kahn_sequential.proofs.bench.Sequential.wake_at.Goals as goal

pub returns-in_default : goal.returns-in_default
returns-in_default c = nobody_woken (IsReaderOf (sight_of c.args.self.now).network c.args.channel) c.args.woken.now c.in_default.ensures

pub returns : goal.returns
returns c =
    woken_as (λ p. p ≡ c.in-Some.reader) (IsReaderOf (sight_of c.args.self.now).network c.args.channel) c.args.woken.now c.add.new.self c.add.ensures c.in-Some.ensures
