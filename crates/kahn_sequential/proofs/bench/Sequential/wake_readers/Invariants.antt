use Rattle.kahn_sequential.specs.inner.Noted.{HasWoken, IsReadyByFirst}
use Rattle.kahn_sequential.proofs.bench.Sequential.wake_readers.Given as goal

abbrev pub invariant-loop-parameter : goal.invariant-loop-parameter
invariant-loop-parameter l = HasWoken (IsReadyByFirst l.self l.instance l.parameter) l.fn.woken l.woken
