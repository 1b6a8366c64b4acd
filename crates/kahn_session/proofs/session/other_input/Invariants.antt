-- None of the channels so far is one.
use Rattle.kahn_session.proofs.Common.{◌<◌, ℕ, option_copied, IsNoOther}
use Rattle.kahn_session.proofs.session.other_input.Given as goal

abbrev pub invariant-loop-number : goal.invariant-loop-number
invariant-loop-number l = (d : ℕ) → d < l.number → IsNoOther l.network (option_copied l.but) d
