use Rattle.kahn_live.proofs.Common.{◌≡◌, ◌-◌, ◌==◌, false, refl, rules, sym}
use Rattle.kahn_live.proofs.Meeting.{like_some}
use Rattle.kahn_live.proofs.telling.Teller.tell_more.Goals as goal

pub returns-then-more-eq0 : goal.returns-then-more-eq0
returns-then-more-eq0 g c =
    let old = c.args.self.now in
    let none : old.number - old.first ≡ 0 = search rules in
    rw none refl

pub returns : goal.returns
returns g c =
    let old = c.args.self.now in
    let count : c.saturating_sub-more.result ≡ old.number - old.first = search rules in
    let some : (c.saturating_sub-more.result == 0) ≡ false = search rules in
    rw (sym count) (like_some c.saturating_sub-more.result _ _ some (rw (c.format-digits.ensures.text, c.like_words-like.ensures) at c.say.ensures))
