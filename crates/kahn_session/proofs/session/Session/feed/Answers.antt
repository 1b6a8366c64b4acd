use Rattle.kahn_session.proofs.Common.{◌≡◌, ◌∙◌, MatchResult, subst, HasFedLine, IsUnfedBy, Live}
use Rattle.kahn_session.proofs.Taking.{fed_as, live, network_stays}
use Rattle.kahn_session.proofs.session.Session.feed.Goals as goal

pub invariant_of-self : goal.invariant_of-self
invariant_of-self c = (network_stays c.args.line.now c.self.inside.paced c.feed_line.new.paced c.feed_line.result c.feed_line.ensures.fed ∙ c.self.invariant.0, c.self.invariant.1)

pub returns : goal.returns
returns c =
    let i = c.self.inside in
    let p = c.feed_line.new.paced in
    let columns = i.columns.items in
    let new = live p i.broken columns i.shown in
    let line = c.args.line.now in
    subst (λ (s : Live). MatchResult c.feed_line.result (λ _. HasFedLine line s new) (λ f. (new ≡ s) × IsUnfedBy line s.flow f)) c.self.view_is
    (fed_as line i.paced p i.broken columns i.shown c.feed_line.result c.feed_line.ensures.fed c.feed_line.ensures.rest)
