use Rattle.kahn_session.proofs.Common.{◌∙◌, arith, ap, sym, option_copied, is_other_input}
use Rattle.kahn_session.proofs.Named.{no_other_further}
use Rattle.kahn_session.proofs.session.other_input.Goals as goal

pub returns-then-is_other_input : goal.returns-then-is_other_input
returns-then-is_other_input c =
    let but = option_copied c.args.but in (
      c.loop-number.number,
      c.channel-channel.ensures.name,
      sym (ap (λ r. is_other_input but r c.channel-channel.result.name.now) c.channel-channel.ensures.role) ∙ sym c.is_other_input.ensures ∙ c.if-is_other_input.true,
      c.loop-number.invariant,
    )

pub loop-number-preserved : goal.loop-number-preserved
loop-number-preserved c =
    let but = option_copied c.args.but in
    let channel = c.channel-channel.result.name.now in
    no_other_further c.args.network.now but c.loop-number.number channel c.loop-number.invariant c.channel-channel.ensures.name
    (sym (ap (λ r. is_other_input but r channel) c.channel-channel.ensures.role) ∙ sym c.is_other_input.ensures ∙ c.if-is_other_input.false)

pub returns : goal.returns
returns c = λ d below. c.loop-number.invariant d (omega (arith, below, c.loop-number-test.false))
