use Rattle.kahn_chain.proofs.Common.{refl, ◌∙◌, ap, sym, arith, Some, slice_get-get_or, slice_get-map, option_map, standing_of, stands, stays}
use Rattle.kahn_chain.proofs.{Leading.no_wait, Walking.stands_there}
use Rattle.kahn_chain.proofs.walk.next.Goals as goal

pub writer-requires : goal.writer-requires
writer-requires c =
    c.requires.known.channels c.args.instance c.in-Waits.channel (stands_there c.args.ends.now c.args.instance _ _ c.requires.here c.standing_of.ensures ∙ ap Some c.in-Waits.is)

pub returns-in-Some : goal.returns-in-Some
returns-in-Some c =
    let inside = c.in-Some.ensures.only.0.0.0 in
    let each = c.requires.known.each in (
      omega (arith, inside, each),
      (c.in-Waits.channel, (stands_there c.args.ends.now c.args.instance _ _ c.requires.here c.standing_of.ensures ∙ ap Some c.in-Waits.is, c.in-Some.ensures.source)),
    )

pub returns-in-None : goal.returns-in-None
returns-in-None c =
    (refl, (stays, stands_there c.args.ends.now c.args.instance _ _ c.requires.here c.standing_of.ensures ∙ ap Some c.in-Waits.is, c.in-None.ensures.source))

pub returns-in_default : goal.returns-in_default
returns-in_default c = (refl, (stays, stands_there c.args.ends.now c.args.instance _ _ c.requires.here c.standing_of.ensures, no_wait _ c.in_default.not-Waits))
