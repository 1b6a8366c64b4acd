use Rattle.std.proofs.Common.{Some, Ok, codes, subst}
use Rattle.kahn_explanation.specs.Telling.{HasToldInput}
use Rattle.kahn_web.proofs.whole.refused.Goals as goal

pub returns-in-Ok : goal.returns-in-Ok
returns-in-Ok c =
    let told = HasToldInput (codes "input") c.args.program.now c.args.input.now c.args.fault in (
      c.args.it.now.network,
      c.args.fault,
      c.in-Ok.field-0,
      c.requires.admitted.checked,
      c.requires.fault,
      subst (λ none. told (Some none) (Some c.refuse_input.new.writer.items) (Ok c.in-Ok.field-0)) c.new-written.ensures.items c.in-Ok.ensures,
    )
