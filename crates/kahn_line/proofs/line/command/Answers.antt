use Rattle.kahn_line.proofs.Common.{ap₂, ◌∙◌, IfOk-weaker, with_rule}
use Rattle.kahn_line.proofs.line.command.Goals as goal

pub returns : goal.returns
returns c =
    let one = c.in_ok-arg.ensures.shape c.program_arg.ensures.local ∙ ap₂ with_rule c.in_ok-bare.ensures c.program_arg.ensures.rule in
    let two = c.in_ok-arg-2.ensures.shape c.text_arg.ensures.local ∙ ap₂ with_rule one c.text_arg.ensures.rule in
    let three = c.in_ok-arg-3.ensures.shape c.number_arg.ensures.local ∙ ap₂ with_rule two c.number_arg.ensures.rule in
    let four = c.in_ok-arg-4.ensures.shape c.number_arg-2.ensures.local ∙ ap₂ with_rule three c.number_arg-2.ensures.rule in
    let five = c.in_ok-arg-5.ensures.shape c.number_arg-3.ensures.local ∙ ap₂ with_rule four c.number_arg-3.ensures.rule in
    IfOk-weaker c.arg-6.result _ _ (λ r h. h.shape c.text_arg-2.ensures.local ∙ ap₂ with_rule five c.text_arg-2.ensures.rule) c.arg-6.ensures
