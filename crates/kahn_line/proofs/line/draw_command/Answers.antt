use Rattle.kahn_line.proofs.Common.{ap₂, ◌∙◌, IfOk-weaker, with_rule}
use Rattle.kahn_line.proofs.line.draw_command.Goals as goal

pub returns : goal.returns
returns c =
    let one = c.in_ok-arg.ensures.shape c.program_arg.ensures.local ∙ ap₂ with_rule c.in_ok-bare.ensures c.program_arg.ensures.rule in
    let two = c.in_ok-arg-2.ensures.shape c.text_arg.ensures.local ∙ ap₂ with_rule one c.text_arg.ensures.rule in
    IfOk-weaker c.arg-3.result _ _ (λ r h. h.shape c.number_arg.ensures.local ∙ ap₂ with_rule two c.number_arg.ensures.rule) c.arg-3.ensures
