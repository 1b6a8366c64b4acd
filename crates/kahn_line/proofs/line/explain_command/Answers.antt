use Rattle.kahn_line.proofs.Common.{ap₂, ◌∙◌, IfOk-weaker, with_rule}
use Rattle.kahn_line.proofs.line.explain_command.Goals as goal

pub returns : goal.returns
returns c =
    let one = c.in_ok-arg.ensures.shape c.program_arg.ensures.local ∙ ap₂ with_rule c.in_ok-bare.ensures c.program_arg.ensures.rule in
    let two = c.in_ok-arg-2.ensures.shape c.text_arg.ensures.local ∙ ap₂ with_rule one c.text_arg.ensures.rule in
    let three = c.in_ok-arg-3.ensures.shape c.number_arg.ensures.local ∙ ap₂ with_rule two c.number_arg.ensures.rule in
    let four = c.in_ok-arg-4.ensures.shape c.number_arg-2.ensures.local ∙ ap₂ with_rule three c.number_arg-2.ensures.rule in
    let five = c.in_ok-arg-5.ensures.shape c.number_arg-3.ensures.local ∙ ap₂ with_rule four c.number_arg-3.ensures.rule in
    let six = c.in_ok-arg-6.ensures.shape c.flag_arg.ensures.local ∙ ap₂ with_rule five c.flag_arg.ensures.rule in
    let seven = c.in_ok-arg-7.ensures.shape c.flag_arg-2.ensures.local ∙ ap₂ with_rule six c.flag_arg-2.ensures.rule in
    let eight = c.in_ok-arg-8.ensures.shape c.flag_arg-3.ensures.local ∙ ap₂ with_rule seven c.flag_arg-3.ensures.rule in
    let nine = c.in_ok-arg-9.ensures.shape c.flag_arg-4.ensures.local ∙ ap₂ with_rule eight c.flag_arg-4.ensures.rule in
    let ten = c.in_ok-arg-10.ensures.shape c.flag_arg-5.ensures.local ∙ ap₂ with_rule nine c.flag_arg-5.ensures.rule in
    let eleven = c.in_ok-arg-11.ensures.shape c.text_arg-2.ensures.local ∙ ap₂ with_rule ten c.text_arg-2.ensures.rule in
    let twelve = c.in_ok-arg-12.ensures.shape c.text_arg-3.ensures.local ∙ ap₂ with_rule eleven c.text_arg-3.ensures.rule in
    IfOk-weaker c.arg-13.result _ _ (λ r h. h.shape c.flag_arg-6.ensures.local ∙ ap₂ with_rule twelve c.flag_arg-6.ensures.rule) c.arg-13.ensures
