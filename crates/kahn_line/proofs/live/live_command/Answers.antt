use Rattle.kahn_line.proofs.Common.{ap, ap₂, ◌∙◌, ◌≡◌, true, false, Some, codes, IfOk-weaker, new_rule, with_rule, Arg}
use Rattle.clap.specs.{Words.Rule, Words.rule_of, declared.builder.ArgAction.TheVariants.Append}
use Rattle.kahn_line.specs.Live.{at_end_rule}
use Rattle.kahn_line.proofs.live.live_command.Goals as goal

pub returns : goal.returns
returns c =
    let local : c.help.result.global ≡ false =
    ap (λ (a : Arg). a.global) c.help.ensures ∙ ap (λ (a : Arg). a.global) c.required.ensures ∙ c.new.ensures.optional.1 in
    let rule : rule_of c.help.result ≡ record (new_rule (codes "PROGRAM")) { required = true } =
    ap rule_of c.help.ensures ∙ ap rule_of c.required.ensures ∙ ap (λ (r : Rule). record r { required = true }) c.new.ensures.rule in
    let end_local : c.action.result.global ≡ false = ap (λ (a : Arg). a.global) c.action.ensures ∙ c.text_arg-2.ensures.local in
    let end_rule : rule_of c.action.result ≡ at_end_rule = ap rule_of c.action.ensures ∙ ap (λ (r : Rule). record r { action = Some Append }) c.text_arg-2.ensures.rule in
    let one = c.in_ok-arg.ensures.shape local ∙ ap₂ with_rule c.in_ok-bare.ensures rule in
    let two = c.in_ok-arg-2.ensures.shape c.number_arg.ensures.local ∙ ap₂ with_rule one c.number_arg.ensures.rule in
    let three = c.in_ok-arg-3.ensures.shape c.number_arg-2.ensures.local ∙ ap₂ with_rule two c.number_arg-2.ensures.rule in
    let four = c.in_ok-arg-4.ensures.shape c.text_arg.ensures.local ∙ ap₂ with_rule three c.text_arg.ensures.rule in
    let five = c.in_ok-arg-5.ensures.shape c.flag_arg.ensures.local ∙ ap₂ with_rule four c.flag_arg.ensures.rule in
    let six = c.in_ok-arg-6.ensures.shape c.flag_arg-2.ensures.local ∙ ap₂ with_rule five c.flag_arg-2.ensures.rule in
    let seven = c.in_ok-arg-7.ensures.shape end_local ∙ ap₂ with_rule six end_rule in
    let eight = c.in_ok-arg-8.ensures.shape c.text_arg-3.ensures.local ∙ ap₂ with_rule seven c.text_arg-3.ensures.rule in
    let nine = c.in_ok-arg-9.ensures.shape c.text_arg-4.ensures.local ∙ ap₂ with_rule eight c.text_arg-4.ensures.rule in
    IfOk-weaker c.arg-10.result _ _ (λ r h. h.shape c.text_arg-5.ensures.local ∙ ap₂ with_rule nine c.text_arg-5.ensures.rule) c.arg-10.ensures
