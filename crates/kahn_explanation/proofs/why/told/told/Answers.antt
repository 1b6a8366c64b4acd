use Rattle.kahn_explanation.proofs.Common.{◌∙◌, ◌++◌, ap, string_bytes, came_to, finding_lead}
use Rattle.kahn_explanation.proofs.why.told.told.Goals as goal

pub returns : goal.returns
returns c =
    let told = c.came_to-told.result in
    let behind = string_bytes c.add_causes.new.text in record {
      reasons = c.in_ok-reasons.ensures;
      told = c.came_to-told.ensures ∙ ap (came_to c.args.verdict) c.deref.ensures.value;
      begins = (
        c.count_of.result,
        behind,
        c.in_ok-push_str-2.ensures.bytes
            ∙ (λ i. c.in_ok-add_lead.ensures i ++ c.as_str.ensures.value i)
            ∙ ap (λ l. (l ++ finding_lead told c.count_of.result) ++ behind) c.new-text.ensures.bytes,
      );
    }
