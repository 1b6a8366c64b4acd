use Rattle.kahn_explain.proofs.Common.{◌∙◌, ap₂, refl, string_bytes, put_line}
use Rattle.kahn_line.specs.Parts.{parted}
use Rattle.kahn_explain.proofs.running.told_of.Goals as goal

pub returns : goal.returns
returns c = (
  c.in_ok-explanation.explanation,
  string_bytes c.in_ok-line.line,
  c.in_ok-explanation.ensures,
  refl,
  c.in_ok-text.ensures ∙ ap₂ (λ line text. put_line line (parted 10 text)) c.as_str-2.ensures.value c.as_str.ensures.value,
)
