use Rattle.kahn_diagnostic.proofs.Common.{string_bytes}
use Rattle.std.proofs.lemmas.Result.{IfOk-weaker}
use Rattle.kahn_diagnostic.proofs.Pieces.{headed}
use Rattle.kahn_diagnostic.proofs.rendering.add_head.Goals as goal

pub returns : goal.returns
returns c =
    IfOk-weaker c.add_fix.result _ _
    (λ x more. headed c.args.path.now c.args.text.now c.args.note.now (string_bytes c.args.lines.now) (string_bytes c.add_marked.new.note) (string_bytes c.add_fix.new.lines)
    c.sort_words-sort.result.now c.as_str-words.result.now c.sort_words-sort.ensures c.as_str-words.ensures.value c.in_ok-add_marked.ensures more) c.add_fix.ensures
