use Rattle.kahn_diagnostic.proofs.Common.{string_bytes}
use Rattle.std.proofs.lemmas.Result.{IfOk-weaker}
use Rattle.kahn_diagnostic.proofs.Written.{marked_more}
use Rattle.kahn_diagnostic.proofs.rendering.add_marked.Goals as goal

pub returns : goal.returns
returns c =
    IfOk-weaker c.add_rows.result _ _
    (λ x more. marked_more (string_bytes c.args.note.now) (string_bytes c.add_heading.new.note) (string_bytes c.add_rows.new.note) c.args.sort.now c.args.path.now c.args.words.now
    c.args.text.now c.text-source.result.now c.format-number.result.now c.args.span c.near.result c.place-line.result.0 c.min-from.result
    c.text-source.ensures c.format-number.ensures.text c.place-line.ensures.line c.min-from.ensures c.near.ensures c.in_ok-add_heading.ensures more) c.add_rows.ensures
