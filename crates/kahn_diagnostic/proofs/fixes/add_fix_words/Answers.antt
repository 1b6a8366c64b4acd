use Rattle.kahn_diagnostic.proofs.Common.{string_bytes}
use Rattle.std.proofs.lemmas.Result.{IfOk-weaker}
use Rattle.kahn_diagnostic.proofs.Pieces.{three_pieces}
use Rattle.kahn_diagnostic.proofs.fixes.add_fix_words.Goals as goal

pub returns : goal.returns
returns c =
    IfOk-weaker c.add_place.result _ _
    (λ x more. three_pieces (string_bytes c.args.words.now) (string_bytes c.push_str.new.self) (string_bytes c.add_change.new.words) (string_bytes c.add_place.new.words) _ _ _
    c.in_ok-push_str.ensures.bytes (rw c.text.ensures at c.in_ok-add_change.ensures) more) c.add_place.ensures
