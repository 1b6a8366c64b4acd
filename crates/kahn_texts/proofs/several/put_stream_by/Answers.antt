use Rattle.kahn_texts.proofs.Common.{◌≡◌, ◌++◌, ◌∙◌, sym, ap, subst, append_assoc, flat_map, line_feed, line_head, piece_text, AppendsFront, Writes}
use Rattle.kahn_streams.specs.Answers.{values_of}
use Rattle.kahn_texts.proofs.Writing.{fails, stops, goes_on, goes_on_front}
use Rattle.kahn_texts.proofs.several.put_stream_by.Goals as goal

pub returns-in_err-put_head : goal.returns-in_err-put_head
returns-in_err-put_head g c = fails _ _ _ _ c.from_residual.ensures.0 (stops _ _ _ _ c.in_err-put_head.ensures.text)

pub returns-in_err-put_pieces : goal.returns-in_err-put_pieces
returns-in_err-put_pieces g c =
    let head = line_head c.args.network.now c.args.stream.now.line in
    let rest = piece_text c.pieces_of-pieces.result.1 in
    let gone = rw c.deref.ensures.value at c.in_err-put_pieces.ensures in
    let front = flat_map piece_text c.pieces_of-pieces.result.0.items in
    let split : front ++ (rest ++ line_feed) ≡ piece_text (values_of c.args.stream.now) ++ line_feed =
    sym (append_assoc front rest line_feed) ∙ ap (λ l. l ++ line_feed) (c.pieces_of-pieces.ensures ∙ ap piece_text c.values-values.ensures) in
    fails _ _ _ _ c.from_residual-in_err-put_pieces.ensures.0
    (goes_on_front _ _ _ head _ c.in_ok-put_head.ensures.text (subst (AppendsFront _ _) split (stops _ _ front _ gone)))

pub returns : goal.returns
returns g c =
    let head = line_head c.args.network.now c.args.stream.now.line in
    let rest = piece_text c.pieces_of-pieces.result.1 in
    let gone = rw c.deref.ensures.value at c.in_ok-put_pieces.ensures in
    let front = flat_map piece_text c.pieces_of-pieces.result.0.items in
    let split : front ++ (rest ++ line_feed) ≡ piece_text (values_of c.args.stream.now) ++ line_feed =
    sym (append_assoc front rest line_feed) ∙ ap (λ l. l ++ line_feed) (c.pieces_of-pieces.ensures ∙ ap piece_text c.values-values.ensures) in
    subst (λ z. Writes (g.W.Write.contents c.args.writer.now) (g.W.Write.contents c.put_closing.new.writer) c.put_closing.result (head ++ z)) split (goes_on _ _ _ _ head _ c.in_ok-put_head.ensures.text (goes_on _ _ _ _ front _ gone c.put_closing.ensures.text))
