use Rattle.kahn_program_notes.proofs.Common.{◌≡◌, ◌≤◌, ◌++◌, ◌+◌, ◌-◌, ◌∙◌, [], ap, append-nil, arith, drop, get_or, length, length-append, map, string_bytes, sym, at_drop_all, length-map, listed, pieces_of, text_end_words, wanted_words, any_words}
use Rattle.std.proofs.lemmas.Result.{IfOk-weaker}
use Rattle.kahn_syntax.specs.declared.lexeme.Class.TheVariants as class
use Rattle.kahn_syntax.specs.declared.lexeme.Keyword.TheVariants as word
use Rattle.kahn_expected.specs.declared.groups.LexemeGroup.TheVariants as group
use Rattle.kahn_program_notes.proofs.Pieces.{last_listed, listed_on, regrouped}
use Rattle.kahn_program_notes.proofs.syntax.unexpected.add_wanted.Goals as goal

pub loop-group-preserved : goal.loop-group-preserved
loop-group-preserved c =
    let gs = c.args.wanted.now.groups.items in
    let os = c.args.wanted.now.others.items in
    let end = text_end_words c.args.what in
    let i = c.loop-group.group-index in
    let d = group.Expression in
    let same = c.deref-group-items.ensures.value in
    let long = ap length same in
    let rest : length (map any_words os ++ end) ≡ length os + length end = length-append (map any_words os) end ∙ ap (λ n. n + length end) (length-map os any_words) in (
      listed_on wanted_words gs i d (map any_words os ++ end) (c.loop-group.left - 1) (string_bytes c.loop-group.words) _ _ _ _ (omega (arith, long))
          (omega (arith, long, rest, c.end_piece-ends.ensures.count, c.loop-group.invariant.1)) (c.group_words.ensures ∙ ap (λ l. wanted_words (get_or l i d)) same) c.separator.ensures
          c.in_ok-add.ensures c.loop-group.invariant.0,
      omega (arith, long, c.loop-group.invariant.1),
    )

pub loop-class-preserved : goal.loop-class-preserved
loop-class-preserved c =
    let os = c.args.wanted.now.others.items in
    let end = text_end_words c.args.what in
    let i = c.loop-class.class-index in
    let d = class.Word word.And in
    let same = c.deref-class-items.ensures.value in
    let long = ap length same in
    let parts = c.class_parts.result in (
      listed_on any_words os i d end (c.loop-class.left - 1) (string_bytes c.loop-class.words) _ _ _ _ (omega (arith, long))
          (omega (arith, long, c.end_piece-ends.ensures.count, c.loop-class.invariant.1)) (c.class_parts.ensures ∙ ap (λ l. any_words (get_or l i d)) same) c.separator-in-loop-class.ensures
          (c.in_ok-add-2.ensures ∙ regrouped (string_bytes c.loop-class.words) parts.0.0.now parts.0.1.now parts.1.now (c.separator-in-loop-class.result.now ++ [])) c.loop-class.invariant.0,
      omega (arith, long, c.loop-class.invariant.1),
    )

pub returns : goal.returns
returns c =
    let os = c.args.wanted.now.others.items in
    let end = text_end_words c.args.what in
    let words = string_bytes c.loop-class.words in
    let new = string_bytes c.add-2.new.text in
    let past : length os ≤ c.loop-class.class-index = omega (arith, ap length c.deref-class-items.ensures.value) in
    let none : listed (map any_words (drop c.loop-class.class-index os) ++ end) ≡ listed end = at_drop_all (λ l. listed (map any_words l ++ end)) os c.loop-class.class-index past in
    IfOk-weaker c.add-2.result (λ _. new ≡ words ++ (c.end_piece-ends.result.0.now ++ [])) (λ _. new ≡ string_bytes c.args.words.now ++ listed (pieces_of c.args.wanted.now c.args.what))
    (λ _ h. h ∙ ap (λ l. words ++ l) (append-nil _ ∙ c.end_piece-ends.ensures.words ∙ sym (last_listed c.args.what) ∙ sym none) ∙ c.loop-class.invariant.0) c.add-2.ensures
