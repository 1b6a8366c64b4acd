use Rattle.kahn_texts.proofs.Common.{◌≡◌, ◌∙◌, sym, subst, All, true, HasHead, IsName, is_word_byte}
use Rattle.kahn_texts.proofs.Scanned.{found, scanned, all_passed, same_tail}
use Rattle.kahn_texts.proofs.input.head_of.Goals as goal

pub returns-in_err-rest : goal.returns-in_err-rest
returns-in_err-rest c = rw c.from_residual.ensures (λ name rest head.
    let (same, colon, named) = scanned c.args.line.now c.without_blanks.result.now c.split_word.result.0.now c.split_word.result.1.now c.without_blanks-2.result.now name rest
    c.without_blanks.ensures c.split_word.ensures.word c.split_word.ensures.rest c.without_blanks-2.ensures head in
    c.in_err-rest.ensures rest colon)

pub name_of-requires : goal.name_of-requires
name_of-requires c =
    subst (λ w. All (λ b. is_word_byte b ≡ true) w) (sym c.split_word.ensures.word) (all_passed is_word_byte c.without_blanks.result.now)

pub returns : goal.returns
returns c =
    let (name, same) = c.in_ok-name.ensures in
    let head = found c.args.line.now c.without_blanks.result.now c.split_word.result.0.now c.split_word.result.1.now c.without_blanks-2.result.now c.in_ok-rest.rest.now
    c.without_blanks.ensures c.split_word.ensures.word c.split_word.ensures.rest c.without_blanks-2.ensures c.in_ok-rest.ensures name in (
      subst (λ w. HasHead c.args.line.now w c.in_ok-rest.rest.now) (sym same) head,
      λ other rest is.
          let (that, colon, named) = scanned c.args.line.now c.without_blanks.result.now c.split_word.result.0.now c.split_word.result.1.now c.without_blanks-2.result.now other rest
          c.without_blanks.ensures c.split_word.ensures.word c.split_word.ensures.rest c.without_blanks-2.ensures is in
          same_tail (sym colon ∙ c.in_ok-rest.ensures),
    )

pub returns-in_err-name : goal.returns-in_err-name
returns-in_err-name c = rw c.from_residual-in_err-name.ensures (λ name rest head.
    let (same, colon, named) = scanned c.args.line.now c.without_blanks.result.now c.split_word.result.0.now c.split_word.result.1.now c.without_blanks-2.result.now name rest
    c.without_blanks.ensures c.split_word.ensures.word c.split_word.ensures.rest c.without_blanks-2.ensures head in
    c.in_err-name.ensures (subst IsName same named))
