use Rattle.kahn_explanation.proofs.Common.{◌∙◌, subst, sym, refl, IsRefusedWords}
use Rattle.kahn_explanation.proofs.Refused.{expected, told_expected, told_other, told_placed, told_unplaced}
use Rattle.kahn_explanation.proofs.explaining.syntax_note.Goals as goal

pub unexpected_note-requires : goal.unexpected_note-requires
unexpected_note-requires c = expected c.args.program.now c.args.fault c.in-Some.span c.in-Some.what (sym c.in-Some.ensures) c.requires

pub returns-in_ok-note-in-Some : goal.returns-in_ok-note-in-Some
returns-in_ok-note-in-Some c = told_expected c.args.program.now c.args.fault c.in-Some.span c.in-Some.what c.in_ok-note-in-Some.note (sym c.in-Some.ensures) c.in_ok-note-in-Some.ensures

pub returns-in_ok-placed-in-Some-syntax_span : goal.returns-in_ok-placed-in-Some-syntax_span
returns-in_ok-placed-in-Some-syntax_span c =
    let program = c.args.program.now in
    let fault = c.args.fault in
    let placed = c.in_ok-placed-in-Some-syntax_span in
    let same = placed.ensures.words ∙ c.as_str.ensures.value in
    told_other program fault _ (sym c.in-None.ensures)
    (told_placed program fault c.in-Some-syntax_span.span placed.placed (sym c.in-Some-syntax_span.ensures) placed.ensures.span
    (subst (IsRefusedWords fault) (sym same) c.in_ok-words-in-Some-syntax_span.ensures) placed.ensures.fix)

pub returns-in-None-syntax_span : goal.returns-in-None-syntax_span
returns-in-None-syntax_span c = told_other c.args.program.now c.args.fault _ (sym c.in-None.ensures) (told_unplaced c.args.program.now c.args.fault _ refl (sym c.in-None-syntax_span.ensures))
