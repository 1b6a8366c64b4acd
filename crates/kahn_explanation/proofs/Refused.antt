-- Notes on faults of a program text.
use Rattle.kahn_explanation.proofs.Common.{◌≡◌, ℕ, List, [], ◌∷◌, Option, Some, None, Err, inr, refl, sym, subst, ap, ◌∙◌, string_bytes, IfSome, MatchOption, Global, String, Program, Note, IsParsed, Check, Syntax, IsNoteOn, IsPlacedNote, IsRefusal, IsRefusedWords, IsSyntaxNote, IsSyntaxRefusal, expected_of, AreFaultLines}
use Rattle.kahn_streams.specs.{declared.span.Span.Span, declared.fault.CheckFault.CheckFault, Faults.verdict, Faults.faults}
use Rattle.kahn_check.specs.Parts.{faults_by_part}
use Rattle.kahn_syntax.specs.{declared.fault.What.What, declared.fault.SyntaxFault.SyntaxFault, declared.fault.SyntaxFault.TheVariants.Expected, Texts.IsTextFault}
use Rattle.kahn_fault.specs.Message.{syntax_span}
use Rattle.kahn_program_notes.specs.Notes.{IsNoteAt, Mends}

abbrev unwrapped : Span × What → Option (Span × What) → Span × What
unwrapped d None = d
unwrapped d (Some p) = p

pub expected : (program : List ℕ) (f : SyntaxFault) (span : Span) (what : What) → expected_of f ≡ Some (span, what) → IsTextFault program f → IsTextFault program (Expected span what)
expected program (Expected s w) span what e h =
    let d : Span × What = (s, w) in
    subst (λ (p : Span × What). IsTextFault program (Expected p.0 p.1)) (ap (unwrapped d) e) h
expected program f span what e h = absurd cc

-- what is said of a lexeme that can't stand
pub told_expected : (program : List ℕ) (f : SyntaxFault) (span : Span) (what : What) (n : Note) → expected_of f ≡ Some (span, what)
    → IsNoteAt program span what n → IsSyntaxNote program f (Some n)
told_expected program f span what n e h =
    subst (λ o. MatchOption o (IsPlacedNote program f (Some n)) (λ p. (m : Note) × (Some n ≡ Some m) × IsNoteAt program p.0 p.1 m)) (sym e) (n, refl, h)

-- of a fault that has a place
pub told_placed : (program : List ℕ) (f : SyntaxFault) (span : Span) (n : Note) → syntax_span f ≡ Some span → n.span ≡ span → IsRefusedWords f (string_bytes n.words)
    → IfSome n.fix (Mends program span) → IsPlacedNote program f (Some n)
told_placed program f span n e there is mends =
    subst (λ o. MatchOption o (Some n ≡ None)
    (λ at. (m : Note) × (Some n ≡ Some m) × (m.span ≡ at) × IsRefusedWords f (string_bytes m.words) × IfSome m.fix (Mends program at))) (sym e)
    (n, refl, there, is, mends)

-- of one that has none
pub told_unplaced : (program : List ℕ) (f : SyntaxFault) (note : Option Note) → note ≡ None → syntax_span f ≡ None → IsPlacedNote program f note
told_unplaced program f note is e =
    subst (λ o. MatchOption o (note ≡ None)
    (λ at. (m : Note) × (note ≡ Some m) × (m.span ≡ at) × IsRefusedWords f (string_bytes m.words) × IfSome m.fix (Mends program at))) (sym e) is

-- and of the others
pub told_other : (program : List ℕ) (f : SyntaxFault) (note : Option Note) → expected_of f ≡ None → IsPlacedNote program f note → IsSyntaxNote program f note
told_other program f note e h =
    subst (λ o. MatchOption o (IsPlacedNote program f note) (λ p. (m : Note) × (note ≡ Some m) × IsNoteAt program p.0 p.1 m)) (sym e) h

-- what is said of the faults of the network
pub told_faults : (path program : List ℕ) (t : Program) (fs : List CheckFault) (lines : String Global) → IsParsed program t → (fs ≡ [] → ⊥) → fs ≡ faults_by_part t →
    verdict (faults_by_part t) (tt {0}) ≡ verdict (faults t) (tt {0}) → AreFaultLines path program fs (string_bytes lines) → IsNoteOn path program lines
told_faults path program t [] lines parsed some all first are = absurd (some refl)
told_faults path program t (g ∷ gs) lines parsed some all first are =
    let met : verdict (faults t) (tt {0}) ≡ Err g = sym first ∙ ap (λ z. verdict z (tt {0})) (sym all) in
    (Check g, (t, parsed, inr met), (t, parsed, met, subst (λ l. AreFaultLines path program l (string_bytes lines)) all are))

-- what is said of a fault of the text, as the note on it
pub told_syntax : (path program : List ℕ) (f : SyntaxFault) (note : Option (String Global)) → IsTextFault program f → IsSyntaxRefusal path program f note →
    MatchOption note (IsRefusal path program (Syntax f) None) (IsNoteOn path program)
told_syntax path program f None fault h = h
told_syntax path program f (Some words) fault h = (Syntax f, fault, h)
