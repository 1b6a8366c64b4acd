-- The line of a fault is found.
use Rattle.kahn_input_notes.proofs.Common.{◌≡◌, ◌∙◌, inl, inr, ℕ, zero, suc, ◌+◌, ◌-◌, ◌<◌, List, [], ◌∷◌, ◌++◌, Bool, true, Option, Some, None, length, slice_get, ap, arith, subst, Entry, FailsFirst, asked_of_entry, AreEntries, text_lines, IsInputTextFault, IsInputNote, IsUnfound, sought_of}
use Rattle.std.specs.Prelude.{MatchOption, false}
use Rattle.kahn_streams.specs.{declared.tree.Program.Program, declared.entries.InputFault.InputFault}
use Rattle.kahn_texts.specs.{declared.input.TextFault.TextFault, declared.input.TextFault.TheVariants.BadLine, declared.input.TextFault.TheVariants.BadValue, declared.input.TextFault.TheVariants.Input, declared.input.TextFault.TheVariants.TooLong, declared.input.TextFault.TheVariants.NoMemory}
use Rattle.kahn_diagnostic.specs.declared.rendering.Note.{Note}
use Rattle.kahn_input_notes.specs.Placed.{HasItsPlace}

-- ---- the line of a number

longer : (xs : List (List ℕ)) (y : List ℕ) (ys : List (List ℕ)) → length xs < length (xs ++ (y ∷ ys))
longer [] y ys = omega arith
longer (x ∷ xs) y ys = let h = longer xs y ys in omega (arith, h)

line_placed : (text : List ℕ) (before : List (List ℕ)) (line : List ℕ) (after : List (List ℕ)) (n : ℕ) → text_lines text ≡ before ++ (line ∷ after)
    → n ≡ length before + 1 → IsUnfound text false (n - 1) → ⊥
line_placed text before line after n e number (m, count, most) =
    let less = longer before line after in
    let same = ap length e in
    absurd (omega (arith, less, same, number, count, most))

-- ---- the entry of a number

got_below : (es : List Entry) (k : ℕ) (e : Entry) → slice_get es k ≡ Some e → k < length es
got_below [] k e h = cc
got_below (x ∷ xs) zero e h = omega arith
got_below (x ∷ xs) (suc k) e h = let below = got_below xs k e h in omega (arith, below)

abbrev at_entry : ℕ → Option (Bool × ℕ)
at_entry n = Some (true, n)

one_less : (k : ℕ) → at_entry (k + 1 - 1) ≡ at_entry k
one_less k =
    let less : k + 1 - 1 ≡ k = omega arith in
    ap at_entry less

abbrev sought_at : (f : InputFault) → Option (Bool × ℕ)
sought_at f = sought_of (Input f)

number_of : (t : Program) (given : Bool) (k : ℕ) (entry : Entry) (f : InputFault) → FailsFirst (asked_of_entry t given (k + 1) entry) f → sought_at f ≡ at_entry k
number_of t given k entry f (inl h) = ap sought_at h.1 ∙ one_less k
number_of t given k entry f (inr (a, inl h)) = ap sought_at h.1 ∙ one_less k
number_of t given k entry f (inr (a, inr (b, inl h))) = ap sought_at h.1 ∙ one_less k
number_of t given k entry f (inr (a, inr (b, inr (c, inl h)))) = ap sought_at h.1 ∙ one_less k
number_of t given k entry f (inr (a, inr (b, inr (c, inr (d, inl h))))) = ap sought_at h.1 ∙ one_less k
number_of t given k entry f (inr (a, inr (b, inr (c, inr (d, inr (e, h)))))) = absurd h

numbered_placed : (text : List ℕ) (es : List Entry) (k : ℕ) (entry : Entry) → AreEntries (text_lines text) es → slice_get es k ≡ Some entry → IsUnfound text true k → ⊥
numbered_placed text es k entry spelt got (n, count, most) =
    let below = got_below es k entry got in
    let same = count es spelt in
    absurd (omega (arith, below, same, most))

pub always_placed : (t u : Program) (text : List ℕ) (fault : TextFault) → IsInputTextFault u text fault → HasItsPlace fault → IsInputNote t text fault None → ⊥
always_placed t u text (BadLine n) (most, (before, line, after, e, number, good, is)) place note = line_placed text before line after n e number note
always_placed t u text (BadValue n) (most, (before, line, after, e, number, good, is)) place note = line_placed text before line after n e number note
always_placed t u text (Input f) (es, (most, spelt), (k, entry, got, fit, fails)) place note =
    numbered_placed text es k entry spelt got
    (subst (λ o. MatchOption o (◌≡◌ {A = Option Note} None None) (λ s. IsUnfound text s.0 s.1)) (number_of u _ k entry f fails) note)
always_placed t u text TooLong h place note = absurd place
always_placed t u text NoMemory h place note = absurd place
