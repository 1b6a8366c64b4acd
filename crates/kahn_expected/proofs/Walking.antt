-- What is open behind terminals tells whether one more may stand there.
use Rattle.kahn_expected.proofs.Common.{AllMayCome, Awaited, Begins, Bool, Class, Fits, Lexeme, List, May, MayPass, None, OneMayCome, Option, Part, ProgramPart, Some, Span, Spells, StandsFirst, Terminal, Whole, [], ap, append-nil, append_assoc, arith, at_drop_more, awaited_part, awaited_parts, cond, drop, enters, false, fate, fits_some, further, get_or, go, go_far, go_none, is_some, le_or, left_open, length, levels, max, may_end, nesting, opened_by, pos, program, refl, rules_of, sign, slice_range, step, subst, sym, terminal, terminal_with, terminals, true, walked, whole_far, whole_program, whole_refuses, ℕ, ℤ, ⊎_elim, ◌++◌, ◌+◌, ◌<◌, ◌∙◌, ◌∷◌, ◌≡◌, ◌≤◌}
use Rattle.kahn_syntax.specs.declared.lexeme.Class.TheVariants as class
use Rattle.kahn_syntax.specs.declared.lexeme.Sign.TheVariants as mark

-- ---- a stack that is written from its bottom

parts_append : (ps qs : List Awaited) → awaited_parts (ps ++ qs) ≡ awaited_parts qs ++ awaited_parts ps
parts_append [] qs = sym (append-nil (awaited_parts qs))
parts_append (p ∷ ps) qs = ap (λ l. l ++ awaited_part p ∷ []) (parts_append ps qs) ∙ append_assoc (awaited_parts qs) (awaited_parts ps) (awaited_part p ∷ [])

on_top : (all rest : List Awaited) (p : Awaited) → all ≡ rest ++ p ∷ [] → awaited_parts all ≡ awaited_part p ∷ awaited_parts rest
on_top all rest p e = ap awaited_parts e ∙ parts_append rest (p ∷ [])

-- what a terminal does at the last part
at_part : (p : Awaited) (rest : List Awaited) (k : Terminal) (b : Bool) (o : Option (List Part)) → b ≡ (rules_of (awaited_part p)).0 → o ≡ enters (rules_of (awaited_part p)).1 k
    → step (awaited_part p ∷ awaited_parts rest) k ≡ opened_by (awaited_parts rest) (cond b (step (awaited_parts rest) k) None) o
at_part p rest k b o e f = ap (λ c. opened_by (awaited_parts rest) (cond c (step (awaited_parts rest) k) None) (enters (rules_of (awaited_part p)).1 k)) (sym e) ∙ ap (opened_by (awaited_parts rest) (cond b (step (awaited_parts rest) k) None)) (sym f)

pub entered : (all rest new ps : List Awaited) (p : Awaited) (k : Terminal) → all ≡ rest ++ p ∷ [] → Some (awaited_parts ps) ≡ enters (rules_of (awaited_part p)).1 k → new ≡ rest ++ ps
    → step (awaited_parts all) k ≡ Some (awaited_parts new)
entered all rest new ps p k e f added =
    ap (λ s. step s k) (on_top all rest p e) ∙ at_part p rest k _ _ refl f ∙ ap Some (sym (parts_append rest ps) ∙ ap awaited_parts (sym added))

pub skipped : (all rest : List Awaited) (p : Awaited) (k : Terminal) → all ≡ rest ++ p ∷ [] → None ≡ enters (rules_of (awaited_part p)).1 k → true ≡ (rules_of (awaited_part p)).0
    → step (awaited_parts all) k ≡ step (awaited_parts rest) k
skipped all rest p k e f may = ap (λ s. step s k) (on_top all rest p e) ∙ at_part p rest k true None may f

pub stopped : (all rest : List Awaited) (p : Awaited) (k : Terminal) → all ≡ rest ++ p ∷ [] → None ≡ enters (rules_of (awaited_part p)).1 k → false ≡ (rules_of (awaited_part p)).0
    → step (awaited_parts all) k ≡ None
stopped all rest p k e f must = ap (λ s. step s k) (on_top all rest p e) ∙ at_part p rest k false None must f

-- ---- whether one more may stand

nothing_open : (ks : List Terminal) → walked [] ks ≡ []
nothing_open [] = refl
nothing_open (k ∷ ks) = nothing_open ks

no_step : (s : List Part) → s ≡ [] → (k : Terminal) → is_some (step s k) ≡ true → ⊥
no_step [] h k e = cc
no_step (p ∷ s) h k e = cc

-- from some number of levels on what stands there can be completed
abbrev Completes : List Part → List Terminal → Type 0
Completes s ks = (m : ℕ) × ((n : ℕ) → m ≤ n → (c : List Terminal) × Fits n s (ks ++ c))

step_completes : (s t : List Part) (k : Terminal) (ks : List Terminal) → step s k ≡ Some t → Completes t ks → Completes s (k ∷ ks)
step_completes s t k ks e (m, h) =
    (max (levels s) m, λ n more. let r = h n (omega (arith, more)) in (r.0, further n s t k (ks ++ r.0) (omega (arith, more)) e r.1))

completes : (ks : List Terminal) (k : Terminal) (s : List Part) → is_some (step (walked s ks) k) ≡ true → Completes s (ks ++ k ∷ [])
completes [] k s e = by (step s k) refl e
  where
    by : (o : Option (List Part)) → step s k ≡ o → is_some o ≡ true → Completes s (k ∷ [])
    by None f g = absurd cc
    by (Some t) f g = step_completes s t k [] f (levels t, λ n more. fits_some n t more)
completes (j ∷ ks) k s e = by (step s j) refl e (λ t g. completes ks k t g)
  where
    by : (o : Option (List Part)) → step s j ≡ o → is_some (step (walked (left_open o) ks) k) ≡ true
        → ((t : List Part) → is_some (step (walked t ks) k) ≡ true → Completes t (ks ++ k ∷ [])) → Completes s (j ∷ (ks ++ k ∷ []))
    by None f g again = absurd (no_step (walked [] ks) (nothing_open ks) k g)
    by (Some t) f g again = step_completes s t j (ks ++ k ∷ []) f (again t g)

pub begins : (ks : List Terminal) (k : Terminal) → is_some (step (walked (ProgramPart ∷ []) ks) k) ≡ true → Begins (ks ++ k ∷ [])
begins ks k e =
    let h = completes ks k (ProgramPart ∷ []) e in
    let c = h.1 h.0 (omega arith) in
    spelled h.0 c.0 c.1
  where
    spelled : (n : ℕ) (c : List Terminal) → Fits n (ProgramPart ∷ []) ((ks ++ k ∷ []) ++ c) → Begins (ks ++ k ∷ [])
    spelled n c (ds, is, a, b, d, e, f, r, p, q, i, s, v, w, small, h) = (program ds is, c, (a, b, d, e, f, p, q, i, s, v, subst (May (StandsFirst (sign mark.Semicolon)) f) h w))

-- what is read to its end goes on at each terminal
goes_on : (m : ℕ) (ks after : List Terminal) (k : Terminal) (s : List Part) → fate m s (ks ++ k ∷ after) ≡ Whole → is_some (step (walked s ks) k) ≡ true
goes_on m [] after k s e = by (step s k) refl
  where
    by : (o : Option (List Part)) → step s k ≡ o → is_some o ≡ true
    by None f = absurd (whole_refuses (may_end s) (length after + 1) (sym e ∙ go_none m s k after f))
    by (Some t) f = refl
goes_on m (j ∷ ks) after k s e = by (step s j) refl (λ t g. goes_on m ks after k t g)
  where
    by : (o : Option (List Part)) → step s j ≡ o → ((t : List Part) → fate m t (ks ++ k ∷ after) ≡ Whole → is_some (step (walked t ks) k) ≡ true)
        → is_some (step (walked (left_open o) ks) k) ≡ true
    by None f again = absurd (whole_refuses (may_end s) (length (ks ++ k ∷ after) + 1) (sym e ∙ go_none m s j (ks ++ k ∷ after) f))
    by (Some t) f again =
        ⊎_elim (λ h. again t (sym (go m s t j (ks ++ k ∷ after) f h) ∙ e)) (λ h. absurd (whole_far (length (ks ++ k ∷ after) + 1) (sym e ∙ go_far m s t j (ks ++ k ∷ after) f h))) (le_or (levels t) m)

pub stands : (ks : List Terminal) (k : Terminal) → Begins (ks ++ k ∷ []) → is_some (step (walked (ProgramPart ∷ []) ks) k) ≡ true
stands ks k (t, after, h) =
    goes_on (nesting t) ks after k (ProgramPart ∷ []) (whole_program (nesting t) t (ks ++ k ∷ after) (omega arith) (subst (Spells t) (append_assoc ks (k ∷ []) after) h))

true_false : (b : Bool) → b ≡ true → b ≡ false → ⊥
true_false b h i = cc

-- so does a class of lexemes, by what is open
module _ (ks : List Terminal) (s : List Awaited) (c : Class) (may : Bool) (e : walked (ProgramPart ∷ []) ks ≡ awaited_parts s) (f : MayPass s c may) where
  steps : (n : List ℕ) (z : ℤ) → is_some (step (walked (ProgramPart ∷ []) ks) (terminal_with n z c)) ≡ may
  steps n z = ap (λ l. is_some (step l (terminal_with n z c))) e ∙ f n z

  pub may_come : may ≡ true → AllMayCome ks c
  may_come is n z = begins ks (terminal_with n z c) (steps n z ∙ is)

  pub none_comes : may ≡ false → OneMayCome ks c → ⊥
  none_comes is (n, z, h) = true_false _ (stands ks (terminal_with n z c) h) (steps n z ∙ is)

-- what is open behind a lexeme
at_lexeme : (text : List ℕ) (c : Class) (at : Span) (s t : List Part) → ((n : List ℕ) (z : ℤ) → left_open (step s (terminal_with n z c)) ≡ t) → left_open (step s (terminal text c at)) ≡ t
at_lexeme text (class.Word w) at s t h = h [] (pos 0)
at_lexeme text (class.Sign x) at s t h = h [] (pos 0)
at_lexeme text class.Name at s t h = h (slice_range text at.from at.to) (pos 0)
at_lexeme text (class.Number z) at s t h = h [] z

pub one_on : (text : List ℕ) (xs : List Lexeme) (i : ℕ) (d : Lexeme) (old new all : List Part) → i < length xs
    → ((n : List ℕ) (z : ℤ) → left_open (step old (terminal_with n z (get_or xs i d).what)) ≡ new) → walked old (terminals text (drop i xs)) ≡ all
    → walked new (terminals text (drop (i + 1) xs)) ≡ all
one_on text xs i d old new all below goes so_far =
    let x = get_or xs i d in
    ap (λ s. walked s (terminals text (drop (i + 1) xs))) (sym (at_lexeme text x.what x.span old new goes)) ∙ sym (at_drop_more (λ l. walked old (terminals text l)) xs i d below) ∙ so_far
