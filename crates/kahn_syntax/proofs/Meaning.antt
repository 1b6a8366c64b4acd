-- What the fate of a list says of trees.
use Rattle.kahn_syntax.proofs.Common.{◌≡◌, ℕ, ◌+◌, ◌≤◌, ◌<◌, List, [], ◌∷◌, ◌++◌, length, Bool, true, false, refl, sym, ap, ◌∙◌, subst, arith, ⊎_elim, append_assoc, Lexeme, Span, Stop, Refused, TooDeep, NoMemory, Semicolon, Terminal, sign, terminal, terminals, ProgramTree, program, Spells, May, StandsFirst, nesting, IsSentence, Begins, BeginsWithin, IsNothing, IsOther, IsTooDeep, StandsAt, Placed, ProgramPart, Fate, Refuses, TooFar, fate, Halts}
use Rattle.kahn_syntax.proofs.{WholePrograms.whole_program, Unique.le_or, Viable.Fits}
use Rattle.kahn_syntax.proofs.Reached.{Stuck, stuck_at, short_at, Deep, deep_at, refuses_left, far_left, whole_refuses, whole_far}

pub terminals_append : (text : List ℕ) (xs ys : List Lexeme) → terminals text (xs ++ ys) ≡ terminals text xs ++ terminals text ys
terminals_append text [] ys = refl
terminals_append text (x ∷ xs) ys = ap (λ r. terminal text x.what x.span ∷ r) (terminals_append text xs ys)

pub terminals_length : (text : List ℕ) (xs : List Lexeme) → length (terminals text xs) ≡ length xs
terminals_length text [] = refl
terminals_length text (x ∷ xs) = omega (arith, terminals_length text xs)

tree_of : (m : ℕ) (ks : List Terminal) → Fits m (ProgramPart ∷ []) ks → (t : ProgramTree) × (Spells t ks) × (nesting t ≤ m)
tree_of m ks (ds, is, a, b, c, d, e, r, p, q, i, s, v, w, n, h) =
    (program ds is, (a, b, c, d, e, p, q, i, s, v, subst (May (StandsFirst (sign Semicolon)) e) h w), omega (arith, n))

begins_of : (m : ℕ) (ks : List Terminal) → ((c : List Terminal) × Fits m (ProgramPart ∷ []) (ks ++ c)) → Begins ks
begins_of m ks (c, h) = let t = tree_of m (ks ++ c) h in (t.0, c, t.1)

within_of : (ks : List Terminal) → ((c : List Terminal) × Fits 64 (ProgramPart ∷ []) (ks ++ c)) → BeginsWithin ks
within_of ks (c, h) = let t = tree_of 64 (ks ++ c) h in (t.0, c, t.1, t.2)

-- the terminal in the middle, and those after it
regroup : (before : List Terminal) (x : Terminal) (c : List Terminal) → (before ++ x ∷ []) ++ c ≡ before ++ x ∷ c
regroup before x c = append_assoc before (x ∷ []) c

begins_next : (m : ℕ) (before : List Terminal) (x : Terminal) → ((c : List Terminal) × Fits m (ProgramPart ∷ []) (before ++ x ∷ c)) → Begins (before ++ x ∷ [])
begins_next m before x (c, h) = begins_of m (before ++ x ∷ []) (c, subst (Fits m (ProgramPart ∷ [])) (sym (regroup before x c)) h)

no_more_of : (before : List Terminal) (x : Terminal) (b : Bool) → Stuck 64 (ProgramPart ∷ []) before x b → Begins (before ++ x ∷ []) → ⊥
no_more_of before x b r (t, c, p) =
    let n = 64 + nesting t in
    whole_refuses b (length c + 1)
    (sym (whole_program n t ((before ++ x ∷ []) ++ c) (omega arith) p) ∙ ap (fate n (ProgramPart ∷ [])) (regroup before x c) ∙ r.stuck n (omega arith) c)

nothing_of : (before : List Terminal) (x : Terminal) → Stuck 64 (ProgramPart ∷ []) before x true → IsNothing before x
nothing_of before x r = (tree_of 64 before (r.whole refl), no_more_of before x true r)

other_of : (before : List Terminal) (x : Terminal) → Stuck 64 (ProgramPart ∷ []) before x false → IsOther before x
other_of before x r = (
  within_of before r.begins,
  λ (t, p). let n = 64 + nesting t in whole_refuses false 0 (sym (whole_program n t before (omega arith) p) ∙ r.part refl n (omega arith)),
  no_more_of before x false r,
)

far_deeper : (t : ProgramTree) (ks : List Terminal) (n : ℕ) → Spells t ks → fate 64 (ProgramPart ∷ []) ks ≡ TooFar n → 64 < nesting t
far_deeper t ks n p e = ⊎_elim (λ h. absurd (whole_far n (sym (whole_program 64 t ks h p) ∙ e))) (λ h. h) (le_or (nesting t) 64)

deep_of : (before : List Terminal) (x : Terminal) → Deep 64 (ProgramPart ∷ []) before x → IsTooDeep before x
deep_of before x r = (
  within_of before r.begins,
  begins_next r.beyond.0 before x (r.beyond.2, r.beyond.3),
  λ t c p. far_deeper t (before ++ x ∷ c) (length c + 1) p (r.far c),
)

split_fate : (text : List ℕ) (lexemes before after : List Lexeme) (x : Lexeme) (f : Fate) → lexemes ≡ before ++ x ∷ after → fate 64 (ProgramPart ∷ []) (terminals text lexemes) ≡ f →
    fate 64 (ProgramPart ∷ []) (terminals text before ++ terminal text x.what x.span ∷ terminals text after) ≡ f
split_fate text lexemes before after x f e h =
    sym (ap (fate 64 (ProgramPart ∷ [])) (ap (terminals text) e ∙ terminals_append text before (x ∷ after))) ∙ h

stuck_here : (text : List ℕ) (lexemes before after : List Lexeme) (x : Lexeme) (b : Bool) (left : ℕ) → lexemes ≡ before ++ x ∷ after → length after + 1 ≡ left →
    Halts (terminals text lexemes) (Refused b left) → Stuck 64 (ProgramPart ∷ []) (terminals text before) (terminal text x.what x.span) b
stuck_here text lexemes before after x b left e l h =
    stuck_at 64 (terminals text before) (terminals text after) (terminal text x.what x.span) (ProgramPart ∷ []) b (omega arith)
    (split_fate text lexemes before after x (Refuses b left) e h ∙ ap (Refuses b) (sym l ∙ ap (λ n. n + 1) (sym (terminals_length text after))))

pub is_nothing : (text : List ℕ) (lexemes : List Lexeme) (span : Span) (left : ℕ) → Placed lexemes span left → Halts (terminals text lexemes) (Refused true left) →
    StandsAt text lexemes span IsNothing
is_nothing text lexemes span left (before, x, after, e, s, l) h =
    (before, x, after, e, s, nothing_of (terminals text before) (terminal text x.what x.span) (stuck_here text lexemes before after x true left e l h))

pub is_other : (text : List ℕ) (lexemes : List Lexeme) (span : Span) (left : ℕ) → Placed lexemes span left → Halts (terminals text lexemes) (Refused false left) →
    StandsAt text lexemes span IsOther
is_other text lexemes span left (before, x, after, e, s, l) h =
    (before, x, after, e, s, other_of (terminals text before) (terminal text x.what x.span) (stuck_here text lexemes before after x false left e l h))

pub is_too_deep : (text : List ℕ) (lexemes : List Lexeme) (span : Span) (left : ℕ) → Placed lexemes span left → Halts (terminals text lexemes) (TooDeep left) →
    StandsAt text lexemes span IsTooDeep
is_too_deep text lexemes span left (before, x, after, e, s, l) h =
    let there = split_fate text lexemes before after x (TooFar left) e h ∙ ap TooFar (sym l ∙ ap (λ n. n + 1) (sym (terminals_length text after))) in
    let here = deep_at 64 (terminals text before) (terminals text after) (terminal text x.what x.span) (ProgramPart ∷ []) (omega arith) there in
    (before, x, after, e, s, deep_of (terminals text before) (terminal text x.what x.span) here)

pub is_more : (ks : List Terminal) (b : Bool) → Halts ks (Refused b 0) → BeginsWithin ks × ¬ (IsSentence ks)
is_more ks b h =
    let r = short_at 64 ks (ProgramPart ∷ []) b (omega arith) h in (
      within_of ks r.begins,
      λ (t, p). let n = 64 + nesting t in whole_refuses false 0 (sym (whole_program n t ks (omega arith) p) ∙ r.part n (omega arith)),
    )

-- a list that a tree within the limit spells isn't halted but for memory
pub halts_memory : (ks : List Terminal) (e : Stop) (t : ProgramTree) → Halts ks e → Spells t ks → nesting t ≤ 64 → e ≡ NoMemory
halts_memory ks (Refused b n) t h p l = absurd (whole_refuses b n (sym (whole_program 64 t ks l p) ∙ h))
halts_memory ks (TooDeep n) t h p l = absurd (whole_far n (sym (whole_program 64 t ks l p) ∙ h))
halts_memory ks NoMemory t h p l = refl

pub refused_left : (text : List ℕ) (lexemes : List Lexeme) (b : Bool) (n : ℕ) → Halts (terminals text lexemes) (Refused b n) → n ≤ length lexemes
refused_left text lexemes b n h = omega (arith, refuses_left 64 (terminals text lexemes) (ProgramPart ∷ []) b n h, terminals_length text lexemes)

pub deep_left : (text : List ℕ) (lexemes : List Lexeme) (n : ℕ) → Halts (terminals text lexemes) (TooDeep n) → (n ≤ length lexemes) × (0 < n)
deep_left text lexemes n h =
    let r = far_left 64 (terminals text lexemes) (ProgramPart ∷ []) n h in (omega (arith, r.0, terminals_length text lexemes), r.1)

pub deep_memory : (n : ℕ) → TooDeep n ≡ NoMemory → ⊥
deep_memory n e = cc

pub refused_memory : (b : Bool) (n : ℕ) → Refused b n ≡ NoMemory → ⊥
refused_memory b n e = cc
