-- What stands between two lexemes, read from the left.
use Rattle.kahn_expected.proofs.Common.{AreComments, Bool, Gap, IsBlank, IsComment, IsLexemeAt, Lexed, Lexeme, List, Passed, Span, [], ap, append-nil, append_assoc, arith, at_the_end, behind_a_blank, behind_a_comment, behind_a_lexeme, comment_dark, comment_grows, drop, drop_more, false, get_or, inl, inr, length, no_gap, refl, same_comment, span_of, subst, sym, then_blank, then_comment, true, ℕ, ◌++◌, ◌+◌, ◌<◌, ◌∙◌, ◌∷◌, ◌≡◌, ◌≤◌, ◌⊎◌}

pub gap_le : (text : List ℕ) (a b : ℕ) → Gap text a b → a ≤ b
gap_le text a b no_gap = omega arith
gap_le text a _ (then_blank {b = b} g dark) = let h : a ≤ b = gap_le text a b g in omega arith
gap_le text a c (then_comment {b = b} g is) =
    let h : a ≤ b = gap_le text a b g in
    let more : b < c = comment_grows text b c is in
    omega arith

-- nothing, or a blank and the rest, or a comment and the rest
abbrev pub Front : List ℕ → ℕ → ℕ → Type 0
Front text a c = (a ≡ c) ⊎ (IsBlank (get_or text a 0) × Gap text (a + 1) c) ⊎ ((m : ℕ) × IsComment text a m × Gap text m c)

pub front : (text : List ℕ) (a c : ℕ) → Gap text a c → Front text a c
front text a c no_gap = inl refl
front text a _ (then_blank {b = b} g dark) = by (front text a b g)
  where
    by : Front text a b → Front text a (b + 1)
    by (inl e) = inr (inl (subst (λ n. IsBlank (get_or text n 0)) (sym e) dark, subst (λ n. Gap text (n + 1) (b + 1)) (sym e) no_gap))
    by (inr (inl (first, rest))) = inr (inl (first, then_blank rest dark))
    by (inr (inr (m, first, rest))) = inr (inr (m, first, then_blank rest dark))
front text a c (then_comment {b = b} g is) = by (front text a b g)
  where
    by : Front text a b → Front text a c
    by (inl e) = inr (inr (c, subst (λ n. IsComment text n c) (sym e) is, no_gap))
    by (inr (inl (first, rest))) = inr (inl (first, then_comment rest is))
    by (inr (inr (m, first, rest))) = inr (inr (m, first, then_comment rest is))

-- of two different places, the rest behind a blank, and behind a comment
pub behind_blank : (text : List ℕ) (a c : ℕ) → Gap text a c → a < c → IsBlank (get_or text a 0) → Gap text (a + 1) c
behind_blank text a c gap some dark = by (front text a c gap)
  where
    by : Front text a c → Gap text (a + 1) c
    by (inl e) = absurd (omega (arith, e, some))
    by (inr (inl (first, rest))) = rest
    by (inr (inr (m, first, rest))) = absurd (comment_dark text a m first dark)

pub behind_comment : (text : List ℕ) (a c : ℕ) → Gap text a c → a < c → ¬ (IsBlank (get_or text a 0)) → (m : ℕ) × IsComment text a m × Gap text m c
behind_comment text a c gap some light = by (front text a c gap)
  where
    by : Front text a c → (m : ℕ) × IsComment text a m × Gap text m c
    by (inl e) = absurd (omega (arith, e, some))
    by (inr (inl (first, rest))) = absurd (light first)
    by (inr (inr h)) = h

-- ---- one thing more was read

pub passed_blank : (text : List ℕ) (a b : ℕ) (ws : List Span) → Passed text a ws b → IsBlank (get_or text b 0) → Passed text a ws (b + 1)
passed_blank text a b ws p dark = λ more h. p more (behind_a_blank dark h)

pub passed_lexeme : (text : List ℕ) (a : ℕ) (ws : List Span) (x : Lexeme) → Passed text a ws x.span.from → IsLexemeAt text x → Passed text a ws x.span.to
passed_lexeme text a ws x p stands = λ more h. p more (behind_a_lexeme x stands h)

pub passed_comment : (text : List ℕ) (a b c : ℕ) (ws new : List Span) → Passed text a ws b → IsComment text b c → new ≡ ws ++ span_of b c ∷ [] → Passed text a new c
passed_comment text a b c ws new p is added = λ more h.
    subst (AreComments text a) (sym (ap (λ l. l ++ more) added ∙ append_assoc ws (span_of b c ∷ []) more)) (p (span_of b c ∷ more) (behind_a_comment is h))

-- what is behind a comment that begins a gap
pub after_comment : (text : List ℕ) (at to end : ℕ) → Gap text at to → at < to → ¬ (IsBlank (get_or text at 0)) → IsComment text at end →
    Gap text end to × (end ≤ to) × (at < end)
after_comment text at to end gap some light is =
    let h = behind_comment text at to gap some light in
    let rest : Gap text end to = subst (λ m. Gap text m to) (same_comment text at h.0 end h.1 is) h.2 in
    (rest, gap_le text end to rest, comment_grows text at end is)

no_both : (b : Bool) → b ≡ true → b ≡ false → ⊥
no_both b h k = cc

pub light_of : (b : Bool) (B : Type 0) → (B → b ≡ true) → b ≡ false → B → ⊥
light_of b B f e h = no_both b (f h) e

-- the next of the lexemes is passed, with what stands before it
pub lexeme_passed : (bytes text : List ℕ) (items : List Lexeme) (i : ℕ) (d : Lexeme) (at : ℕ) (old new : List Span) → bytes ≡ text → i < length items
    → Lexed text at (length text) (drop i items) → Passed text 0 old at
    → ((a : ℕ) → Passed bytes a old at → Passed bytes a new (get_or items i d).span.from)
    → Lexed text (get_or items i d).span.to (length text) (drop (i + 1) items) × Passed text 0 new (get_or items i d).span.to
lexeme_passed bytes text items i d at old new e low lexed p step =
    let x : Lexeme = get_or items i d in
    let next : drop i items ≡ x ∷ drop (i + 1) items = drop_more items i d low in
    let h : Gap text at x.span.from × IsLexemeAt text x × Lexed text x.span.to (length text) (drop (i + 1) items) =
    subst (Lexed text at (length text)) next lexed in
    let all : (a : ℕ) → Passed text a old at → Passed text a new x.span.from =
    subst (λ (b : List ℕ). (a : ℕ) → Passed b a old at → Passed b a new x.span.from) e step in
    (h.2, passed_lexeme text 0 new x (all 0 p) h.1)

-- and what stands behind the last
pub all_passed : (bytes text : List ℕ) (at : ℕ) (old new : List Span) → bytes ≡ text → Passed text 0 old at
    → ((a : ℕ) → Passed bytes a old at → Passed bytes a new (length bytes)) → AreComments text 0 new
all_passed bytes text at old new e p step =
    let all : (a : ℕ) → Passed text a old at → Passed text a new (length text) =
    subst (λ (b : List ℕ). (a : ℕ) → Passed b a old at → Passed b a new (length b)) e step in
    subst (AreComments text 0) (append-nil new) (all 0 p [] at_the_end)
