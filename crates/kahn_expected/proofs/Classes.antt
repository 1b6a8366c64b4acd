-- The table of classes, and lists of them.
use Rattle.kahn_expected.proofs.Common.{All, All-append, All-contains, All-more, All-push, All-weaker, AllMayCome, AreOf, AreWanted, Begins, CLASSES, Class, Contains, Contains-append_left, IsToldIfItComes, Keyword, LexemeGroup, List, Sign, Span, Terminal, Wanted, [], ap, append-nil, append_assoc, class_of_terminal, flat_map, get_or, length, lit<, members, pos, refl, sign_terminal, slice_range, subst, sym, take, take_all, terminal, terminal_with, told_classes, ℕ, ℤ, ◌++◌, ◌+◌, ◌<◌, ◌↔◌, ◌∙◌, ◌∷◌, ◌≡◌, ◌≤◌}
use Rattle.kahn_syntax.specs.declared.lexeme.Class.TheVariants as class
use Rattle.kahn_syntax.specs.declared.lexeme.Keyword.TheVariants as keyword
use Rattle.kahn_syntax.specs.declared.lexeme.Sign.TheVariants as mark

word_there : (w : Keyword) → Contains CLASSES (class.Word w)
word_there keyword.And = (19, lit< tt, refl)
word_there keyword.Begin = (21, lit< tt, refl)
word_there keyword.Channel = (22, lit< tt, refl)
word_there keyword.Div = (11, lit< tt, refl)
word_there keyword.Do = (23, lit< tt, refl)
word_there keyword.Else = (24, lit< tt, refl)
word_there keyword.End = (25, lit< tt, refl)
word_there keyword.False = (4, lit< tt, refl)
word_there keyword.If = (0, lit< tt, refl)
word_there keyword.In = (26, lit< tt, refl)
word_there keyword.Input = (27, lit< tt, refl)
word_there keyword.Integer = (28, lit< tt, refl)
word_there keyword.Logical = (29, lit< tt, refl)
word_there keyword.Mod = (12, lit< tt, refl)
word_there keyword.Not = (1, lit< tt, refl)
word_there keyword.On = (31, lit< tt, refl)
word_there keyword.Or = (20, lit< tt, refl)
word_there keyword.Out = (32, lit< tt, refl)
word_there keyword.Output = (33, lit< tt, refl)
word_there keyword.Par = (34, lit< tt, refl)
word_there keyword.Print = (35, lit< tt, refl)
word_there keyword.Process = (30, lit< tt, refl)
word_there keyword.Repeat = (36, lit< tt, refl)
word_there keyword.Send = (37, lit< tt, refl)
word_there keyword.Then = (38, lit< tt, refl)
word_there keyword.True = (5, lit< tt, refl)
word_there keyword.Wait = (6, lit< tt, refl)
word_there keyword.While = (39, lit< tt, refl)

sign_there : (s : Sign) → Contains CLASSES (class_of_terminal (sign_terminal s))
sign_there mark.Becomes = (40, lit< tt, refl)
sign_there mark.Open = (7, lit< tt, refl)
sign_there mark.Close = (41, lit< tt, refl)
sign_there mark.Comma = (42, lit< tt, refl)
sign_there mark.Semicolon = (43, lit< tt, refl)
sign_there mark.Plus = (9, lit< tt, refl)
sign_there mark.Minus = (8, lit< tt, refl)
sign_there mark.Times = (10, lit< tt, refl)
sign_there mark.Equal = (13, lit< tt, refl)
sign_there mark.Unequal = (14, lit< tt, refl)
sign_there mark.Less = (15, lit< tt, refl)
sign_there mark.AtMost = (16, lit< tt, refl)
sign_there mark.Greater = (17, lit< tt, refl)
sign_there mark.AtLeast = (18, lit< tt, refl)
sign_there mark.Not = word_there keyword.Not

-- the class of each lexeme is in the table
there : (text : List ℕ) (c : Class) (at : Span) → Contains CLASSES (class_of_terminal (terminal text c at))
there text (class.Word w) at = word_there w
there text class.Name at = (2, lit< tt, refl)
there text (class.Number n) at = (3, lit< tt, refl)
there text (class.Sign s) at = sign_there s

-- a terminal is one of its class
of_class : (t : List ℕ) (c : Class) (at : Span) → (n : List ℕ) × (z : ℤ) × (terminal_with n z (class_of_terminal (terminal t c at)) ≡ terminal t c at)
of_class t (class.Word w) at = ([], pos 0, refl)
of_class t class.Name at = (slice_range t at.from at.to, pos 0, refl)
of_class t (class.Number z) at = ([], z, refl)
of_class t (class.Sign mark.Not) at = ([], pos 0, refl)
of_class t (class.Sign s) at = ([], pos 0, refl)

-- what is told of the table is told of all lexemes
pub wanted_of : (ks : List Terminal) (ws : List Class) (w : Wanted) → AreOf ks CLASSES ws → ((c : Class) → Contains (told_classes w) c ↔ Contains ws c) → AreWanted ks w
wanted_of ks ws w (sound, whole) is t x =
    let c = class_of_terminal (terminal t x.what x.span) in
    let (n, z, same) = of_class t x.what x.span in (
      (λ h. subst (λ k. Begins (ks ++ k ∷ [])) same (All-contains (AllMayCome ks) ws c sound ((is c).0 h) n z)),
      (λ h. (is c).1 (All-contains (IsToldIfItComes ks ws) CLASSES c whole (there t x.what x.span) (n, z, subst (λ k. Begins (ks ++ k ∷ [])) (sym same) h))),
    )

-- ---- a list that grows: P holds of each in it, and K of it and each of the first of some classes

abbrev pub Grown : (Class → Type 0) → (List Class → Class → Type 0) → List Class → ℕ → List Class → Type 0
Grown P K some i ws = All P ws × All (K ws) (take i some)

module _ (P : Class → Type 0) (K : List Class → Class → Type 0) (some : List Class) (i : ℕ) where
  pub one_more : (d : Class) (old new : List Class) → ((x c : Class) → K old c → K (old ++ x ∷ []) c) → i < length some → new ≡ old ++ get_or some i d ∷ []
      → P (get_or some i d) → K (old ++ get_or some i d ∷ []) (get_or some i d) → Grown P K some i old → Grown P K some (i + 1) new
  one_more d old new grows below e holds here h =
      let x = get_or some i d in
      let all = All-weaker (K old) (K (old ++ x ∷ [])) (λ c k. grows x c k) (take i some) h.1 in
      subst (Grown P K some (i + 1)) (sym e) (All-push P old x h.0 holds, All-more (K (old ++ x ∷ [])) some i d below all here)

  pub one_less : (d : Class) (old new : List Class) → i < length some → new ≡ old → K old (get_or some i d) → Grown P K some i old → Grown P K some (i + 1) new
  one_less d old new below e here h = subst (Grown P K some (i + 1)) (sym e) (h.0, All-more (K old) some i d below h.1 here)

  pub all_grown : (ws : List Class) → length some ≤ i → Grown P K some i ws → All P ws × All (K ws) some
  all_grown ws past h = (h.0, subst (All (K ws)) (take_all i some past) h.1)

-- those that weren't told
abbrev pub IsAmong : List Class → List Class → Class → Type 0
IsAmong said ws c = Contains (said ++ ws) c

pub still_among : (said old : List Class) (x c : Class) → IsAmong said old c → IsAmong said (old ++ x ∷ []) c
still_among said old x c m = subst (λ l. Contains l c) (append_assoc said old (x ∷ [])) (Contains-append_left (said ++ old) (x ∷ []) c m)

-- ---- groups

pub group_more : (classes old new : List Class) (groups all : List LexemeGroup) (g : LexemeGroup) (ms : List Class) → ms ≡ members g → all ≡ groups ++ g ∷ [] → new ≡ old ++ ms
    → All (Contains classes) ms → (old ≡ flat_map members groups) × All (Contains classes) old → (new ≡ flat_map members all) × All (Contains classes) new
group_more classes old new groups all g ms is more added within h = (
  added ∙ ap (λ l. l ++ ms) h.0 ∙ ap (λ l. flat_map members groups ++ l) is ∙ sym (one_group groups) ∙ ap (flat_map members) (sym more),
  subst (All (Contains classes)) (sym added) (All-append (Contains classes) old ms h.1 within),
)
  where
    one_group : (gs : List LexemeGroup) → flat_map members (gs ++ g ∷ []) ≡ flat_map members gs ++ members g
    one_group [] = append-nil (members g)
    one_group (h ∷ gs) = ap (λ l. members h ++ l) (one_group gs) ∙ sym (append_assoc (members h) (flat_map members gs) (members g))

pub group_same : (classes old new : List Class) (groups all : List LexemeGroup) → new ≡ old → all ≡ groups
    → (old ≡ flat_map members groups) × All (Contains classes) old → (new ≡ flat_map members all) × All (Contains classes) new
group_same classes old new groups all same more h = (same ∙ h.0 ∙ ap (flat_map members) (sym more), subst (All (Contains classes)) (sym same) h.1)

pub all_grouped : (classes said others : List Class) (w : Wanted) → told_classes w ≡ said ++ others → All (Contains classes) said → All (Contains classes) others
    → All (Contains (said ++ others)) classes → (c : Class) → Contains (told_classes w) c ↔ Contains classes c
all_grouped classes said others w e s o h c = (
  (λ m. All-contains (Contains classes) (said ++ others) c (All-append (Contains classes) said others s o) (subst (λ l. Contains l c) e m)),
  (λ m. subst (λ l. Contains l c) (sym e) (All-contains (Contains (said ++ others)) classes c h m)),
)
