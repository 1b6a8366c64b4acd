-- What is handed over, and by which names.
use Rattle.kahn_streams.proofs.Common.{◌≡◌, ℕ, Bool, true, false, cond, ◌&&◌, List, ◌∷◌, ◌++◌, map, refl, ap, sym, ◌∙◌, subst, bytes_eq, true≢false, bytes_eq-Decides, Name, Kind, Role, Direction, Program, Side, Inner, Input, Output, In, Out, bytes_of, Global, IsChannel, Handover, handed_from, same_direction, ends, writers, readers, IsOne, IsWired, is_closed, []}

abbrev pub keys : {A : Type 0} → List (List ℕ × A) → List (List ℕ)
keys xs = map (λ e. e.0) xs

pub bytes_true : (x y : List ℕ) → bytes_eq x y ≡ true → x ≡ y
bytes_true x y h = (bytes_eq-Decides x y).0 h

pub bytes_turned : (x y : List ℕ) → bytes_eq y x ≡ false → bytes_eq x y ≡ false
bytes_turned x y h = by (bytes_eq x y) refl
  where
    by : (b : Bool) → bytes_eq x y ≡ b → b ≡ false
    by true i = absurd (true≢false (sym (subst (λ z. bytes_eq z y ≡ true) (bytes_true x y i) i) ∙ subst (λ z. bytes_eq y z ≡ false) (bytes_true x y i) h))
    by false i = refl

abbrev pub AtMostOne : List Side → Type 0
AtMostOne [] = Unit {0}
AtMostOne (e ∷ []) = Unit {0}
AtMostOne (e ∷ f ∷ es) = ⊥

abbrev pub Table : Type 0
Table = List (List ℕ × Global)

pub ends_append : (d : Direction) (c : List ℕ) (xs ys : List Handover) → ends d c (xs ++ ys) ≡ ends d c xs ++ ends d c ys
ends_append d c [] ys = refl
ends_append d c (x ∷ xs) ys = by (same_direction d x.direction && bytes_eq c x.channel) (ends_append d c xs ys)
  where
    by : (b : Bool) → ends d c (xs ++ ys) ≡ ends d c xs ++ ends d c ys →
        cond b (x.end ∷ ends d c (xs ++ ys)) (ends d c (xs ++ ys)) ≡ cond b (x.end ∷ ends d c xs) (ends d c xs) ++ ends d c ys
    by true h = ap (λ r. x.end ∷ r) h
    by false h = h

abbrev pub as_channels : Kind → Role → List Name → List (Name × Global)
as_channels kind role xs = map (λ x. (x, IsChannel kind role)) xs

pub bytes_self : (x : List ℕ) → bytes_eq x x ≡ true
bytes_self x = (bytes_eq-Decides x x).1 refl

abbrev pub IsServed : Direction → Role → List Side → Type 0
IsServed d role es = AtMostOne es × (is_closed d role ≡ true → es ≡ [])

single : (es : List Side) → IsOne es → AtMostOne es
single es h = subst AtMostOne (sym h.1) tt

pub served : (t : Program) (n : Name) (kind : Kind) (role : Role) (d : Direction) → IsWired t (n, (kind, role)) → IsServed d role (ends d (bytes_of n) (handed_from t 0 t.instances.items))
served t n kind Inner Out h = (single (writers t (bytes_of n)) h.0, λ i. cc)
served t n kind Inner In h = (single (readers t (bytes_of n)) h.1, λ i. cc)
served t n kind Input Out h = (subst AtMostOne (sym h.0) tt, λ i. h.0)
served t n kind Input In h = (single (readers t (bytes_of n)) h.1, λ i. cc)
served t n kind Output Out h = (single (writers t (bytes_of n)) h.0, λ i. cc)
served t n kind Output In h = (subst AtMostOne (sym h.1) tt, λ i. h.1)
