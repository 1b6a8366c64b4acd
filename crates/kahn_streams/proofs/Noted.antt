-- A table of numbers while names are noted in it, one after another.
use Rattle.kahn_streams.proofs.Common.{◌≡◌, ℕ, suc, ◌+◌, Bool, true, false, List, ◌∷◌, length, Option, None, Some, refl, sym, ap, subst, ◌∙◌, arith, cond, if◌then◌else◌, bytes_eq, common_steps, bytes_eq-Decides, update, Process, Scope, place_of, names_of, number_in, noted, []}

-- what stands for a name once all these are noted, the first with the number n
abbrev pub noted_all : Scope → ℕ → List ℕ → Option ℕ → Option ℕ
noted_all [] n x o = o
noted_all (y ∷ ys) n x o = noted_all ys (suc n) x (noted (bytes_eq x y) n o)

noted_some : (ys : Scope) (n : ℕ) (x : List ℕ) (k : ℕ) → noted_all ys n x (Some k) ≡ Some k
noted_some [] n x k = refl
noted_some (y ∷ ys) n x k = noted_some ys (suc n) x k

noted_false : (o : Option ℕ) (n : ℕ) → noted false n o ≡ o
noted_false None n = refl
noted_false (Some k) n = refl

numbers_from : (ys : Scope) (n : ℕ) (x : List ℕ) → number_in (n + length ys) (noted_all ys n x None) ≡ n + place_of ys x
numbers_from [] n x = refl
numbers_from (y ∷ ys) n x = by (bytes_eq x y) (numbers_from ys (suc n) x)
  where
    by : (b : Bool) → number_in (suc n + length ys) (noted_all ys (suc n) x None) ≡ suc n + place_of ys x →
        number_in (n + suc (length ys)) (noted_all ys (suc n) x (noted b n None)) ≡ n + (if b then 0 else suc (place_of ys x))
    by true h =
        let zero : n ≡ n + 0 = omega arith in
        ap (number_in (n + suc (length ys))) (noted_some ys (suc n) x n) ∙ zero
    by false h =
        let left : n + suc (length ys) ≡ suc n + length ys = omega arith in
        let right : suc n + place_of ys x ≡ n + suc (place_of ys x) = omega arith in
        ap (λ m. number_in m (noted_all ys (suc n) x None)) left ∙ h ∙ right

-- once all are noted in an empty table it has the number of each
pub all_numbers : (ys : Scope) (x : List ℕ) → number_in (length ys) (noted_all ys 0 x None) ≡ place_of ys x
all_numbers ys x =
    let left : length ys ≡ 0 + length ys = omega arith in
    let right : 0 + place_of ys x ≡ place_of ys x = omega arith in
    ap (λ m. number_in m (noted_all ys 0 x None)) left ∙ numbers_from ys 0 x ∙ right

-- a name that has no number is noted
pub noted_new : (f : List ℕ → Option ℕ) (y x : List ℕ) (n : ℕ) → f y ≡ None → update bytes_eq f y (Some n) x ≡ noted (bytes_eq x y) n (f x)
noted_new f y x n h = by (bytes_eq x y) refl
  where
    by : (b : Bool) → bytes_eq x y ≡ b → update bytes_eq f y (Some n) x ≡ noted b n (f x)
    by true e =
        let same : x ≡ y = (bytes_eq-Decides x y).0 e in
        let turned : bytes_eq y x ≡ true = subst (λ z. bytes_eq y z ≡ true) (sym same) ((bytes_eq-Decides y y).1 refl) in
        ap (λ z. cond z (Some n) (f x)) turned ∙ sym (ap (noted true n) (ap f same ∙ h))
    by false e =
        let turned : bytes_eq y x ≡ false = grind (arith, e, bytes_eq-Decides x y, bytes_eq-Decides y x) in
        ap (λ z. cond z (Some n) (f x)) turned ∙ sym (noted_false (f x) n)

pub names_count : (p : Process) → length p.parameters.items + length p.variables.items ≡ length (names_of p)
names_count p = grind (arith, common_steps)
