-- What the names of a program stand for.
use Rattle.kahn_check.proofs.Common.{arith, nat_tests, ◌≡◌, ℕ, zero, suc, drop, ap, slice_get, Some, List, [], ◌∷◌, ◌++◌, IfSome, refl, bytes_eq, map-append, lookup, Declaration, global_of, option_global, known, IsPlaced, ArePlaced}
use Rattle.kahn_check.specs.declared.names.Entry.{Entry}

pub find_global : (x : List ℕ) (es : List (List ℕ × Entry)) → lookup (bytes_eq x) (known es) ≡ option_global (lookup (bytes_eq x) es)
find_global x [] = refl
find_global x (e ∷ es) = grind (arith, nat_tests, find_global x es)

pub one_more_known : (es : List (List ℕ × Entry)) (x : List ℕ) (w : Entry) → known (es ++ (x, w) ∷ []) ≡ known es ++ (x, global_of w) ∷ []
one_more_known es x w = map-append (λ (e : List ℕ × Entry). (e.0, global_of e.1)) es ((x, w) ∷ [])

-- ---- where processes are declared

pub placed_found : (ds : List Declaration) (x : List ℕ) (es : List (List ℕ × Entry)) → ArePlaced ds es → IfSome (lookup (bytes_eq x) es) (IsPlaced ds)
placed_found ds x [] h = tt
placed_found ds x (e ∷ es) h = grind (arith, nat_tests, placed_found ds x es h.1, h.0)

pub placed_more : (ds : List Declaration) (es : List (List ℕ × Entry)) (x : List ℕ) (w : Entry) → ArePlaced ds es → IsPlaced ds w → ArePlaced ds (es ++ (x, w) ∷ [])
placed_more ds [] x w h i = (i, tt)
placed_more ds (e ∷ es) x w h i = (h.0, placed_more ds es x w h.1 i)

pub there : (k : ℕ) (all : List Declaration) (d : Declaration) (rest : List Declaration) → drop k all ≡ d ∷ rest → slice_get all k ≡ Some d
there zero (e ∷ es) d rest h = let same : e ≡ d = cc in ap Some same
there (suc k) (e ∷ es) d rest h = there k es d rest h
there _ _ d rest h = cc
