-- Names in turn, each of which may stand for something already.
use Rattle.kahn_check.proofs.Common.{◌≡◌, ℕ, List, [], ◌∷◌, ◌++◌, Option, None, Some, IsSome, Err, refl, ap, bytes_eq, append_assoc, lookup, Name, bytes_of, DeclaredTwice, verdict, repeated, twice, entries}

pub twice_new : {A : Type 0} (known : List (List ℕ × A)) (e : Name × A) (es : List (Name × A)) → lookup (bytes_eq (bytes_of e.0)) known ≡ None →
    twice known (e ∷ es) ≡ twice (known ++ (bytes_of e.0, e.1) ∷ []) es
twice_new known e es h = ap (λ o. repeated o e.0.span ++ twice (known ++ (bytes_of e.0, e.1) ∷ []) es) h

pub twice_known : {A : Type 0} (known : List (List ℕ × A)) (e : Name × A) (es : List (Name × A)) → IsSome (lookup (bytes_eq (bytes_of e.0)) known) →
    verdict (twice known (e ∷ es)) (tt {0}) ≡ Err (DeclaredTwice e.0.span)
twice_known {A = A} known e es h = by (lookup (bytes_eq (bytes_of e.0)) known) h
  where
    by : (o : Option A) → IsSome o → verdict (repeated o e.0.span ++ twice (known ++ (bytes_of e.0, e.1) ∷ []) es) (tt {0}) ≡ Err (DeclaredTwice e.0.span)
    by None i = cc
    by (Some x) i = refl

pub more_entries : {A : Type 0} (known : List (List ℕ × A)) (e : Name × A) (es : List (Name × A)) →
    (known ++ (bytes_of e.0, e.1) ∷ []) ++ entries es ≡ known ++ entries (e ∷ es)
more_entries known e es = append_assoc known _ _
