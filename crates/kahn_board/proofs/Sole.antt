-- The one instance to which a channel is handed to be read, or to be written, is the first one.
use Rattle.kahn_board.proofs.Common.{◌≡◌, ℕ, ◌<◌, List, cond, length, get_or, position, list_any, ap, sym, refl, ◌∙◌, arith, eq-eqb, Bool, true, false, true≢false, Some, None, Program, Schema, Node, Actual, Reads, Writes, Hands, idle, is_written, network_of, wires, is_read, position_or_len, pos, nat_lt, get_or_default, position_or_len_is}
use Rattle.std.specs.Prelude.{slice_index_or}
use Rattle.std.proofs.{lemmas.Bool.eqb-true, lemmas.Bool.lt-ltb, lemmas.Bool.le-ltb, lemmas.List.Folds.Any-from_list_any, lemmas.List.Folds.list_any_at, lemmas.List.Quantifiers.position-Some}
use Rattle.kahn_streams.specs.Syntax as S

pub reader_in : (program : Program) (c p : ℕ) → (wires program).reader c ≡ Some p → p < (wires program).instances
unfolding wires
reader_in program c p e = (position-Some (λ i. list_any (λ a. is_read a c) i.actuals) (network_of program).instances p idle e).0

pub writer_in : (program : Program) (c p : ℕ) → (wires program).writer c ≡ Some p → p < (wires program).instances
unfolding wires
writer_in program c p e = (position-Some (λ i. list_any (λ a. is_written a c) i.actuals) (network_of program).instances p idle e).0

abbrev pub nothing : Actual
nothing = Hands (S.Number (pos 0))

not_so : (b : Bool) → (b ≡ true → ⊥) → b ≡ false
not_so true n = absurd (n refl)
not_so false n = refl

module _ {A : Type 0} (f : A → Bool) (xs : List A) (d : A) where
  -- the one that passes is the first
  pub sole_first : (p : ℕ) → p < length xs → f (get_or xs p d) ≡ true → ((k : ℕ) → k < length xs → f (get_or xs k d) ≡ true → k ≡ p) → position f xs ≡ Some p
  sole_first p lt e only =
      let at : position_or_len f xs ≡ p = position_or_len_is f xs p d (omega arith) (λ k less. not_so (f (get_or xs k d)) (λ h. omega (arith, only k (omega arith) h))) (λ _. e) in
      ap (λ (k : ℕ). cond (nat_lt k (length xs)) (Some k) None) at ∙ ap (λ b. cond b (Some p) None) (lt-ltb p (length xs) lt)

  none_first : ((k : ℕ) → k < length xs → f (get_or xs k d) ≡ true → ⊥) → position f xs ≡ None
  none_first none =
      let at : position_or_len f xs ≡ length xs = position_or_len_is f xs (length xs) d (omega arith) (λ k less. not_so (f (get_or xs k d)) (none k less)) (λ lt. absurd (omega arith)) in
      ap (λ (k : ℕ). cond (nat_lt k (length xs)) (Some k) None) at ∙ ap (λ b. cond b (Some (length xs)) None) (le-ltb (length xs) (length xs) (omega arith))

read_is : (a : Actual) (c : ℕ) → is_read a c ≡ true → a ≡ Reads c
read_is (Reads d) c e = ap Reads (eqb-true d c e)
read_is (Writes d) c e = absurd (true≢false (sym e))
read_is (Hands v) c e = absurd (true≢false (sym e))

written_is : (a : Actual) (c : ℕ) → is_written a c ≡ true → a ≡ Writes c
written_is (Reads d) c e = absurd (true≢false (sym e))
written_is (Writes d) c e = ap Writes (eqb-true d c e)
written_is (Hands v) c e = absurd (true≢false (sym e))

-- the actual q of the instance p is a
abbrev pub Is : Schema → Actual → ℕ → ℕ → Type 0
Is n a p q = (p < length n.instances) × (q < length (slice_index_or n.instances p idle).actuals) × (slice_index_or (slice_index_or n.instances p idle).actuals q nothing ≡ a)

-- an instance has an actual that passes just where it is there
module _ (N : Schema) (is : Actual → Bool) (a : Actual) (so : (b : Actual) → is b ≡ true → b ≡ a) where
  abbrev has : Node → Bool
  has i = list_any is i.actuals

  found : (p : ℕ) → p < length N.instances → has (slice_index_or N.instances p idle) ≡ true → (q : ℕ) × Is N a p q
  found p lt e = let xs = (slice_index_or N.instances p idle).actuals in let t = Any-from_list_any is xs e in (t.0, (lt, t.2, get_or_default xs t.0 nothing t.1 t.2 ∙ (t.3 ∙ so t.1 t.4)))

  sole : is a ≡ true → (p q : ℕ) → Is N a p q → ((p' q' : ℕ) → Is N a p' q' → p' ≡ p) → position has N.instances ≡ Some p
  sole passes p q h only = sole_first has N.instances idle p h.0 (list_any_at is (slice_index_or N.instances p idle).actuals q nothing h.1 (ap is h.2 ∙ passes)) (λ k lt e. let t = found k lt e in only k t.0 t.1)

  none : ((p q : ℕ) → Is N a p q → ⊥) → position has N.instances ≡ None
  none nobody = none_first has N.instances idle (λ k lt e. let t = found k lt e in nobody k t.0 t.1)

pub sole_reader : (program : Program) (c p q : ℕ) → Is (network_of program) (Reads c) p q → ((p' q' : ℕ) → Is (network_of program) (Reads c) p' q' → p' ≡ p) → (wires program).reader c ≡ Some p
unfolding wires
sole_reader program c = sole (network_of program) (λ a. is_read a c) (Reads c) (λ b. read_is b c) (eq-eqb c c refl)

pub no_reader : (program : Program) (c : ℕ) → ((p q : ℕ) → Is (network_of program) (Reads c) p q → ⊥) → (wires program).reader c ≡ None
unfolding wires
no_reader program c = none (network_of program) (λ a. is_read a c) (Reads c) (λ b. read_is b c)

pub sole_writer : (program : Program) (c p q : ℕ) → Is (network_of program) (Writes c) p q → ((p' q' : ℕ) → Is (network_of program) (Writes c) p' q' → p' ≡ p) → (wires program).writer c ≡ Some p
unfolding wires
sole_writer program c = sole (network_of program) (λ a. is_written a c) (Writes c) (λ b. written_is b c) (eq-eqb c c refl)

pub no_writer : (program : Program) (c : ℕ) → ((p q : ℕ) → Is (network_of program) (Writes c) p q → ⊥) → (wires program).writer c ≡ None
unfolding wires
no_writer program c = none (network_of program) (λ a. is_written a c) (Writes c) (λ b. written_is b c)
