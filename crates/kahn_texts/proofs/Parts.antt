-- The parts of a line, one after another.
use Rattle.kahn_texts.proofs.Common.{◌≡◌, ℕ, ◌+◌, ◌<◌, List, [], ◌∷◌, ◌++◌, length, drop, get_or, ap, sym, ◌∙◌, subst, add-one, drop-cons, arith, append_assoc, append-nil, drop_of_length-le, ◌≤◌, IsValue, SpellsValues, Value}

-- the parts from k on, the first of which is the word
pub from_part : (parts : List (List ℕ)) (k : ℕ) (word : List ℕ) → (k < length parts) × (word ≡ get_or parts k word) → drop k parts ≡ word ∷ drop (k + 1) parts
from_part parts k word h =
    let e : drop k parts ≡ get_or parts k word ∷ drop (k + 1) parts = rw add-one (drop-cons parts k word h.0) in
    e ∙ ap (λ (w : List ℕ). w ∷ drop (k + 1) parts) (sym h.1)

-- an empty part says nothing
pub skips : (word : List ℕ) (parts : List (List ℕ)) (values : List Value) → length word ≡ 0 → SpellsValues parts values → SpellsValues (word ∷ parts) values
skips [] parts values e h = h
skips (b ∷ bs) parts values e h = absurd (omega (arith, e))

pub skipped : (word : List ℕ) (parts : List (List ℕ)) (values : List Value) → length word ≡ 0 → SpellsValues (word ∷ parts) values → SpellsValues parts values
skipped [] parts values e h = h
skipped (b ∷ bs) parts values e h = absurd (omega (arith, e))

-- a part that is a value
pub spells_more : (word : List ℕ) (parts : List (List ℕ)) (value : Value) (values : List Value) → 0 < length word → IsValue word value → SpellsValues parts values → SpellsValues (word ∷ parts) (value ∷ values)
spells_more [] parts value values e is h = absurd (omega (arith, e))
spells_more (b ∷ bs) parts value values e is h = (is, h)

pub spelled : (word : List ℕ) (parts : List (List ℕ)) (values : List Value) → 0 < length word → SpellsValues (word ∷ parts) values
    → (value : Value) × (rest : List Value) × IsValue word value × SpellsValues parts rest
spelled [] parts values e h = absurd (omega (arith, e))
spelled (b ∷ bs) parts [] e h = absurd h
spelled (b ∷ bs) parts (v ∷ vs) e h = (v, vs, h.0, h.1)

-- the step of a reader over the parts, of which those before k are read: at m, one part on
module _ (parts : List (List ℕ)) (k m : ℕ) (word : List ℕ) (e : m ≡ k + 1) (here : drop k parts ≡ word ∷ drop (k + 1) parts) where
  pub all_skips : (done : List Value) → length word ≡ 0 → ((values : List Value) → SpellsValues (drop k parts) values → SpellsValues parts (done ++ values))
      → (values : List Value) → SpellsValues (drop m parts) values → SpellsValues parts (done ++ values)
  all_skips done none all values h =
      all values (subst (λ l. SpellsValues l values) (sym here) (skips word (drop (k + 1) parts) values none (subst (λ n. SpellsValues (drop n parts) values) e h)))

  pub only_skips : length word ≡ 0 → ((values : List Value) → SpellsValues parts values → (rest : List Value) × SpellsValues (drop k parts) rest)
      → (values : List Value) → SpellsValues parts values → (rest : List Value) × SpellsValues (drop m parts) rest
  only_skips none only values h =
      let (rest, q) = only values h in
      (rest, subst (λ n. SpellsValues (drop n parts) rest) (sym e) (skipped word (drop (k + 1) parts) rest none (subst (λ l. SpellsValues l rest) here q)))

  pub all_more : (done new : List Value) (value : Value) → 0 < length word → IsValue word value → new ≡ done ++ (value ∷ [])
      → ((values : List Value) → SpellsValues (drop k parts) values → SpellsValues parts (done ++ values))
      → (values : List Value) → SpellsValues (drop m parts) values → SpellsValues parts (new ++ values)
  all_more done new value some is push all values h =
      subst (SpellsValues parts) (sym (ap (λ l. l ++ values) push ∙ append_assoc done (value ∷ []) values))
      (all (value ∷ values) (subst (λ l. SpellsValues l (value ∷ values)) (sym here)
      (spells_more word (drop (k + 1) parts) value values some is (subst (λ n. SpellsValues (drop n parts) values) e h))))

  pub only_more : 0 < length word → ((values : List Value) → SpellsValues parts values → (rest : List Value) × SpellsValues (drop k parts) rest)
      → (values : List Value) → SpellsValues parts values → (rest : List Value) × SpellsValues (drop m parts) rest
  only_more some only values h =
      let (rest, q) = only values h in
      let (value, others, is, more) = spelled word (drop (k + 1) parts) rest some (subst (λ l. SpellsValues l rest) here q) in
      (others, subst (λ n. SpellsValues (drop n parts) others) (sym e) more)

-- a part that is neither empty nor a value
pub spells_none : (parts : List (List ℕ)) (k : ℕ) (word : List ℕ) → drop k parts ≡ word ∷ drop (k + 1) parts → 0 < length word
    → ((value : Value) → IsValue word value → ⊥) → ((values : List Value) → SpellsValues parts values → (rest : List Value) × SpellsValues (drop k parts) rest)
    → (values : List Value) → SpellsValues parts values → ⊥
spells_none parts k word here some none only values h =
    let (rest, q) = only values h in
    let (value, others, is, more) = spelled word (drop (k + 1) parts) rest some (subst (λ l. SpellsValues l rest) here q) in
    none value is

-- all parts are read
pub spells_all : (parts : List (List ℕ)) (k : ℕ) (done : List Value) → length parts ≤ k
    → ((values : List Value) → SpellsValues (drop k parts) values → SpellsValues parts (done ++ values)) → SpellsValues parts done
spells_all parts k done past all =
    let none : drop k parts ≡ [] = drop_of_length-le parts past in
    subst (SpellsValues parts) (append-nil done) (all [] (subst (λ l. SpellsValues l []) (sym none) tt))
