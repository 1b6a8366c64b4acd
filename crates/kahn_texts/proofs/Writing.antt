-- Texts that are written piece by piece.
use Rattle.kahn_texts.proofs.Common.{◌≡◌, ℕ, ◌+◌, ◌≤◌, List, [], ◌++◌, length, Option, Result, Ok, Err, IsErr, refl, sym, ap, ◌∙◌, append_assoc, append-nil, arith, length-append, length-take, take, drop, ◌-◌, ◌<◌, ◌^◌, decimal, take-append-drop, drop-cons, flat_map, get_or, subst, suc, length-decimal-le, flat_map-append, length-flat_map-take, take_rest, Appends, Keeps, Appends-nil, Appends-trans, Appends-kept, AppendsFront, Writes}

-- a fault in the text's first piece
pub stops : (a b : Option (List ℕ)) (t u : List ℕ) → AppendsFront a b t → AppendsFront a b (t ++ u)
stops a b t u (front, rest, split, gone) =
    (front, rest ++ u, ap (λ l. l ++ u) split ∙ append_assoc front rest u, gone)

-- a fault in a later piece
pub goes_on_front : (a b c : Option (List ℕ)) (t u : List ℕ) → Appends a b t → AppendsFront b c u → AppendsFront a c (t ++ u)
goes_on_front a b c t u first (front, rest, split, gone) =
    (t ++ front, rest, ap (λ l. t ++ l) split ∙ sym (append_assoc t front rest), Appends-trans a b c t front first gone)

-- a piece, and then what follows it
pub goes_on : {X E : Type 0} (a b c : Option (List ℕ)) (r : Result X E) (t u : List ℕ) → Appends a b t → Writes b c r u → Writes a c r (t ++ u)
goes_on a b c (Ok x) t u first second = Appends-trans a b c t u first second
goes_on a b c (Err e) t u first second = goes_on_front a b c t u first second

-- nothing went out
pub nothing : (a b : Option (List ℕ)) (t : List ℕ) → Keeps a b → AppendsFront a b t
nothing a b t kept = ([], t, refl, Appends-kept a a b [] (Appends-nil a) kept)

-- a write took n bytes from the front of what was left
pub moves_front : (all done rest : List ℕ) (n : ℕ) → all ≡ done ++ rest → all ≡ (done ++ take n rest) ++ take (length rest - n) (drop n rest)
moves_front all done rest n e =
    e ∙ ap (λ l. done ++ l) (sym (take-append-drop n rest)) ∙ sym (append_assoc done (take n rest) (drop n rest)) ∙ ap (λ l. (done ++ take n rest) ++ l) (sym (take_rest rest n))

-- a write that took a byte is paid for by it
pub one_more : (old new first : ℕ) (done rest : List ℕ) (n : ℕ) → old ≤ first + length done → new ≡ old + 1 → n ≤ length rest → 0 < n
    → new ≤ first + length (done ++ take n rest)
one_more old new first done rest n few more fits taken =
    omega (arith, length-append done (take n rest), length-take n rest)

-- a call that failed after a prefix of the text
pub fails : {X E : Type 0} (a b : Option (List ℕ)) (r : Result X E) (t : List ℕ) → IsErr r → AppendsFront a b t → Writes a b r t
fails a b (Ok x) t failed front = absurd cc
fails a b (Err e) t failed front = front

-- a list's text in front of the element at i, that of the element, and what follows
pub loop_split : {A : Type 0} (f : A → List ℕ) (xs : List A) (i : ℕ) (d : A) → i < length xs
    → flat_map f xs ≡ flat_map f (take i xs) ++ (f (get_or xs i d) ++ flat_map f (drop (suc i) xs))
loop_split f xs i d below =
    ap (flat_map f) (sym (take-append-drop i xs)) ∙ flat_map-append f (take i xs) (drop i xs)
    ∙ ap (λ l. flat_map f (take i xs) ++ l) (ap (flat_map f) (drop-cons xs i d below))

-- a fault at the element at i
pub loop_fails : {A : Type 0} (f : A → List ℕ) (xs : List A) (i : ℕ) (d : A) (a b c : Option (List ℕ)) → i < length xs
    → Appends a b (flat_map f (take i xs)) → AppendsFront b c (f (get_or xs i d)) → AppendsFront a c (flat_map f xs)
loop_fails f xs i d a b c below first second =
    subst (AppendsFront a c) (sym (loop_split f xs i d below)) (goes_on_front a b c _ _ first (stops b c _ _ second))

-- the writes of the elements up to one are within the whole list's
pub loop_few : {A : Type 0} (f : A → List ℕ) (xs : List A) (i : ℕ) (d : A) (first before after : ℕ) → i < length xs
    → before ≤ first + length (flat_map f (take i xs)) → after ≤ before + length (f (get_or xs i d)) → after ≤ first + length (flat_map f xs)
loop_few f xs i d first before after below few more = omega (arith, length-flat_map-take f xs i d below)

-- the whole text went out, and what came then wrote nothing
pub flushed : {X E : Type 0} (a b c : Option (List ℕ)) (r : Result X E) (t : List ℕ) → Appends a b t → Keeps b c → Writes a c r t
flushed a b c (Ok x) t gone kept = Appends-kept a b c t gone kept
flushed a b c (Err e) t gone kept = (t, [], sym (append-nil t), Appends-kept a b c t gone kept)

-- how many digits the magnitude of a signed number has
pub digits_within : (n : ℕ) → n ≤ 2 ^ 63 → length (decimal n) ≤ 19
digits_within n fits = length-decimal-le 19 n (omega arith) (omega arith) (omega arith)

-- a piece of text is paid for by its bytes
pub few_on : (first before after : ℕ) (done line : List ℕ) → before ≤ first + length done → after ≤ before + length line → after ≤ first + length (done ++ line)
few_on first before after done line few more = omega (arith, length-append done line)
