-- The lines of a row, one after the other.
use Rattle.kahn_live.proofs.Common.{[], arith, not, ◌≡◌, ◌∙◌, ◌<◌, inl, ℕ, Bool, List, ◌∷◌, ◌++◌, length, map, take, drop, Option, None, Some, Result, Ok, Err, refl, sym, ap, ap₂, subst, Fault, HeldRun, IsMeantLine, Live, stream_of, TakeFault, IsAloneMet, IsBrokenOff, IsLineMet, Point, Global, Vec, length-drop, list_any, position_or_len, ◌==◌, AreCells, AreMeant, HaveStreams, IsRowFront, bare_of, behind_word, bytes_in, row_line, first_word, from_word, is_row_gap, is_wordless}
use Rattle.std.proofs.lemmas.List.{length-take}
use Rattle.std.specs.Prelude.{if◌then◌else◌}

-- one line more
cells_more : (blank : Bool) (names words : List ℕ) (cells : List (List ℕ)) (rest left cell : List ℕ) → AreCells blank names words cells rest left → 0 < length (first_word rest)
    → is_wordless left ≡ blank → cell ≡ row_line (first_word rest) (first_word left) → AreCells blank names words (cells ++ (cell ∷ [])) (behind_word rest) (behind_word left)
cells_more blank names words [] rest left cell (p, q) some fits is = (
  subst (λ (n : List ℕ). 0 < length (first_word n)) p some,
  subst (λ (w : List ℕ). is_wordless w ≡ blank) q fits,
  is ∙ ap₂ (λ (n w : List ℕ). row_line (first_word n) (first_word w)) p q,
  (ap behind_word p, ap behind_word q),
)
cells_more blank names words (x ∷ xs) rest left cell (some0, fits0, is0, more) some fits is =
    (some0, fits0, is0, cells_more blank (behind_word names) (behind_word words) xs rest left cell more some fits is)

meant_last : (s : Live) (cells : List (List ℕ)) (cell : List ℕ) → AreMeant s cells → IsMeantLine cell s.flow.run.network → AreMeant s (cells ++ (cell ∷ []))
meant_last s [] cell are one = (one, tt)
meant_last s (x ∷ xs) cell (meant, are) one = (meant, meant_last s xs cell are one)

pub last_in : (cells : List (Vec ℕ Global)) (cell : Vec ℕ Global) → map bytes_in (cells ++ (cell ∷ [])) ≡ map bytes_in cells ++ (bytes_in cell ∷ [])
last_in [] cell = refl
last_in (x ∷ xs) cell = ap (λ (l : List (List ℕ)). bytes_in x ∷ l) (last_in xs cell)

pub front_more : (s : Live) (names row : List ℕ) (cells new : List (List ℕ)) (rest left cell : List ℕ) → IsRowFront s names row cells rest left → 0 < length (first_word rest)
    → is_wordless left ≡ is_wordless row → cell ≡ row_line (first_word rest) (first_word left) → IsMeantLine cell s.flow.run.network → new ≡ cells ++ (cell ∷ [])
    → IsRowFront s names row new (behind_word rest) (behind_word left)
front_more s names row cells new rest left cell (are, meant) some fits is one grown = subst (λ (cs : List (List ℕ)). IsRowFront s names row cs (behind_word rest) (behind_word left)) (sym grown)
    (cells_more (is_wordless row) names row cells rest left cell are some fits is, meant_last s cells cell meant one)

-- the stream of one name more
pub streams_more : (h : HeldRun) (names : List ℕ) (numbers new : List ℕ) (rest : List ℕ) (number : ℕ) → HaveStreams h names numbers rest → 0 < length (first_word rest)
    → stream_of h (first_word rest) ≡ Some number → new ≡ numbers ++ (number ∷ []) → HaveStreams h names new (behind_word rest)
streams_more h names numbers new rest number are some here grown =
    subst (λ (ns : List ℕ). HaveStreams h names ns (behind_word rest)) (sym grown) (by names numbers are)
  where
    by : (names numbers : List ℕ) → HaveStreams h names numbers rest → HaveStreams h names (numbers ++ (number ∷ [])) (behind_word rest)
    by names [] is = (subst (λ (n : List ℕ). 0 < length (first_word n)) is some, subst (λ (n : List ℕ). stream_of h (first_word n) ≡ Some number) is here, ap behind_word is)
    by names (n ∷ ns) (some0, here0, more) = (some0, here0, by (behind_word names) ns more)

-- a line that isn't one of a row
pub alone_met : (number : ℕ) (line fed : List ℕ) (old new : Point) (r : Result (Option TakeFault) Fault) → fed ≡ line → IsLineMet number fed old new r → IsAloneMet number line old new r
alone_met number line fed old new (Ok r) is met = inl (subst (λ (l : List ℕ). IsLineMet number l old new (Ok r)) is met)
alone_met number line fed old new (Err fault) is met = subst (λ (l : List ℕ). IsBrokenOff l old new fault) is met

-- behind a word there are fewer bytes
split_less : (k : ℕ) (from : List ℕ) → 0 < length (take k from) → length (drop k from) < length from
split_less k from some = omega (arith, some, length-take k from, length-drop k from)

pub fewer : (bytes : List ℕ) → 0 < length (first_word bytes) → length (behind_word bytes) < length bytes
fewer bytes some =
    let start = position_or_len (λ b. not (is_row_gap b)) bytes in
    let less = split_less (position_or_len is_row_gap (from_word bytes)) (from_word bytes) some in
    omega (arith, less, length-drop start bytes)

-- the name of one
pub bare_by : (i : Option (List ℕ)) (names : List ℕ) (b : Bool) → i ≡ Some names → b ≡ list_any (λ x. x == 44) names → bare_of i ≡ (if b then None else Some names)
bare_by i names b are is = ap bare_of are ∙ ap (λ (t : Bool). if t then None else Some names) (sym is)
