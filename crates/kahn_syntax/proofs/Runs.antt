-- The value of a run of digits.
use Rattle.kahn_syntax.proofs.Common.{cases_lt, ◌≡◌, ℕ, ◌+◌, ◌-◌, ◌≤◌, ◌<◌, ◌⊎◌, List, length, get_or, drop, arith, ⊎_elim, Ok, Err, ℤ, pos, length-drop, length-take, w64, slice_range, IsInRange, digits_value, ParsesSigned, get_or-take, get_or-drop, parse_signed_digits, numerals_by_value, tells_by_index, IsNumeralModel, nat_tests, IsRun, largest_number}

abbrev pub AreDigits : List ℕ → Type 0
AreDigits ds = (i : ℕ) → i < length ds → IsInRange 48 57 (get_or ds i 0)

decimal : IsNumeralModel AreDigits (digits_value 10)
decimal = numerals_by_value AreDigits tells_by_index

pub length_slice : (text : List ℕ) (a b : ℕ) → a ≤ b → b ≤ length text → length (slice_range text a b) ≡ b - a
length_slice text a b order inside = simp (length-take, length-drop) (omega arith)

run_digits : (text : List ℕ) (a b : ℕ) → b ≤ length text → IsRun text a b → AreDigits (slice_range text a b)
run_digits text a b inside run i below =
    let l : length (slice_range text a b) ≡ b - a = length_slice text a b (omega (arith, run.0)) inside in
    let h : i < b - a = omega arith in
    let d : IsInRange 48 57 (get_or text (a + i) 0) = run.1 (a + i) (omega arith) (omega arith) in
    rw (get_or-take (b - a) (drop a text) i 0 h, get_or-drop a text i 0) d

-- a run that is read as a number is small enough
pub run_value : (E : Type 0) (text : List ℕ) (a b : ℕ) (n : ℤ) → b ≤ length text → IsRun text a b → ParsesSigned {E = E} w64 10 (slice_range text a b) (Ok n) →
    (n ≡ pos (digits_value 10 (slice_range text a b))) × (digits_value 10 (slice_range text a b) ≤ largest_number)
run_value E text a b n inside run parsed =
    let ds : List ℕ = slice_range text a b in
    let read = parse_signed_digits decimal {E = E} w64 ds (Ok n) parsed (run_digits text a b inside run) in
    let small : digits_value 10 ds < 9223372036854775808 = read.0.1 in
    (read.1, omega arith)

-- a run that isn't read as a number is too large
pub run_large : {E : Type 0} (text : List ℕ) (a b : ℕ) (e : E) → b ≤ length text → IsRun text a b → ParsesSigned w64 10 (slice_range text a b) (Err e) →
    largest_number < digits_value 10 (slice_range text a b)
run_large {E = E} text a b e inside run parsed =
    let ds : List ℕ = slice_range text a b in
    let l : length ds ≡ b - a = length_slice text a b (omega (arith, run.0)) inside in
    let some : 0 < length ds = omega (arith, run.0) in
    let no = parse_signed_digits decimal w64 ds (Err e) parsed (run_digits text a b inside run) in
    ⊎_elim (λ small. absurd (no (some, small))) (λ large. omega arith) (cases_lt (digits_value 10 ds) 9223372036854775808)
