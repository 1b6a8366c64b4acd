-- Lines and columns of the next byte.
use Rattle.kahn_diagnostic.proofs.Common.{◌≡◌, ◌∙◌, ◌-◌, ◌==◌, ◌<◌, ◌≤◌, ℕ, ◌+◌, List, length, ap, arith, not, take, count_by, min, suffix_len, column_of, line_of, true, false}
use Rattle.std.proofs.Common.{get_or}
use Rattle.std.proofs.lemmas.{Bool.Decides.nat_tests, List.length-take}
use Rattle.std.proofs.lemmas.List.Sums.{count_by_more_yes, count_by_more_no, count_by-le-length, suffix_len-take_yes, suffix_len-take_no, suffix_len-le-length}

is_end : (b : ℕ) → b ≡ 10 → (b == 10) ≡ true
is_end b h = grind (arith, nat_tests, h)

is_other : (b : ℕ) → ¬ (b ≡ 10) → (b == 10) ≡ false
is_other b h = grind (arith, nat_tests, h)

passes : (b : ℕ) → ¬ (b ≡ 10) → not (b == 10) ≡ true
passes b h = grind (arith, nat_tests, h)

stops : (b : ℕ) → b ≡ 10 → not (b == 10) ≡ false
stops b h = grind (arith, nat_tests, h)

-- behind a line feed, and behind another byte
pub line_after_end : (text : List ℕ) (at : ℕ) → at < length text → get_or text at 0 ≡ 10 → line_of text (at + 1) ≡ line_of text at + 1
line_after_end text at h e = ap (λ n. n + 1) (count_by_more_yes (λ b. b == 10) text at 0 h (is_end (get_or text at 0) e))

pub line_after_other : (text : List ℕ) (at : ℕ) → at < length text → ¬ (get_or text at 0 ≡ 10) → line_of text (at + 1) ≡ line_of text at
line_after_other text at h e = ap (λ n. n + 1) (count_by_more_no (λ b. b == 10) text at 0 h (is_other (get_or text at 0) e))

pub column_after_end : (text : List ℕ) (at : ℕ) → at < length text → get_or text at 0 ≡ 10 → column_of text (at + 1) ≡ 1
column_after_end text at h e =
    ap (λ n. n + 1) (suffix_len-take_no (λ b. not (b == 10)) text (at + 1) 0 (omega arith) (omega (arith, h)) (ap (λ n. not (get_or text n 0 == 10)) same ∙ stops (get_or text at 0) e))
  where
    same : (at + 1) - 1 ≡ at
    same = omega arith

pub column_after_other : (text : List ℕ) (at : ℕ) → at < length text → ¬ (get_or text at 0 ≡ 10) → column_of text (at + 1) ≡ column_of text at + 1
column_after_other text at h e =
    ap (λ n. n + 1) (suffix_len-take_yes (λ b. not (b == 10)) text (at + 1) 0 (omega arith) (omega (arith, h)) (ap (λ n. not (get_or text n 0 == 10)) same ∙ passes (get_or text at 0) e)
    ∙ ap (λ n. 1 + suffix_len (λ b. not (b == 10)) (take n text)) same ∙ turned (suffix_len (λ b. not (b == 10)) (take at text)))
  where
    same : (at + 1) - 1 ≡ at
    same = omega arith

    turned : (n : ℕ) → 1 + n ≡ n + 1
    turned n = omega arith

-- there are no more lines and columns than bytes before, and one
pub few_lines : (text : List ℕ) (at : ℕ) → line_of text at ≤ at + 1
few_lines text at = omega (arith, count_by-le-length (λ b. b == 10) (take at text), length-take at text)

pub few_columns : (text : List ℕ) (at : ℕ) → column_of text at ≤ at + 1
few_columns text at = omega (arith, suffix_len-le-length (λ b. not (b == 10)) (take at text), length-take at text)
