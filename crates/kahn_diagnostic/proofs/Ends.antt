-- Where what is shown of a line ends.
use Rattle.kahn_diagnostic.proofs.Common.{◌≡◌, ◌∙◌, ◌-◌, ◌==◌, ◌&&◌, ◌<◌, ◌≤◌, ℕ, Bool, ◌+◌, List, length, ap, arith, drop, if◌then◌else◌, nat_lt, not, min, slice_index_or, sym, true, false}
use Rattle.std.proofs.Common.{get_or}
use Rattle.std.specs.List.{prefix_len}
use Rattle.std.proofs.lemmas.Bool.Decides.{nat_tests}
use Rattle.std.proofs.lemmas.List.Sums.{prefix_len-drop_yes, prefix_len-drop_no, prefix_len-drop_all}
use Rattle.kahn_diagnostic.specs.Marks.{left_of_line, line_end, near_end}

passes : (b : ℕ) → ¬ (b ≡ 10) → not (b == 10) ≡ true
passes b h = grind (arith, nat_tests, h)

stops : (b : ℕ) → b ≡ 10 → not (b == 10) ≡ false
stops b h = grind (arith, nat_tests, h)

-- one byte more on the line
pub one_more : (text : List ℕ) (from end : ℕ) → from ≤ end → end < length text → ¬ (get_or text end 0 ≡ 10) → left_of_line text from ≡ (end - from) + left_of_line text end
    → left_of_line text from ≡ ((end + 1) - from) + left_of_line text (end + 1)
one_more text from end low inside other before =
    omega (arith, low, before, prefix_len-drop_yes (λ b. not (b == 10)) text end 0 inside (passes (get_or text end 0) other))

-- where it ends: at the line feed, or with the text
pub none_more : (text : List ℕ) (from end : ℕ) → from ≤ end → end < length text → get_or text end 0 ≡ 10 → left_of_line text from ≡ (end - from) + left_of_line text end → from + left_of_line text from ≡ end
none_more text from end low inside is before =
    omega (arith, low, before, prefix_len-drop_no (λ b. not (b == 10)) text end 0 inside (stops (get_or text end 0) is))

pub none_left : (text : List ℕ) (from end : ℕ) → from ≤ end → length text ≤ end → left_of_line text from ≡ (end - from) + left_of_line text end → from + left_of_line text from ≡ end
none_left text from end low past before =
    omega (arith, low, before, prefix_len-drop_all (λ b. not (b == 10)) text end past)

-- a line's end is its last byte or the one behind
not_far : (text : List ℕ) (i : ℕ) → i ≤ line_end text i + 1
not_far text i = by (nat_lt i (length text) && slice_index_or text (i - 1) 0 == 13)
  where
    by : (b : Bool) → i ≤ (if b then i - 1 else i) + 1
    by true = omega arith
    by false = omega arith

-- of a long line so much is shown
pub far : (text : List ℕ) (from end : ℕ) → from ≤ end → 80 < end - from → left_of_line text from ≡ (end - from) + left_of_line text end → from + 80 ≡ near_end text from
far text from end low long before = omega (arith, low, long, before, not_far text (from + left_of_line text from))

-- of a short one all
line_end_not : (text : List ℕ) (i : ℕ) → (nat_lt i (length text) && slice_index_or text (i - 1) 0 == 13) ≡ false → line_end text i ≡ i
line_end_not text i h = ap (λ b. if b then i - 1 else i) h

line_end_is : (text : List ℕ) (i : ℕ) → (nat_lt i (length text) && slice_index_or text (i - 1) 0 == 13) ≡ true → line_end text i ≡ i - 1
line_end_is text i h = ap (λ b. if b then i - 1 else i) h

pub whole : (text : List ℕ) (from end : ℕ) → from ≤ end → end - from ≤ 80 → from + left_of_line text from ≡ end → (nat_lt end (length text) && slice_index_or text (end - 1) 0 == 13) ≡ false → end ≡ near_end text from
whole text from end low short is h = omega (arith, low, short, ap (line_end text) is ∙ line_end_not text end h)

pub without : (text : List ℕ) (from end : ℕ) → from ≤ end → end - from ≤ 80 → from + left_of_line text from ≡ end → (nat_lt end (length text) && slice_index_or text (end - 1) 0 == 13) ≡ true → end - 1 ≡ near_end text from
without text from end low short is h = omega (arith, low, short, ap (line_end text) is ∙ line_end_is text end h)
