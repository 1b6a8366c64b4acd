-- Believed. The kinds of steps on the words of a board: who may make them, and what becomes of the words. And what no step at all does to a
-- quiet run.
use Rattle.std.specs.Prelude.{◌≡◌, ◌≢◌, ◌⊎◌, ℕ, ◌+◌, ◌*◌, ◌<◌, ◌≤◌, List, Option, length, slice_index, slice_set}
use mathlib.Core.Option.{some}
use lib.ListN.{get_elem?}
use Rattle.atomic_table.specs.Table.{Act, stepped}
use Rattle.kahn_board.specs.{Plays.IsIn, Rule.St, Rule.budget_at, Rule.channel_at, Rule.count_at, Rule.halted_at, Rule.holds, Rule.total, Rule.up_count, Rule.wired, Wires.Summary, Wires.Wires, declared.board.Terms.Terms, declared.view.SeatView.SeatView}

pub data StepKind : Type 0 where
  -- `looks_ready`, `look`, `report_done`, and all that finds another number than it wants
  loads : StepKind
  -- `claim` of an instance
  claims : ℕ → StepKind
  -- `set_down` of an instance, whose word becomes that number
  sets : ℕ → ℕ → StepKind
  -- `park` or `publish` of an instance on a channel, whose word becomes that number
  tells : ℕ → ℕ → ℕ → StepKind
  -- `count_up`, `count_down`: the count becomes that number
  pays : ℕ → StepKind
  -- `draw`, `give_back`: the budget becomes that number
  draws : ℕ → StepKind
  -- `halt`
  halts : StepKind

-- a seat with the view v may make such a step, where these are the words
abbrev pub MayMake : Wires → SeatView → List ℕ → StepKind → Type 0
MayMake w v words (claims p) = (p < w.instances) × (slice_index words (8 * p) ≡ 0)
MayMake w v words (sets p k) = (p < w.instances) × IsIn v p
MayMake w v words (tells p c k) = (p < w.instances) × IsIn v p
MayMake w v words (pays k) = (0 < length v.owed) ⊎ (0 < v.down)
MayMake w v words kind = Unit {0}

abbrev pub words_after : Wires → List ℕ → StepKind → List ℕ
words_after w words loads = words
words_after w words (claims p) = slice_set words (8 * p) 1
words_after w words (sets p k) = slice_set words (8 * p) k
words_after w words (tells p c k) = slice_set words (channel_at w c) k
words_after w words (pays k) = slice_set words (count_at w) k
words_after w words (draws k) = slice_set words (budget_at w) k
words_after w words halts = slice_set words (halted_at w) 1

-- all words but the budget's and that of the halt are the same
abbrev pub StaysQuiet : Wires → List ℕ → List ℕ → Type 0
StaysQuiet w old new = (i : ℕ) → i ≢ budget_at w → i ≢ halted_at w → slice_index new i ≡ slice_index old i

-- no kind of step of any seat changes another word
abbrev pub StepsQuietly : {T : Type 0} → Terms T → St T → Type 0
StepsQuietly key s =
    (j : ℕ) (v : SeatView) (k : StepKind) → get_elem? s.views j ≡ some v → MayMake (wired key) v s.words k →
    StaysQuiet (wired key) s.words (words_after (wired key) s.words k)

-- how many instances a seat has in its hands
abbrev pub in_hands : SeatView → ℕ
in_hands v = total (λ k. k) v.hands

-- Whichever seat makes a step, on whichever word, and whatever it takes, gives and knows then: if the rule holds after it, and the seat owes
-- at most one count down more for each instance that was in its hands, the count is 0.
abbrev pub CountStaysZero : {T : Type 0} → (T → Option Summary) → (T → T → Type 0) → Terms T → St T → Type 0
CountStaysZero {T} told after key s =
    (j : ℕ) (v u : SeatView) (i n : ℕ) (slots : List (ℕ × Option T)) (a : Act (Option T)) → get_elem? s.views j ≡ some v →
    u.down ≤ v.down + in_hands v → holds told after key (stepped s i n j slots u a) → up_count (wired key) (stepped s i n j slots u a).words ≡ 0
