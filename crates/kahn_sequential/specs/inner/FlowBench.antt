-- Inner. A flow over a bench: what contracts see of it, and what its type keeps.
use Rattle.std.specs.Prelude.{◌≡◌, ℕ, ◌+◌, ◌-◌, ◌<◌, ◌≤◌, ◌^◌, Bool, List, ◌++◌, length, map, sum_by, take, Option, Some, slice_index_or}
use Rattle.kahn_sequential.specs.inner.Below.{End, Input, Line, Plan, Program, Source, Token, Value, Verdict, inputs_of, network_of, nothing_gone, role_at, source, stream_lines, token_value}
use Rattle.kahn_sequential.specs.HeldRuns.{HeldRun, seen_events, seen_of, values_by}
use Rattle.kahn_sequential.specs.{Flows.Flowing, declared.taps.NumberRange.NumberRange, declared.rounds.PartEnd.PartEnd, declared.taps.Woken.Woken, inner.Noted.AreNoted, inner.Noted.AreSpent, inner.Numbers.HoldNumbers, inner.Bench.IsConcluded, inner.Bench.LacksMemory, inner.Workbench.Table, inner.Workbench.sight_of}
use Rattle.kahn_sequential.specs.inner.Parts.{AreEnded, run_with}

-- what contracts see of the run of a bench: all that its taps ever kept
abbrev pub run_of_bench : Table → Plan → Option Verdict → HeldRun
run_of_bench b plan verdict = run_with b.network b.input b.watch plan b.cells verdict

-- what was let go of the stream of a line, by its source; of a watched input channel all but the last n values were
abbrev pub let_go_by : Table → ℕ → Source → Line → List Value
let_go_by b n =
    values_by (network_of b.network) (λ c. take (length (inputs_of b.input c) - n) (inputs_of b.input c))
    (λ p. (slice_index_or b.gone p nothing_gone).kept) (λ p. (slice_index_or b.gone p nothing_gone).printed)

-- of each stream, in their order
abbrev pub let_go_of : Table → ℕ → List (List Value)
let_go_of b n = map (λ c. let_go_by b n (source (network_of b.network) c) c) (stream_lines (network_of b.network) b.watch)

-- what contracts see of the flow of a bench
abbrev pub flow_of : Table → Plan → Option Verdict → ℕ → Flowing
flow_of b plan verdict n = record { run = run_of_bench b plan verdict; out = let_go_of b n; waits = map (λ w. w.waiting) b.queues.queues }

-- the tokens that are lent of a watched input channel: the last ones of its list
abbrev pub AreLent : Table → List Token → Type 0
AreLent b ts =
    (c : ℕ) → b.watch ≡ Some c → role_at (network_of b.network) c ≡ Input → (front : List Value) × (inputs_of b.input c ≡ front ++ map token_value ts)

-- all that the type keeps of this network by this plan: so much is left of the bound, there is room for so many ends, and where there
-- is a verdict, it and the ends are those of the last part. That each tap stands where it says is told by the tap
pub record IsFlowOf (t : Program) (plan : Plan) (b : Table) (budget room : ℕ) (ends : List End) (woken turned : Woken) (numbers : List NumberRange) (verdict : Option Verdict) (ts : List Token) : Type 0 where
  pub network : b.network ≡ t
  pub watch : b.watch ≡ plan.watch
  pub some : 0 < plan.quantum
  pub left : budget + sum_by seen_events (map seen_of b.cells) ≡ plan.bound
  pub few : plan.bound < 2 ^ 48
  pub enough : length (network_of b.network).instances ≤ room
  pub ended : AreEnded (sight_of b) plan.bound budget ends verdict
  pub noted : AreNoted (sight_of b) woken ends
  pub spent : AreSpent b turned
  pub numbered : HoldNumbers (network_of b.network) (stream_lines (network_of b.network) b.watch) numbers
  pub lent : AreLent b ts

-- how a part of so many events in all ended
abbrev pub IsPartEnd : Table → ℕ → PartEnd → Type 0
IsPartEnd b bound r =
    (halted : Bool) × IsConcluded (sight_of b) bound r.left halted r.verdict r.ends.items × LacksMemory (sight_of b) r.left halted
