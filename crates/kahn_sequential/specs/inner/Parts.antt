-- Inner. What is so between two parts of a run.
use Rattle.std.specs.Prelude.{◌≡◌, ℕ, ◌≤◌, Bool, List, map, Option, None, Some, slice_get}
use Rattle.kahn_sequential.specs.inner.Below.{AreInputsExtended, End, Lists, Plan, Program, CellView, Verdict, inputs_of}
use Rattle.kahn_sequential.specs.HeldRuns.{HeldRun, seen_of}
use Rattle.kahn_sequential.specs.inner.Bench.{IsConcluded, RunState}

-- where there is a verdict, it and the ends are those of the last part
abbrev pub AreEnded : RunState → ℕ → ℕ → List End → Option Verdict → Type 0
AreEnded s bound budget ends None = Unit {0}
AreEnded s bound budget ends (Some v) = (halted : Bool) × IsConcluded s bound budget halted v ends

-- what contracts see of a run with these cells
abbrev pub run_with : Program → Lists → Option ℕ → Plan → List CellView → Option Verdict → HeldRun
run_with t lists watch plan cells verdict =
    record { network = t; input = lists; watch = watch; workers = plan.workers; quantum = plan.quantum; bound = plan.bound; cells = map seen_of cells; verdict = verdict }

-- the cell has done no fewer events, and its input has grown
pub record HasRisen (c d : CellView) : Type 0 where
  pub events : c.events ≤ d.events
  pub input : AreInputsExtended (inputs_of c.input) (inputs_of d.input)

abbrev pub HaveRisen : List CellView → List CellView → Type 0
HaveRisen old new = (p : ℕ) (c d : CellView) → slice_get old p ≡ Some c → slice_get new p ≡ Some d → HasRisen c d
