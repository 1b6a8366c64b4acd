-- Believed. That what goes out of a session is right (this project's profile, over the solution of Kahn's paper).
use Rattle.std.specs.Prelude.{◌≡◌, ℕ, false, List, [], map, Some, slice_get, slice_index_or}
use Rattle.kahn_streams.specs.{Network.network_of, declared.value.Line.Line, Solution.IsPrefix, Solution.IsWhole, Solution.iterate, Inputs.inputs_of, declared.answer.End.End, declared.answer.Verdict.Verdict, declared.answer.Verdict.TheVariants.Finished}
use Rattle.kahn_sequential.specs.{Flows.flow_lines, HeldRuns.IsRightSoFar, HeldRuns.so_far}
use Rattle.kahn_session.specs.{Forms.are_rows, Live.Live, Live.OutBegins}

-- the run has a verdict with ends that are right; and what was let go of its streams is all that there is, but for values that stand in rows
abbrev pub IsShown : Live → Type 0
IsShown s = (v : Verdict) × (s.flow.run.verdict ≡ Some v) × ((ends : List End) × IsRightSoFar s.flow.run v ends)
    × OutBegins s.flow × (are_rows s.columns ≡ false → s.flow.out ≡ map (so_far s.flow.run) (flow_lines s.flow.run))

-- what went out of each stream begins the history of its line in the solution for the input so far; and is the whole of it where the run has
-- finished, but for values that stand in rows
pub record HasHistories (s : Live) : Type 0 where
  pub begin : (j : ℕ) (c : Line) → slice_get (flow_lines s.flow.run) j ≡ Some c
      → (n : ℕ) × IsPrefix (slice_index_or s.flow.out j []) (iterate (network_of s.flow.run.network) (inputs_of s.flow.run.input) n c)
  pub whole : are_rows s.columns ≡ false → s.flow.run.verdict ≡ Some Finished → (j : ℕ) (c : Line) → slice_get (flow_lines s.flow.run) j ≡ Some c
      → IsWhole (network_of s.flow.run.network) (inputs_of s.flow.run.input) c (slice_index_or s.flow.out j [])
