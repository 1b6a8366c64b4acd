-- Believed. A run that is fed as it goes, each part of which may take so many events (this project's profile).
use Rattle.std.specs.Prelude.{◌≡◌, ◌⊎◌, ◌<◌, ℕ, ◌+◌, ◌-◌, List, min, sum_by, Some}
use Rattle.kahn_streams.specs.{Network.network_of, Inputs.inputs_of, Answers.Settles, declared.value.Value.Value, declared.answer.Verdict.Verdict}
use Rattle.kahn_sequential.specs.{HeldRuns.GoesOn, HeldRuns.HeldRun, HeldRuns.seen_events, Flows.Flowing}

pub record Pace : Type 0 where
  pub flow : Flowing
  -- of what was let go of each stream, the last values, which wait for the others of their rows
  pub waits : List (List Value)
  -- the events that a part may take
  pub step : ℕ

-- the events that were done so far
abbrev pub events_of : HeldRun → ℕ
events_of h = sum_by seen_events h.cells

-- the greatest sum of all bounds
abbrev pub most_bound : ℕ
most_bound = 281474976710655

-- the sum of all bounds of a part: the events so far and those of a step
abbrev pub part_bound : ℕ → HeldRun → ℕ
part_bound step h = min (events_of h + step) most_bound

-- the next part may take long: each may be of more than a million events, or the last one was of more than ten thousand
abbrev pub MayBeSlow : ℕ → HeldRun → Type 0
MayBeSlow step h = (1000000 < step) ⊎ (h.bound < events_of h + (step - 10000))

-- a part was run
pub record HasRun (old new : Pace) : Type 0 where
  pub goes_on : GoesOn old.flow.run new.flow.run
  pub input : new.flow.run.input ≡ old.flow.run.input
  pub bound : new.flow.run.bound ≡ part_bound old.step old.flow.run
  pub out : new.flow.out ≡ old.flow.out
  pub waits : new.waits ≡ old.waits
  pub step : new.step ≡ old.step

-- and it has this verdict
pub record IsPart (old new : Pace) (v : Verdict) : Type 0 where
  pub run : HasRun old new
  pub settled : new.flow.run.verdict ≡ Some v
  pub exact : Settles (network_of new.flow.run.network) (inputs_of new.flow.run.input) new.flow.run.bound v
