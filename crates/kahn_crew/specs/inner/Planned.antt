-- Inner. Who works on a run, and for how long.
use Rattle.std.specs.Prelude.{◌≡◌, ℕ, ◌<◌, ◌≤◌, Option}
use Rattle.kahn_crew.specs.declared.crew.Crewing.{Crewing}
use Rattle.kahn_streams.specs.declared.{config.Config.Config, plan.Plan.Plan}

-- as the configuration has it, with the number of the channel that is watched
abbrev pub crew_of : Config → Option ℕ → Crewing
crew_of config watch = record { watch = watch; workers = config.workers; quantum = config.quantum; come = config.workers; turn = config.quantum }

-- as many come as were asked for, with turns of the quantum
abbrev pub IsAsConfigured : Crewing → Type 0
IsAsConfigured c = (c.come ≡ c.workers) × (c.turn ≡ c.quantum)

-- some come, and no more than may
abbrev pub IsCrew : Crewing → Type 0
IsCrew c = (1 ≤ c.come) × (c.come ≤ c.workers) × (c.workers ≤ 16) × (0 < c.turn)

-- what those go by that come
abbrev pub plan_of_crew : Crewing → ℕ → Plan
plan_of_crew c bound = record { watch = c.watch; workers = c.come; quantum = c.turn; bound = bound }
