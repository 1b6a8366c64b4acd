-- Believed. How the work is set up for one thread.
use Rattle.std.specs.Prelude.{ℕ, None}
use Rattle.kahn_streams.specs.declared.config.Config.{Config}

-- one worker with a quantum of a thousand events, which watches no channel
abbrev pub alone : ℕ → Config
alone bound = record { workers = 1; quantum = 1000; bound = bound; watch = None }
