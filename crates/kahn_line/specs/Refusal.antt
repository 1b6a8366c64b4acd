-- Believed. The status of a program whose command line asks for no run.
use Rattle.std.specs.Prelude.{ℕ}
use Rattle.clap.specs.{Words.kind_of, declared.error.kind.ErrorKind.ErrorKind, declared.error.kind.ErrorKind.TheVariants.DisplayHelp, declared.error.kind.ErrorKind.TheVariants.DisplayVersion}
use Rattle.kahn_line.specs.{declared.line.LineFault.LineFault, declared.line.LineFault.TheVariants.Refused, declared.line.LineFault.TheVariants.NoMemory}

-- of words that are refused, or that ask for the help
abbrev pub kind_status : ErrorKind → ℕ
kind_status DisplayHelp = 0
kind_status DisplayVersion = 0
kind_status kind = 2

abbrev pub line_status : LineFault → ℕ
line_status (Refused error) = kind_status (kind_of error)
line_status NoMemory = 4
