-- Inner. The line that says something.
use Rattle.std.specs.Prelude.{ℕ, List, [], Some, decimal}
use Rattle.kahn_fault.specs.{Message.between_line, Message.placed_line, declared.message.Says.Says}
use Rattle.kahn_fault.specs.declared.message.Says.TheVariants as said

abbrev pub said_line : List ℕ → Says → List ℕ
said_line program (said.Words first second) = between_line first.now second.now []
said_line program (said.Numbered before n after) = between_line before.now (decimal n) after.now
said_line program (said.Placed at words) = placed_line program (Some at) words.now
