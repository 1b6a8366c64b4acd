-- Believed. What the words of the command line of the program that draws ask for.
use Rattle.std.specs.Prelude.{◌≡◌, ◌<◌, ◌^◌, List, codes, option_map, string_bytes}
use Rattle.clap.specs.Words.{App, Text, new_rule, with_rule}
use Rattle.kahn_line.specs.{Line.bare_app, Line.file_of, Line.number_for, Line.number_rule, Line.text_rule, declared.line.DrawOptions.DrawOptions}

-- the program text's path without a name, the input text's, and the bound of a run
abbrev pub draw_app : App
draw_app =
    with_rule (with_rule (with_rule (bare_app (codes "kahn_draw"))
    (new_rule (codes "PROGRAM")))
    (text_rule (codes "input")))
    (number_rule (codes "bound") 0 281474976710655 (codes "1000000"))

-- the paths are those that the words name, and the bound is within its limit
pub record IsDraw (words : List Text) (o : DrawOptions) : Type 0 where
  pub program : option_map string_bytes o.program ≡ file_of draw_app words (codes "PROGRAM")
  pub input : option_map string_bytes o.input ≡ file_of draw_app words (codes "input")
  pub bound : o.bound ≡ number_for draw_app words (codes "bound") 1000000
  pub in_range : o.bound < 2 ^ 48
