-- Believed. What the words of the command line of the program that explains ask for.
use Rattle.std.specs.Prelude.{◌≡◌, List, codes, option_map, string_bytes}
use Rattle.clap.specs.Words.{App, Text, new_rule, with_rule}
use Rattle.kahn_line.specs.{Line.IsSetBy, Line.bare_app, Line.file_of, Line.flag_rule, Line.is_flagged, Line.number_rule, Line.text_of, Line.text_rule, declared.line.ExplainOptions.ExplainOptions}

-- the program text's path without a name, and the options
abbrev pub explain_app : App
explain_app =
    with_rule (with_rule (with_rule (with_rule (with_rule (with_rule (with_rule (with_rule (with_rule (with_rule (with_rule (with_rule (with_rule (bare_app (codes "kahn_explain"))
    (new_rule (codes "PROGRAM")))
    (text_rule (codes "input")))
    (number_rule (codes "workers") 1 16 (codes "4")))
    (number_rule (codes "quantum") 1 1000000 (codes "1000")))
    (number_rule (codes "bound") 0 281474976710655 (codes "1000000")))
    (flag_rule (codes "all")))
    (flag_rule (codes "strict")))
    (flag_rule (codes "trace")))
    (flag_rule (codes "channels")))
    (flag_rule (codes "check")))
    (text_rule (codes "needs")))
    (text_rule (codes "wakes")))
    (flag_rule (codes "json"))

-- the options are those that the words name
pub record IsExplain (words : List Text) (o : ExplainOptions) : Type 0 where
  pub program : option_map string_bytes o.program ≡ file_of explain_app words (codes "PROGRAM")
  pub input : option_map string_bytes o.input ≡ file_of explain_app words (codes "input")
  pub config : IsSetBy explain_app words o.config
  pub all : o.all ≡ is_flagged explain_app words (codes "all")
  pub strict : o.strict ≡ is_flagged explain_app words (codes "strict")
  pub trace : o.trace ≡ is_flagged explain_app words (codes "trace")
  pub channels : o.channels ≡ is_flagged explain_app words (codes "channels")
  pub check : o.check ≡ is_flagged explain_app words (codes "check")
  pub needs : option_map string_bytes o.needs ≡ text_of explain_app words (codes "needs")
  pub wakes : option_map string_bytes o.wakes ≡ text_of explain_app words (codes "wakes")
  pub json : o.json ≡ is_flagged explain_app words (codes "json")
