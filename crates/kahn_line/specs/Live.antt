-- Believed. What the words of the command line of the program that is fed line by line ask for.
use Rattle.std.specs.Prelude.{◌≡◌, List, map, true, Some, codes, option_map, string_bytes}
use Rattle.clap.specs.Words.{App, Rule, Text, matches_of, new_rule, with_rule}
use Rattle.clap.specs.declared.builder.ArgAction.TheVariants.{Append}
use Rattle.kahn_streams.specs.Answers.{IsInRange}
use Rattle.kahn_line.specs.{Line.bare_app, Line.file_of, Line.flag_rule, Line.is_flagged, Line.number_for, Line.number_rule, Line.text_of, Line.text_rule, Parts.columns_given, Parts.input_named, Parts.plain_parts, Parts.row_texts, Parts.set_line, declared.live.LiveOptions.LiveOptions}

-- an option with a text that may be repeated
abbrev pub at_end_rule : Rule
at_end_rule = record (text_rule (codes "at-end")) { action = Some Append }

-- the program text's path without a name, which is required, and the options
abbrev pub live_app : App
live_app =
    with_rule (with_rule (with_rule (with_rule (with_rule (with_rule (with_rule (with_rule (with_rule (with_rule (bare_app (codes "kahn_live"))
    (record (new_rule (codes "PROGRAM")) { required = true }))
    (number_rule (codes "quantum") 1 1000000 (codes "1000")))
    (number_rule (codes "step") 1 281474976710655 (codes "1000000")))
    (text_rule (codes "watch")))
    (flag_rule (codes "keep-going")))
    (flag_rule (codes "strict")))
    at_end_rule)
    (text_rule (codes "in")))
    (text_rule (codes "out")))
    (text_rule (codes "plain"))

-- the options are those that the words name, and their numbers are within their limits; the events of a part are the bound
pub record IsLive (words : List Text) (o : LiveOptions) : Type 0 where
  pub program : option_map string_bytes o.program ≡ file_of live_app words (codes "PROGRAM")
  pub watch : option_map string_bytes o.config.watch ≡ text_of live_app words (codes "watch")
  pub workers : o.config.workers ≡ 1
  pub quantum : o.config.quantum ≡ number_for live_app words (codes "quantum") 1000
  pub step : o.config.bound ≡ number_for live_app words (codes "step") 1000000
  pub keep_going : o.keep_going ≡ is_flagged live_app words (codes "keep-going")
  pub strict : o.strict ≡ is_flagged live_app words (codes "strict")
  pub at_end : map string_bytes o.at_end.items ≡ map (set_line (input_named o.plain)) (row_texts (codes "at-end") (matches_of live_app words))
  pub plain : option_map plain_parts o.plain ≡ columns_given (text_of live_app words (codes "in")) (text_of live_app words (codes "out")) (text_of live_app words (codes "plain"))
  pub in_range : IsInRange o.config.workers o.config.quantum o.config.bound
