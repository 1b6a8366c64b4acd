-- The names of the crates below and of this crate's definitions that proofs cite, passed on from one place.
pub use Rattle.clap.proofs.WalkLemmas.{first_value-rows, one_text-rows, raw_values-rows}
pub use Rattle.clap.specs.Built.{BuildsTo, IsAuto, IsParsedFrom, SameRules}
pub use Rattle.clap.specs.Matches.{first_value, found_of, matched_of, one_text, raw_values}
pub use Rattle.clap.specs.Simple.{App, HasMatchesOf, Shape, app_of, is_simple, matches_of, shape_of}
pub use Rattle.clap.specs.Walk.{Rule, Text, first_of, one_of, rows_of, rule_of}
pub use Rattle.clap.specs.Words.{HasKind, fault_of, is_simple_and_free, new_rule, with_rule}
pub use Rattle.kahn_line.specs.Draw.{IsDraw, draw_app}
pub use Rattle.kahn_line.specs.Explain.{IsExplain, explain_app}
pub use Rattle.kahn_line.specs.Line.{IsAsked, IsRead, IsSet, IsSetBy, IsTold, ReadsOr, file_named, file_of, is_flagged, kahn_app, number_for, number_or, text_of, was_given}
pub use Rattle.kahn_line.specs.Live.{IsLive, live_app}
pub use Rattle.kahn_line.specs.Parts.{columns_given, found_texts, input_named, joined_words, plain_parts, row_texts, set_line}
pub use Rattle.std.proofs.Common.{Bool, List, None, Option, Some, [], ap, ap₂, arith, codes, false, inl, inr, length, map, refl, slice_index, subst, suc, sym, take, true, zero, ℕ, ◌++◌, ◌<◌, ◌∙◌, ◌∷◌, ◌≡◌, ◌≢◌, ◌≤◌}
pub use Rattle.std.proofs.lemmas.Result.{IfOk-weaker}
pub use Rattle.std.specs.Borrow.{Bor}
pub use Rattle.std.specs.Prelude.{Err, IsErrAnd, Ok, Result, option_and_then, option_copied, option_map, slice_get, string_bytes, unwrap_or, ⊤}
pub use Rattle.clap.specs.declared.{builder.arg.Arg.Arg, builder.command.Command.Command, builder.value_parser.ValueParser.TheVariants.Unsigned, parser.matches.ArgMatches.ArgMatches, parser.matches.Found.Found}
