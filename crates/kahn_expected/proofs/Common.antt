-- The words that most proofs cite, passed on from one place.
pub use Rattle.kahn_streams.specs.declared.span.Span.{Span}
pub use Rattle.kahn_syntax.proofs.Meaning.{terminals_append}
pub use Rattle.kahn_syntax.proofs.OneList.{comment_dark, comment_grows, same_comment, same_lexemes}
pub use Rattle.kahn_syntax.proofs.{Reached.go_far, Reached.go_none, Reached.whole_far, Reached.whole_refuses, Unique.le_or}
pub use Rattle.kahn_syntax.proofs.Steps.{go}
pub use Rattle.kahn_syntax.proofs.Viable.{Fits, fits_some, further}
pub use Rattle.kahn_syntax.proofs.WholePrograms.{whole_program}
pub use Rattle.kahn_syntax.specs.Grammar.{May, Spells, StandsFirst, Terminal, nesting, program, sign, word}
pub use Rattle.kahn_syntax.specs.Texts.{AreLexemes, Begins, BeginsWithin, Gap, IsBlank, IsComment, IsFault, IsLexFault, IsLexemeAt, IsTextFault, Lexed, bytes_of_sign, letters_of, no_gap, sign_terminal, terminal, terminals, then_blank, then_comment}
pub use Rattle.kahn_syntax.specs.declared.fault.SyntaxFault.TheVariants.{Expected}
pub use Rattle.kahn_syntax.specs.declared.{fault.What.What, lexeme.Class.Class, lexeme.Keyword.Keyword, lexeme.Lexeme.Lexeme, lexeme.Sign.Sign}
pub use Rattle.kahn_syntax.specs.declared.fault.What.TheVariants.{More, Nothing, Other}
pub use Rattle.kahn_syntax.specs.declared.lexeme.Class.TheVariants.{Word}
pub use Rattle.kahn_syntax.specs.declared.lexeme.Keyword.TheVariants.{And}
pub use Rattle.kahn_syntax.specs.inner.Machine.{Part, ProgramPart, Whole, a_sign, a_word, accepts, either, enters, fate, levels, may_end, opened_by, rules_of, step}
pub use Rattle.kahn_expected.specs.Comments.{AreComments, at_the_end, behind_a_blank, behind_a_comment, behind_a_lexeme, span_of}
pub use Rattle.kahn_expected.specs.Wanted.{AreWanted, IsAtFault, IsInstead, IsPlace, class_of_terminal, members, told_classes}
pub use Rattle.kahn_expected.specs.declared.groups.TheConstants.{CLASSES}
pub use Rattle.kahn_expected.specs.declared.{grammar.Awaited.Awaited, found.Unexpected.Unexpected, groups.LexemeGroup.LexemeGroup, groups.Wanted.Wanted}
pub use Rattle.kahn_expected.specs.inner.Asked.{AllMayCome, AreOf, IsToldIfItComes, OneMayCome, StandsBehind}
pub use Rattle.kahn_expected.specs.inner.Passing.{Passed}
pub use Rattle.kahn_expected.specs.inner.Walk.{MayPass, awaited_part, awaited_parts, left_open, opened_parts, rules_as, terminal_with, walked}
pub use Rattle.std.proofs.Common.{All, Bool, Contains, List, None, Option, Some, [], add-one, ap, append-nil, append_assoc, arith, bytes_eq, codes, cond, drop, false, flat_map, get_or, inl, inr, length, length-append, lit<, max, not, pos, refl, slice_get, subst, sym, take, true, ℕ, ℤ, ⊎_elim, ◌&&◌, ◌++◌, ◌+◌, ◌-◌, ◌<◌, ◌||◌, ◌↔◌, ◌∙◌, ◌∷◌, ◌≡◌, ◌≤◌, ◌⊎◌}
pub use Rattle.std.proofs.Math.Seq.{drop-cons, get_or-append_seam}
pub use Rattle.std.proofs.lemmas.List.{at_drop_more, drop_more, take-append-drop, take-append-le, take_all}
pub use Rattle.std.proofs.lemmas.List.Elements.{All-append, All-contains, All-more, All-push, All-weaker, Contains-append_left, Contains-append_right, Contains-get_or, Contains-push}
pub use Rattle.std.proofs.lemmas.Option.{get_or_from_slice_get, slice_get-get_or, slice_get_past, slice_get_within}
pub use Rattle.std.proofs.lemmas.Result.{IfOk-weaker}
pub use Rattle.std.specs.Prelude.{is_some, option_map, slice_range}
