-- The names of the crates below and of this crate's definitions that proofs cite, passed on from one place.
pub use Rattle.kahn_program_notes.specs.Hints.{AreFaultsOf, TellsFault, TellsMore, TellsOne, are_known}
pub use Rattle.kahn_program_notes.specs.Near.{IsNearTo, IsNearest, IsOneOf, NoneNear, is_close, nearest, reach_of, steps}
pub use Rattle.kahn_program_notes.specs.Notes.{Mends, listed, pieces_of, text_end_words, wanted_words}
pub use Rattle.kahn_program_notes.specs.Words.{any_words, separator}
pub use Rattle.kahn_streams.specs.declared.{fault.CheckFault.CheckFault, fault.CheckFault.TheVariants.DeclaredTwice, tree.Name.Name}
pub use Rattle.std.proofs.Common.{IfSome, List, [], ap, append-nil, append_assoc, arith, drop, get_or, length, length-append, map, refl, string_bytes, subst, sym, ℕ, ◌++◌, ◌+◌, ◌-◌, ◌<◌, ◌∙◌, ◌≡◌, ◌≤◌, All, Bool, Bor, Contains, IfOk, None, Option, Some, codes, cond, false, nat_lt, rules, suc, take, true, zero, ◌==◌, ◌||◌, ◌∷◌}
pub use Rattle.std.proofs.lemmas.Grind.{common_steps}
pub use Rattle.std.proofs.lemmas.List.{at_drop_all, at_drop_more, length-drop, length-map}
pub use Rattle.std.proofs.lemmas.List.Elements.{All-append, All-contains_itself, All-from_recursion, All-get_or, All-head, All-push, All-tail, All-take}
pub use Rattle.std.proofs.lemmas.Result.{IfOk-weaker}
pub use Rattle.std.specs.List.{AllByRecursion, concat, find}
