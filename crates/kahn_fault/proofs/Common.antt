-- The names of the crates below and of this crate's definitions that proofs cite, passed on from one place.
pub use Rattle.kahn_fault.specs.Message.{WritesCounted, check_span, syntax_span}
pub use Rattle.kahn_fault.specs.Status.{status_of, with_refused}
pub use Rattle.kahn_fault.specs.Work.{IsChecked, IsUnanswered, IsUnchecked, IsWorked}
pub use Rattle.std.proofs.Common.{Bool, List, None, Option, Some, [], ap, arith, bytes_eq, false, inl, inr, length, map, refl, subst, suc, sym, true, zero, ℕ, ◌++◌, ◌+◌, ◌∙◌, ◌∷◌, ◌≡◌, ◌≤◌}
pub use Rattle.kahn_fault.specs.declared.{work.WorkFault.WorkFault}
pub use Rattle.kahn_streams.specs.declared.{tree.Program.Program}
