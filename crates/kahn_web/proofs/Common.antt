-- The names of the crates below and of this crate's definitions that proofs cite, passed on from one place.
pub use Rattle.kahn_fault.specs.Work.{IsChecked, IsTextAnswer}
pub use Rattle.kahn_texts.proofs.Answer_lines.{right_lines}
pub use Rattle.kahn_web.specs.Alone.{alone}
pub use Rattle.kahn_web.specs.Explained.{IsReason, IsRunExplained}
pub use Rattle.kahn_web.specs.Page.{IsPut, IsSaidAlone}
pub use Rattle.kahn_web.specs.Whole.{IsWholeText, channels_text}
pub use Rattle.kahn_explanation.proofs.Parts.{are_allowed}
pub use Rattle.kahn_explanation.specs.inner.Told.{HasRefused, HasWritten, IsAdmitted}
pub use Rattle.std.proofs.Common.{IfSome, List, None, Ok, Option, Some, [], ap₂, arith, codes, false, inl, inr, refl, rules, string_bytes, subst, sym, ℕ, ◌++◌, ◌<◌, ◌^◌, ◌≡◌}
pub use Rattle.kahn_explanation.specs.declared.{explaining.Came.TheVariants.Refused, explaining.Came.TheVariants.Stopped}
pub use Rattle.std.specs.declared.{alloc.Global.Global, vec.Vec.Vec}
