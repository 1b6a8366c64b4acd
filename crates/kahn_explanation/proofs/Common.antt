-- The names of the crates below and of this crate's definitions that proofs cite, passed on from one place.
pub use Rattle.kahn_chain.proofs.Standing_ends.{end_of, stand, waiting}
pub use Rattle.kahn_chain.specs.Chain.{AreStandings, Awaits, Leads, LeadsOn, onward, standing_of, stands, stays}
pub use Rattle.kahn_chain.specs.Reasons.{AreReasons, is_final, is_stopped, lasts}
pub use Rattle.kahn_fault.specs.Work.{IsChecked, IsParsed, IsUnchecked}
pub use Rattle.kahn_diagnostic.specs.Told.{most_notes}
pub use Rattle.kahn_streams.specs.Answers.{HasEndAt, IsDryOn, IsEnd, IsOutcome, IsRight, IsRightRun, IsWaiting}
pub use Rattle.kahn_streams.specs.Meaning.{Store}
pub use Rattle.kahn_streams.specs.Network.{Given, Hands, Node, Schema, Nobody, Reads, Source, Written, actual_at, channel_source, instance_at, network_of}
pub use Rattle.kahn_streams.specs.Script.{Cut, Dry, Fault, Got, Reached, ScriptOutcome, Tapes, play}
pub use Rattle.kahn_streams.specs.Solution.{AreInputsExtended, Ending, HasEnd, Histories, Inputs, IsExtended, IsPrefix, ending, exec_at, fed, goes_to, input_list, iterate, out, source, tape_of, tapes_of, values_at}
pub use Rattle.kahn_explanation.specs.Noting.{AreFaultLines, HasShown, StandsIn}
pub use Rattle.kahn_explanation.specs.Refusing.{AreAllowed, IsNoteOn, IsPlacedNote, IsRefusal, IsRefusedFor, IsRefusedWords, IsSyntaxNote, IsSyntaxRefusal, expected_of}
pub use Rattle.kahn_explanation.specs.Why.{IsEndedOrFaulted, IsFinal, LastForGood, StayForGood, came_to, finding_lead, standings_of}
pub use Rattle.kahn_explanation.specs.inner.Stuck.{AreForGood, AreStuck}
pub use Rattle.kahn_explanation.specs.inner.Told.{HasRefused, HasWritten, IsAdmitted}
pub use Rattle.std.proofs.Common.{All, Bool, Err, List, None, Option, Result, Some, [], ap, append_assoc, arith, eq-eqb, false, get_or, if◌then◌else◌, inl, inr, le_refl, le_trans, length, map, max, pos, refl, string_bytes, subst, suc, sym, take, true, ℕ, ⊎_elim, ◌++◌, ◌<◌, ◌==◌, ◌∙◌, ◌∷◌, ◌≡◌, ◌≤◌, ◌⊎◌}
pub use Rattle.std.proofs.lemmas.Bool.{eqb-true}
pub use Rattle.std.proofs.lemmas.List.{append-nil, take_all}
pub use Rattle.std.proofs.lemmas.List.Elements.{All-from_recursion, All-more, All-weaker}
pub use Rattle.std.specs.Prelude.{IfSome, MatchOption, option_map}
pub use Rattle.kahn_chain.specs.declared.{reason.Cause.TheVariants.Input, reason.Cause.TheVariants.Ring, reason.Cause.TheVariants.Stopped, reason.Standing.Standing}
pub use Rattle.kahn_fault.specs.declared.{work.WorkFault.WorkFault, work.WorkFault.TheVariants.Check, work.WorkFault.TheVariants.Run, work.WorkFault.TheVariants.Syntax, work.WorkFault.TheVariants.Text, work.WorkFault.TheVariants.Write}
pub use Rattle.kahn_diagnostic.specs.declared.{rendering.Note.Note}
pub use Rattle.kahn_streams.specs.declared.{answer.Answer.Answer, answer.Verdict.Verdict, answer.Verdict.TheVariants.Bound, answer.Verdict.TheVariants.Finished, answer.Verdict.TheVariants.Memory, tree.Program.Program}
pub use Rattle.kahn_explanation.specs.declared.{explaining.Came.Came, explaining.Came.TheVariants.Refused}
pub use Rattle.std.specs.declared.{alloc.Global.Global, string.String.String}
