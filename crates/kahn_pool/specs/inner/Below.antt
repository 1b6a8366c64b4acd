-- Inner. The words of the crates below that clauses and definitions of this crate use, passed on from one place.
pub use Rattle.kahn_code.specs.{Progress.Paused, Standing.count}
pub use Rattle.kahn_code.specs.Progress.{CellView, told_view}
pub use Rattle.kahn_crew.specs.{declared.opening.Left.Left, declared.opening.CrewFault.CrewFault, declared.opening.CrewFault.TheVariants.NoMemory, declared.crew.Crewing.Crewing, inner.Tasks.handed_to_task}
pub use Rattle.kahn_streams.specs.declared.plan.Plan.{Plan}
pub use Rattle.kahn_crew.specs.inner.Planned.{IsAsConfigured, IsCrew, plan_of_crew}
pub use Rattle.kahn_crew.specs.inner.Left.{AreAll, HaveGone, IsLack, IsOver}
pub use Rattle.kahn_job.specs.{declared.task.TaskStanding.TaskStanding, inner.Berths.IsWithinInput, inner.Berths.end_at, inner.Ends.IsReady, inner.Settling.AreResting, inner.Settling.HaveStood, inner.Works.IsJob, inner.Works.Work}
pub use Rattle.kahn_job.specs.inner.Idles.{AreIdle, AreJobsAt, HaveSettled, cells_of, rows_of}
pub use Rattle.kahn_job.specs.inner.Tasks.{Continues, Tasked, TellsOutcome}
pub use Rattle.kahn_streams.specs.Answers.{IsAllowed, IsCutShort, IsRight, IsRightRun, IsUndeclared, IsUnrun, IsWatched, Settles, stream_lines}
pub use Rattle.kahn_streams.specs.Inputs.{Lists, inputs_of}
pub use Rattle.kahn_streams.specs.{Meaning.Store, Script.Cut, Script.Dry, Tokens.token_value}
pub use Rattle.kahn_streams.specs.Network.{Reads, actual_at, instance_at, network_of}
pub use Rattle.kahn_streams.specs.Solution.{AreInputsExtended}
pub use Rattle.kahn_streams.specs.declared.{answer.Answer.Answer, answer.End.End, answer.Outcome.Outcome, answer.Verdict.Verdict, fault.RunFault.TheVariants.UnknownWatch, token.Token.Token, tree.Program.Program}
