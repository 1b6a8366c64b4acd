-- Believed. What the whole work does, from the bytes of the texts to the bytes of the report.
use Rattle.std.specs.Prelude.{◌≡◌, ℕ, ◌≤◌, ◌⊎◌, List, Option, Some, None, Result, Ok, Err, string_bytes}
use Rattle.std.specs.{declared.string.String.String, declared.alloc.Global.Global, Io.KnownBytes.Appends}
use Rattle.kahn_streams.specs.{declared.tree.Program.Program, declared.config.Config.Config, declared.answer.Answer.Answer, declared.answer.Verdict.Verdict, Network.network_of, Faults.faults, Faults.IsMet, Wiring.IsWellWired, Inputs.Lists, Inputs.inputs_of, declared.answer.Verdict.TheVariants.Finished, Answers.Settles, Answers.IsRightRun, Answers.IsUnrun, Written.AppendsFront}
use Rattle.kahn_syntax.specs.{Texts.program_tree, Texts.IsProgram, Texts.IsTextFault as IsSyntaxFault, Grammar.nesting}
use Rattle.kahn_fault.specs.{declared.work.WorkFault.WorkFault, declared.work.WorkFault.TheVariants.Syntax, declared.work.WorkFault.TheVariants.Check, declared.work.WorkFault.TheVariants.Text, declared.work.WorkFault.TheVariants.Run, declared.work.WorkFault.TheVariants.Write}
use Rattle.kahn_texts.specs.Formats.{StandsFor, IsInputTextFault, report_text}

-- the text spells this program, whose nesting is within its limit
abbrev pub IsParsed : List ℕ → Program → Type 0
IsParsed text t = IsProgram text t × (nesting (program_tree t) ≤ 64)

-- the text spells this program, which is well wired
abbrev pub IsChecked : List ℕ → Program → Type 0
IsChecked text t = IsParsed text t × IsWellWired t

-- the right answer of a network for what an input text describes
abbrev pub IsTextAnswer : Program → List ℕ → Config → Answer → Type 0
IsTextAnswer t input config a = (lists : Lists) × StandsFor t input lists × IsRightRun t lists config a

-- the right answer for what the two texts describe
abbrev pub IsAnswered : List ℕ → List ℕ → Config → Program → Lists → Answer → Type 0
IsAnswered program input config t lists a = IsChecked program t × StandsFor t input lists × IsRightRun t lists config a

-- unless memory was refused, the run of what the two texts describe finished exactly if its solution is within the bound
abbrev pub FinishesWithin : List ℕ → List ℕ → Config → Verdict → Type 0
FinishesWithin program input config verdict =
    (t : Program) × (lists : Lists) × IsChecked program t × StandsFor t input lists × Settles (network_of t) (inputs_of lists) config.bound verdict

-- why a text is no well wired program
abbrev pub IsUnchecked : List ℕ → WorkFault → Type 0
IsUnchecked program (Syntax f) = IsSyntaxFault program f
IsUnchecked program (Check f) = (t : Program) × IsParsed program t × IsMet (faults t) f
IsUnchecked program f = ⊥

-- why there is no answer for a network and an input text
abbrev pub IsUnanswered : Program → List ℕ → Config → WorkFault → Type 0
IsUnanswered t input config (Text f) = IsInputTextFault t input f
IsUnanswered t input config (Run f) = (lists : Lists) × StandsFor t input lists × IsUnrun t config f
IsUnanswered t input config f = ⊥

-- the report of a right answer went out, or why not: the writer's fault, after which a prefix of such a report was, or the first
-- of the others in this order, after which nothing was written
abbrev pub IsWorked : List ℕ → List ℕ → Config → Option (List ℕ) → Option (List ℕ) → Result Verdict WorkFault → Type 0
IsWorked program input config old new (Ok verdict) =
    (t : Program) × (lists : Lists) × (a : Answer) × IsAnswered program input config t lists a × (a.verdict ≡ verdict) × Appends old new (report_text t a)
IsWorked program input config old new (Err (Write f)) =
    (t : Program) × (lists : Lists) × (a : Answer) × IsAnswered program input config t lists a × AppendsFront old new (report_text t a)
IsWorked program input config old new (Err f) =
    (IsUnchecked program f ⊎ ((t : Program) × IsChecked program t × IsUnanswered t input config f)) × (new ≡ old)

-- the name of the channel that is to be watched
abbrev pub watched_name : Option (String Global) → Option (List ℕ)
watched_name None = None
watched_name (Some name) = Some (string_bytes name)

-- two finished reports of the same texts, with the same channel watched, are the same bytes
abbrev pub IsOneReport : List ℕ → List ℕ → Config → Config → Type 0
IsOneReport program input config other =
    (old : List ℕ) (new newer : Option (List ℕ)) → watched_name config.watch ≡ watched_name other.watch →
    IsWorked program input config (Some old) new (Ok Finished) → IsWorked program input other (Some old) newer (Ok Finished) → new ≡ newer
