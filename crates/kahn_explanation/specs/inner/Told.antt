-- Inner. What the parts of explaining do.
use Rattle.std.specs.Prelude.{◌≡◌, ◌⊎◌, ℕ, Bool, true, false, List, [], Option, None, Result, Ok, Err, string_bytes}
use Rattle.std.specs.Io.KnownBytes.{Appends}
use Rattle.kahn_streams.specs.{declared.fault.RunFault.TheVariants.NoMemory, Written.AppendsFront}
use Rattle.kahn_streams.specs.{Network.network_of, declared.answer.End.End, declared.answer.Verdict.Verdict, declared.tree.Program.Program}
use Rattle.kahn_chain.specs.Reasons.{AreReasons}
use Rattle.kahn_fault.specs.{Work.IsChecked, Work.IsUnchecked, declared.work.WorkFault.WorkFault, declared.work.WorkFault.TheVariants.Text, declared.work.WorkFault.TheVariants.Run, declared.work.WorkFault.TheVariants.Write}
use Rattle.kahn_texts.specs.declared.bytes.WriteFault.{WriteFault}
use Rattle.kahn_explanation.specs.{Why.BeginsWith, Why.came_to, declared.why.told.Explanation.Explanation, Noting.AreWarningLines, Refusing.IsRefusal, Refusing.IsRefusedFor, declared.explaining.Admitted.Admitted, declared.explaining.Came.Came, declared.explaining.Came.TheVariants.Stopped, declared.explaining.Came.TheVariants.Refused}

-- the reasons are those of the instances, the run came to that, and the words say so first
pub record IsToldWhy (t : Program) (v : Verdict) (ends : List End) (e : Explanation) : Type 0 where
  pub reasons : AreReasons (network_of t) v ends e.reasons.items
  pub told : e.told ≡ came_to v e.reasons.items
  pub begins : BeginsWith e.told (string_bytes e.text)

-- the text went out, and that came of it; or a fault of the writer
abbrev pub HasWritten : List ℕ → Came → Option (List ℕ) → Option (List ℕ) → Result Came WorkFault → Type 0
HasWritten text came old new r = ((r ≡ Ok came) × Appends old new text) ⊎ ((f : WriteFault) × (r ≡ Err (Write f)) × AppendsFront old new text)

-- it is asked to be strict, and there are notes; or it isn't, or there are none
abbrev pub IsStrictAbout : Bool → List ℕ → Bool → Type 0
IsStrictAbout strict notes true = (strict ≡ true) × (notes ≡ [] → ⊥)
IsStrictAbout strict notes false = strict ≡ true → notes ≡ []

-- the network of the program text, which isn't refused, and the notes on what is warned of in it
pub record IsAdmitted (path program : List ℕ) (strict : Bool) (x : Admitted) : Type 0 where
  pub checked : IsChecked program x.network
  pub notes : AreWarningLines path program x.network (string_bytes x.notes)
  pub none : strict ≡ true → string_bytes x.notes ≡ []

-- why the program text is refused went out, or why not
abbrev pub HasRefused : List ℕ → List ℕ → Bool → Option (List ℕ) → Option (List ℕ) → Result Came WorkFault → Type 0
HasRefused path program strict old new (Ok (Stopped x)) = ⊥
HasRefused path program strict old new (Ok Refused) = (text : List ℕ) × IsRefusedFor path program strict text × Appends old new text
HasRefused path program strict old new (Err (Text f)) = ⊥
HasRefused path program strict old new (Err (Run f)) = (f ≡ NoMemory) × (new ≡ old)
HasRefused path program strict old new (Err (Write f)) = (text : List ℕ) × IsRefusedFor path program strict text × AppendsFront old new text
HasRefused path program strict old new (Err f) = IsUnchecked program f × IsRefusal path program f None × (new ≡ old)

-- it isn't, and nothing was written; or it is
abbrev pub HasAdmitted : List ℕ → List ℕ → Bool → Option (List ℕ) → Option (List ℕ) → Result Admitted (Result Came WorkFault) → Type 0
HasAdmitted path program strict old new (Ok x) = IsAdmitted path program strict x × (new ≡ old)
HasAdmitted path program strict old new (Err r) = HasRefused path program strict old new r
