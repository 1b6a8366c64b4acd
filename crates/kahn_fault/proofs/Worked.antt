-- What each part of the work says of the whole.
use Rattle.std.proofs.Common.{Err}
use Rattle.kahn_streams.specs.declared.{config.Config.Config}
use Rattle.kahn_fault.proofs.Common.{ℕ, List, Option, inl, inr, refl, Program, WorkFault, IsChecked, IsUnchecked, IsUnanswered, IsWorked}
use Rattle.kahn_fault.specs.declared.work.WorkFault.TheVariants.{Syntax, Check, Text, Run}

pub unchecked : (program input : List ℕ) (config : Config) (written : Option (List ℕ)) (fault : WorkFault) → IsUnchecked program fault →
    IsWorked program input config written written (Err fault)
unchecked program input config written (Syntax f) h = (inl h, refl)
unchecked program input config written (Check f) h = (inl h, refl)
unchecked program input config written fault h = absurd h

pub unanswered : (program input : List ℕ) (config : Config) (written : Option (List ℕ)) (t : Program) (fault : WorkFault) → IsChecked program t →
    IsUnanswered t input config fault → IsWorked program input config written written (Err fault)
unanswered program input config written t (Text f) is h = (inr (t, is, h), refl)
unanswered program input config written t (Run f) is h = (inr (t, is, h), refl)
unanswered program input config written t fault is h = absurd h
