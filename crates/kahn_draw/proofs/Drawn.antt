-- A picture that was written as the one piece of a line, and why there is none.
use Rattle.kahn_draw.proofs.Common.{◌≡◌, ℕ, List, [], ◌++◌, map, Option, None, Result, Ok, Err, inl, inr, refl, subst, string_bytes, sym, append-nil, AreStandings, stands, network_of, IsDrawn, IsDrawnFor, IsNotDrawn, IsPictured, IsPictureFor, IsPictureOf, IsRunOf, IsEndedPicture, IsUnrunFor}
use Rattle.std.specs.{Io.KnownBytes.Appends, declared.alloc.Global.Global, declared.string.String.String}
use Rattle.kahn_chain.proofs.Standing_ends.{stand}
use Rattle.kahn_streams.specs.{declared.answer.Answer.Answer, declared.answer.End.End, declared.answer.Stream.Stream, declared.answer.Verdict.Verdict, declared.answer.Verdict.TheVariants.Finished, declared.fault.RunFault.RunFault, declared.tree.Program.Program, Answers.IsRight, Inputs.Lists, Inputs.inputs_of, Written.AppendsFront}
use Rattle.kahn_graph.specs.Graph.{IsPicture}
use Rattle.kahn_streams.specs.declared.fault.RunFault.TheVariants as fault
use Rattle.kahn_sequential.specs.HeldRuns.{IsRefusedRun}
use Rattle.kahn_fault.specs.{Work.IsChecked, Work.IsUnchecked, declared.work.WorkFault.WorkFault, declared.work.WorkFault.TheVariants.Syntax, declared.work.WorkFault.TheVariants.Check, declared.work.WorkFault.TheVariants.Text, declared.work.WorkFault.TheVariants.Run as RunWork}
use Rattle.kahn_draw.specs.declared.drawing.DrawnPicture.{DrawnPicture}
use Rattle.kahn_draw.specs.{declared.drawing.Drawn.Drawn, declared.drawing.Drawn.TheVariants.Network, declared.drawing.Drawn.TheVariants.Run}

pub went_out : (program input : List ℕ) (drawn : Drawn) (t : Program) (v : Verdict) (picture : List ℕ) (old new : Option (List ℕ)) → IsChecked program t
    → IsPictureFor t program input drawn v picture → Appends old new (picture ++ []) → (p : List ℕ) × IsPictureOf program input drawn v p × Appends old new p
went_out program input drawn t v picture old new checked is gone = (picture, (t, checked, is), subst (Appends old new) (append-nil picture) gone)

pub broke_off : (program input : List ℕ) (drawn : Drawn) (t : Program) (v : Verdict) (picture : List ℕ) (old new : Option (List ℕ)) → IsChecked program t
    → IsPictureFor t program input drawn v picture → AppendsFront old new (picture ++ []) → (u : Verdict) × (p : List ℕ) × IsPictureOf program input drawn u p × AppendsFront old new p
broke_off program input drawn t v picture old new checked is gone = (v, picture, (t, checked, is), subst (AppendsFront old new) (append-nil picture) gone)

pub unchecked : (program input : List ℕ) (drawn : Drawn) (old : Option (List ℕ)) (f : WorkFault) → IsUnchecked program f
    → IsDrawn program input drawn old old (Err f)
unchecked program input drawn old (Syntax f) h = (inl h, refl)
unchecked program input drawn old (Check f) h = (inl h, refl)
unchecked program input drawn old f h = absurd h

-- a picture without a run, and one of a right answer
pub still : (t : Program) (program input : List ℕ) (r : Result (String Global) WorkFault) (y : Result DrawnPicture WorkFault) → IsPictured t program [] [] r
    → IsEndedPicture Finished r y → IsDrawnFor t program input Network y
still t program input (Ok picture) y is e = subst (IsDrawnFor t program input Network) (sym e) (refl, is)
still t program input (Err f) y is e = subst (IsDrawnFor t program input Network) (sym e) (subst (IsNotDrawn t input Network) (sym is) refl)

pub moving : (t : Program) (program input : List ℕ) (bound : ℕ) (a : Answer) (streams : List Stream) (ends : List End) (r : Result (String Global) WorkFault) (y : Result DrawnPicture WorkFault)
    → IsRunOf t input bound a → streams ≡ a.streams.items → ends ≡ a.ends.items → IsPictured t program streams ends r → IsEndedPicture a.verdict r y
    → IsDrawnFor t program input (Run bound) y
moving t program input bound a streams ends (Ok picture) y run s e is made =
    subst (IsDrawnFor t program input (Run bound)) (sym made)
    (a, run, refl, subst (λ l. IsPicture t program l a.ends.items (string_bytes picture)) s (subst (λ l. IsPicture t program streams l (string_bytes picture)) e is))
moving t program input bound a streams ends (Err f) y run s e is made =
    subst (IsDrawnFor t program input (Run bound)) (sym made) (subst (IsNotDrawn t input (Run bound)) (sym is) (inl refl))

pub undrawn : (program input : List ℕ) (drawn : Drawn) (t : Program) (old : Option (List ℕ)) (f : WorkFault) → IsChecked program t
    → IsNotDrawn t input drawn f → IsDrawn program input drawn old old (Err f)
undrawn program input drawn t old (Text f) checked h = (inr (t, checked, h), refl)
undrawn program input drawn t old (RunWork f) checked h = (inr (t, checked, h), refl)
undrawn program input drawn t old f checked h = absurd h

-- the ends of a right answer wait on channels of the network
pub standing : (program : List ℕ) (t : Program) (lists : Lists) (bound : ℕ) (a : Answer) → IsChecked program t → IsRight (network_of t) (inputs_of lists) bound None a
    → AreStandings (network_of t) (map stands a.ends.items)
standing program t lists bound a checked right = stand t checked.1 (inputs_of lists) bound a.verdict a.ends.items a.events right.run

pub unrun : (bound : ℕ) (f : RunFault) → IsRefusedRun bound f → IsUnrunFor (Run bound) f
unrun bound fault.BadConfig h = inr h
unrun bound fault.NoMemory h = inl refl
unrun bound f h = absurd h
