-- Believed. What drawing does, from the bytes of the program text and of the input text to the bytes of the picture.
use Rattle.std.specs.Prelude.{◌≡◌, ◌⊎◌, ℕ, ◌^◌, ◌≤◌, List, [], Option, None, Result, Ok, Err, string_bytes}
use Rattle.std.specs.{declared.alloc.Global.Global, declared.string.String.String, Io.KnownBytes.Appends}
use Rattle.kahn_streams.specs.{declared.answer.Answer.Answer, declared.answer.End.End, declared.answer.Stream.Stream, declared.answer.Verdict.Verdict, declared.answer.Verdict.TheVariants.Finished, declared.fault.RunFault.RunFault, declared.fault.RunFault.TheVariants.NoMemory, declared.tree.Program.Program, Answers.IsRight, Inputs.Lists, Inputs.inputs_of, Network.network_of, Written.AppendsFront}
use Rattle.kahn_graph.specs.Graph.{IsPicture}
use Rattle.kahn_texts.specs.Formats.{IsInputTextFault, StandsFor}
use Rattle.kahn_fault.specs.{declared.work.WorkFault.WorkFault, declared.work.WorkFault.TheVariants.Text, declared.work.WorkFault.TheVariants.Run as RunWork, declared.work.WorkFault.TheVariants.Write, Work.IsChecked, Work.IsUnchecked}
use Rattle.kahn_draw.specs.{declared.drawing.Drawn.Drawn, declared.drawing.DrawnPicture.DrawnPicture, declared.drawing.Drawn.TheVariants.Network, declared.drawing.Drawn.TheVariants.Run}

-- a right answer for what the input text stands for, up to this bound
abbrev pub IsRunOf : Program → List ℕ → ℕ → Answer → Type 0
IsRunOf t input bound a = (lists : Lists) × StandsFor t input lists × IsRight (network_of t) (inputs_of lists) bound None a

-- a picture of the network of a program text, or of a run of it that ended so
abbrev pub IsPictureFor : Program → List ℕ → List ℕ → Drawn → Verdict → List ℕ → Type 0
IsPictureFor t program input Network v picture = (v ≡ Finished) × IsPicture t program [] [] picture
IsPictureFor t program input (Run bound) v picture =
    (a : Answer) × IsRunOf t input bound a × (v ≡ a.verdict) × IsPicture t program a.streams.items a.ends.items picture

-- memory was refused, or the bound is past its limit
abbrev pub IsUnrunFor : Drawn → RunFault → Type 0
IsUnrunFor Network f = f ≡ NoMemory
IsUnrunFor (Run bound) f = (f ≡ NoMemory) ⊎ (2 ^ 48 ≤ bound)

-- why there is no picture: the input text of a run is at fault, or that
abbrev pub IsNotDrawn : Program → List ℕ → Drawn → WorkFault → Type 0
IsNotDrawn t input drawn (RunWork f) = IsUnrunFor drawn f
IsNotDrawn t input (Run bound) (Text f) = IsInputTextFault t input f
IsNotDrawn t input drawn f = ⊥

-- a picture with these streams and these ends, or want of memory
abbrev pub IsPictured : Program → List ℕ → List Stream → List End → Result (String Global) WorkFault → Type 0
IsPictured t program streams ends (Ok picture) = IsPicture t program streams ends (string_bytes picture)
IsPictured t program streams ends (Err f) = f ≡ RunWork NoMemory

-- the same picture, with how its run ended
abbrev pub IsEndedPicture : Verdict → Result (String Global) WorkFault → Result DrawnPicture WorkFault → Type 0
IsEndedPicture v (Ok text) r = r ≡ Ok (record { text = text; verdict = v })
IsEndedPicture v (Err f) r = r ≡ Err f

-- the picture of a network of a program text, or of a run of it, or why there is none
abbrev pub IsDrawnFor : Program → List ℕ → List ℕ → Drawn → Result DrawnPicture WorkFault → Type 0
IsDrawnFor t program input drawn (Ok x) = IsPictureFor t program input drawn x.verdict (string_bytes x.text)
IsDrawnFor t program input drawn (Err f) = IsNotDrawn t input drawn f

-- one of the network of the text
abbrev pub IsPictureOf : List ℕ → List ℕ → Drawn → Verdict → List ℕ → Type 0
IsPictureOf program input drawn v picture = (t : Program) × IsChecked program t × IsPictureFor t program input drawn v picture

-- a picture went out, of a run that ended so, or why not: a text is at fault, or memory was refused, and nothing went out; or a write failed after a prefix of the picture
abbrev pub IsDrawn : List ℕ → List ℕ → Drawn → Option (List ℕ) → Option (List ℕ) → Result Verdict WorkFault → Type 0
IsDrawn program input drawn old new (Ok v) = (picture : List ℕ) × IsPictureOf program input drawn v picture × Appends old new picture
IsDrawn program input drawn old new (Err (Write f)) =
    (v : Verdict) × (picture : List ℕ) × IsPictureOf program input drawn v picture × AppendsFront old new picture
IsDrawn program input drawn old new (Err f) =
    (IsUnchecked program f ⊎ ((t : Program) × IsChecked program t × IsNotDrawn t input drawn f)) × (new ≡ old)
