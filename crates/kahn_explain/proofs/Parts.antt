-- What the parts of explaining say of the whole.
use Rattle.kahn_explain.proofs.Common.{◌∙◌, ℕ, List, ◌++◌, Option, Result, Ok, Err, ap, append_assoc, inl, inr, refl, string_bytes, subst, sym, Appends-trans, Appends, Config, NoMemory, Program, Lists, IsRightRun, IsUnrun, IsInputTextFault, StandsFor, WorkFault, Text, Run, Write, are_allowed, HasRefused, HasWritten, IsAdmitted, Admitted, Came, Stopped, Refused, Request, IsCountedRun, IsToldFor, AreNotes, AreNotesBefore, AreNotesOfUnrun, HasExplained, HasLooked, HasComeTo, IsLookedAt, IsToldOf, IsInputless}
use Rattle.kahn_streams.specs.{declared.fault.RunFault.RunFault, declared.answer.Verdict.TheVariants.Finished}
use Rattle.kahn_texts.specs.declared.input.TextFault.{TextFault}
use Rattle.kahn_explanation.specs.{declared.why.told.Finding.Finding, declared.why.told.Finding.TheVariants.Stop}
use Rattle.kahn_sequential.specs.declared.counted.Counted.{Counted}

-- behind notes
behind : (notes text : List ℕ) (came : Came) (old mid new : Option (List ℕ)) (r : Result Came WorkFault) → Appends old mid notes → HasWritten text came mid new r
    → HasWritten (notes ++ text) came old new r
behind notes text came old mid new r gone (inl (is, out)) = inl (is, Appends-trans old mid new notes text gone out)
behind notes text came old mid new r gone (inr (f, is, (front, rest, split, out))) =
    inr (f, is, (notes ++ front, rest, ap (λ l. notes ++ l) split ∙ sym (append_assoc notes front rest), Appends-trans old mid new notes front gone out))

pub counted_right : (t : Program) (lists : Lists) (config : Config) (x : Counted) → IsCountedRun t lists config x → IsRightRun t lists config x.answer
counted_right t lists config x (allowed, (watch, watched, (right, counts))) = (allowed, (watch, watched, right))

module _ (x : Request) where
  -- why the program text is refused
  pub refused : (P : Finding → List ℕ → Type 0) (U : RunFault → List ℕ → Type 0) (N : List ℕ → Type 0) (old new : Option (List ℕ)) (r : Result Came WorkFault)
      → HasRefused x.path.now x.program.now x.strict old new r → HasComeTo x P U N old new r
  refused P U N old new (Ok (Stopped y)) h = absurd h
  refused P U N old new (Err (Text f)) h = absurd h
  refused P U N old new (Err (Run f)) h = inl h
  refused P U N old new (Err (Write f)) h = (h.0, inl (Refused, h.1), h.2)
  refused P U N old new r h = h

  -- what is told went out
  told_out : (P : Finding → List ℕ → Type 0) (U : RunFault → List ℕ → Type 0) (N : List ℕ → Type 0) (y : Finding) (text : List ℕ) (old new : Option (List ℕ))
      (r : Result Came WorkFault) → P y text → HasWritten text (Stopped y) old new r → HasComeTo x P U N old new r
  told_out P U N y text old new r is (inl (came, out)) = subst (HasComeTo x P U N old new) (sym came) (text, is, out)
  told_out P U N y text old new r is (inr (f, came, out)) = subst (HasComeTo x P U N old new) (sym came) (text, inl (Stopped y, is), out)

  -- of an allowed program
  module _ (it : Admitted) (on : IsAdmitted x.path.now x.program.now x.strict it) where
    -- whose input text is refused
    pub unfed : (f : TextFault) → IsInputTextFault it.network x.input.now f → IsInputless x f
    unfed f h = ((it.network, on.checked, h), (string_bytes it.notes, are_allowed x.path.now x.program.now x.strict it on))

    module _ (lists : Lists) (stands : StandsFor it.network x.input.now lists) where
      -- and whose input text stands for lists
      before : AreNotesBefore x it.network lists (string_bytes it.notes)
      before = (on.checked, stands, are_allowed x.path.now x.program.now x.strict it on)

      pub notes_before : AreNotes x (string_bytes it.notes)
      notes_before = (it.network, lists, before)

      -- whose run is refused
      pub unrun : (config : Config) (f : RunFault) → IsUnrun it.network config f → AreNotesOfUnrun x config f (string_bytes it.notes)
      unrun config f why = (it.network, lists, before, why)

      -- whose run was not, with no memory to explain it
      pub unexplained : (config : Config) (run : Counted) → IsCountedRun it.network lists config run → AreNotesOfUnrun x config NoMemory (string_bytes it.notes)
      unexplained config run (allowed, (watch, watched, right)) = unrun config NoMemory (allowed, (watch, watched))

      -- which was only looked at
      pub looked_out : (old new : Option (List ℕ)) (r : Result Came WorkFault) → HasWritten (string_bytes it.notes) (Stopped (Stop Finished)) old new r → HasLooked x old new r
      looked_out old new r out =
          told_out (IsLookedAt x) (λ f text. ⊥) (λ text. ⊥) (Stop Finished) (string_bytes it.notes) old new r (refl, notes_before) out

      -- and which was run
      pub explained_out : (config : Config) (run : Counted) (told : Finding) (words : List ℕ) (old mid new : Option (List ℕ)) (r : Result Came WorkFault)
          → Appends old mid (string_bytes it.notes) → IsCountedRun it.network lists config run → IsToldFor it.network run.answer told words
          → HasWritten words (Stopped told) mid new r → HasExplained x config old new r
      explained_out config run told words old mid new r gone right is out =
          told_out (IsToldOf x config) (AreNotesOfUnrun x config) (AreNotes x) told (string_bytes it.notes ++ words) old new r
          (it.network, lists, run, string_bytes it.notes, words, before, right, is, refl) (behind (string_bytes it.notes) words (Stopped told) old mid new r gone out)
