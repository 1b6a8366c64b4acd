-- Notes of which each tells a fault.
use Rattle.kahn_program_notes.proofs.Common.{◌≡◌, ℕ, List, [], ◌∷◌, ◌++◌, All, Contains, length, refl, subst, sym, All-from_recursion, All-push, CheckFault, TellsFault, TellsMore, TellsOne}
use Rattle.kahn_diagnostic.specs.declared.rendering.Note.{Note}

-- one note more, and one alone
pub one_more : (text : List ℕ) (fs : List CheckFault) (note : Note) (f : CheckFault) (old new : List Note) → (Contains fs f → TellsFault text fs note f) → new ≡ old ++ note ∷ [] → TellsMore text fs f old new
one_more text fs note f old new tells is has all = subst (All (TellsOne text fs)) (sym is) (All-push (TellsOne text fs) old note all (f, tells has))

pub one_alone : (text : List ℕ) (fs : List CheckFault) (note : Note) (f : CheckFault) (old none new : List Note) → (Contains fs f → TellsFault text fs note f) → none ≡ [] → new ≡ none ++ note ∷ [] → TellsMore text fs f old new
one_alone text fs note f old none new tells is one has all =
    one_more text fs note f none new tells one has (subst (All (TellsOne text fs)) (sym is) (All-from_recursion (TellsOne text fs) [] tt))

pub no_faults : (fs : List CheckFault) → length fs ≡ 0 → fs ≡ []
no_faults [] h = refl
no_faults (f ∷ fs) h = cc
