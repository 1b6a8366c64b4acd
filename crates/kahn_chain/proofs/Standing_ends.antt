-- The ends of a right answer wait on channels of the network.
use Rattle.kahn_chain.proofs.Common.{◌≡◌, ℕ, ◌<◌, List, length, map, Option, None, Some, refl, sym, ap, subst, ◌∙◌, option_map, length-map, slice_get, slice_get-map, Schema, network_of, Reads, instance_at, actual_at, AreStandings, standing_of, stands, Standing, End, Outcome, Ended, Waits, Faulted, More, Verdict}
use Rattle.kahn_streams.specs.{declared.tree.Program.Program, Wiring.IsWellWired, Solution.Histories, Solution.Inputs, Answers.AreRight, Answers.IsOutcome, Answers.IsWaiting, declared.answer.Verdict.TheVariants.Finished, declared.answer.Verdict.TheVariants.Bound, declared.answer.Verdict.TheVariants.Memory}
use Rattle.kahn_streams.proofs.Sourced.{reads_listed}
use Rattle.kahn_chain.specs.declared.reason.Standing.TheVariants as S

pub end_of : (xs : List End) (q : ℕ) (s : Standing) (o : Option End) → slice_get xs q ≡ o → option_map stands o ≡ Some s
    → (x : End) × (slice_get xs q ≡ Some x) × (stands x ≡ s)
end_of xs q s None e f = absurd cc
end_of xs q s (Some x) e f = let same : stands x ≡ s = cc in (x, e, same)

pub waiting : (o : Outcome) (c : ℕ) → standing_of o ≡ S.Waits c → o ≡ Waits c
waiting (Waits d) c e = let same : d ≡ c = cc in ap Waits same
waiting _ c e = absurd cc

read_of : (v : Verdict) (N : Schema) (A : Histories) (p e c : ℕ) → IsWaiting v N A p e c → (q : ℕ) × (actual_at (instance_at N p) q ≡ Reads c)
read_of Memory N A p e c h = (h.2.0, h.2.1)
read_of _ N A p e c h = (h.0, h.1)

pub stand : (t : Program) → IsWellWired t → (I : Inputs) (bound : ℕ) (v : Verdict) (ends : List End) (events : ℕ) → AreRight (network_of t) I bound v ends events → AreStandings (network_of t) (map stands ends)
stand t wired I bound v ends events right = record {
  each = length-map ends stands ∙ right.instances;
  channels = reads;
}
  where
    reads : (p c : ℕ) → slice_get (map stands ends) p ≡ Some (S.Waits c) → c < length (network_of t).channels
    reads p c e =
        let x = end_of ends p (S.Waits c) (slice_get ends p) refl (sym (slice_get-map stands ends p) ∙ e) in
        let out : IsOutcome v (network_of t) right.tapes p x.0.events (Waits c) =
        subst (IsOutcome v (network_of t) right.tapes p x.0.events) (waiting x.0.outcome c x.2) (right.outcomes p x.0 x.1) in
        let read = read_of v (network_of t) right.tapes p x.0.events c out in
        reads_listed t wired p read.0 c read.1
