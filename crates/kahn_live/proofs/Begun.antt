-- What went out of each stream begins the history of its line.
use Rattle.kahn_live.proofs.Common.{[], ◌≡◌, ◌∙◌, ℕ, false, append_assoc, List, ◌++◌, Some, sym, ap, subst, slice_get, slice_index_or, HeldRun, IsRightSoFar, so_far, Verdict, are_rows, Live, HasHistories, IsShown}
use Rattle.std.proofs.lemmas.Option.{same_Some}
use Rattle.kahn_streams.specs.{declared.value.Value.Value, declared.value.Line.Line, Network.network_of, Solution.IsPrefix, Solution.IsWhole, Solution.iterate, Inputs.inputs_of, declared.answer.End.End, declared.answer.Verdict.TheVariants.Finished}
use Rattle.kahn_sequential.specs.Flows.{flow_lines}
use Rattle.kahn_session.proofs.Showing.{mapped}

-- ---- the stream so far

module _ (h : HeldRun) (v : Verdict) (ends : List End) (right : IsRightSoFar h v ends) where
  begins : (c : Line) (j : ℕ) → slice_get (flow_lines h) j ≡ Some c → (n : ℕ) × IsPrefix (so_far h c) (iterate (network_of h.network) (inputs_of h.input) n c)
  begins c j at =
      let (n, (rest, is)) = right.right.others c in
      (n, (rest, is ∙ ap (λ (vs : List Value). vs ++ rest) (sym (right.values c (j, at)))))

pub histories : (s : Live) → IsShown s → HasHistories s
histories s (v, is, (ends, right), begun, gone) = record {
  begin = λ j c at.
      let (news, more) = begun j c at in
      let (n, (rest, whole)) = begins s.flow.run v ends right c j at in
      (n, (news ++ rest, whole ∙ ap (λ (vs : List Value). vs ++ rest) more ∙ append_assoc (slice_index_or s.flow.out j []) news rest));
  whole = λ none done j c at.
      subst (λ (vs : List Value). IsWhole (network_of s.flow.run.network) (inputs_of s.flow.run.input) c vs) (sym (went none j c at)) (right.whole (same_Some v Finished (sym is ∙ done)) c (j, at));
}
  where
    went : are_rows s.columns ≡ false → (j : ℕ) (c : Line) → slice_get (flow_lines s.flow.run) j ≡ Some c → slice_index_or s.flow.out j [] ≡ so_far s.flow.run c
    went none j c at = ap (λ (l : List (List Value)). slice_index_or l j []) (gone none) ∙ mapped (so_far s.flow.run) (flow_lines s.flow.run) j c at
