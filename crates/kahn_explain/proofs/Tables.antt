-- The columns of all lines, put together.
use Rattle.kahn_explain.proofs.Common.{◌≡◌, ◌∙◌, ℕ, ◌+◌, List, [], ◌∷◌, ◌++◌, All, flat_map, length, map, sym, ap, subst, add-one, map-append, All-append, All-push, Program, Line, Stream, network_of, inputs_of, Channel, IsRecordedRun, Recorded, IsHistory, all_channels, stream_line, AreAllHistories, AreColumns, AreOfChannels, IsAny, IsHistoryOf, print_part}
use Rattle.kahn_explain.proofs.{Kept_columns.of_stream, Cells.printed, Cells.prints_all}

-- one channel more
pub columns_more : (t : Program) (x : Recorded) (k : ℕ) (s : Stream) (old new : List Stream) → new ≡ old ++ s ∷ [] → AreColumns t x (all_channels k) old
    → IsHistoryOf t x (Channel k) s → AreColumns t x (all_channels (k + 1)) new
columns_more t x k s old new is before found = record {
  lines =
      ap (map stream_line) is ∙ map-append stream_line old (s ∷ []) ∙ ap (λ l. l ++ s.line ∷ []) before.lines ∙ ap (λ (c : Line). all_channels k ++ c ∷ []) found.0
      ∙ ap all_channels (sym (add-one k));
  each = subst (All (IsAny t x)) (sym is) (All-push (IsAny t x) old s before.each found.1);
}

-- and the prints
pub are_histories : (t : Program) (x : Recorded) (old new : List Stream) → AreOfChannels t x old → new ≡ old ++ flat_map print_part x.answer.streams.items → AreAllHistories t x new
are_histories t x old new before behind lists config (allowed, (w, watched, (right, counts, kept))) =
    let ran : IsRecordedRun t lists config x = (allowed, (w, watched, (right, counts, kept))) in
    let P : Stream → Type 0 = IsHistory (network_of t) (inputs_of lists) x.answer.verdict in
    let prints : List Stream = flat_map print_part x.answer.streams.items in
    record {
      lines =
          ap (map stream_line) behind ∙ map-append stream_line old prints ∙ ap (λ l. l ++ map stream_line prints) before.lines
          ∙ ap (λ l. all_channels (length (network_of t).channels) ++ l) (printed (network_of t) w x.answer.streams.items right.named);
      each =
          subst (All P) (sym behind)
          (All-append P old prints (λ k d below. before.each k d below lists config ran) (prints_all P x.answer.streams.items (λ s j e. of_stream t x s (j, e) lists config ran)));
    }
