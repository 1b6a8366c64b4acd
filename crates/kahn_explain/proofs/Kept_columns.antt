-- The columns of a run that keeps all channels.
use Rattle.kahn_explain.proofs.Common.{◌≡◌, ◌∙◌, ℕ, ◌<◌, ap, arith, false, length, Some, slice_get, sym, length-map, Config, Program, Line, Kind, Role, Output, Node, channels_of, network_of, role_at, Lists, inputs_of, Channel, Print, HasStream, IsRightRun, is_output, stream_line, stream_lines, Stream, IsNetworkLine, IsLine, channel_count, instance_count, HasCounts, Counted, IsRecordedRun, Recorded, HasLine, IsAny, IsHistoryOf, IsRecord, IsPrefix, IsWhole, iterate, subst, values_of}
use Rattle.kahn_streams.proofs.By_number.{all_at, mapped}
use Rattle.kahn_texts.proofs.Answer_lines.{streamed_lines}
use Rattle.kahn_explain.proofs.Cells.{has_line, output_streamed}

-- the answer of such a run is right, and it has a stream of each channel
pub right_run : (t : Program) (lists : Lists) (config : Config) (x : Recorded) → IsRecordedRun t lists config x → IsRightRun t lists config x.answer
right_run t lists config x (allowed, (w, watched, (right, counts, kept))) = (allowed, (w, watched, right))

pub how_many : (t : Program) (x : Recorded) → IsRecord t x → length x.channels.items ≡ length (network_of t).channels
how_many t x (lists, config, (allowed, (w, watched, (right, counts, kept)))) = kept.count

-- the column of an output
pub output_line : (t : Program) (x : Recorded) (c : ℕ) → IsRecord t x → c < length (network_of t).channels → role_at (network_of t) c ≡ Output → HasLine x.answer (Channel c)
output_line t x c (lists, config, (allowed, (w, watched, (right, counts, kept)))) below role =
    has_line (network_of t) w x.answer c right.named below (output_streamed (network_of t) w c role)

-- a stream of the answer is a history
pub of_stream : (t : Program) (x : Recorded) (s : Stream) → HasStream x.answer s → IsAny t x s
of_stream t x s has lists config (allowed, (w, watched, (right, counts, kept))) = record {
  begins = subst (λ l. (n : ℕ) × IsPrefix l (iterate (network_of t) (inputs_of lists) n s.line)) (sym (right.values s has)) (right.run.others s.line);
  whole = λ e. right.whole e s has;
}

pub output_column : (t : Program) (x : Recorded) (c : Line) (s : Stream) → HasStream x.answer s × (s.line ≡ c) → IsHistoryOf t x c s
output_column t x c s (has, line) = (line, of_stream t x s has)

-- and one that was kept beside it
pub kept_column : (t : Program) (x : Recorded) (c : ℕ) (s : Stream) → IsRecord t x → slice_get x.channels.items c ≡ Some s → is_output (role_at (network_of t) c) ≡ false
    → IsHistoryOf t x (Channel c) s
kept_column t x c s (lists, config, (allowed, (w, watched, (right, counts, kept)))) at inner = ((kept.each c s at inner).line, all)
  where
    all : IsAny t x s
    all lists config (allowed, (w, watched, (right, counts, kept))) =
        let is = kept.each c s at inner in
        let N = network_of t in
        let I = inputs_of lists in
        record {
          begins =
              subst (λ d. (n : ℕ) × IsPrefix (values_of s) (iterate N I n d)) (sym is.line)
              (subst (λ l. (n : ℕ) × IsPrefix l (iterate N I n (Channel c))) (sym is.values) (right.run.others (Channel c)));
          whole = λ e. subst (λ d. IsWhole N I d (values_of s)) (sym is.line) (is.whole e);
        }

-- the line of a stream is one of the network
network_line : (t : Program) (c : Line) → IsLine t c → IsNetworkLine (network_of t) c
network_line t (Channel c) h = let e : length (network_of t).channels ≡ channel_count t = length-map {B = Kind × Role} (channels_of t.declarations.items) (λ x. x.1) in omega (arith, h, e)
network_line t (Print p) h = let e : length (network_of t).instances ≡ instance_count t = length-map {B = Node} t.instances.items _ in omega (arith, h, e)

pub stream_listed : (t : Program) (x : Counted) (k : ℕ) (s : Stream) → HasCounts t x → slice_get x.answer.streams.items k ≡ Some s → IsNetworkLine (network_of t) s.line
stream_listed t x k s (lists, config, (allowed, (w, watched, (right, counts)))) at =
    network_line t s.line (all_at (IsLine t) (stream_lines (network_of t) w) k s.line (streamed_lines t w)
    (ap (λ l. slice_get l k) (sym right.named) ∙ mapped stream_line x.answer.streams.items k s at))
