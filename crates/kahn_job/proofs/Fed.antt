-- The end of an input channel: what is ready is a value of its list, and it goes on with another list.
use Rattle.kahn_job.proofs.Common.{arith, ◌≡◌, ℕ, length, refl, ap, ◌∙◌, Some, None, inputs_of, Lists, LaneName, lane_name, moved_to, Lane, IsWithinInput, HasSettled, end_of}
use Rattle.kahn_streams.specs.declared.value.Line.TheVariants.{Channel}
use Rattle.kahn_job.specs.{declared.feed.Feed.Feed, declared.port.Way.Way}
use Rattle.kahn_job.specs.declared.port.Way.TheVariants as way

some_none : {l : Lane} → Some l ≡ None → ⊥
some_none e = cc

same_name : {a b : LaneName} → Some a ≡ Some b → a ≡ b
same_name e = cc

same_channel : {c d : ℕ} → Channel c ≡ Channel d → c ≡ d
same_channel e = cc

pub fed : (w : Way) → IsWithinInput (end_of w)
fed (way.Takes r asked) t lists d none name ready = absurd (some_none none)
fed (way.Puts s) t lists d none name ready = absurd (some_none none)
fed way.Nothing t lists d none name ready = absurd (omega (arith, ready))
fed (way.Feeds f) t lists d none name ready =
    let n : lane_name f.network.value f.input.value f.channel ≡ lane_name t lists d = same_name name in
    let i : f.input.value ≡ lists = ap (λ (x : LaneName). x.input) n in
    let c : f.channel ≡ d = same_channel (ap (λ (x : LaneName). x.line) n) in
    let l : length (inputs_of f.input.value f.channel) ≡ length (inputs_of lists d) = ap (λ x. length (inputs_of x f.channel)) i ∙ ap (λ x. length (inputs_of lists x)) c in
    omega (arith, ready, l)

pub regrown : (f g : Feed) (lists : Lists) → g.network ≡ f.network → g.input.value ≡ lists → g.channel ≡ f.channel → g.next ≡ f.next →
    (n : LaneName) → (end_of (way.Feeds f)).name ≡ Some n → HasSettled (moved_to lists n) (end_of (way.Feeds f)) (end_of (way.Feeds g))
regrown f g lists network input channel next n name = record {
  named = (λ i. Some (lane_name (network i).value (input i) (channel i))) ∙ ap (λ (x : LaneName). Some (moved_to lists x)) (same_name name);
  reads = refl;
  writes = refl;
  next = next;
  bare = λ _. refl;
  flushed = λ w. absurd cc;
  behind = omega arith;
}
