-- The value that was sent at a place.
use Rattle.kahn_needs.proofs.Common.{arith, ◌≡◌, ℕ, ◌<◌, List, length, map, refl, sym, ap, ◌∙◌, subst, Some, slice_get, slice_index_or, length-map, same_Some, there, mapped, is_output, is_watched, IsWriter, Writes, Written, actual_at, channel_source, instance_at, network_of, role_at, Side, Token, Line, Channel, Print, Value, sent_on, CellView, tokens, HaveSeats, Stood, Seats, HasCome, HasValue, or_right}
use Rattle.kahn_streams.specs.Tokens.{token_value}
use Rattle.kahn_needs.proofs.{Benched.found, Common.eqb_refl, Searching.same_writer}

-- ---- the value at a place

value_of_tokens : (b : Seats) (c : Line) (p : ℕ) (x : CellView) (s : Stood b p x) (vs : List Value) (ts : List Token) (k n : ℕ) → map token_value ts ≡ vs → length vs ≡ n → k < n → (v : Value) →
    ((t : Token) → slice_get ts k ≡ Some t → v ≡ t.value) → slice_get vs k ≡ Some v
value_of_tokens b c p x s vs ts k n e l less v told =
    let t = there ts k (omega (arith, ap length e, length-map ts token_value, l, less)) in
    subst (λ us. slice_get us k ≡ Some v) e (mapped token_value ts k t.0 t.1 ∙ ap Some (sym (told t.0 t.1)))

module _ (b : Seats) (laid : HaveSeats b) (c : ℕ) (s : Side) (writer : IsWriter (network_of b.network) c s) (x : CellView) (at : slice_get b.cells s.instance ≡ Some x)
    (src : channel_source (network_of b.network) c ≡ Written s.instance) (watch : b.watch ≡ Some c) (k : ℕ) (v : Value)
    (told : (t : Token) → slice_get (tokens x.kept s.parameter) k ≡ Some t → v ≡ t.value) where
  value_here : HasCome b (Channel c) k → HasValue b (Channel c) k v
  value_here come p is x' at' stood =
      let same : s.instance ≡ p = same_writer (sym src ∙ is) in
      let e : x ≡ x' = same_Some x x' (sym at ∙ subst (λ i. slice_get b.cells i ≡ Some x') (sym same) at') in
      let w : actual_at (instance_at (network_of b.network) p) s.parameter ≡ Writes c = subst (λ i. actual_at (instance_at (network_of b.network) i) s.parameter ≡ Writes c) same writer.1 in
      let kept = stood.kept s.parameter c w (or_right (is_output (role_at (network_of b.network) c)) (is_watched b.watch c) (ap (λ w. is_watched w c) watch ∙ eqb_refl c)) in
      value_of_tokens b (Channel c) p x' stood (sent_on (network_of b.network) x'.events p stood.tapes (Channel c)) (tokens x'.kept s.parameter) k come.3.0
      kept.values (come.3.1 p is x' at' stood) come.3.2 v (subst (λ (y : CellView). (t : Token) → slice_get (tokens y.kept s.parameter) k ≡ Some t → v ≡ t.value) e told)

pub value_there : {b n : Seats} (is : b ≡ n) (laid : HaveSeats b) (c : ℕ) (s : Side) (writer : IsWriter (network_of b.network) c s) {x : CellView} → x ≡ slice_index_or b.cells s.instance x →
    channel_source (network_of b.network) c ≡ Written s.instance → n.watch ≡ Some c → (k : ℕ) (v : Value) (ts : List Token) → ts ≡ tokens x.kept s.parameter →
    ((t : Token) → slice_get ts k ≡ Some t → v ≡ t.value) → HasCome n (Channel c) k → HasValue n (Channel c) k v
value_there {b} {n} is laid c s writer {x} value src watch k v ts same told =
    subst (λ (y : Seats). HasCome y (Channel c) k → HasValue y (Channel c) k v) is
    (value_here b laid c s writer x (found refl laid s.instance writer.0.0 value) src (ap (λ (y : Seats). y.watch) is ∙ watch) k v
    (subst (λ us. (t : Token) → slice_get us k ≡ Some t → v ≡ t.value) same told))

module _ (b : Seats) (p : ℕ) (x : CellView) (at : slice_get b.cells p ≡ Some x) (k : ℕ) (v : Value) (told : (t : Token) → slice_get x.printed k ≡ Some t → v ≡ t.value) where
  printed_here : HasCome b (Print p) k → HasValue b (Print p) k v
  printed_here come r is x' at' stood =
      let same : p ≡ r = same_writer is in
      let e : x ≡ x' = same_Some x x' (sym at ∙ subst (λ i. slice_get b.cells i ≡ Some x') (sym same) at') in
      let line : map token_value x'.printed ≡ sent_on (network_of b.network) x'.events r stood.tapes (Print p) =
      subst (λ i. map token_value x'.printed ≡ sent_on (network_of b.network) x'.events r stood.tapes (Print i)) (sym same) stood.printed.values in
      value_of_tokens b (Print p) r x' stood (sent_on (network_of b.network) x'.events r stood.tapes (Print p)) x'.printed k come.3.0
      line (come.3.1 r is x' at' stood) come.3.2 v (subst (λ (y : CellView). (t : Token) → slice_get y.printed k ≡ Some t → v ≡ t.value) e told)

pub printed_value : {b n : Seats} (is : b ≡ n) (laid : HaveSeats b) (p : ℕ) → p < length (network_of n.network).instances → {x : CellView} → x ≡ slice_index_or b.cells p x → (k : ℕ) (v : Value) (ts : List Token) → ts ≡ x.printed →
    ((t : Token) → slice_get ts k ≡ Some t → v ≡ t.value) → HasCome n (Print p) k → HasValue n (Print p) k v
printed_value {b} {n} is laid p here {x} value k v ts same told =
    subst (λ (y : Seats). HasCome y (Print p) k → HasValue y (Print p) k v) is
    (printed_here b p x (found is laid p here value) k v (subst (λ us. (t : Token) → slice_get us k ≡ Some t → v ≡ t.value) same told))
