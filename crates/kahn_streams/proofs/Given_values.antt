-- What is given to the input channels stands.
use Rattle.kahn_streams.proofs.Common.{◌≡◌, ◌≤◌, ℕ, Some, ap, sym, ◌∙◌, slice_get, length, List, get_or_past, Program, Value, Inner, Input, Schema, network_of, role_at, source_by, first_writer, Given, Channel, fed, iterate, Lists, inputs_of, Holds, []}
use Rattle.kahn_streams.specs.declared.tree.Kind.TheVariants as KindOf

pub stands_given : (t : Program) (lists : Lists) (c k : ℕ) (v : Value) → role_at (network_of t) c ≡ Input →
    slice_get (inputs_of lists c) k ≡ Some v → Holds t lists (Channel c) k v
stands_given t lists c k v is at =
    let N = network_of t in
    let given : source_by (role_at N c) (first_writer N.instances 0 c) ≡ Given = ap (λ r. source_by r (first_writer N.instances 0 c)) is in
    let here : iterate N (inputs_of lists) 0 (Channel c) ≡ inputs_of lists c = ap (λ s. fed s (inputs_of lists) (λ p. []) (Channel c)) given in
    ∣ (0, ap (λ (l : List Value). slice_get l k) here ∙ at) ∣₁

-- past the last channel there is no input channel
pub no_channel : {A : Type 0} (N : Schema) (c : ℕ) → length N.channels ≤ c → role_at N c ≡ Input → A
no_channel N c past is =
    let inner : role_at N c ≡ Inner = ap (λ r. r.1) (get_or_past N.channels c (KindOf.Integer, Inner) past) in
    absurd (let apart : Inner ≡ Input = sym inner ∙ is in cc)
