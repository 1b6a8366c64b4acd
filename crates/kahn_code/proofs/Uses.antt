-- What the parameters of an instance are for.
use Rattle.std.proofs.Common.{slice_get}
use Rattle.std.proofs.Math.ListN.{get_or-map}
use Rattle.kahn_code.proofs.Common.{◌≡◌, ℕ, zero, suc, List, [], ◌∷◌, map, refl, ap, ◌∙◌, slice_index_or, pos, Option, option_map, Some, None, Bool, sym, subst, get_or_from_slice_get, slice_get-map, handed_within, slice_get-get_or, Number, Schema, Actual, Reads, Writes, Hands, instance_at, actual_at, role_at, ParameterUse, is_output, Direction, Joins, route_of, to_read, to_write, to_have, use_of, AreUses}

use_at : (N : Schema) (p : ℕ) (uses : List ParameterUse) (q : ℕ) → AreUses N p uses → slice_index_or uses q to_have ≡ use_of N (actual_at (instance_at N p) q)
use_at N p uses q h = ap (λ l. slice_index_or l q to_have) h ∙ get_or-map (use_of N) (instance_at N p).actuals q (Hands (Number (pos 0)))

-- the channel of a use with this direction
abbrev route_by : Option Direction → ℕ → Option ℕ
route_by (Some d) c = Some c
route_by None c = None

route_here : (N : Schema) (a : Actual) → route_by (use_of N a).direction (use_of N a).channel ≡ route_of a
route_here N (Reads c) = refl
route_here N (Writes c) = refl
route_here N (Hands v) = refl

routed : (N : Schema) (a : Actual) (w : ParameterUse) (o : Option Direction) → w ≡ use_of N a → w.direction ≡ o → route_by o w.channel ≡ route_of a
routed N a w o e f = ap (λ o. route_by o w.channel) (sym f) ∙ ap (λ w. route_by w.direction w.channel) e ∙ route_here N a

pub reads_by : (N : Schema) (a : Actual) (c : ℕ) → to_read c ≡ use_of N a → a ≡ Reads c
reads_by N (Reads d) c e = ap Reads (sym (ap (λ w. w.channel) e))
reads_by N (Writes d) c e = let f = ap (λ w. w.direction) e in absurd cc
reads_by N (Hands v) c e = let f = ap (λ w. w.direction) e in absurd cc

pub writes_by : (N : Schema) (a : Actual) (c : ℕ) (b : Bool) → to_write c b ≡ use_of N a → (a ≡ Writes c) × (is_output (role_at N c) ≡ b)
writes_by N (Reads d) c b e = let f = ap (λ w. w.direction) e in absurd cc
writes_by N (Writes d) c b e =
    let f : d ≡ c = sym (ap (λ w. w.channel) e) in
    let g : is_output (role_at N d) ≡ b = sym (ap (λ w. w.is_output) e) in
    (ap Writes f, ap (λ x. is_output (role_at N x)) (sym f) ∙ g)
writes_by N (Hands v) c b e = let f = ap (λ w. w.direction) e in absurd cc

-- the use of a parameter that has a channel stands in the list
pub listed : (N : Schema) (p : ℕ) (uses : List ParameterUse) (q c : ℕ) (a : Actual) → AreUses N p uses → Joins a c → actual_at (instance_at N p) q ≡ a → slice_get uses q ≡ Some (use_of N a)
listed N p uses q c a are j e =
    let acts = (instance_at N p).actuals in
    let lt = (handed_within N p q c (subst (λ x. Joins x c) (sym e) j)).1 in
    ap (λ l. slice_get l q) are ∙ slice_get-map (use_of N) acts q ∙ ap (option_map (use_of N)) (slice_get-get_or acts q (Hands (Number (pos 0))) lt) ∙ ap (λ x. Some (use_of N x)) e

-- and what stands there is its use
pub used : (N : Schema) (p : ℕ) (uses : List ParameterUse) (q : ℕ) (w : ParameterUse) → AreUses N p uses → slice_get uses q ≡ Some w → w ≡ use_of N (actual_at (instance_at N p) q)
used N p uses q w are e =
    let acts = (instance_at N p).actuals in
    sym (get_or_from_slice_get (map (use_of N) acts) q w to_have (sym (ap (λ l. slice_get l q) are) ∙ e)) ∙ get_or-map (use_of N) acts q (Hands (Number (pos 0)))

-- so its channel is told by it
pub routed_some : (N : Schema) (p : ℕ) (uses : List ParameterUse) (q : ℕ) (w : ParameterUse) (d : Direction) → AreUses N p uses → slice_get uses q ≡ Some w → w.direction ≡ Some d → Some w.channel ≡ route_of (actual_at (instance_at N p) q)
routed_some N p uses q w d are at e = routed N _ w (Some d) (used N p uses q w are at) e

pub routed_none : (N : Schema) (p : ℕ) (uses : List ParameterUse) (q : ℕ) (w : ParameterUse) → AreUses N p uses → slice_get uses q ≡ Some w → w.direction ≡ None → None ≡ route_of (actual_at (instance_at N p) q)
routed_none N p uses q w are at e = routed N _ w None (used N p uses q w are at) e

none_there : (uses : List ParameterUse) (q : ℕ) → slice_get uses q ≡ None → slice_index_or uses q to_have ≡ to_have
none_there [] q e = refl
none_there (w ∷ uses) zero e = absurd cc
none_there (w ∷ uses) (suc q) e = none_there uses q e

-- what isn't there has none
pub unrouted : (N : Schema) (p : ℕ) (uses : List ParameterUse) (q : ℕ) → AreUses N p uses → slice_get uses q ≡ None → None ≡ route_of (actual_at (instance_at N p) q)
unrouted N p uses q are e = routed N _ to_have None (sym (none_there uses q e) ∙ use_at N p uses q are) refl
