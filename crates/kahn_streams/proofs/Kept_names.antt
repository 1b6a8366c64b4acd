-- The channels of a network by their names.
use Rattle.kahn_streams.proofs.Common.{◌≡◌, ℕ, suc, ◌+◌, ◌<◌, ◌≤◌, Bool, true, false, cond, not, List, [], ◌∷◌, ◌++◌, map, length, None, Some, refl, ap, sym, ◌∙◌, subst, arith, string_bytes, bytes_eq, append-nil, append_assoc, AllByRecursion, Name, Kind, Role, Program, Scope, place_of, bytes_of, channel_names, shown, channel_line, lines_of, declared_channels, IsWellWired}
use Rattle.std.specs.{declared.string.String.String, declared.alloc.Global.Global, List.IsDistinct, List.position_or_len, Map.keys_of, Prelude.position, Prelude.nat_lt, Prelude.MatchOption, String.string_eq, String.string_eq_equiv, Cmp.IsEquivalence}
use Rattle.kahn_streams.specs.{Inputs.IsNameOf, Inputs.IsNoName, Wires.Line, Wires.NamedWire}
use Rattle.kahn_streams.proofs.By_number.{channels_same, distinct_channels}
use Rattle.indexmap.specs.IndexMap.{insert_entry, insert_all}
use Rattle.indexmap.proofs.MapLemmas.{absent_before, absent_from_lookup, insert_entry-absent}

-- the names of wires, in their order
abbrev pub wire_names : List NamedWire → Scope
wire_names ws = map (λ w. string_bytes w.0) ws

shown_names : (ws : List NamedWire) → wire_names ws ≡ map (λ (l : Line). l.0.0) (map shown ws)
shown_names [] = refl
shown_names (w ∷ ws) = ap (λ z. string_bytes w.0 ∷ z) (shown_names ws)

line_names : (t : Program) (cs : List (Name × (Kind × Role))) → map (λ (l : Line). l.0.0) (map (channel_line t) cs) ≡ map (λ (c : List ℕ × (Kind × Role)). c.0) (map (λ e. (bytes_of e.0, e.1)) cs)
line_names t [] = refl
line_names t (c ∷ cs) = ap (λ z. bytes_of c.0 ∷ z) (line_names t cs)

-- they are those of the channels
names_kept : (t : Program) (ws : List NamedWire) → map shown ws ≡ lines_of t → wire_names ws ≡ channel_names t
names_kept t ws h =
    let ds = t.declarations.items in
    shown_names ws ∙ ap (λ (z : List Line). map (λ l. l.0.0) z) h ∙ line_names t (declared_channels ds)
    ∙ ap (λ (z : List (List ℕ × (Kind × Role))). map (λ c. c.0) z) (sym (channels_same ds))

-- ---- where a name is

place_kept : (ws : List NamedWire) (x : List ℕ) → position_or_len (λ k. bytes_eq x (string_bytes k)) (keys_of ws) ≡ place_of (wire_names ws) x
place_kept [] x = refl
place_kept (w ∷ ws) x = by (bytes_eq x (string_bytes w.0)) _ _ (place_kept ws x)
  where
    by : (b : Bool) (n m : ℕ) → n ≡ m → cond (not b) (1 + n) 0 ≡ cond b 0 (suc m)
    by true n m h = refl
    by false n m h = omega (arith, h)

names_length : (ws : List NamedWire) → length (keys_of ws) ≡ length (wire_names ws)
names_length [] = refl
names_length (w ∷ ws) = ap suc (names_length ws)

pub named_kept : (t : Program) (ws : List NamedWire) (x : List ℕ) → map shown ws ≡ lines_of t → MatchOption (position (λ k. bytes_eq x (string_bytes k)) (keys_of ws)) (IsNoName t x) (IsNameOf t x)
named_kept t ws x h =
    subst (λ names. MatchOption (position (λ k. bytes_eq x (string_bytes k)) (keys_of ws)) (length names ≤ place_of names x) (λ c. (c ≡ place_of names x) × (c < length names))) (names_kept t ws h)
    (by (nat_lt p n) refl)
  where
    p : ℕ
    p = position_or_len (λ k. bytes_eq x (string_bytes k)) (keys_of ws)

    n : ℕ
    n = length (keys_of ws)

    by : (b : Bool) → nat_lt p n ≡ b → MatchOption (cond b (Some p) None) (length (wire_names ws) ≤ place_of (wire_names ws) x) (λ c. (c ≡ place_of (wire_names ws) x) × (c < length (wire_names ws)))
    by true e = (place_kept ws x, grind (arith, e, names_length ws))
    by false e = grind (arith, e, names_length ws, place_kept ws x)

-- ---- names that are put in one after another

apart_keys : (x : String Global) (ws : List NamedWire) → AllByRecursion (λ y. bytes_eq (string_bytes x) y ≡ false) (wire_names ws) → AllByRecursion (λ y. string_eq x y ≡ false) (keys_of ws)
apart_keys x [] h = tt
apart_keys x (w ∷ ws) h = (h.0, apart_keys x ws h.1)

distinct_keys : (ws : List NamedWire) → IsDistinct bytes_eq (wire_names ws) → IsDistinct string_eq (keys_of ws)
unfolding IsDistinct
distinct_keys [] h = tt
distinct_keys (w ∷ ws) h = (apart_keys w.0 ws h.0, distinct_keys ws h.1)

all_put : {K V : Type 0} {eq : K → K → Bool} → IsEquivalence eq → (es xs : List (K × V)) → IsDistinct eq (keys_of (es ++ xs)) → insert_all eq es xs ≡ es ++ xs
all_put laws es [] d = sym (append-nil es)
all_put {K} {V} {eq} laws es (x ∷ xs) d =
    let whole : (es ++ x ∷ []) ++ xs ≡ es ++ x ∷ xs = append_assoc es (x ∷ []) xs in
    let new : insert_entry eq es x.0 x.1 ≡ es ++ x ∷ [] = insert_entry-absent eq x.0 x.1 es (absent_from_lookup (eq x.0) es (absent_before laws es xs x d)) in
    ap (λ l. insert_all eq l xs) new ∙ all_put laws (es ++ x ∷ []) xs (subst (λ l. IsDistinct eq (keys_of l)) (sym whole) d) ∙ whole

-- the wires of a well wired program
pub wires_put : (t : Program) (ws : List NamedWire) → IsWellWired t → map shown ws ≡ lines_of t → insert_all string_eq [] ws ≡ ws
wires_put t ws wired h =
    all_put string_eq_equiv [] ws (distinct_keys ws (subst (IsDistinct bytes_eq) (sym (names_kept t ws h)) (distinct_channels t.declarations.items wired.names)))
