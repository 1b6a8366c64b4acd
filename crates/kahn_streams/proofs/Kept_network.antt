-- What the tables of a network say of it.
use Rattle.kahn_streams.proofs.Common.{◌≡◌, ℕ, zero, suc, ◌<◌, List, [], ◌∷◌, map, length, Option, Some, refl, ap, sym, ◌∙◌, subst, string_bytes, length-map, get_or_from_slice_get, Name, Kind, Role, Process, Declaration, Program, bytes_of, IsMadeOf, network_of, instance_at, instance_from, process_of, idle, IsOnly, IsWriter, IsReader, source_of, channel_names, the_process as the_declared, shown, channel_line, lines_of, first, process_at, IsKept, declared_channels, writers, readers, IsMade, IsWellWired}
use Rattle.std.specs.Prelude.{slice_get, slice_index_or}
use Rattle.std.specs.{Map.values_of, declared.string.String.String, declared.alloc.Global.Global}
use Rattle.std.proofs.lemmas.Option.{same_Some}
use Rattle.kahn_streams.specs.{Types.Argument, Types.Instance, Wires.Line, Wires.NamedWire, declared.wires.Wire.Wire, inner.Sources.IsWire}
use Rattle.kahn_streams.specs.declared.tree.Declaration.TheVariants as D
use Rattle.kahn_streams.specs.Network as N
use Rattle.kahn_streams.proofs.{By_number.at_index, By_number.there, By_number.within, By_number.mapped, By_number.the_process, By_number.all_at, Sided.declared_there, Sided.channel_count, Sided.named_at, Sided.line_kind, Sided.line_role, Sided.one_writer, Sided.one_reader, Sided.sourced}

-- the number of wires
pub wire_count : (t : Program) (ws : List NamedWire) → map shown ws ≡ lines_of t → length ws ≡ length (network_of t).channels
wire_count t ws h =
    sym (length-map {B = Line} ws shown) ∙ ap (λ (z : List Line). length z) h ∙ length-map {B = Line} (declared_channels t.declarations.items) (channel_line t) ∙ sym (channel_count t)

one_wire : (t : Program) → IsWellWired t → (c : ℕ) (e : Name × (Kind × Role)) → slice_get (declared_channels t.declarations.items) c ≡ Some e → (w : NamedWire) → shown w ≡ channel_line t e → IsWire t c (string_bytes w.0) w.1
one_wire t h c e at w is =
    let name : string_bytes w.0 ≡ bytes_of e.0 = ap (λ (z : Line). z.0.0) is in
    let kind : w.1.kind ≡ e.1.0 = ap (λ (z : Line). z.0.1.0) is in
    let role : w.1.role ≡ e.1.1 = ap (λ (z : Line). z.0.1.1) is in
    let writer : w.1.writer ≡ first (writers t (bytes_of e.0)) = ap (λ (z : Line). z.1.0) is in
    let reader : w.1.reader ≡ first (readers t (bytes_of e.0)) = ap (λ (z : Line). z.1.1) is in
    record {
      name = named_at t c e at ∙ ap Some (sym name);
      kind = kind ∙ sym (line_kind t c e at);
      role = role ∙ sym (line_role t c e at);
      writer = subst (IsOnly (IsWriter (network_of t) c)) (sym writer) (one_writer t h c e at);
      source = sourced t h c e at ∙ ap source_of (sym writer);
      reader = subst (IsOnly (IsReader (network_of t) c)) (sym reader) (one_reader t h c e at);
    }

pub wire_at : (t : Program) (ws : List NamedWire) → IsWellWired t → map shown ws ≡ lines_of t → (c : ℕ) (w : NamedWire) → slice_get ws c ≡ Some w → IsWire t c (string_bytes w.0) w.1
wire_at t ws h lines c w is =
    let lt = subst (λ z. c < z) (wire_count t ws lines) (within ws c w is) in
    let d = declared_there t c lt in
    let shown_there = mapped shown ws c w is in
    let line_there = mapped (channel_line t) (declared_channels t.declarations.items) c d.0 d.1 in
    let alike : Some (shown w) ≡ Some (channel_line t d.0) = sym shown_there ∙ ap (λ z. slice_get z c) lines ∙ line_there in
    one_wire t h c d.0 d.1 w (same_Some _ _ alike)

-- the same of the wire that is found without its name
pub wire_valued : (t : Program) (ws : List NamedWire) → IsWellWired t → map shown ws ≡ lines_of t → (c : ℕ) (w : Wire) → slice_get (values_of ws) c ≡ Some w → (name : List ℕ) × IsWire t c name w
wire_valued t ws h lines c w is =
    let e = named ws c w is in
    (string_bytes e.0, wire_at t ws h lines c (e.0, w) e.1)
  where
    named : (ws : List NamedWire) (c : ℕ) (w : Wire) → slice_get (values_of ws) c ≡ Some w → (k : String Global) × (slice_get ws c ≡ Some (k, w))
    named [] c w is = absurd cc
    named (e ∷ ws) zero w is = (e.0, ap (λ v. Some (e.0, v)) (same_Some _ _ is))
    named (e ∷ ws) (suc c) w is = named ws c w is

-- the instance of a number
instance_made : (t : Program) (p : ℕ) (x : Instance) (o : Option Process) → slice_get t.instances.items p ≡ Some x → process_of t.declarations.items (bytes_of x.process) ≡ o →
    instance_at (network_of t) p ≡ instance_from (channel_names t) o x.arguments.items
instance_made t p x o is h =
    let made = λ (i : Instance). instance_from (channel_names t) (process_of t.declarations.items (bytes_of i.process)) i.arguments.items in
    get_or_from_slice_get (network_of t).instances p (made x) idle (mapped made t.instances.items p x is)
    ∙ ap (λ z. instance_from (channel_names t) z x.arguments.items) h

process_there : (o : Option Declaration) (q : Process) → the_declared o ≡ Some q → o ≡ Some (D.Process q)
process_there (Some (D.Process p)) q h = let same : p ≡ q = cc in ap (λ z. Some (D.Process z)) same
process_there _ q h = cc

-- the number of instances
instance_count : (t : Program) → length (network_of t).instances ≡ length t.instances.items
instance_count t = length-map {B = N.Node} t.instances.items (λ i. instance_from (channel_names t) (process_of t.declarations.items (bytes_of i.process)) i.arguments.items)

-- the declaration of an instance's process, and what the instance is made of
pub record IsDeclared (t : Program) (p : ℕ) (d : Declaration) : Type 0 where
  pub process : Process
  pub is : d ≡ D.Process process
  pub made : (x : Instance) → slice_index_or t.instances.items p x ≡ x → IsMadeOf t p process x.arguments.items

pub declared_number : (t s : Program) (ws : List NamedWire) (ns : List ℕ) → IsKept t ws ns → t ≡ s → (p k : ℕ) → p < length (network_of s).instances → slice_index_or ns p k ≡ k →
    (k < length t.declarations.items) × ((d : Declaration) → slice_index_or t.declarations.items k d ≡ d → IsDeclared t p d)
declared_number t s ws ns h same p k lt at =
    let ds = t.declarations.items in
    let xs = t.instances.items in
    let below : p < length xs = subst (λ z. p < z) (ap (λ z. length (network_of z).instances) (sym same) ∙ instance_count t) lt in
    let count : length ns ≡ length xs =
    sym (length-map {B = Option Process} ns (process_at ds)) ∙ ap (λ (z : List (Option Process)). length z) h.numbers ∙ length-map {B = Option Process} xs (λ i. process_of ds (bytes_of i.process)) in
    let number = at_index ns p k (subst (λ z. p < z) (sym count) below) at in
    let x = there xs p below in
    let alike : Some (process_at ds k) ≡ Some (process_of ds (bytes_of x.0.process)) =
    sym (mapped (process_at ds) ns p k number) ∙ ap (λ z. slice_get z p) h.numbers ∙ mapped (λ (i : Instance). process_of ds (bytes_of i.process)) xs p x.0 x.1 in
    let made = all_at (IsMade t) xs p x.0 h.wired.instances x.1 in
    let named = the_process (bytes_of x.0.process) made.0 ds made.1 in
    let declared = process_there (slice_get ds k) made.0 (same_Some _ _ alike ∙ named) in
    let inside = within ds k (D.Process made.0) declared in (
      inside,
      (λ d is.
          record {
            process = made.0;
            is = same_Some _ _ (sym (at_index ds k d inside is) ∙ declared);
            made = λ y now. (y, at_index xs p y below now, ap (λ (z : Instance). process_of ds (bytes_of z.process)) (same_Some _ _ (sym (at_index xs p y below now) ∙ x.1)) ∙ named, refl);
          }),
    )

-- what the network says of such an instance
pub instance_kept : (t : Program) (p : ℕ) (q : Process) (xs : List Argument) → IsMadeOf t p q xs → instance_at (network_of t) p ≡ instance_from (channel_names t) (Some q) xs
instance_kept t p q xs made = instance_made t p made.0 (Some q) made.1 made.2 ∙ ap (instance_from (channel_names t) (Some q)) made.3
