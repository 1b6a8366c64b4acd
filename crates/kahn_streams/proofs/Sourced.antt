-- Where the values of each channel come from that is handed to an instance of a well wired program.
use Rattle.kahn_streams.proofs.Common.{◌≡◌, inl, inr, ℕ, ◌<◌, length, Option, Some, None, refl, sym, ap, ◌∙◌, subst, slice_get, pos, slice_get-get_or, get_or_past, Program, Role, Side, Inner, Input, Output, Number, Schema, Actual, Reads, Writes, Hands, network_of, instance_at, actual_at, role_at, idle, Given, Written, first_writer, source_by, channel_source, IsWithin, IsWriter, IsReader, IsOnly, HasOne, IsServed, IsListed, IsFit, source_of, IsWellWired}
use Rattle.std.proofs.Math.Nat.{lt_of_not-le}
use Rattle.kahn_streams.specs.inner.Sources.{HasSender, IsFed}
use Rattle.kahn_streams.proofs.{Fitted.instances_fit, By_number.all_at, Sided.one_writer, Sided.sourced, Sided.declared_there, Sided.channel_served}

-- ---- what is handed to nobody is no channel

abbrev is_channel : Actual → ℕ → Type 0
is_channel (Reads d) c = d ≡ c
is_channel (Writes d) c = d ≡ c
is_channel (Hands v) c = ⊥

-- a channel is handed over only by an instance that is there, at a parameter that is there
pub handed_within : (N : Schema) (p q c : ℕ) → is_channel (actual_at (instance_at N p) q) c → IsWithin N (record { instance = p; parameter = q })
handed_within N p q c h = (
  lt_of_not-le (λ le. subst (λ i. is_channel (actual_at i q) c) (get_or_past N.instances p idle le) h),
  lt_of_not-le (λ le. subst (λ a. is_channel a c) (get_or_past (instance_at N p).actuals q (Hands (Number (pos 0))) le) h),
)

listed_channel : (N : Schema) (a : Actual) (c : ℕ) → IsListed N a → is_channel a c → c < length N.channels
listed_channel N (Reads d) c l h = subst (λ k. k < length N.channels) h l
listed_channel N (Writes d) c l h = subst (λ k. k < length N.channels) h l
listed_channel N (Hands v) c l h = absurd h

module _ (t : Program) (wired : IsWellWired t) where
  abbrev N : Schema
  N = network_of t

  handed_listed : (p q c : ℕ) → is_channel (actual_at (instance_at N p) q) c → c < length N.channels
  handed_listed p q c h =
      let i = instance_at N p in
      let inside = handed_within N p q c h in
      let at : slice_get N.instances p ≡ Some i = slice_get-get_or N.instances p idle inside.0 in
      let fit = all_at (IsFit N) N.instances p i (instances_fit t wired) at in
      let there : slice_get i.actuals q ≡ Some (actual_at i q) = slice_get-get_or i.actuals q (Hands (Number (pos 0))) inside.1 in
      listed_channel N (actual_at i q) c (all_at (IsListed N) i.actuals q (actual_at i q) fit.1 there) h

  as_read : (p q c : ℕ) → actual_at (instance_at N p) q ≡ Reads c → is_channel (actual_at (instance_at N p) q) c
  as_read p q c e = subst (λ a. is_channel a c) (sym e) refl

  as_written : (p q c : ℕ) → actual_at (instance_at N p) q ≡ Writes c → is_channel (actual_at (instance_at N p) q) c
  as_written p q c e = subst (λ a. is_channel a c) (sym e) refl

  -- each channel that is handed over is one of the network's
  pub reads_listed : (p q c : ℕ) → actual_at (instance_at N p) q ≡ Reads c → c < length N.channels
  reads_listed p q c e = handed_listed p q c (as_read p q c e)

  pub writes_listed : (p q c : ℕ) → actual_at (instance_at N p) q ≡ Writes c → c < length N.channels
  writes_listed p q c e = handed_listed p q c (as_written p q c e)

  reader : (p q c : ℕ) → actual_at (instance_at N p) q ≡ Reads c → IsReader N c (record { instance = p; parameter = q })
  reader p q c e = (handed_within N p q c (as_read p q c e), e)

  writer : (p q c : ℕ) → actual_at (instance_at N p) q ≡ Writes c → IsWriter N c (record { instance = p; parameter = q })
  writer p q c e = (handed_within N p q c (as_written p q c e), e)

  -- the one that writes a channel sends what stands on it
  sends : (c : ℕ) → c < length N.channels → (s : Side) → IsWriter N c s → channel_source N c ≡ Written s.instance
  sends c lt s w =
      let d = declared_there t c lt in
      by _ (one_writer t wired c d.0 d.1) (sourced t wired c d.0 d.1)
    where
      by : (o : Option Side) → IsOnly (IsWriter N c) o → channel_source N c ≡ source_of o → channel_source N c ≡ Written s.instance
      by None none f = absurd (none s w)
      by (Some u) one f = f ∙ ap (λ (z : Side). Written z.instance) (sym (one.1 s w))

  served : (c : ℕ) → c < length N.channels → (role : Role) → role_at N c ≡ role → IsServed N c role
  served c lt role r = subst (IsServed N c) r (channel_served t wired c lt)

  written : (c : ℕ) → c < length N.channels → HasOne (IsWriter N c) → HasSender N c
  written c lt one = (one.0.instance, one.0.parameter, sends c lt one.0 one.1.0, one.1.0.1)

  pub inputs : (c : ℕ) → role_at N c ≡ Input → channel_source N c ≡ Given
  inputs c r = λ j. source_by (r j) (first_writer N.instances 0 c)

  pub outputs : (c : ℕ) → role_at N c ≡ Output → c < length N.channels → HasSender N c
  outputs c r lt = written c lt (served c lt Output r).0

  pub reads : (p q c : ℕ) → actual_at (instance_at N p) q ≡ Reads c → IsFed N c
  reads p q c e = by (role_at N c) refl
    where
      lt : c < length N.channels
      lt = reads_listed p q c e

      by : (role : Role) → role_at N c ≡ role → IsFed N c
      by Input r = inl (inputs c r, r)
      by Inner r = let w = written c lt (served c lt Inner r).0 in inr (w.0, w.1, w.2, w.3, r)
      by Output r = absurd ((served c lt Output r).1 (record { instance = p; parameter = q }) (reader p q c e))

  pub writes : (p q c : ℕ) → actual_at (instance_at N p) q ≡ Writes c → (channel_source N c ≡ Written p) × (role_at N c ≡ Input → ⊥)
  writes p q c e =
      let lt = writes_listed p q c e in
      (sends c lt (record { instance = p; parameter = q }) (writer p q c e), λ r. (served c lt Input r).0 (record { instance = p; parameter = q }) (writer p q c e))
