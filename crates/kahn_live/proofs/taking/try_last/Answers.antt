use Rattle.kahn_live.proofs.Common.{arith, ◌≡◌, ◌∙◌, ◌+◌, ◌∷◌, inl, inr, drop, refl, subst, sym, string_bytes, common_steps, LiveTelling, telling_of, IsRefused, at_end_number}
use Rattle.kahn_live.proofs.taking.try_last.Goals as goal

pub returns-then-is_want : goal.returns-then-is_want
returns-then-is_want g c =
    let i = c.loop-line.line-index in
    let split : drop i c.args.lines.now ≡ c.line-item.result ∷ drop (i + 1) c.args.lines.now = grind (arith, common_steps) in
    let f = c.in-Err.fault in
    let line = string_bytes c.line-item.result in
    let why = rw c.as_bytes-bytes.ensures.value at c.in-Err.ensures in
    inr (line, f, c.loop-line.invariant.2 line f (rw split (inl (refl, why))), (c.wants_memory.ensures, sym c.is_want.ensures ∙ c.if-is_want.true, c.loop-line.invariant.0))

pub returns-in-Err : goal.returns-in-Err
returns-in-Err g c =
    let i = c.loop-line.line-index in
    let split : drop i c.args.lines.now ≡ c.line-item.result ∷ drop (i + 1) c.args.lines.now = grind (arith, common_steps) in
    let f = c.in-Err.fault in
    let line = string_bytes c.line-item.result in
    let new = telling_of g.E.Write.contents c.tell_refused.new.teller in
    let why = rw c.as_bytes-bytes.ensures.value at c.in-Err.ensures in
    let named = rw c.as_bytes-bytes.ensures.value at c.tell_refused.ensures in
    let told = subst (λ (t : LiveTelling). IsRefused c.args.session.now at_end_number line f t new) c.loop-line.invariant.0 named in
    inr (line, f, c.loop-line.invariant.2 line f (rw split (inl (refl, why))), told)

pub loop-line-preserved : goal.loop-line-preserved
loop-line-preserved g c =
    let i = c.loop-line.line-index in
    let split : drop i c.args.lines.now ≡ c.line-item.result ∷ drop (i + 1) c.args.lines.now = grind (arith, common_steps) in
    let meant = rw c.as_bytes-bytes.ensures.value at c.in_default.ensures in (
      c.loop-line.invariant.0,
      λ are. c.loop-line.invariant.1 (rw split (meant, are)),
      λ line f first. c.loop-line.invariant.2 line f (rw split (inr (meant, first))),
    )
