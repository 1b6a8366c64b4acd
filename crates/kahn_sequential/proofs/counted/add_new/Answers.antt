use Rattle.kahn_sequential.proofs.Common.{◌≡◌, ℕ, zero, suc, ◌+◌, ◌∙◌, ◌∷◌, ◌++◌, [], List, Some, ap, arith, length, slice_get, subst, sym, length-append, Token, AreTokensOf}
use Rattle.kahn_code.proofs.Common.{same_Some}
use Rattle.kahn_sequential.specs.inner.Below.{Channel, IsOf, taken_of}
use Rattle.kahn_sequential.proofs.counted.add_new.Goals as goal

-- what is so of each at its place is so with one more
each_push : (P : ℕ → Token → Type 0) (ts : List Token) (y : Token) → ((k : ℕ) (x : Token) → slice_get ts k ≡ Some x → P k x) → P (length ts) y
    → (k : ℕ) (x : Token) → slice_get (ts ++ y ∷ []) k ≡ Some x → P k x
each_push P [] y h last zero x at = subst (P zero) (same_Some y x at) last
each_push P [] y h last (suc k) x at = absurd cc
each_push P (u ∷ ts) y h last zero x at = h zero x at
each_push P (u ∷ ts) y h last (suc k) x at = each_push (λ n z. P (suc n) z) ts y (λ n z e. h (suc n) z e) last k x at

pub loop-number-preserved : goal.loop-number-preserved
loop-number-preserved c =
    let i = c.loop-number.invariant in
    let t = c.token-token.ensures in
    let place = t.here.1 in
    let long = i.long in
    let P : ℕ → Token → Type 0 = λ k x. IsOf c.args.queues.now.network c.args.queues.now.input x × (x.line ≡ Channel c.args.channel) × (x.place ≡ k) in
    let last : P (length c.loop-number.tokens.items) c.token-token.result = (t.names, t.here.0, omega (arith, place, long)) in
    let grown = c.in_ok-push.ensures.items in
    record {
      right = subst (λ ts. AreTokensOf c.args.queues.now.network c.args.queues.now.input c.args.channel ts) (sym grown) (each_push P c.loop-number.tokens.items c.token-token.result i.right last);
      long = omega (arith, ap length grown ∙ length-append c.loop-number.tokens.items (c.token-token.result ∷ []), long);
    }
