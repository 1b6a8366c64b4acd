use Rattle.std.proofs.Common.{length-append}
use Rattle.kahn_sequential.proofs.Common.{rules, arith, ◌≡◌, inl, inr, ◌+◌, ◌≤◌, [], ◌∷◌, length, refl, ap, ◌∙◌, slice_get_within, network_of, inputs_of, own_of}
use Rattle.kahn_sequential.proofs.Giving.{begun_more, begun_none, channel_opens, falls}
use Rattle.kahn_sequential.proofs.streams.opening_stream.Goals as goal

pub tokens-init : goal.tokens-init
tokens-init c =
    let vs = inputs_of c.args.input.now c.in-Channel.channel in
    record {
      begun = begun_none (network_of c.args.network.now) (inputs_of c.args.input.now) c.in-Channel.channel vs c.new-tokens.result.items (search rules);
      given = inl (search rules);
    }

pub tokens-smaller : goal.tokens-smaller
tokens-smaller c =
    let vs = inputs_of c.args.input.now c.in-Channel.channel in
    let old = c.tokens.tokens.items in
    let token = c.in-Some.token in
    let e : c.len.result ≡ length old = search rules in
    let l = slice_get_within vs c.len.result token.value c.in-Some.ensures.token.2 in
    let m : length c.push.new.self.items ≡ length old + 1 = ap length c.in_ok-push.ensures.items ∙ length-append old (token ∷ []) in
    falls (length vs) (length old) (length c.push.new.self.items) (omega (arith, e, l)) (omega (arith, m))

pub tokens-preserved : goal.tokens-preserved
tokens-preserved c =
    let old = c.tokens.tokens.items in
    let e : c.len.result ≡ length old = search rules in
    let vs = inputs_of c.args.input.now c.in-Channel.channel in
    record {
      begun = begun_more (network_of c.args.network.now) (inputs_of c.args.input.now) c.in-Channel.channel vs old c.push.new.self.items c.in-Some.token c.len.result c.tokens.invariant.begun
          c.in_ok-push.ensures.items e c.in-Some.ensures.token.0 c.in-Some.ensures.token.1 c.in-Some.ensures.token.2 (own_of c.args.network.now c.args.input.now c.in-Some.token c.in-Some.ensures.names);
      given = inr c.in-Some.ensures.given;
    }

pub returns-clause-given : goal.returns-clause-given
returns-clause-given c =
    let vs = inputs_of c.args.input.now c.in-Channel.channel in
    let e : c.len.result ≡ length c.tokens.tokens.items = search rules in
    channel_opens (network_of c.args.network.now) (inputs_of c.args.input.now) c.in-Channel.channel c.tokens.tokens.items c.tokens.invariant.begun c.tokens.invariant.given
    (λ role. let past = c.in_default-token.ensures.none role in omega (arith, e, past))
