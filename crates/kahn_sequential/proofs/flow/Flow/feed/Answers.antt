use Rattle.kahn_sequential.proofs.Common.{arith, ◌≡◌, ◌+◌, ◌++◌, Bool, true, false, List, [], length, map, slice_get, None, Some, refl, sym, ap, ◌∙◌, subst, err_from_is_err_and, Input, network_of, role_at, Entry, Token, token_value, channel_of, Table, inputs_of, IsMeant, is_watched, meant_input, poured_at, poured_length, Flowing, HasPouredIn, flow_of}
use Rattle.kahn_sequential.proofs.{Flowed.flow_stays, Noted.noted_poured, Noted.spent_poured, Poured_in.is_poured, Poured_in.poured_flow, Poured_in.poured_lent, Poured_in.poured_lists, Poured_in.refused_same}
use Rattle.kahn_sequential.proofs.flow.Flow.feed.Goals as goal

pub pour-poured-requires : goal.pour-poured-requires
pour-poured-requires c =
    let b = c.self.inside.bench in
    let number = c.in_ok-number.number in
    let vs = c.args.values.now in
    let meant = c.in_ok-number.ensures in
    let role : role_at (network_of b.network) number ≡ Input =
    ap (λ t. role_at (network_of t) number) c.self.invariant.network ∙ ap (λ k. role_at (network_of c.self.inside.network.now) k) meant.0 ∙ meant_input c.self.inside.network.now (c.args.channel.now, vs) meant.1 in
    let few = c.in-Some.ensures.1 in
    (role, (is_poured number vs b.input, omega (arith, poured_length b.input number vs (poured_lists number vs b.input) (is_poured number vs b.input), few)))

pub returns-in_err-poured : goal.returns-in_err-poured
returns-in_err-poured c =
    let i = c.self.inside in
    let s = c.stood.ensures in
    let z = c.stood-2.ensures in
    let entry : Entry = (c.args.channel.now, c.args.values.now) in
    let p = err_from_is_err_and c.from_residual-in_err-poured.result c.from_residual-in_err-poured.ensures.1 in
    let same =
    refused_same i.bench c.pour-poured.new.self c.in_ok-number.number c.in_err-poured.ensures.refused s.laid z.laid s.counted z.counted i.plan i.verdict i.given.items c.make_room.new.tokens.items c.make_room.ensures.items ∙ c.self.view_is in
    let meant = subst (λ (f : Flowing). IsMeant f.run.network entry) c.self.view_is (subst (λ t. IsMeant t entry) (sym c.self.invariant.network) c.in_ok-number.ensures.1) in
    rw (p.1, p.2) (same, meant)

pub lend-requires-clause-here : goal.lend-requires-clause-here
lend-requires-clause-here c k v f = by (is_watched c.self.inside.plan.watch c.in_ok-number.number) refl
  where
    by : (b : Bool) → is_watched c.self.inside.plan.watch c.in_ok-number.number ≡ b → slice_get (inputs_of c.pour-poured.new.self.input c.in_ok-number.number) (c.in-Some.place + k) ≡ Some v
    by true e =
        let b = c.self.inside.bench in
        let number = c.in_ok-number.number in
        let vs = c.args.values.now in
        ap (λ (x : Table). slice_get (inputs_of x.input number) (c.in-Some.place + k)) c.in_ok-poured.ensures.poured.rest
        ∙ poured_at b.input number vs (poured_lists number vs b.input) (is_poured number vs b.input) c.in-Some.place k v c.in-Some.ensures.2
        (subst (λ l. slice_get l k ≡ Some v) (c.lent_of-lent.ensures.all e) f)
    by false e = let g : slice_get [] k ≡ Some v = subst (λ l. slice_get l k ≡ Some v) (c.lent_of-lent.ensures.none e) f in absurd cc

pub invariant_of-self-2 : goal.invariant_of-self-2
invariant_of-self-2 c =
    let i = c.self.inside in
    let b = i.bench in
    let d = c.pour-poured.new.self in
    let number = c.in_ok-number.number in
    let vs = c.args.values.now in
    let h = c.in_ok-poured.ensures.poured in
    let lent = c.lent_of-lent.ensures in
    let is = ap (λ w. is_watched w number) (sym c.self.invariant.watch) in
    flow_stays c.self.invariant d (ap (λ (x : Table). x.network) h.rest) (ap (λ (x : Table). x.watch) h.rest) h.seen None tt c.wake_at.new.woken
    (noted_poured b d number vs (poured_lists number vs b.input) (is_poured number vs b.input) h i.woken c.wake_at.new.woken i.ends.items c.self.invariant.noted c.wake_at.ensures) i.turned (spent_poured b d number (length vs) (poured_lists number vs b.input) h i.turned c.self.invariant.spent) c.lend.new.tokens.items
    (poured_lent b d number vs (poured_lists number vs b.input) (is_poured number vs b.input) h i.given.items c.lend.new.tokens.items c.self.invariant.lent c.lent_of-lent.result.now
    (λ e. lent.all (is ∙ e)) (λ e. lent.none (is ∙ e)) (c.lend.ensures ∙ ap (λ (l : List Token). map token_value l ++ c.lent_of-lent.result.now) c.make_room.ensures.items))

pub returns : goal.returns
returns c =
    let i = c.self.inside in
    let b = i.bench in
    let d = c.pour-poured.new.self in
    let number = c.in_ok-number.number in
    let vs = c.args.values.now in
    let us = c.lend.new.tokens.items in
    let entry : Entry = (c.args.channel.now, vs) in
    let lent = c.lent_of-lent.ensures in
    let is = ap (λ w. is_watched w number) (sym c.self.invariant.watch) in
    let meant = subst (λ t. IsMeant t entry) (sym c.self.invariant.network) c.in_ok-number.ensures.1 in
    subst (λ (f : Flowing). HasPouredIn entry f (flow_of d i.plan None (length us))) c.self.view_is
    (poured_flow b d number vs (poured_lists number vs b.input) (is_poured number vs b.input) c.in_ok-poured.ensures.poured i.given.items us c.self.invariant.lent c.lent_of-lent.result.now
    (λ e. lent.all (is ∙ e)) (λ e. lent.none (is ∙ e)) (c.lend.ensures ∙ ap (λ (l : List Token). map token_value l ++ c.lent_of-lent.result.now) c.make_room.ensures.items)
    i.plan i.verdict entry (c.in_ok-number.ensures.0 ∙ ap (λ t. channel_of t entry) (sym c.self.invariant.network)) refl meant c.in-Some.ensures.0)
