use Rattle.kahn_sequential.proofs.Common.{rules, refl, sym, ap, ◌∙◌, subst, network_of, IsDeclared}
use Rattle.kahn_sequential.proofs.Filled.{kept_taken, printed_taken}
use Rattle.kahn_sequential.proofs.streams.fill_one.Goals as goal

pub returns-in-Some-clause-others : goal.returns-in-Some-clause-others
returns-in-Some-clause-others c d n =
    let w = c.in-Some.ensures.only.0 in
    let e = c.exchange_kept.ensures in
    (kept_taken c.requires.lists w.0.0 c.index_mut.ensures.value c.exchange_kept.new.lists c.in-Some.side.parameter c.args.stream.now.tokens.items w.1 e.kept e.printed e.tokens).2 d (λ k. n (k ∙ sym c.in-Channel.is))

pub returns-in-Print : goal.returns-in-Print
returns-in-Print c =
    let within = subst (IsDeclared (network_of c.args.network.now)) c.in-Print.is c.requires.declared in
    let taken = printed_taken c.requires.lists within c.index_mut-in-Print.ensures.value (record { kept = c.index_mut-in-Print.result.now.kept; printed = c.swap.new.x }) refl (ap (λ v. v.items) c.swap.ensures.y_after) in
    record { lists = taken.0; filled = search rules; others = λ d n. taken.2 d (λ k. n (k ∙ sym c.in-Print.is)) }
