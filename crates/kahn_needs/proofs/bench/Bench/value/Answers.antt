use Rattle.std.proofs.Common.{arith}
use Rattle.kahn_needs.proofs.Common.{◌∙◌, ap, sym, subst, Line, HasCome, HasValue, network_of}
use Rattle.kahn_needs.specs.{Finding.IsNetworkLine, inner.Finding.watch_of}
use Rattle.kahn_needs.proofs.{Counted.printed_value, Counted.value_there, Searching.parameter_there}
use Rattle.kahn_needs.proofs.bench.Bench.value.Goals as goal

pub kept-requires : goal.kept-requires
kept-requires c =
    let a = c.parameters-parameters.ensures.lists.1 in
    let b = c.parameters-parameters.ensures.lists.2 in
    omega (arith, parameter_there c.self.view_is c.self.invariant c.in-Channel.channel c.in-Some.side c.in-Some.ensures.only.0 c.index-cell.ensures c.sized.ensures, a, b)

pub returns-in-Some : goal.returns-in-Some
returns-in-Some c =
    subst (λ (l : Line). HasCome c.args.self.now l c.args.place → HasValue c.args.self.now l c.args.place c.value_at.result) (sym c.in-Channel.is)
    (value_there c.self.view_is c.self.invariant c.in-Channel.channel c.in-Some.side c.in-Some.ensures.only.0 c.index-cell.ensures c.in-Some.ensures.source
    (c.requires.watch ∙ ap watch_of c.in-Channel.is) c.args.place c.value_at.result _ c.kept.ensures c.value_at.ensures)

pub returns-in-Print : goal.returns-in-Print
returns-in-Print c =
    subst (λ (l : Line). HasCome c.args.self.now l c.args.place → HasValue c.args.self.now l c.args.place c.value_at-in-Print.result) (sym c.in-Print.is)
    (printed_value c.self.view_is c.self.invariant c.in-Print.instance
    (subst (IsNetworkLine (network_of c.args.self.now.network)) c.in-Print.is c.requires.line) c.index.ensures c.args.place c.value_at-in-Print.result _ c.printed.ensures c.value_at-in-Print.ensures)
