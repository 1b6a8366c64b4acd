use Rattle.kahn_needs.proofs.Common.{◌≡◌, ◌∙◌, ap, subst, sym, Given, IsNetworkLine, Seeking, network_of, source}
use Rattle.kahn_needs.proofs.Seeking.{unmoved_forced}
use Rattle.kahn_needs.proofs.needs.Seeker.turned.Goals as goal

pub invariant_of-result : goal.invariant_of-result
invariant_of-result c =
    let b = c.in_ok-bench.bench in
    let n = c.in_ok-bench.ensures.names in
    let same = n.0 ∙ ap (λ (x : Seeking). x.network) c.self.view_is in
    record {
      listed = subst (λ t. IsNetworkLine (network_of t) c.args.line) (sym same) c.requires.line;
      written = λ e. c.requires.written (subst (λ t. source (network_of t) c.args.line ≡ Given) same e);
      watch = n.2 ∙ c.kept_of.ensures;
      forced = unmoved_forced b c.args.line 0 c.in_ok-bench.ensures.idle;
    }
