use Rattle.std.specs.Prelude.{IfOk}
use Rattle.kahn_explain.proofs.Common.{◌≡◌, subst, sym, Given, IsNetworkLine, IsSeeking, Lists, Program, network_of, source}
use Rattle.kahn_explain.proofs.needing.seeker_on.Goals as goal

pub turned-requires-clause-line : goal.turned-requires-clause-line
turned-requires-clause-line c =
    let s = rw c.in-Some.is at c.requires.last in
    subst (λ t. IsNetworkLine (network_of t) c.args.line) (sym s.0) c.requires.line

pub turned-requires-clause-written : goal.turned-requires-clause-written
turned-requires-clause-written c e =
    let s = rw c.in-Some.is at c.requires.last in
    c.requires.written (subst (λ t. source (network_of t) c.args.line ≡ Given) s.0 e)

pub returns-in-Some : goal.returns-in-Some
returns-in-Some c =
    let s = rw c.in-Some.is at c.requires.last in
    subst (λ (k : Program × Lists). IfOk c.turned.result (IsSeeking k.0 k.1 c.args.line 0)) (λ i. (s.0 i, s.1 i)) c.turned.ensures.seeking
