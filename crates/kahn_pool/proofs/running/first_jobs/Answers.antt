use Rattle.kahn_pool.proofs.Common.{◌≡◌, ℕ, ◌+◌, ◌∙◌, Option, ap, arith, sym, subst, AreHeld, AreWhole, Lists, Program, Table, all_events, length, network_of, sight_of}
use Rattle.kahn_pool.proofs.Handing.{few_first}
use Rattle.kahn_pool.proofs.running.first_jobs.Goals as goal

pub lanes-requires-clause-few : goal.lanes-requires-clause-few
lanes-requires-clause-few c = few_first (sight_of c.in-Ok.bench) c.in-Ok.ensures.fresh

pub hand_over-requires-clause-whole : goal.hand_over-requires-clause-whole
hand_over-requires-clause-whole c =
    subst (λ (t : Program). AreWhole (length (network_of t).instances) c.in-Ok.bench.gone) (sym c.in-Ok.ensures.names.0) c.in-Ok.ensures.whole

pub returns-clause-code : goal.returns-clause-code
returns-clause-code c = ap (λ (v : Table). v.code) c.hand_over.ensures.vacant ∙ c.hand_over.ensures.laid.code ∙ c.in-Ok.ensures.names.0

pub returns-clause-held : goal.returns-clause-held
returns-clause-held c bound =
    let b = c.in-Ok.bench in
    let n = c.in-Ok.ensures.names in
    let ws = c.hand_over.result.1.items in
    let all : bound + all_events (sight_of b) ≡ bound = omega (arith, c.in-Ok.ensures.fresh) in
    subst (λ (x : Program × Lists × Option ℕ). AreHeld x.0 x.1 x.2 bound ws bound) (λ i. (n.0 i, n.1 i, n.2 i))
    (subst (λ k. AreHeld b.network b.input b.watch k ws bound) all (c.hand_over.ensures.held bound))
