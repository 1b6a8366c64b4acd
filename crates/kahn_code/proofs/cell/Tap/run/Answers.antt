use Rattle.kahn_code.proofs.Common.{refl, sym, ap, ◌∙◌, subst, ◌+◌, ◌*◌, ◌<◌, ◌≤◌, length, network_of, instance_at, AreDriven, stmt_code, HasArguments, HasRunFor, site_code, site_of, told_of}
use Rattle.kahn_code.proofs.Celled.{sits_of, site_after}
use Rattle.kahn_code.proofs.cell.Tap.run.Goals as goal

pub process_code-made-requires : goal.process_code-made-requires
process_code-made-requires g c =
    let same = c.requires.code ∙ ap (λ v. v.told.network) (sym c.self.view_is) in
    subst (λ z. c.self.inside.progress.instance < length (network_of z).instances) (sym same) c.self.invariant.here

pub arguments-arguments-requires : goal.arguments-arguments-requires
arguments-arguments-requires g c =
    let same = c.requires.code ∙ ap (λ v. v.told.network) (sym c.self.view_is) in
    subst (λ z. c.self.inside.progress.instance < length (network_of z).instances) (sym same) c.self.invariant.here

pub run-requires-clause-sits : goal.run-requires-clause-sits
run-requires-clause-sits g c =
    let code = c.args.code.now in
    let own = c.self.inside.progress in
    let t = c.self.inside.network.value in
    let lists = c.self.inside.input.value in
    let same = c.requires.code ∙ ap (λ v. v.told.network) (sym c.self.view_is) in
    let body = subst (λ z. HasArguments (network_of z) own.instance c.arguments-arguments.result.now) same c.arguments-arguments.ensures in
    sits_of (g.P.Ports.site c.args.ports.now) c.args.self.now.told own t lists c.arguments-arguments.result.now (g.P.Ports.next c.args.ports.now) (ap (λ v. v.told) c.self.view_is) c.requires.ports c.requires.at (subst (λ z. AreDriven (network_of z)) same code.driven) body c.self.invariant

pub run-requires-clause-code : goal.run-requires-clause-code
run-requires-clause-code g c =
    let same = c.requires.code ∙ ap (λ v. v.told.network) (sym c.self.view_is) in
    c.process_code-made.ensures.instructions ∙ ap (λ z. stmt_code (instance_at (network_of z) c.self.inside.progress.instance).body) same
    ∙ ap site_code (ap (λ v. site_of v.told) c.self.view_is ∙ sym c.requires.ports)

pub returns-clause-ran : goal.returns-clause-ran
returns-clause-ran g c =
    let P = g.P.Ports in
    let own = c.self.inside.progress in
    let t = c.self.inside.network.value in
    let lists = c.self.inside.input.value in
    let seen = ap (λ v. v.told) c.self.view_is in
    let e = c.run.ensures in
    let same = c.requires.code ∙ ap (λ v. v.told.network) (sym c.self.view_is) in
    let code = c.process_code-made.ensures.instructions ∙ ap (λ z. stmt_code (instance_at (network_of z) own.instance).body) same in
    let site = site_after (P.site c.args.ports.now) (P.site c.run.new.ports) c.args.self.now.told own c.run.new.self t lists seen c.requires.ports e.ports.0 e.names.0 in
    let sits = rw site at e.sits in
    subst (λ v. HasRunFor P.site P.next P.is_dry P.is_ready P.has_room c.args.quantum c.run.result c.args.ports.now c.run.new.ports c.args.steps.now c.run.new.steps v (told_of c.run.new.self t lists)) seen (record {
      names = (refl, refl, e.names.0, e.names.1);
      ports = site;
      at = record { reads = sits.reads; writes = sits.writes };
      paused = rw site at e.paused;
      events = e.events;
      still = λ k. let h = e.still k in let r = e.room k in (h.0, h.1, h.2, h.3, ap (λ x. x.0) r, ap (λ x. x.1) r);
      refused = λ k. rw site at (e.refused k);
      cost = subst (λ is. c.run.new.steps ≤ c.args.steps.now + (c.args.quantum + 1) * length is) code e.cost;
      counted = e.counted;
    })

pub invariant_of-self : goal.invariant_of-self
invariant_of-self g c =
    let P = g.P.Ports in
    let t = c.self.inside.network.value in
    let lists = c.self.inside.input.value in
    let e = c.run.ensures in
    let site = site_after (P.site c.args.ports.now) (P.site c.run.new.ports) c.args.self.now.told c.self.inside.progress c.run.new.self t lists (ap (λ v. v.told) c.self.view_is) c.requires.ports e.ports.0 e.names.0 in
    let sits = rw site at e.sits in
    record { here = subst (λ p. p < length (network_of t).instances) (sym e.names.0) c.self.invariant.here; stands = sits.stands; place = e.place }
