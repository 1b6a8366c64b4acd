use Rattle.kahn_sequential.proofs.Common.{length, refl, sym, ap, ◌∙◌, subst, network_of, role_at, AreInputsExtended, inputs_of, HasPoured, poured_grown, HasTakenIn, IsLaid, Table, table_of}
use Rattle.kahn_sequential.proofs.Taking_in as Taking
use Rattle.kahn_sequential.proofs.bench.Sequential.pour.Goals as goal

pub regrow_taps-requires : goal.regrow_taps-requires
regrow_taps-requires g c =
    let i = c.self.inside in
    let done = rw c.in-Ok.is at c.pour.ensures in
    Taking.taps_grow i.taps.items c.self.invariant c.pour.new.self.input
    (subst (λ l. AreInputsExtended (inputs_of i.queues.input) (inputs_of l)) (sym done.lists)
    (subst (λ (x : Table). AreInputsExtended (inputs_of x.input) (inputs_of g.input)) (sym c.self.view_is)
    (poured_grown c.args.self.now.input c.args.channel c.args.values.now g.input c.requires.1.0)))

pub invariant_of-self : goal.invariant_of-self
invariant_of-self g c =
    let i = c.self.inside in
    let q = c.pour.new.self in
    let role = ap (λ (x : Table). role_at (network_of x.network) c.args.channel) c.self.view_is ∙ c.requires.0 in
    let done = rw c.in-Ok.is at c.pour.ensures in
    let poured = subst (λ l. HasPoured c.args.channel (length c.args.values.now) l i.queues q) (sym done.lists) done in
    subst (λ taps. IsLaid (table_of i.network.now q.input i.watch i.code.network.value taps q)) (sym c.regrow_taps.ensures)
    (Taking.poured_laid i.taps.items c.self.invariant c.args.channel (length c.args.values.now) role q.input q poured q.input refl)

pub invariant_of-self-in-Err : goal.invariant_of-self-in-Err
invariant_of-self-in-Err g c =
    let i = c.self.inside in
    let role = ap (λ (x : Table). role_at (network_of x.network) c.args.channel) c.self.view_is ∙ c.requires.0 in
    let same = rw c.in-Err.is at c.pour.ensures in
    subst (λ l. IsLaid (table_of i.network.now l i.watch i.code.network.value i.taps.items c.pour.new.self)) (sym same.lists)
    (Taking.roomier_laid i.taps.items c.self.invariant c.args.channel 0 role i.queues.input c.pour.new.self same refl)

pub returns-in-Ok-clause-poured : goal.returns-in-Ok-clause-poured
returns-in-Ok-clause-poured g c =
    let i = c.self.inside in
    let q = c.pour.new.self in
    let role = ap (λ (x : Table). role_at (network_of x.network) c.args.channel) c.self.view_is ∙ c.requires.0 in
    let done = rw c.in-Ok.is at c.pour.ensures in
    let poured = subst (λ l. HasPoured c.args.channel (length c.args.values.now) l i.queues q) (sym done.lists) done in
    let taps = c.regrow_taps.new.taps.items in
    subst (λ l. HasTakenIn c.args.channel (length c.args.values.now) l c.args.self.now (table_of i.network.now q.input i.watch i.code.network.value taps q)) done.lists
    (Taking.poured_then i.taps.items c.self.invariant c.args.channel (length c.args.values.now) role q.input q poured q.input refl c.self.view_is c.regrow_taps.ensures)

pub returns-in-Err-clause-refused : goal.returns-in-Err-clause-refused
returns-in-Err-clause-refused g c =
    let i = c.self.inside in
    let role = ap (λ (x : Table). role_at (network_of x.network) c.args.channel) c.self.view_is ∙ c.requires.0 in
    let same = rw c.in-Err.is at c.pour.ensures in
    let b = c.args.self.now in
    subst (λ l. HasTakenIn c.args.channel 0 b.input b (table_of i.network.now l i.watch i.code.network.value i.taps.items c.pour.new.self)) (sym same.lists)
    (Taking.roomier_then i.taps.items c.self.invariant c.args.channel 0 role i.queues.input c.pour.new.self same refl c.self.view_is)
