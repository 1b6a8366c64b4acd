use Rattle.kahn_sequential.proofs.Common.{◌≡◌, Some, sym, subst, slice_get, AllStandBy, Table, told_in}
use Rattle.kahn_sequential.proofs.{Emptied.all_stand_by, Benched.get_map}
use Rattle.kahn_sequential.proofs.bench.Sequential.stood.Goals as goal

pub all_stood-requires : goal.all_stood-requires
all_stood-requires c p x at =
    (c.self.invariant.each p x.told (get_map told_in c.self.inside.taps.items p x (subst (λ l. slice_get l p ≡ Some x) c.deref.ensures.value at))).network

pub returns-clause-each : goal.returns-clause-each
returns-clause-each c =
    subst (λ (x : Table). AllStandBy x.network x.watch x.cells) c.self.view_is
    (all_stand_by c.self.inside.taps.items c.self.invariant (λ p x at. c.all_stood.ensures p x (subst (λ l. slice_get l p ≡ Some x) (sym c.deref.ensures.value) at)))
