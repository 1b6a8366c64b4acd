use Rattle.kahn_check.proofs.Common.{rules, arith, nat_tests, subst, length, ◌≡◌, Some, IfSome, IsPlaced, IsProcess, known, meant, first_fault, too_many, miscounted, most_instances}
use Rattle.kahn_check.specs.declared.names.Entry.TheVariants as E
use Rattle.kahn_check.proofs.Told.{added_if, on_ok, seat_kept, seat_made, seat_numbered}
use Rattle.kahn_check.proofs.part.add_instance.Goals as goal

pub returns-clause-told : goal.returns-clause-told
returns-clause-told c =
    let g = known c.args.globals.now in
    let x = c.args.instance.now in
    let p = c.in-Some-Process.process.now in
    let m : meant g x ≡ Some (IsProcess p) = grind arith in
    let limit : c.then_some-limit.result ≡ first_fault (too_many most_instances c.args.number x.process.span) = search (rules, nat_tests) in
    let count : c.then_some-count.result ≡ first_fault (miscounted (length p.parameters.items) (length x.arguments.items) x.process.span) = search (rules, nat_tests) in
    let found = rw (c.or-first.ensures, c.deref.ensures.value, c.deref-2.ensures.value) at c.in_ok-found.ensures.found in
    added_if c.add-2.result _ _ (seat_made g _ _ c.args.number x p _ _ _ _ _ m limit count found) c.add-2.ensures

pub returns-clause-tables : goal.returns-clause-tables
returns-clause-tables c =
    let g = known c.args.globals.now in
    let x = c.args.instance.now in
    let p = c.in-Some-Process.process.now in
    let m : meant g x ≡ Some (IsProcess p) = grind arith in
    on_ok c.add-2.result _ (seat_kept g c.args.number x p _ _ _ _ m (rw (c.deref.ensures.value, c.deref-2.ensures.value) at c.in_ok-found.ensures.tables))

pub returns-clause-numbers : goal.returns-clause-numbers
returns-clause-numbers c =
    let g = known c.args.globals.now in
    let x = c.args.instance.now in
    let p = c.in-Some-Process.process.now in
    let k = c.in-Some-Process.declared in
    let m : meant g x ≡ Some (IsProcess p) = grind arith in
    let is : c.meaning.result ≡ Some (E.Process k c.in-Some-Process.process) = search rules in
    on_ok c.add-2.result _
    (λ ds h. seat_numbered ds g x p c.args.processes.now.items c.push.new.self.items k m (subst (λ o. IfSome o (IsPlaced ds)) is (c.meaning.ensures.placed ds h)) (search rules))
