use Rattle.kahn_check.proofs.Common.{arith, ◌≡◌, ◌∙◌, sym, ap, ◌+◌, ◌++◌, ◌∷◌, [], map, drop, append-nil, append_assoc, common_steps, process_at, known, made_all, most_channels, name_parts, seats_parts, declared_of, firsts, refl}
use Rattle.kahn_check.proofs.Global_names.{there}
use Rattle.kahn_check.proofs.Told.{seats_onward, walked_lines, walked_told}
use Rattle.kahn_check.proofs.part.walk.Goals as goal

pub loop-number-init : goal.loop-number-init
loop-number-init c = rw c.new-globals.ensures (record { told = ap (λ z. z ++ firsts (name_parts [] most_channels (declared_of c.args.program.now.declarations.items))) c.new-faults.ensures.items; table = refl; placed = tt })

pub loop-number-preserved : goal.loop-number-preserved
loop-number-preserved c =
    let ds = c.args.program.now.declarations.items in
    let k = c.loop-number.number in
    let split : drop k ds ≡ c.declaration-item.result ∷ drop (k + 1) ds = grind (arith, common_steps) in
    let at = there k ds c.declaration-item.result (drop (k + 1) ds) split in
    let told = rw split at c.loop-number.invariant.told in
    let table = rw split at c.loop-number.invariant.table in
    let h = c.in_ok-room.ensures in
    record { told = h.told.told (drop (k + 1) ds) ∙ told; table = h.told.table (drop (k + 1) ds) ∙ table; placed = h.placed ds c.loop-number.invariant.placed at }

pub loop-seat-init : goal.loop-seat-init
loop-seat-init c =
    let none : drop c.loop-number.number c.args.program.now.declarations.items ≡ [] = grind (arith, common_steps) in
    let told = rw none at c.loop-number.invariant.told in
    let g = known c.globals-2.inside.listed.value in
    let xs = c.args.program.now.instances.items in
    record {
      left = rw (c.new-writers.ensures, c.new-readers.ensures) (record { told = ap (λ z. z ++ firsts (seats_parts g [] [] 0 xs)) (sym (append-nil _) ∙ told); writes = refl; reads = refl });
      numbers = rw c.new-processes.ensures.items refl;
    }

pub loop-seat-preserved : goal.loop-seat-preserved
loop-seat-preserved c =
    let ds = c.args.program.now.declarations.items in
    let xs = c.args.program.now.instances.items in
    let g = known c.globals-2.inside.listed.value in
    let i = c.loop-seat.seat in
    let rest = drop (i + 1) xs in
    let split : drop i xs ≡ c.instance-item.result ∷ rest = grind (arith, common_steps) in
    let left = rw split at c.loop-seat.invariant.left in
    let numbers = rw split at c.loop-seat.invariant.numbers in
    let h = rw (← c.globals-2.view_is) at c.in_ok-add_instance.ensures in
    let placed = rw (← c.globals-2.view_is) at c.loop-number.invariant.placed in
    record {
      left = seats_onward _ _ _ _ _ _ _ _ _ _ _ _ _ _ left h.told h.tables;
      numbers = ap (λ z. z ++ made_all g rest) (h.numbers ds placed) ∙ append_assoc (map (process_at ds) c.loop-seat.processes.items) _ _ ∙ numbers;
    }

pub loop-channels-preserved : goal.loop-channels-preserved
loop-channels-preserved c =
    let ds = c.args.program.now.declarations.items in
    let i = c.loop-channels.channels-index in
    let split : drop i ds ≡ c.channels-item.result ∷ drop (i + 1) ds = grind (arith, common_steps) in
    let lines = rw split at c.loop-channels.invariant.lines in
    let sides = rw split at c.loop-channels.invariant.sides in
    let h = rw (← c.writers-2.view_is, ← c.readers-2.view_is) at c.in_ok-add_wires.ensures in
    record { lines = h.lines (drop (i + 1) ds) ∙ lines; sides = h.sides (drop (i + 1) ds) ∙ sides }

pub returns : goal.returns
returns c =
    let t = c.args.program.now in
    let ds = t.declarations.items in
    let g = known c.globals-2.inside.listed.value in
    let no_names : drop c.loop-number.number ds ≡ [] = grind (arith, common_steps) in
    let no_seats : drop c.loop-seat.seat t.instances.items ≡ [] = grind (arith, common_steps) in
    let no_wires : drop c.loop-channels.channels-index ds ≡ [] = grind (arith, common_steps) in
    let named = sym (append-nil _) ∙ rw no_names at c.loop-number.invariant.table in
    let table = ap known c.globals-2.view_is ∙ named in
    let seats = rw no_seats at c.loop-seat.invariant.left in
    let numbers = rw no_seats at c.loop-seat.invariant.numbers in
    let lines = rw no_wires at c.loop-channels.invariant.lines in
    let sides = rw no_wires at c.loop-channels.invariant.sides in
    let writes = c.writers-2.view_is ∙ sym (append-nil _) ∙ seats.writes in
    let reads = c.readers-2.view_is ∙ sym (append-nil _) ∙ seats.reads in
    record {
      told = walked_told t g _ _ _ _ _ table writes reads (sym (append-nil _) ∙ seats.told) (sym (append-nil _) ∙ sides) c.unless_empty.ensures;
      lines = sym (append-nil _) ∙ lines ∙ walked_lines t g _ _ table writes reads;
      numbers = sym (append-nil _) ∙ numbers ∙ ap (λ z. made_all z t.instances.items) table;
    }
