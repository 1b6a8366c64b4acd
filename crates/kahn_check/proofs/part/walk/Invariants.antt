-- What is left of the parts, and of the wires, by what is told so far.
use Rattle.kahn_check.proofs.Common.{◌≡◌, ◌++◌, [], map, drop, name_parts, firsts, known, most_channels, entries, declared_of, declared_channels, ArePlaced, process_at, made_all, shown, lines_in, sides_parts}
use Rattle.kahn_check.proofs.Told.{SeatsLeft}
use Rattle.kahn_check.proofs.part.walk.Given as goal

abbrev pub invariant-loop-number : goal.invariant-loop-number
invariant-loop-number l =
    let ds = l.program.declarations.items in
    let rest = drop l.number ds in
    record {
      told : l.faults.items ++ firsts (name_parts (known l.globals) l.room (declared_of rest)) ≡ firsts (name_parts [] most_channels (declared_of ds));
      table : known l.globals ++ entries (declared_of rest) ≡ entries (declared_of ds);
      placed : ArePlaced ds l.globals;
    }

abbrev pub invariant-loop-seat : goal.invariant-loop-seat
invariant-loop-seat l =
    let ds = l.program.declarations.items in
    let xs = l.program.instances.items in
    let rest = drop l.seat xs in
    record {
      left : SeatsLeft (known l.globals-inside.listed.value) l.seat rest l.writers l.readers l.faults.items xs [] [] (firsts (name_parts [] most_channels (declared_of ds)));
      numbers : map (process_at ds) l.processes.items ++ made_all (known l.globals-inside.listed.value) rest ≡ made_all (known l.globals-inside.listed.value) xs;
    }

abbrev pub invariant-loop-channels : goal.invariant-loop-channels
invariant-loop-channels l =
    let all = declared_channels l.program.declarations.items in
    let rest = declared_channels (drop l.channels-index l.program.declarations.items) in
    let w = l.writers-inside.listed.value in
    let r = l.readers-inside.listed.value in
    record {
      lines : map shown l.wires.items ++ lines_in w r rest ≡ lines_in w r all;
      sides : l.sides.items ++ firsts (sides_parts w r rest) ≡ firsts (sides_parts w r all);
    }
