use Rattle.kahn_check.proofs.Common.{List, drop, Declaration, ArePlaced, known, as_channels}
use Rattle.kahn_check.proofs.Told.{AreNamesTold}
use Rattle.kahn_check.proofs.part.add_declaration.Given as goal

abbrev pub invariant-loop-name : goal.invariant-loop-name
invariant-loop-name l =
    record {
      told : AreNamesTold (as_channels l.kind l.role (drop l.name-index l.name-items)) (known l.globals) l.left l.faults.items (as_channels l.kind l.role l.name-items) (known l.fn.globals) l.room l.fn.faults.items;
      placed : (ds : List Declaration) → ArePlaced ds l.fn.globals → ArePlaced ds l.globals;
    }
