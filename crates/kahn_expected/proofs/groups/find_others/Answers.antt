use Rattle.kahn_expected.proofs.Common.{And, Contains, Contains-append_left, Contains-append_right, Contains-get_or, Contains-push, Word, [], arith, get_or, length, ◌++◌, ◌<◌, ◌∷◌}
use Rattle.kahn_expected.proofs.Classes.{IsAmong, all_grown, one_less, one_more, still_among}
use Rattle.kahn_expected.proofs.groups.find_others.Goals as goal
use Rattle.kahn_expected.proofs.groups.find_others.Goals.{then-not-has+in_ok-push, else-not-has}

pub loop-class-preserved : goal.loop-class-preserved
loop-class-preserved c =
    let classes = c.args.classes.now in
    let said = c.args.told.now in
    let i = c.loop-class.class-index in
    let x = get_or classes i (Word And) in
    let old = c.loop-class.others.items in
    let new = c.if-not-has.others.items in
    let below : i < length classes = omega arith in
    elim c.if-not-has.branch [
      | then-not-has+in_ok-push w ↦
          one_more (Contains classes) (IsAmong said) classes i (Word And) old new (still_among said old) below (cc (w.others-is, w.in_ok-push.ensures.items))
          (Contains-get_or classes i (Word And) below) (Contains-append_right said (old ++ x ∷ []) x (Contains-push old x)) c.loop-class.invariant
      | else-not-has w ↦
          one_less (Contains classes) (IsAmong said) classes i (Word And) old new below (cc (w.others-is)) (Contains-append_left said old x w.if-not-has.ensures)
          c.loop-class.invariant
    ]

pub returns : goal.returns
returns c =
    let classes = c.args.classes.now in
    all_grown (Contains classes) (IsAmong c.args.told.now) classes c.loop-class.class-index c.loop-class.others.items (omega arith) c.loop-class.invariant
