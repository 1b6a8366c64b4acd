use Rattle.kahn_code.proofs.Common.{◌≡◌, ◌++◌, map, drop, default_of}
use Rattle.kahn_code.proofs.code.process_code_of.Given as goal

abbrev pub invariant-loop-variable : goal.invariant-loop-variable
invariant-loop-variable g l =
    (l.defaults.items ++ map default_of (map (λ v. v.kind) (drop l.variable-index l.variable-items)))
    ≡ map default_of (map (λ v. v.kind) l.variable-items)
