use Rattle.kahn_syntax.proofs.Parsing.{AreMembers, InstancePart, InstanceSpans, InstancesTail, Par, word, length, [], ◌∷◌}
use Rattle.kahn_syntax.proofs.parser.read_instances.Given as goal

abbrev pub invariant-instances : goal.invariant-instances
invariant-instances l =
    AreMembers l.text (word Par) (InstanceSpans l.text) (InstancePart ∷ InstancesTail ∷ []) (InstancePart ∷ InstancesTail ∷ []) l.instances.items l.input l.rest

abbrev pub decreases-instances : goal.decreases-instances
decreases-instances l = length l.rest
