-- The warnings so far are of the comments.
use Rattle.kahn_warnings.proofs.Common.{All, IsCommentWarning}
use Rattle.kahn_warnings.proofs.program.comment_warnings.Given as goal

abbrev pub invariant-loop-comment : goal.invariant-loop-comment
invariant-loop-comment l = All (IsCommentWarning l.text l.comment-items) l.warnings.items
