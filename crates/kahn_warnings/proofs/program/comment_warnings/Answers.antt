use Rattle.kahn_warnings.proofs.Common.{All, All-push, Contains-get_or, EndsLine, IsCommentWarning, List, LongComment, Span, Warning, [], arith, get_or, length, refl, subst, sym, ℕ, ◌++◌, ◌<◌, ◌∷◌, ◌≡◌}
use Rattle.kahn_warnings.proofs.program.comment_warnings.Goals as goal
use Rattle.kahn_warnings.proofs.program.comment_warnings.Goals.{then-swallows+in_ok-push, else-swallows}

one_more : (text : List ℕ) (cs : List Span) (i : ℕ) (d : Span) (old new : List Warning) → i < length cs → EndsLine text (get_or cs i d).from (get_or cs i d).to
    → new ≡ old ++ record { kind = LongComment; span = get_or cs i d } ∷ [] → All (IsCommentWarning text cs) old → All (IsCommentWarning text cs) new
one_more text cs i d old new below ends added h =
    subst (All (IsCommentWarning text cs)) (sym added) (All-push (IsCommentWarning text cs) old _ h (refl, Contains-get_or cs i d below, ends))

pub loop-comment-preserved : goal.loop-comment-preserved
loop-comment-preserved c =
    let text = c.args.text.now in
    let cs = c.deref-comment-items.result.now in
    let old = c.loop-comment.warnings.items in
    let new = c.if-swallows.warnings.items in
    elim c.if-swallows.branch [
      | then-swallows+in_ok-push w ↦
          one_more text cs c.loop-comment.comment-index _ old new (omega arith) (rw c.as_bytes.ensures.value at (c.swallows.ensures w.if-swallows.true))
          (cc (w.warnings-is, w.in_ok-push.ensures.items)) c.loop-comment.invariant
      | else-swallows w ↦
          let same : new ≡ old = cc (w.warnings-is) in
          subst (All (IsCommentWarning text cs)) (sym same) c.loop-comment.invariant
    ]

pub returns : goal.returns
returns c =
    let text = c.args.text.now in
    let ws = c.loop-comment.warnings.items in
    (c.in_ok-comments.comments.items, c.in_ok-comments.ensures, subst (λ cs. All (IsCommentWarning text cs) ws) c.deref-comment-items.ensures.value c.loop-comment.invariant)
