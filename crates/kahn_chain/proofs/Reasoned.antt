-- The reasons so far, one after another.
use Rattle.std.proofs.Common.{slice_get}
use Rattle.kahn_chain.proofs.Common.{◌≡◌, ◌∙◌, ℕ, ◌+◌, ◌<◌, List, [], ◌++◌, All, Bool, Some, ap, append_assoc, drop, get_or, length, map, refl, subst, sym, at_drop_more, map-append, slice_get-get_or, Schema, End, Outcome, Ended, Waits, Faulted, More, Verdict, IsCause, IsRingMark, stands, AreSoFar, reasons_at, told_at, Cause}
use Rattle.std.proofs.lemmas.List.Elements.{All-append, All-from_recursion}
use Rattle.kahn_chain.specs.{Reasons.IsReasonFor, Reasons.not_ended, Reasons.told_instance, Reasons.unless_ended, declared.reason.Reason.Reason}

numbers : (v : Verdict) (p : ℕ) (x : End) (y : Cause) (mark : Bool) (o : Outcome) → map told_instance (told_at v p x y mark o) ≡ unless_ended p o
numbers v p x y mark Ended = refl
numbers v p x y mark _ = refl

are_so : (N : Schema) (v : Verdict) (es : List End) (p : ℕ) (x : End) (y : Cause) (mark : Bool) (o : Outcome) → slice_get es p ≡ Some x → IsCause N (map stands es) p y
    → IsRingMark N (map stands es) p mark → All (IsReasonFor N v es) (told_at v p x y mark o)
are_so N v es p x y mark Ended end cause ring = All-from_recursion (IsReasonFor N v es) [] tt
are_so N v es p x y mark o end cause ring = All-from_recursion (IsReasonFor N v es) (told_at v p x y mark o) ((record { end = end; cause = cause; ring = ring; lasts = refl }), tt)

-- the reason of one instance more
pub one_more : (N : Schema) (v : Verdict) (es : List End) (p : ℕ) (d : End) (y : Cause) (mark : Bool) (rs new : List Reason) → AreSoFar N v es p rs → p < length es
    → IsCause N (map stands es) p y → IsRingMark N (map stands es) p mark → new ≡ rs ++ reasons_at v p (get_or es p d) y mark → AreSoFar N v es (p + 1) new
one_more N v es p d y mark rs new h below cause ring more = subst (AreSoFar N v es (p + 1)) (sym more) (record {
  once =
      ap (λ l. l ++ rest) (map-append told_instance rs (reasons_at v p x y mark) ∙ ap (λ l. map told_instance rs ++ l) (numbers v p x y mark x.outcome))
      ∙ append_assoc (map told_instance rs) (unless_ended p x.outcome) rest ∙ ap (λ l. map told_instance rs ++ l) (sym step) ∙ h.once;
  each =
      All-append (IsReasonFor N v es) rs (reasons_at v p x y mark) h.each
      (are_so N v es p x y mark x.outcome (slice_get-get_or es p d below) cause ring);
})
  where
    x : End
    x = get_or es p d

    rest : List ℕ
    rest = not_ended (p + 1) (drop (p + 1) es)

    step : not_ended p (drop p es) ≡ unless_ended p x.outcome ++ rest
    step = at_drop_more (not_ended p) es p d below
