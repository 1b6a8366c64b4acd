-- The lines of the ends, one after another.
use Rattle.kahn_texts.proofs.Common.{◌≡◌, ℕ, ◌+◌, ◌<◌, List, ◌∷◌, ◌++◌, length, drop, get_or, ap, sym, ◌∙◌, append_assoc, add-one, drop-cons, end_text, ends_text, End, Program}

-- the line of the end at i, and those that follow
pub ends_split : (program : Program) (ends : List End) (i : ℕ) (d : End) → i < length ends
    → ends_text program i (drop i ends) ≡ end_text program i (get_or ends i d) ++ ends_text program (i + 1) (drop (i + 1) ends)
ends_split program ends i d below =
    let e : drop i ends ≡ get_or ends i d ∷ drop (i + 1) ends = rw add-one (drop-cons ends i d below) in
    ap (ends_text program i) e

pub ends_moved : (program : Program) (ends : List End) (i : ℕ) (d : End) (all done : List ℕ) → i < length ends
    → all ≡ done ++ ends_text program i (drop i ends)
    → all ≡ (done ++ end_text program i (get_or ends i d)) ++ ends_text program (i + 1) (drop (i + 1) ends)
ends_moved program ends i d all done below split =
    split ∙ ap (λ l. done ++ l) (ends_split program ends i d below)
    ∙ sym (append_assoc done (end_text program i (get_or ends i d)) (ends_text program (i + 1) (drop (i + 1) ends)))
