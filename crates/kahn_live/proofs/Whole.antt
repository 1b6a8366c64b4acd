-- What a whole run is made of.
use Rattle.kahn_live.proofs.Common.{[], ◌≡◌, ◌∙◌, ℕ, eqb, List, None, Some, Option, if◌then◌else◌, refl, ap, reader_buffer, reader_capacity, reader_inner, reader_remaining, prepend_known}
use Rattle.std.specs.declared.io.buffered.BufReader.{BufReader}

prepend_none : (m : Option (List ℕ)) → prepend_known [] m ≡ m
prepend_none None = refl
prepend_none (Some x) = refl

-- a reader whose buffer is empty
pub fresh : {I A : Type 0} (left : I → Option (List ℕ)) (r : BufReader I A) (input : I) → reader_inner r ≡ input → reader_buffer r ≡ [] → reader_capacity r ≡ 8192
    → reader_remaining left r ≡ left input
fresh left r input inner empty room =
    ap (λ (k : ℕ). if eqb k 0 then None else prepend_known (reader_buffer r) (left (reader_inner r))) room
    ∙ ap (λ (b : List ℕ). prepend_known b (left (reader_inner r))) empty ∙ prepend_none (left (reader_inner r)) ∙ ap left inner
