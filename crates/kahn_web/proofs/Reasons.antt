-- What was written as the reason of a page, of texts that are bytes.
use Rattle.kahn_web.proofs.Common.{◌≡◌, ℕ, false, List, [], ◌++◌, Option, Some, None, Ok, IfSome, codes, inl, inr, string_bytes, subst, sym, IsAdmitted, HasRefused, HasWritten, Stopped, Refused, IsTextAnswer, IsRunExplained, alone, are_allowed}
use Rattle.kahn_streams.specs.declared.answer.Answer.{Answer}
use Rattle.kahn_explanation.specs.{Refusing.IsRefusedFor, Why.IsExplained, declared.explaining.Admitted.Admitted, declared.explaining.Came.Came, declared.why.told.Explanation.Explanation}

pub some_of : {A : Type 0} {P Q : A → Type 0} (o : Option A) → ((x : A) → P x → Q x) → IfSome o P → IfSome o Q
some_of None f h = h
some_of (Some x) f h = f x h

-- what holds of two texts holds of their bytes
pub of_bytes : (P : List ℕ → List ℕ → Type 0) (p q a b : List ℕ) → p ≡ a → q ≡ b → P p q → P a b
of_bytes P p q a b d e h = subst (λ l. P l b) d (subst (P p) e h)

written : (items text : List ℕ) (came x : Came) → HasWritten text came (Some []) (Some items) (Ok x) → items ≡ text
written items text came x (inl (is, out)) = out
written items text came x (inr (f, is, out)) = absurd cc

-- why the run of an answer stopped
pub stopped : (program input : List ℕ) (bound : ℕ) (it : Admitted) (a : Answer) (e : Explanation) (items text : List ℕ) (came x : Came)
    → IsAdmitted (codes "program") program false it → IsTextAnswer it.network input (alone bound) a → IsExplained it.network a e
    → text ≡ string_bytes it.notes ++ string_bytes e.text → HasWritten text came (Some []) (Some items) (Ok x) → IsRunExplained program input bound items
stopped program input bound it a e items text came x on run is same out =
    (it.network, a, string_bytes it.notes, e, on.checked, run, are_allowed (codes "program") program false it on, is, subst (λ l. items ≡ l) same (written items text came x out))

-- why the program is refused
pub refused : (path program items : List ℕ) (came : Came) → HasRefused path program false (Some []) (Some items) (Ok came) → IsRefusedFor path program false items
refused path program items (Stopped x) h = absurd h
refused path program items Refused (text, why, out) = subst (IsRefusedFor path program false) (sym out) why
