use Rattle.kahn_streams.proofs.Common.{◌≡◌, ◌+◌, ◌<◌, refl, sym, ap, subst, arith, pos, Bool, true, false, number}
use Rattle.std.specs.Int.{from_bool}
use Rattle.kahn_streams.specs.{Types.Value, declared.value.Value.TheVariants.Integer, declared.value.Value.TheVariants.Logical, declared.word.Word.TheInside.Inside, inner.Words.IsCanonical, inner.Words.word_of, inner.Words.word_value}

pub by_number : (v : Value) (w : Inside) → word_of v ≡ w → w.number ≡ number v
by_number (Integer z) w h = sym (ap (λ x. x.number) h)
by_number (Logical b) w h = sym (ap (λ x. x.number) h)

pub logical_word : (b : Bool) → (word_value (record { number = pos 0; mark = from_bool b + 1; rest = 0 }) ≡ Logical b) × IsCanonical (record { number = pos 0; mark = from_bool b + 1; rest = 0 })
logical_word true = (refl, refl)
logical_word false = (refl, refl)

abbrev restless : Inside → Inside
restless w = record { number = w.number; mark = w.mark; rest = 0 }

whole : (v : Value) (w : Inside) → word_of v ≡ w → word_of v ≡ restless w
whole (Integer z) w h = ap restless h
whole (Logical b) w h = ap restless h

pub without_rest : (w : Inside) → IsCanonical w → IsCanonical (record { number = w.number; mark = w.mark; rest = 0 })
without_rest w h = whole (word_value w) w h

few : (v : Value) → (word_of v).mark < 256
few (Logical true) = omega arith
few _ = omega arith

pub few_marks : (w : Inside) → IsCanonical w → w.mark < 256
few_marks w h = subst (λ x. x.mark < 256) h (few (word_value w))
