-- Where characters begin.
use Rattle.kahn_diagnostic.proofs.Common.{◌≡◌, ◌≤◌, ◌&&◌, ℕ, List, Bool, true, false, IsCharBoundary, arith, refl, length, nat_le}
use Rattle.std.specs.Prelude.{slice_index}
use Rattle.std.proofs.lemmas.Bool.Decides.{nat_tests}
use Rattle.kahn_streams.specs.declared.span.Span.{Span}
use Rattle.kahn_diagnostic.specs.Fixes.{is_boundary, is_part}

boundary : (text : List ℕ) (i : ℕ) → is_boundary text i ≡ true → IsCharBoundary text i
boundary text i h = (grind (arith, nat_tests, h), λ inside high. grind (arith, nat_tests, h, inside, high))

pub in_order : (text : List ℕ) (s : Span) → is_part text s ≡ true → s.from ≤ s.to
in_order text s h = grind (arith, nat_tests, h)

left : (a b c : Bool) → (a && b && c) ≡ true → b ≡ true
left true true c h = refl
left true false c h = absurd cc
left false b c h = absurd cc

right : (a b c : Bool) → (a && b && c) ≡ true → c ≡ true
right true true true h = refl
right true true false h = absurd cc
right true false c h = absurd cc
right false b c h = absurd cc

pub from_part : (text : List ℕ) (s : Span) → is_part text s ≡ true → IsCharBoundary text s.from
from_part text s h = boundary text s.from (left (nat_le s.from s.to) (is_boundary text s.from) (is_boundary text s.to) h)

pub to_part : (text : List ℕ) (s : Span) → is_part text s ≡ true → IsCharBoundary text s.to
to_part text s h = boundary text s.to (right (nat_le s.from s.to) (is_boundary text s.from) (is_boundary text s.to) h)
