use Rattle.kahn_live.proofs.Common.{◌≡◌, ◌≢◌, ◌==◌, ◌∙◌, ◌++◌, false, List, ℕ, ap, append-nil, arith, length, length-take, rules, subst, sym, take, All-append, Consumes-trans, Consumes, most_kept}
use Rattle.kahn_live.proofs.Cutting.{at_end, kept_more, kept_none, kept_some, last_line, passed, whole_line}
use Rattle.kahn_live.proofs.lines.read_line.Goals as goal

pub read_part-requires : goal.read_part-requires
read_part-requires g c =
    let (line, all, read, kept) = c.loop.invariant in
    omega (arith, ap length kept, length-take most_kept line)

pub returns-in-Some-Line : goal.returns-in-Some-Line
returns-in-Some-Line g c =
    let (line, all, read, kept) = c.loop.invariant in
    let (bytes, more, then, now) = rw c.in-Some-Line.field-0-is at c.in-Some-Line.ensures in
    (line ++ bytes, whole_line _ _ _ line bytes all more read then, now ∙ ap (λ (l : List ℕ). take most_kept (l ++ bytes)) kept ∙ kept_more most_kept line bytes)

pub returns-then-is_empty : goal.returns-then-is_empty
returns-then-is_empty g c =
    let (line, all, read, kept) = c.loop.invariant in
    let (end, same, now) = rw c.in-Some-End.field-0-is at c.in-Some-End.ensures in
    at_end _ _ line read end (kept_none most_kept line _ (omega arith) (now ∙ kept) (search rules))

pub returns-in-Some-End : goal.returns-in-Some-End
returns-in-Some-End g c =
    let many : c.read_part.new.line.len ≡ length c.read_part.new.line.items = search rules in
    let some = subst (λ n. (n == 0) ≡ false) many (sym c.is_empty.ensures ∙ c.if-is_empty.false) in
    let (line, all, read, kept) = c.loop.invariant in
    let (end, same, now) = rw c.in-Some-End.field-0-is at c.in-Some-End.ensures in
    (line, last_line _ _ _ line all read end same (kept_some most_kept line _ (now ∙ kept) some), now ∙ kept)

pub returns-in-Ok : goal.returns-in-Ok
returns-in-Ok g c =
    let (line, all, read, kept) = c.loop.invariant in
    let (some, same) = rw c.in-Some-NoMemory.field-0-is at c.in-Some-NoMemory.ensures in
    passed _ _ _ _ line all read some same c.in-Ok.ensures.rest

pub loop-preserved : goal.loop-preserved
loop-preserved g c =
    let (line, all, read, kept) = c.loop.invariant in
    let (bytes, more, then, now) = c.in-None.ensures in (
      line ++ bytes,
      All-append (λ b. b ≢ 10) line bytes all more,
      Consumes-trans _ _ _ line bytes read (subst (Consumes _ _) (append-nil bytes) then),
      now ∙ ap (λ (l : List ℕ). take most_kept (l ++ bytes)) kept ∙ kept_more most_kept line bytes,
    )
