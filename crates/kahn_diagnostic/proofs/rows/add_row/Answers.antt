use Rattle.std.proofs.Common.{rules}
use Rattle.kahn_diagnostic.proofs.Common.{ap, arith, ◌+◌, ◌≡◌, drop, subst, sym, IsUtf8, IsUtf8-drop, char_indices_offset, char_indices_rest}
use Rattle.std.proofs.lemmas.Str.{IsUtf8-past_char, chars_past_char}
use Rattle.kahn_diagnostic.proofs.Written.{begun, cut, done, moved}
use Rattle.kahn_diagnostic.proofs.rows.add_row.Goals as goal

pub loop-at-init : goal.loop-at-init
loop-at-init c =
    let text = c.args.source.now in
    let first = c.floor_char_boundary-first.result in
    let cut = c.floor_char_boundary-first.ensures.boundary in
    let remains : char_indices_rest c.into_iter-at-iterator.result ≡ drop first text = search rules in
    let none : char_indices_offset c.into_iter-at-iterator.result ≡ 0 = search rules in (
      subst IsUtf8 (sym remains) (IsUtf8-drop text first c.utf8.source cut),
      begun c.args.row c.args.near c.args.part text _ _ first _ c.utf8.source cut c.floor_char_boundary-first.ensures.bound remains none,
    )

pub returns-then-at-near : goal.returns-then-at-near
returns-then-at-near c =
    cut c.args.row c.args.near c.args.part _ _ _ _ _ (ap (λ n. c.floor_char_boundary-first.result + n) c.in-Some.ensures.steps.0) c.if-at-near.true c.loop-at.invariant.1

pub loop-at-preserved : goal.loop-at-preserved
loop-at-preserved c =
    let held = c.loop-at.invariant in
    let steps = c.in-Some.ensures.steps in (
      IsUtf8-past_char _ _ c.in-Some.character held.0 steps.1,
      moved c.args.row c.args.near c.args.part _ _ _ c.in-Some.character _ _ _ _ _ (ap (λ n. c.floor_char_boundary-first.result + n) steps.0)
          (chars_past_char _ _ c.in-Some.character held.0 steps.1) (omega (arith, steps.2)) c.in_ok-add_piece.ensures held.1,
    )

pub returns : goal.returns
returns c = done c.args.row c.args.near c.args.part _ _ _ _ c.in-None.ensures.steps.0 c.loop-at.invariant.1
