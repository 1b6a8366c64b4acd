use Rattle.kahn_line.proofs.Common.{◌≡◌, ◌∙◌, ap, arith, codes, map, refl, sym, take, option_copied, set_line, input_named}
use Rattle.std.proofs.lemmas.Grind.{common_steps}
use Rattle.clap.specs.Words.{found_of}
use Rattle.kahn_line.proofs.Live_asked.{found_lent, lines_lent, or_none}
use Rattle.kahn_line.proofs.live.lines_at_end.Goals as goal

pub returns : goal.returns
returns c =
    let words = c.unwrap_or-words.result.now in
    let all : take c.loop-word.word-index words ≡ words = grind (arith, common_steps) in
    let lines = rw all at c.loop-word.invariant in
    let found = found_lent (found_of c.args.matches.now) (codes "at-end") c.get_strs.result c.get_strs.ensures in
    lines
    ∙ lines_lent (option_copied c.input_named-input.result) words
    ∙ ap (λ i. map (set_line i) (map (λ v. v.now) words)) c.input_named-input.ensures
    ∙ ap (map (set_line (input_named c.args.plain.now))) (or_none c.get_strs.result _ _ c.unwrap_or-words.ensures refl ∙ sym found)
