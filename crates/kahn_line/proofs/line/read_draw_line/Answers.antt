use Rattle.kahn_line.proofs.Common.{App, arith, map, ap, codes, refl, sym, ◌∙◌, option_map, fault_of, file_named, is_simple_and_free, draw_app, IsDraw}
use Rattle.kahn_line.proofs.Asked.{file, found, number, told}
use Rattle.kahn_line.proofs.line.read_draw_line.Goals as goal

pub returns-in_err-matches : goal.returns-in_err-matches
returns-in_err-matches g c =
    let is = c.in_ok-draw_command.ensures in
    told draw_app IsDraw (map g.S.AsStr.text c.args.words.now) c.in_ok-draw_command.field-0 is c.in_err-matches.field-0.0 (c.in_err-matches.ensures.kinds (ap is_simple_and_free is)) _
    c.from_residual-in_err-matches.ensures.1

pub returns : goal.returns
returns g c =
    let words = map g.S.AsStr.text c.args.words.now in
    let is = c.in_ok-draw_command.ensures in
    let f = found draw_app refl refl refl c.in_ok-draw_command.field-0 c.in_ok-matches.matches words c.in_ok-matches.ensures.parsed c.in_ok-matches.ensures.matches is in (
      (
          let bound = number f (codes "bound") 0 281474976710655 1000000 (refl, tt) 98 refl ((λ e. omega arith), (λ e. omega arith), (λ e. omega arith)) c.number_or.result c.number_or.ensures (omega arith) (omega arith) in
          let most = bound.2 in
          record {
            program = c.in_ok-file_copied.ensures ∙ ap (option_map file_named) c.get_str.ensures ∙ file f (codes "PROGRAM");
            input = c.in_ok-file_copied-2.ensures ∙ ap (option_map file_named) c.get_str-2.ensures ∙ file f (codes "input");
            bound = bound.0;
            in_range = omega arith;
          }
          ),
      ap (λ (a : App). fault_of a words) (sym is) ∙ c.in_ok-matches.ensures.kinds (ap is_simple_and_free is),
    )
