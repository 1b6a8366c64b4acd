use Rattle.kahn_line.proofs.Common.{App, map, ap, codes, refl, sym, ◌∙◌, fault_of, is_simple_and_free, kahn_app, IsAsked}
use Rattle.kahn_line.proofs.Asked.{found, set_by, text, told}
use Rattle.kahn_line.proofs.line.read_line.Goals as goal

pub returns-in_err-matches : goal.returns-in_err-matches
returns-in_err-matches g c =
    let is = c.in_ok-command.ensures in
    told kahn_app IsAsked (map g.S.AsStr.text c.args.words.now) c.in_ok-command.field-0 is c.in_err-matches.field-0.0 (c.in_err-matches.ensures.kinds (ap is_simple_and_free is)) _
    c.from_residual-in_err-matches.ensures.1

pub returns : goal.returns
returns g c =
    let words = map g.S.AsStr.text c.args.words.now in
    let is = c.in_ok-command.ensures in
    let f = found kahn_app refl refl refl c.in_ok-command.field-0 c.in_ok-matches.matches words c.in_ok-matches.ensures.parsed c.in_ok-matches.ensures.matches is in (
      record {
        program = c.in_ok-copied.ensures ∙ c.get_str.ensures ∙ text f (codes "PROGRAM");
        input = c.in_ok-copied-2.ensures ∙ c.get_str-2.ensures ∙ text f (codes "input");
        config = set_by f (refl, tt) (refl, tt) (refl, tt) _ c.in_ok-config_of.ensures;
      },
      ap (λ (a : App). fault_of a words) (sym is) ∙ c.in_ok-matches.ensures.kinds (ap is_simple_and_free is),
    )
