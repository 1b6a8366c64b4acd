use Rattle.kahn_line.proofs.Common.{App, map, ap, codes, refl, sym, ◌∙◌, option_map, fault_of, file_named, is_simple_and_free, was_given, explain_app, IsExplain}
use Rattle.kahn_line.proofs.Asked.{file, found, named, set_by, text, told}
use Rattle.kahn_line.proofs.line.read_explain_line.Goals as goal

pub returns-in_err-matches : goal.returns-in_err-matches
returns-in_err-matches g c =
    let is = c.in_ok-explain_command.ensures in
    told explain_app IsExplain (map g.S.AsStr.text c.args.words.now) c.in_ok-explain_command.field-0 is c.in_err-matches.field-0.0 (c.in_err-matches.ensures.kinds (ap is_simple_and_free is)) _
    c.from_residual-in_err-matches.ensures.1

pub returns : goal.returns
returns g c =
    let words = map g.S.AsStr.text c.args.words.now in
    let is = c.in_ok-explain_command.ensures in
    let f = found explain_app refl refl refl c.in_ok-explain_command.field-0 c.in_ok-matches.matches words c.in_ok-matches.ensures.parsed c.in_ok-matches.ensures.matches is in (
      record {
        program = c.in_ok-file_copied.ensures ∙ ap (option_map file_named) c.get_str.ensures ∙ file f (codes "PROGRAM");
        input = c.in_ok-file_copied-2.ensures ∙ ap (option_map file_named) c.get_str-2.ensures ∙ file f (codes "input");
        config = set_by f (refl, tt) (refl, tt) (refl, tt) _ c.in_ok-config_of.ensures;
        all = c.was_given.ensures ∙ ap was_given c.get_str-3.ensures ∙ named f (codes "all");
        strict = c.was_given-2.ensures ∙ ap was_given c.get_str-4.ensures ∙ named f (codes "strict");
        trace = c.was_given-3.ensures ∙ ap was_given c.get_str-5.ensures ∙ named f (codes "trace");
        channels = c.was_given-4.ensures ∙ ap was_given c.get_str-6.ensures ∙ named f (codes "channels");
        check = c.was_given-5.ensures ∙ ap was_given c.get_str-7.ensures ∙ named f (codes "check");
        needs = c.in_ok-copied.ensures ∙ c.get_str-8.ensures ∙ text f (codes "needs");
        wakes = c.in_ok-copied-2.ensures ∙ c.get_str-9.ensures ∙ text f (codes "wakes");
        json = c.was_given-6.ensures ∙ ap was_given c.get_str-10.ensures ∙ named f (codes "json");
      },
      ap (λ (a : App). fault_of a words) (sym is) ∙ c.in_ok-matches.ensures.kinds (ap is_simple_and_free is),
    )
