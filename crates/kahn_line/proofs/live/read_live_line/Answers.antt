use Rattle.kahn_line.proofs.Common.{List, arith, codes, map, ap, ap₂, refl, subst, sym, ◌≡◌, ◌∙◌, option_map, string_bytes, HasKind, HasMatchesOf, app_of, fault_of, is_simple_and_free, file_named, was_given, input_named, row_texts, set_line, joined_words, live_app, IsLive, Text}
use Rattle.kahn_line.proofs.{Asked.file, Asked.found, Asked.named, Asked.number, Asked.text, Asked.told, Live_asked.given}
use Rattle.kahn_line.proofs.live.read_live_line.Goals as goal

pub returns-in_err-matches : goal.returns-in_err-matches
returns-in_err-matches g c =
    let is = c.in_ok-live_command.ensures in
    let words = joined_words (map g.S.AsStr.text c.args.words.now) in
    let same : map string_bytes c.as_slice.result.now ≡ words = ap (map string_bytes) c.as_slice.ensures.value ∙ c.in_ok-words.ensures in
    let kinds = subst (λ (ws : List Text). HasKind (fault_of (app_of c.in_ok-live_command.field-0) ws) c.in_err-matches.field-0.0) same
    (c.in_err-matches.ensures.kinds (ap is_simple_and_free is)) in
    told live_app IsLive words c.in_ok-live_command.field-0 is c.in_err-matches.field-0.0 kinds _ c.from_residual-in_err-matches.ensures.1

pub returns : goal.returns
returns g c =
    let is = c.in_ok-live_command.ensures in
    let words = joined_words (map g.S.AsStr.text c.args.words.now) in
    let same : map string_bytes c.as_slice.result.now ≡ words = ap (map string_bytes) c.as_slice.ensures.value ∙ c.in_ok-words.ensures in
    let matches = subst (λ (ws : List Text). HasMatchesOf (app_of c.in_ok-live_command.field-0) ws c.in_ok-matches.matches) same c.in_ok-matches.ensures.matches in
    let f = found live_app refl refl refl c.in_ok-live_command.field-0 c.in_ok-matches.matches words c.in_ok-matches.ensures.parsed matches is in
    let set = c.in_ok-set.ensures in
    let quantum = number f (codes "quantum") 1 1000000 1000 (refl, tt) 113 refl ((λ e. omega arith), (λ e. omega arith), (λ e. omega arith)) _ set.quantum (omega arith) (omega arith) in
    let step = number f (codes "step") 1 281474976710655 1000000 (refl, tt) 115 refl ((λ e. omega arith), (λ e. omega arith), (λ e. omega arith)) _ set.bound (omega arith) (omega arith) in
    let most = step.2 in (
      record {
        program = c.in_ok-file_copied.ensures ∙ ap (option_map file_named) c.get_str-2.ensures ∙ file f (codes "PROGRAM");
        watch = set.watch ∙ text f (codes "watch");
        workers = refl;
        quantum = quantum.0;
        step = step.0;
        keep_going = c.was_given.ensures ∙ ap was_given c.get_str-3.ensures ∙ named f (codes "keep-going");
        strict = c.was_given-2.ensures ∙ ap was_given c.get_str-4.ensures ∙ named f (codes "strict");
        at_end = c.in_ok-lines_at_end.ensures ∙ ap (λ rs. map (set_line (input_named c.in_ok-plain.plain)) (row_texts (codes "at-end") rs)) f.rows;
        plain = c.in_ok-plain.ensures ∙ given c.get_str-inputs.ensures c.get_str-outputs.ensures c.get_str.ensures ∙ given (text f (codes "in")) (text f (codes "out")) (text f (codes "plain"));
        in_range = (omega arith, omega arith, quantum.1, quantum.2, omega arith);
      },
      ap₂ fault_of (sym is) (sym same) ∙ c.in_ok-matches.ensures.kinds (ap is_simple_and_free is),
    )
