use Rattle.kahn_sequential.proofs.Common.{◌<◌, ◌++◌, [], ◌∷◌, add-one, ap, ◌∙◌, length, take, sym, rules, take-suc, map-append, network_of, inputs_of, stream_line}
use Rattle.kahn_sequential.proofs.Giving.{opens_more}
use Rattle.kahn_sequential.proofs.streams.opening_streams.Goals as goal

pub loop-number-preserved : goal.loop-number-preserved
loop-number-preserved c =
    let i = c.loop-number.invariant in
    let n = c.loop-number.number in
    let old = c.loop-number.streams.items in
    let x = c.in_ok-opening_stream.field-0 in
    let e = c.in_ok-opening_stream.ensures in
    let pushed = c.push_reserved.ensures.items in
    let lines = c.in_ok-lines.lines.items in
    let here : n < length lines = search rules in
    record {
      lines =
          rw (pushed, add-one n)
          (map-append stream_line old (x ∷ []) ∙ ap (λ ls. ls ++ x.line ∷ []) i.lines ∙ ap (λ d. take n lines ++ d ∷ []) (e.line ∙ c.index.ensures)
          ∙ sym (take-suc lines n c.index.result.now here));
      given = rw pushed (opens_more (network_of c.args.network.now) (inputs_of c.args.input.now) old x i.given e.given);
      size = search rules;
      room = search rules;
    }
