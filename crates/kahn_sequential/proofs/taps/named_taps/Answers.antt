use Rattle.kahn_sequential.proofs.Common.{ap, ◌∙◌, replicate, length, map, ◌∷◌, [], map-append, network_of, instance_at, told_in}
use Rattle.kahn_sequential.proofs.Laid.{opening_more, whole_more}
use Rattle.kahn_sequential.proofs.taps.named_taps.Goals as goal

pub loop-instance-preserved : goal.loop-instance-preserved
loop-instance-preserved g c =
    let same = c.requires in
    let n = c.loop-instance.instance in
    let made = c.in_ok-new.ensures in
    let taps = c.loop-instance.taps.items in
    let x = c.in_ok-new.field-0 in
    record {
      opening = opening_more c.args.network.now g.input c.args.watch (map told_in taps) (map told_in c.push.new.self.items) n x.told c.loop-instance.invariant.opening
          (record {
            network = made.names.0 ∙ same;
            input = made.names.1;
            instance = made.names.2;
            watched = made.names.3;
            events = made.none.0;
            taken = made.parameters.0 ∙ ap (λ t. replicate (length (instance_at (network_of t) n).actuals) 0) same;
            sent = made.parameters.1 ∙ ap (λ t. replicate (length (instance_at (network_of t) n).actuals) 0) same;
            kept = made.parameters.2 ∙ ap (λ t. replicate (length (instance_at (network_of t) n).actuals) []) same;
            printed = made.none.1;
          })
          (ap (map told_in) c.in_ok-push.ensures.items ∙ map-append told_in taps (x ∷ []));
      whole = whole_more taps c.push.new.self.items n x c.loop-instance.invariant.whole made.none.2 c.in_ok-push.ensures.items;
    }
