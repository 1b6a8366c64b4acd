use Rattle.kahn_sequential.proofs.Common.{rules, ◌≡◌, ◌∙◌, add-one, ap, cond, [], ◌++◌, ◌∷◌, network_of, Channel, is_streamed}
use Rattle.kahn_sequential.proofs.Printing.{channel_more}
use Rattle.kahn_sequential.proofs.streams.add_channels.Goals as goal
use Rattle.kahn_sequential.proofs.streams.add_channels.Goals.{then-eq, else-eq}

pub loop-channel-preserved : goal.loop-channel-preserved
loop-channel-preserved c =
    let n = c.loop-channel.channel in
    let before = c.loop-channel.lines.items in
    let has : c.if-eq.has_one ≡ is_streamed (network_of c.args.network.now) c.args.watch n = elim c.if-eq.branch [ then-eq w ↦ search rules | else-eq w ↦ search rules ] in
    let added = c.in_ok-add_line.ensures ∙ ap (λ b. before ++ cond b (Channel n ∷ []) []) has in
    rw (add-one n) (channel_more (network_of c.args.network.now) c.args.watch n before _ _ (search rules) c.loop-channel.invariant added)
