use Rattle.kahn_sequential.proofs.Common.{ap, ◌∙◌, slice_set, map-set, kept_lists}
use Rattle.kahn_sequential.proofs.streams.exchange_kept.Goals as goal

pub returns-clause-kept : goal.returns-clause-kept
returns-clause-kept c =
    map-set (λ v. v.items) c.args.lists.now.kept.items c.args.parameter c.swap.new.x
    ∙ ap (λ v. slice_set (kept_lists c.args.lists.now) c.args.parameter v.items) c.swap.ensures.x_after
