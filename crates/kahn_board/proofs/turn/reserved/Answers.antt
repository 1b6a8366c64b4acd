use Rattle.kahn_board.proofs.Common.{rules, ◌≤◌, ◌<◌, ℕ, ◌∙◌, subst, sym}
use Rattle.kahn_board.proofs.Limits.{counts_are, few_instances, few_channels}
use Rattle.kahn_board.proofs.turn.reserved.Goals as goal

pub reader_of-requires : goal.reader_of-requires
reader_of-requires g c = subst (λ (k : ℕ). c.loop-channel.channel < k) (c.channels-channels.ensures ∙ (counts_are c.args.network.now).1) c.loop-channel-test.true

pub lay_words-requires : goal.lay_words-requires
lay_words-requires g c = let w = c.program-program.ensures.wired in (
  subst (λ (k : ℕ). k ≤ 256) (sym (c.instances-instances.ensures ∙ (counts_are c.args.network.now).0)) (few_instances c.args.network.now w),
  subst (λ (k : ℕ). k ≤ 1024) (sym c.requires.0) (few_channels c.args.network.now w),
  c.requires.1,
)

pub returns-clause-wiring : goal.returns-clause-wiring
returns-clause-wiring g c = let w = c.program-program.ensures.wired in let i = c.instances-instances.ensures ∙ (counts_are c.args.network.now).0 in let n = c.channels-channels.ensures ∙ (counts_are c.args.network.now).1 in record {
  counts = (i, n);
  limits = (subst (λ (k : ℕ). k ≤ 256) (sym i) (few_instances c.args.network.now w), subst (λ (k : ℕ). k ≤ 1024) (sym n) (few_channels c.args.network.now w));
  readers = search rules;
}
