use Rattle.kahn_board.proofs.Common.{◌<◌, ℕ, sym, ap, ◌∙◌, subst, Side, side_at}
use Rattle.kahn_board.proofs.{Limits.counts_are, Sole.sole_reader, Sole.no_reader}
use Rattle.kahn_board.proofs.turn.reader_of.Goals as goal

pub reader-requires : goal.reader-requires
reader-requires c = subst (λ (k : ℕ). c.args.channel < k) (sym (counts_are c.args.network.now).1) c.requires

pub returns : goal.returns
returns c = let t = c.in_ok-reader.ensures.only in sym (sole_reader c.args.network.now c.args.channel c.in_ok-reader.field-0.instance c.in_ok-reader.field-0.parameter (t.0.0.0, t.0.0.1, t.0.1) (λ p q u. ap (λ (s : Side). s.instance) (t.1 (side_at p q) ((u.0, u.1), u.2))))

pub returns-in_err-reader : goal.returns-in_err-reader
returns-in_err-reader c = let t = c.in_err-reader.ensures.only in c.from_residual.ensures ∙ sym (no_reader c.args.network.now c.args.channel (λ p q u. t (side_at p q) ((u.0, u.1), u.2)))
