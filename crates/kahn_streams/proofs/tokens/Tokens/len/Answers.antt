use Rattle.kahn_streams.proofs.Common.{length, sym, ap, ◌∙◌, length-map}
use Rattle.kahn_streams.specs.Tokens.{token_value}
use Rattle.kahn_streams.proofs.tokens.Tokens.len.Goals as goal

pub returns : goal.returns
returns g c = c.len.ensures ∙ ap length c.values.ensures ∙ length-map c.args.self.now.items token_value
