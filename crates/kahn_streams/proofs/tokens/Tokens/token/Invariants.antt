use Rattle.kahn_streams.proofs.Token_lists.{names_at}
use Rattle.kahn_streams.proofs.tokens.Tokens.token.Given as goal

abbrev pub ghost-token_in : goal.ghost-token_in
ghost-token_in g a = names_at a._list.now.items a.place
