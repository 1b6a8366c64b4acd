use Rattle.kahn_streams.proofs.Common.{[]}
use Rattle.kahn_streams.proofs.tokens.Tokens.new.Given as goal

abbrev pub ghost-named : goal.ghost-named
ghost-named g a = []
