use Rattle.kahn_streams.proofs.Common.{◌++◌, ◌∷◌, []}
use Rattle.kahn_streams.proofs.tokens.Tokens.add.Given as goal

abbrev pub ghost-series_of : goal.ghost-series_of
ghost-series_of g a = a._x.now.value ++ a._y.now ∷ []
