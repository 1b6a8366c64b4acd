use Rattle.kahn_check.proofs.Common.{◌++◌, ◌∷◌, [], bytes_of}
use Rattle.kahn_check.proofs.names.NameTable.keep.Given as goal

abbrev pub ghost-in_order : goal.ghost-in_order
ghost-in_order g a = a._names.now ++ (bytes_of a._name.now, a._what.now) ∷ []
