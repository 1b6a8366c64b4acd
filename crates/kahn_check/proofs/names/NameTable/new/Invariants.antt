use Rattle.std.proofs.Common.{[]}
use Rattle.kahn_check.proofs.names.NameTable.new.Given as goal

abbrev pub ghost-named : goal.ghost-named
ghost-named g a = []
