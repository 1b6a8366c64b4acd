-- Believed. Which processes print, reached or not.
use Rattle.std.specs.Prelude.{Bool, false}
use Rattle.kahn_streams.specs.{Types.Declaration, Types.Process, Syntax.prints_in, View.body_of, View.names_of}
use Rattle.kahn_streams.specs.declared.tree.Declaration.TheVariants as D

abbrev pub process_prints : Process → Bool
process_prints p = prints_in (body_of (names_of p) p.statements.items)

-- a declaration of channels prints nothing
abbrev pub declaration_prints : Declaration → Bool
declaration_prints (D.Channels kind role names) = false
declaration_prints (D.Process p) = process_prints p
