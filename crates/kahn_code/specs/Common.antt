-- Believed. The words of the crates below that definitions and clauses cite, passed on from one place.
pub use Rattle.kahn_streams.specs.Answers.{is_output, is_watched}
pub use Rattle.kahn_streams.specs.Arithmetic.{apply, arithmetic, number, ranged, same, truth}
pub use Rattle.kahn_streams.specs.Inputs.{Holds, Lists, Names, inputs_of}
pub use Rattle.kahn_streams.specs.Meaning.{Store, constant, exec}
pub use Rattle.kahn_streams.specs.Network.{Actual, Hands, Node, Schema, Reads, Writes, Written, actual_at, actual_of, actuals_of, channel_names, instance_at, network_of, role_at}
pub use Rattle.kahn_streams.specs.Script.{Cut, Dry, ScriptOutcome, Parameter, Port, Printer, Reached, Rest, Script, Tapes, play}
pub use Rattle.kahn_streams.specs.Solution.{AreInputsExtended, Inputs, Stands, default_of, ending, goes_to, opening, opening_of, source, values_at}
pub use Rattle.kahn_streams.specs.Steps.{Follows, Step, empty, sends_of, values_taken}
pub use Rattle.kahn_streams.specs.Syntax.{Expr, Stmt}
pub use Rattle.kahn_streams.specs.Tokens.{Follow, IsOf, IsOwn, TokenList, token_value}
pub use Rattle.kahn_streams.specs.declared.tree.Argument.{Argument}
pub use Rattle.kahn_streams.specs.declared.tree.Declaration.{Declaration}
pub use Rattle.kahn_streams.specs.declared.tree.Kind.{Kind}
pub use Rattle.kahn_streams.specs.declared.tree.Operator.{Operator}
pub use Rattle.kahn_streams.specs.declared.tree.Process.{Process}
pub use Rattle.kahn_streams.specs.declared.tree.Program.{Program}
pub use Rattle.kahn_streams.specs.declared.tree.Role.{Role}
pub use Rattle.kahn_streams.specs.declared.value.Failure.{Failure}
pub use Rattle.kahn_streams.specs.declared.value.Line.{Line}
pub use Rattle.kahn_streams.specs.declared.value.Value.{Value}
pub use Rattle.kahn_streams.specs.View.{Scope, body_of, expression_of, names_of, number_of, statement_of}
pub use Rattle.kahn_streams.specs.Wires.{the_process}
pub use Rattle.kahn_streams.specs.Wiring.{IsWellWired}
pub use Rattle.kahn_streams.specs.contracts.tree.Action.{the_row as action_row}
pub use Rattle.kahn_streams.specs.contracts.tree.Form.{the_row as form_row}
pub use Rattle.kahn_streams.specs.declared.token.Token.{Token}
pub use Rattle.kahn_streams.specs.declared.tree.Direction.TheVariants.{In, Out}
pub use Rattle.kahn_streams.specs.declared.tree.Role.TheVariants.{Inner, Input, Output}
pub use Rattle.kahn_streams.specs.declared.value.Line.TheVariants.{Channel, Print}
pub use Rattle.kahn_streams.specs.declared.value.Value.TheVariants.{Integer, Logical}
pub use Rattle.std.specs.Coded.{codes}
