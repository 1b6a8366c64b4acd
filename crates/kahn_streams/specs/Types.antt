-- Believed. The types of the tree, of spans, values, sides, configurations and faults of inputs, passed on from one place.
pub use Rattle.kahn_streams.specs.declared.config.Config.{Config}
pub use Rattle.kahn_streams.specs.declared.entries.InputFault.{InputFault}
pub use Rattle.kahn_streams.specs.declared.feeds.FeedFault.{FeedFault}
pub use Rattle.kahn_streams.specs.declared.sides.Side.{Side}
pub use Rattle.kahn_streams.specs.declared.span.Span.{Span}
pub use Rattle.kahn_streams.specs.declared.tree.Action.{Action, Assign, Block', Empty, Held-Action-If-2, If', None', Print, Repeat', Row_of-Statement, Send, Some', While', end_of-Statement, more_of-Statement}
pub use Rattle.kahn_streams.specs.declared.tree.Argument.{Argument}
pub use Rattle.kahn_streams.specs.declared.tree.Declaration.{Declaration}
pub use Rattle.kahn_streams.specs.declared.tree.Direction.{Direction}
pub use Rattle.kahn_streams.specs.declared.tree.Expression.{Expression}
pub use Rattle.kahn_streams.specs.declared.tree.Form.{Bracket', Conditional', Form, Level', Logical, Negate', Not', Number, Row_of-Operand, Variable, Wait, end_of-Operand, more_of-Operand}
pub use Rattle.kahn_streams.specs.declared.tree.Instance.{Instance}
pub use Rattle.kahn_streams.specs.declared.tree.Kind.{Kind}
pub use Rattle.kahn_streams.specs.declared.tree.Name.{Name}
pub use Rattle.kahn_streams.specs.declared.tree.Operand.{Operand}
pub use Rattle.kahn_streams.specs.declared.tree.Operator.{Operator}
pub use Rattle.kahn_streams.specs.declared.tree.Parameter.{Parameter}
pub use Rattle.kahn_streams.specs.declared.tree.Process.{Process}
pub use Rattle.kahn_streams.specs.declared.tree.Program.{Program}
pub use Rattle.kahn_streams.specs.declared.tree.Role.{Role}
pub use Rattle.kahn_streams.specs.declared.tree.Statement.{Statement}
pub use Rattle.kahn_streams.specs.declared.tree.Taking.{Taking}
pub use Rattle.kahn_streams.specs.declared.tree.Variable.{Variable as OneVariable}
pub use Rattle.kahn_streams.specs.declared.value.Failure.{Failure}
pub use Rattle.kahn_streams.specs.declared.value.Line.{Line}
pub use Rattle.kahn_streams.specs.declared.value.Value.{Value}
