-- Believed. The types of lexemes, faults and of the tree, passed on from one place.
pub use Rattle.kahn_syntax.specs.declared.fault.{SyntaxFault.SyntaxFault, What.TheVariants.More, What.TheVariants.Nothing, What.TheVariants.Other}
pub use Rattle.kahn_syntax.specs.declared.fault.SyntaxFault.TheVariants.{BadCharacter, CommentOpen, Expected, NameTooLong, NoMemory, NumberTooLarge, TooLong}
pub use Rattle.kahn_syntax.specs.declared.lexeme.{Class.Class, Keyword.Keyword, Lexeme.Lexeme, Sign.Sign}
pub use Rattle.kahn_syntax.specs.declared.lexer.Item.{Item}
pub use Rattle.kahn_syntax.specs.declared.parser.cursor.Stop.{Stop, TheVariants.Refused, TheVariants.TooDeep}
pub use Rattle.kahn_syntax.specs.declared.parser.expression.Level.{Level, TheVariants.And, TheVariants.Or, TheVariants.Relation, TheVariants.Sum, TheVariants.Term}
pub use Rattle.kahn_streams.specs.declared.span.Span.{Span}
pub use Rattle.kahn_streams.specs.declared.tree.Action.{Action, Assign, Block', Empty, Held-Action-If-2, If', None', Print, Repeat', Row_of-Statement, Send, Some', While', end_of-Statement, more_of-Statement}
pub use Rattle.kahn_streams.specs.declared.tree.Form.{Bracket', Conditional', Form, Level', Logical, Negate', Not', Number, Row_of-Operand, Variable, Wait, end_of-Operand, more_of-Operand}
pub use Rattle.kahn_streams.specs.declared.tree.{Argument.Argument, Declaration.Declaration, Expression.Expression, Instance.Instance, Kind.Kind, Name.Name, Operand.Operand, Operator.Operator, Parameter.Parameter, Process.Process, Program.Program, Role.Role, Statement.Statement, Taking.Taking, Variable.Variable as OneVariable}
