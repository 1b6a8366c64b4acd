use Rattle.std.proofs.Common.{inl, inr, subst}
use Rattle.kahn_syntax.specs.Texts.{IsTextFault}
use Rattle.kahn_program_notes.proofs.syntax.place.is_later.Goals as goal

pub returns-in-Expected : goal.returns-in-Expected
returns-in-Expected c h = inr (c.in-Expected.at, inl (c.in-Expected._what, subst (IsTextFault c.args.new.now) c.in-Expected.is c.requires), c.is_less.ensures h)

pub returns-in-BadCharacter : goal.returns-in-BadCharacter
returns-in-BadCharacter c h = inr (c.in-BadCharacter.at, inr (subst (IsTextFault c.args.new.now) c.in-BadCharacter.is c.requires), c.is_less-in-BadCharacter.ensures h)
