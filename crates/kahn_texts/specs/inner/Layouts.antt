-- Inner. The bytes of a value and of what separates it from others.
use Rattle.std.specs.Prelude.{ℕ, List}
use Rattle.kahn_streams.specs.{declared.value.Value.Value, Written.plain_line, Written.spaced_text}
use Rattle.kahn_texts.specs.declared.write.Layout.{Layout}
use Rattle.kahn_texts.specs.declared.write.Layout.TheVariants.{Spaced, Lined}

abbrev pub separated : Layout → Value → List ℕ
separated Spaced = spaced_text
separated Lined = plain_line
