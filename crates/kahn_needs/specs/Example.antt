-- Believed. The definitions at work: of the process that doubles each value of an input, which has the values 1, 2 and 3, the second value
-- needs two values of the input and six events: two turns, and in each a value that is taken and one that is sent.
use Rattle.std.specs.Prelude.{ℕ, ◌==◌, if◌then◌else◌, pos}
use Rattle.kahn_streams.specs.{declared.value.Value.TheVariants.Integer, declared.value.Line.TheVariants.Channel, Examples.doubling_network, Examples.one_two_three}
use Rattle.kahn_needs.specs.Needs.{Cut, AreNeeds}

-- these of input 0 and of instance 0, and nothing else
abbrev pub of_first : ℕ → ℕ → Cut
of_first n e = record { values = λ d. if d == 0 then n else 0; events = λ p. if p == 0 then e else 0 }

abbrev pub SecondDoubled : Type 0
SecondDoubled = AreNeeds doubling_network one_two_three (Channel 1) 1 (Integer (pos 4)) (of_first 2 6)
