-- Believed. The operators on values, at 64 bits.
use Rattle.std.specs.Prelude.{◌^◌, ℤ, pos, negsuc, ◌+ℤ◌, ◌-ℤ◌, ◌*ℤ◌, Bool, false, not, ◌&&◌, ◌||◌, nat_lt, int_lt, int_le, int_div, int_rem, Result, Ok, Err, if◌then◌else◌}
use Rattle.std.proofs.Common.{int_eq}
use Rattle.std.specs.Bool.{beq}
use Rattle.kahn_streams.specs.{Types.Value, Types.Failure, Types.Operator, declared.value.Value.TheVariants.Integer, declared.value.Value.TheVariants.Logical, declared.value.Failure.TheVariants.Overflow, declared.value.Failure.TheVariants.Division}
use Rattle.kahn_streams.specs.declared.tree.Operator.TheVariants.{Or, And, Equal, Unequal, Less, AtMost, Greater, Add, Subtract, Multiply, Divide, Remainder}

-- a checked program asks a number only of an integer, and a truth value only of a logical one
abbrev pub number : Value → ℤ
number (Integer z) = z
number (Logical b) = pos 0

abbrev pub truth : Value → Bool
truth (Integer z) = false
truth (Logical b) = b

abbrev pub fits_64 : ℤ → Bool
fits_64 (pos n) = nat_lt n (2 ^ 63)
fits_64 (negsuc n) = nat_lt n (2 ^ 63)

-- a result, which overflows past 64 bits
abbrev pub ranged : ℤ → Result Value Failure
ranged z = if fits_64 z then Ok (Integer z) else Err Overflow

abbrev pub is_zero : ℤ → Bool
is_zero z = int_eq z (pos 0)

abbrev pub same : Value → Value → Bool
same (Integer a) (Integer b) = int_eq a b
same (Logical a) (Logical b) = beq a b
same _ _ = false

abbrev pub arithmetic : Operator → ℤ → ℤ → Result Value Failure
arithmetic Add a b = ranged (a +ℤ b)
arithmetic Subtract a b = ranged (a -ℤ b)
arithmetic Multiply a b = ranged (a *ℤ b)
arithmetic Divide a b = if is_zero b then Err Division else ranged (int_div a b)
arithmetic Remainder a b = if is_zero b then Err Division else ranged (int_rem a b)
arithmetic Less a b = Ok (Logical (int_lt a b))
arithmetic AtMost a b = Ok (Logical (int_le a b))
arithmetic Greater a b = Ok (Logical (int_lt b a))
arithmetic _ a b = Ok (Logical (int_le b a))

-- an operator on the values of its two operands
abbrev pub apply : Operator → Value → Value → Result Value Failure
apply Or x y = Ok (Logical (truth x || truth y))
apply And x y = Ok (Logical (truth x && truth y))
apply Equal x y = Ok (Logical (same x y))
apply Unequal x y = Ok (Logical (not (same x y)))
apply o x y = arithmetic o (number x) (number y)
