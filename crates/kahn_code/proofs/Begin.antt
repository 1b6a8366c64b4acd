-- Tokens of inputs that begin another one, and values that are read where the input has them.
use Rattle.std.proofs.Common.{slice_get}
use Rattle.kahn_streams.proofs.Given_values.{stands_given}
use Rattle.kahn_streams.specs.Tokens.{Follow}
use Rattle.kahn_code.proofs.Common.{arith, ◌≡◌, ℕ, zero, suc, ◌+◌, Some, List, [], ◌∷◌, ◌++◌, sym, ◌∙◌, subst, add-zero, same_Some, Line, Program, Token, Lists, inputs_of, AreInputsExtended, IsOf, ◌<◌, ◌^◌, Input, Value, Channel, Holds, network_of, role_at, refl, ap, length, prefix_get, prefix_refl, prefix_trans, AllBegin, AreBehind, AreGivenFrom, spare_before}

pub all_longer : (t : Program) (before after : Lists) (ts : List Token) → AreInputsExtended (inputs_of before) (inputs_of after) → AllBegin t before ts → AllBegin t after ts
all_longer t before after [] grown h = tt
all_longer t before after (x ∷ ts) grown h = (h.0, λ c. prefix_trans _ _ _ (h.1 c) (grown c), all_longer t before after ts grown h.2)

pub begin_push : (t : Program) (lists : Lists) (ts : List Token) (x : Token) → AllBegin t lists ts → IsOf t lists x → AllBegin t lists (ts ++ x ∷ [])
begin_push t lists [] x h is = (is.0, subst (λ i. AreInputsExtended (inputs_of i) (inputs_of lists)) (sym is.1) (λ c. prefix_refl (inputs_of lists c)), tt)
begin_push t lists (y ∷ ts) x h is = (h.0, h.1, begin_push t lists ts x h.2 is)

pub first_begins : (t : Program) (lists : Lists) (ts rest : List Token) (x y : Token) → ts ≡ x ∷ rest → y ≡ x → AllBegin t lists ts → (y.network.value ≡ t) × AreInputsExtended (inputs_of y.input.value) (inputs_of lists)
first_begins t lists ts rest x y e same h =
    let all : AllBegin t lists (x ∷ rest) = subst (AllBegin t lists) e h in
    subst (λ z. (z.network.value ≡ t) × AreInputsExtended (inputs_of z.input.value) (inputs_of lists)) (sym same) (all.0, all.1)

-- a token among these stands at its place
pub followed_at : (line : Line) (from k : ℕ) (ts : List Token) (x : Token) → Follow line from ts → slice_get ts k ≡ Some x → (x.line ≡ line) × (x.place ≡ from + k)
followed_at line from k [] x f at = absurd cc
followed_at line from zero (t ∷ ts) x f at = let same = same_Some t x at in (subst (λ (z : Token). z.line ≡ line) same f.0, subst (λ (z : Token). z.place ≡ from + 0) same (f.1 ∙ sym (add-zero from)))
followed_at line from (suc k) (t ∷ ts) x f at = let h = followed_at line (suc from) k ts x f.2 at in (h.0, omega (arith, h.1))

-- and is one of an input that begins this one
pub begins_at : (t : Program) (lists : Lists) (k : ℕ) (ts : List Token) (x : Token) → AllBegin t lists ts → slice_get ts k ≡ Some x →
    (x.network.value ≡ t) × AreInputsExtended (inputs_of x.input.value) (inputs_of lists)
begins_at t lists k [] x h at = absurd cc
begins_at t lists zero (y ∷ ts) x h at = subst (λ (z : Token). (z.network.value ≡ t) × AreInputsExtended (inputs_of z.input.value) (inputs_of lists)) (same_Some y x at) (h.0, h.1)
begins_at t lists (suc k) (y ∷ ts) x h at = begins_at t lists k ts x h.2 at

-- ---- values that are read where the input has them

pub given_holds : (t : Program) (lists : Lists) (c from k : ℕ) (values : List Value) (v : Value) → AreGivenFrom t lists c from values → slice_get values k ≡ Some v → Holds t lists (Channel c) (from + k) v
given_holds t lists c from k values v h at = let g = h k v at in stands_given t lists c (from + k) v g.0 g.1

-- the first of them, where no token is before it
pub first_holds : (t : Program) (lists : Lists) (c taken : ℕ) (ts : List Token) (values rest : List Value) (v : Value) → AreGivenFrom t lists c (taken + length ts) values → length ts ≡ 0 →
    values ≡ v ∷ rest → Holds t lists (Channel c) taken v
first_holds t lists c taken ts values rest v h none is =
    let e : taken + length ts + 0 ≡ taken = omega (arith, none) in
    subst (λ k. Holds t lists (Channel c) k v) e (given_holds t lists c (taken + length ts) 0 values v h (ap (λ l. slice_get l 0) is))

-- and those behind it
pub given_behind : (t : Program) (lists : Lists) (c from to : ℕ) (values rest : List Value) (v : Value) → AreGivenFrom t lists c from values → values ≡ v ∷ rest → from + 1 ≡ to →
    AreGivenFrom t lists c to rest
given_behind t lists c from to values rest v h is e k w at =
    let g = h (suc k) w (ap (λ l. slice_get l (suc k)) is ∙ at) in
    let same : from + suc k ≡ to + k = omega (arith, e) in
    (g.0, subst (λ n. slice_get (inputs_of lists c) n ≡ Some w) same g.1, subst (λ n. n < 2 ^ 64) same g.2)

-- it becomes a token
pub first_brought : (t : Program) (lists : Lists) (c taken : ℕ) (ts : List Token) (values rest : List Value) (v : Value) (room : ℕ) (x : Token) → AreBehind t lists c taken ts values room →
    length ts ≡ 0 → values ≡ v ∷ rest → IsOf t lists x → x.line ≡ Channel c → x.place ≡ taken → AreBehind t lists c taken (ts ++ x ∷ []) rest room
first_brought t lists c taken [] values rest v room x h none is of line place = (
  (line, place, tt),
  begin_push t lists [] x tt of,
  given_behind t lists c (taken + 0) (taken + 1) values rest v h.2 is (omega arith),
  h.3,
)
first_brought t lists c taken (y ∷ ts) values rest v room x h none is of line place = absurd (omega (arith, none))

pub given_on : (t : Program) (lists : Lists) (c from to : ℕ) (values : List Value) → AreGivenFrom t lists c from values → from ≡ to → AreGivenFrom t lists c to values
given_on t lists c from to values h e = subst (λ k. AreGivenFrom t lists c k values) e h

pub given_longer : (t : Program) (before after : Lists) (c from : ℕ) (values : List Value) → AreInputsExtended (inputs_of before) (inputs_of after) → AreGivenFrom t before c from values → AreGivenFrom t after c from values
given_longer t before after c from values grown h k v at = let g = h k v at in (g.0, prefix_get (inputs_of before c) (inputs_of after c) (grown c) (from + k) v g.1, g.2)

-- there are none but of an input channel
pub none_given : (t : Program) (lists : Lists) (c from : ℕ) (values : List Value) → (role_at (network_of t) c ≡ Input → ⊥) → AreGivenFrom t lists c from values → values ≡ []
none_given t lists c from [] inner h = refl
none_given t lists c from (v ∷ values) inner h = absurd (inner (h zero v refl).0)

-- ---- room behind them

pub none_before : (values : List Value) (spare : ℕ) → 0 < spare_before values spare → values ≡ []
none_before [] spare room = refl
none_before (v ∷ values) spare room = absurd (omega (arith, room))

pub given_nowhere : (t : Program) (lists : Lists) (c from : ℕ) (values : List Value) (spare : ℕ) → 0 < spare_before values spare → AreGivenFrom t lists c from values
given_nowhere t lists c from [] spare room = λ k v at. absurd cc
given_nowhere t lists c from (v ∷ values) spare room = absurd (omega (arith, room))

pub pushed_place : (values : List Value) (spare place taken n : ℕ) → 0 < spare_before values spare → place ≡ taken + (n + length values) → place ≡ taken + n
pushed_place [] spare place taken n room e = omega (arith, e)
pushed_place (v ∷ values) spare place taken n room e = absurd (omega (arith, room))

pub one_less : (values : List Value) (n m : ℕ) → 0 < spare_before values n → m + 1 ≡ n → spare_before values m + 1 ≡ spare_before values n
one_less [] n m room e = e
one_less (v ∷ values) n m room e = absurd (omega (arith, room))

pub one_more : (values : List Value) (n m : ℕ) → 0 < spare_before values n → n + 1 ≡ m → spare_before values m ≡ spare_before values n + 1
one_more [] n m room e = sym e
one_more (v ∷ values) n m room e = absurd (omega (arith, room))

pub none_spare : (values : List Value) → spare_before values 0 ≡ 0
none_spare [] = refl
none_spare (v ∷ values) = refl
