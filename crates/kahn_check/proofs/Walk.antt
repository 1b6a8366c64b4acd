-- How the first fault of a list goes by its parts, and rows as lists.
use Rattle.kahn_check.proofs.Common.{◌≡◌, List, [], ◌∷◌, ◌++◌, Ok, Err, Option, None, Some, refl, ap, sym, Span, Kind, Row_of-Operand, end_of-Operand, more_of-Operand, Row_of-Statement, end_of-Statement, more_of-Statement, takes, gives, Locals, CheckFault, verdict, wrong, wrong_first, wrong_second, spanning, faults_in, kind_of, level_faults, level_kind, row_faults, body_faults, faults_of}
use Rattle.std.specs.Prelude.{unwrap_or}
use Rattle.kahn_streams.specs.declared.tree.Kind.TheVariants.{Integer, Logical}
use Rattle.kahn_streams.specs.{declared.tree.Operand.Operand, declared.tree.Form.TheBlock.items-the_row-Operand, declared.tree.Action.TheBlock.items-the_row-Statement}

-- a part without faults is passed over
pub verdict_ok : {A B : Type 0} (xs ys : List CheckFault) (a b : A) (c : B) → verdict xs a ≡ Ok b → verdict (xs ++ ys) c ≡ verdict ys c
verdict_ok [] ys a b c h = refl
verdict_ok (x ∷ xs) ys a b c h = cc

-- the first fault of a part is the first fault
pub verdict_err : {A B : Type 0} (xs ys : List CheckFault) (a : A) (c : B) (f : CheckFault) → verdict xs a ≡ Err f → verdict (xs ++ ys) c ≡ Err f
verdict_err [] ys a c f h = cc
verdict_err (x ∷ xs) ys a c f h = cc

pub verdict_value : {A : Type 0} (xs : List CheckFault) (a b : A) → verdict xs a ≡ Ok b → a ≡ b
verdict_value [] a b h = cc
verdict_value (x ∷ xs) a b h = cc

pub verdict_none : {A B : Type 0} (xs : List CheckFault) (a b : A) (c : B) → verdict xs a ≡ Ok b → verdict xs c ≡ Ok c
verdict_none [] a b c h = refl
verdict_none (x ∷ xs) a b c h = cc

pub verdict_same : {A B : Type 0} (xs : List CheckFault) (a : A) (c : B) (f : CheckFault) → verdict xs a ≡ Err f → verdict xs c ≡ Err f
verdict_same [] a c f h = cc
verdict_same (x ∷ xs) a c f h = cc

-- ---- the operands of a level, as a list

abbrev pub list_faults : Locals → Kind → Span → List Operand → List CheckFault
list_faults s k done [] = []
list_faults s k done (o ∷ rest) =
    let wanted = unwrap_or (takes o.operator) k in
    wrong wanted k done ++ (faults_in s o.expression.form ++ (wrong wanted (kind_of s o.expression.form) o.expression.span ++ list_faults s (gives o.operator) (spanning done o.expression.span) rest))

wanted_first : (o : Option Kind) (k : Kind) (at : Span) → wrong_first o k at ≡ wrong (unwrap_or o k) k at
wanted_first None Integer at = refl
wanted_first None Logical at = refl
wanted_first (Some w) k at = refl

wanted_second : (o : Option Kind) (k found : Kind) (at : Span) → wrong_second o k found at ≡ wrong (unwrap_or o k) found at
wanted_second None k found at = refl
wanted_second (Some w) k found at = refl

abbrev pub list_kind : Kind → List Operand → Kind
list_kind k [] = k
list_kind k (o ∷ rest) = list_kind (gives o.operator) rest

pub level_listed : {m : _} (s : Locals) (k : Kind) (done : Span) (row : Row_of-Operand m) →
    level_faults s k done row ≡ list_faults s k done (items-the_row-Operand m row)
level_listed s k done end_of-Operand = refl
level_listed s k done (more_of-Operand o at e rest) =
    (λ j. wanted_first (takes o) k done j ++ (faults_in s e ++ (wanted_second (takes o) k (kind_of s e) at j ++ level_listed s (gives o) (spanning done at) rest j)))

pub level_kinds : {m : _} (k : Kind) (row : Row_of-Operand m) → level_kind k row ≡ list_kind k (items-the_row-Operand m row)
level_kinds k end_of-Operand = refl
level_kinds k (more_of-Operand o at e rest) = level_kinds (gives o) rest

pub row_listed : {m : _} (s : Locals) (row : Row_of-Statement m) → row_faults s row ≡ body_faults s (items-the_row-Statement m row)
row_listed s end_of-Statement = refl
row_listed s (more_of-Statement at a rest) = ap (λ r. faults_of s a ++ r) (row_listed s rest)

pub list_start : (s : Locals) (fs : List CheckFault) (k0 k : Kind) (at : Span) (xs : List Operand) → Ok k ≡ verdict fs k0 →
    verdict (list_faults s k at xs) (list_kind k xs) ≡ verdict (fs ++ list_faults s k0 at xs) (list_kind k0 xs)
list_start s fs k0 k at xs h =
    let e : k ≡ k0 = sym (verdict_value fs k0 k (sym h)) in
    rw e (sym (verdict_ok fs (list_faults s k0 at xs) k0 k (list_kind k0 xs) (sym h)))
