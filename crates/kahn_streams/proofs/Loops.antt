-- The rules of the loops, with nothing said of unrolling.
use Rattle.kahn_streams.proofs.Common.{◌≡◌, ℕ, suc, true, refl, ap, le_refl, arith, Logical, Expr, Stmt, While, Repeat, Seq, If, Skip, truth, Tapes, Give, after_event, Store, exec, LoopsUnroll}
use Rattle.kahn_streams.proofs.Fuel.{Alike, gives, play_alike, alike_by, value_alike, script_alike, turns_alike}

while_turn : (t : Expr) (b : Stmt) (n : ℕ) (s : Store) (T : Tapes) →
    exec (suc n) (While t b) s T ≡ after_event (exec n (If t (Seq b (While t b)) Skip) s T)
while_turn t b n s T =
    ap after_event
    (play_alike
    (value_alike n t s _ _ (λ v.
    alike_by (Alike n) (truth v) _ _ _ _
    (script_alike n (suc n) n b (omega arith) (le_refl n) s _ _ (λ r.
    turns_alike n n n _ _ _ (le_refl n) (le_refl n)
    (λ m l u f f' g. value_alike m t u f f' g)
    (λ m l u f f' g. script_alike m (suc n) n b (omega arith) (omega arith) u f f' g)
    r Give Give (λ x. gives)))
    gives))
    T)

repeat_turn : (b : Stmt) (n : ℕ) (s : Store) (T : Tapes) → exec (suc n) (Repeat b) s T ≡ after_event (exec n (Seq b (Repeat b)) s T)
repeat_turn b n s T =
    ap after_event
    (play_alike
    (script_alike n (suc n) n b (omega arith) (le_refl n) s _ _ (λ r.
    turns_alike n n n _ _ _ (le_refl n) (le_refl n)
    (λ m l u f f' g. g (Logical true))
    (λ m l u f f' g. script_alike m (suc n) n b (omega arith) (omega arith) u f f' g)
    r Give Give (λ x. gives)))
    T)

pub loops_unroll : (t : Expr) (b : Stmt) → LoopsUnroll t b
loops_unroll t b =
    record { while_turn = while_turn t b; while_cut = λ s T. refl; repeat_turn = repeat_turn b; repeat_cut = λ s T. refl }
