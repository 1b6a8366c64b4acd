-- A search that goes on from one place to a later one.
use Rattle.kahn_needs.proofs.Common.{arith, ◌≡◌, ℕ, ◌≤◌, sym, ap, ◌∙◌, subst, Lists, Program, Line, Seeking, AreSeatsOf, Seats, AreForced, IsDemand, IsSearchState, seeking_of, HaveNotMoved, stays}

-- the value that is sought is a demand
pub root_there : (b : Seats) (c : Line) (k n : ℕ) → IsSearchState b c n → IsDemand b c k c k
root_there b c k n s = record { listed = s.listed; wanted = λ y h. h; given = λ e. absurd (s.written e); led = stays }

pub forced_later : (b : Seats) (c : Line) (n k : ℕ) → n ≤ k → AreForced b c n → AreForced b c k
forced_later b c n k le forced y h = let l = h.1 in forced y (h.0, omega (arith, l, le))

-- what holds of the seats holds of what contracts see of the search
pub as_sought : {s : Seeking} (b b' : Seats) (c : Line) (n l : ℕ) (P : Program → Lists → Line → Type 0) → seeking_of b c n l ≡ s → AreSeatsOf b.network b.input b.watch b' →
    P b'.network b'.input c → P s.network s.input s.line
as_sought b b' c n l P view names h =
    subst (λ (k : Program × Lists × Line). P k.0 k.1 k.2)
    (λ i. ((names.0 ∙ ap (λ (x : Seeking). x.network) view) i, (names.1 ∙ ap (λ (x : Seeking). x.input) view) i, ap (λ (x : Seeking). x.line) view i)) h

pub first_later : {s : Seeking} (b : Seats) (c : Line) (n l k : ℕ) → seeking_of b c n l ≡ s → s.next ≤ k → n ≤ k
first_later b c n l k view le = subst (λ (x : Seeking). x.next ≤ k) (sym view) le

-- before the first event nothing was done
pub unmoved_forced : (b : Seats) (c : Line) (k : ℕ) → HaveNotMoved b.cells → AreForced b c k
unmoved_forced b c k idle y h p x at =
    let e = (idle p x at).0 in
    let none = (idle p x at).1 in
    (omega (arith, e), λ q d j is l. absurd (omega (arith, l, none q)))
