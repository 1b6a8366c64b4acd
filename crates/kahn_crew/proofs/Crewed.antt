-- Workers with their seats.
use Rattle.kahn_crew.proofs.Common.{arith, ◌≡◌, ◌↔◌, ◌⊎◌, inl, inr, ⊎_elim, ℕ, suc, ◌+◌, ◌<◌, ◌≤◌, Bool, true, false, true≢false, ◌||◌, List, [], ◌∷◌, ◌++◌, length, All, sum_by, slice_index_or, refl, sym, ap, ◌∙◌, subst, map, length-map, map-append, get_or-map, dite, ℕ_discrete, sum_by_push, sum_by-cons, Seat, Heeds, Run, Tasked, get_or_append_left, length-append, SitsAt, parts_of, raised_of, HasCause, HasGone, HasSeat, WantsNone, seat_of, table_id_of, Worker, get_or-le-sum_by}
use Rattle.kahn_board.proofs.Joined.{all_but_last}

-- how often they halted the run
abbrev pub crew_raised : List Worker → ℕ
crew_raised workers = raised_of (map seat_of workers)

-- a flag that was set stays so
or_left : (a b : Bool) → a ≡ true → (a || b) ≡ true
or_left true b e = refl
or_left false b e = absurd (true≢false (sym e))

or_right : (a b : Bool) → b ≡ true → (a || b) ≡ true
or_right true b e = refl
or_right false b e = e

or_either : (a b : Bool) → (a || b) ≡ true → (a ≡ true) ⊎ (b ≡ true)
or_either true b e = inl refl
or_either false b e = inr e

-- sums over the seats of workers that are alike at each place
sum_same : (f : Seat Tasked → ℕ) (xs ys : List Worker) → length ys ≡ length xs → ((i : ℕ) (d : Worker) → i < length xs → f (slice_index_or ys i d).seat ≡ f (slice_index_or xs i d).seat) →
    sum_by f (map seat_of ys) ≡ sum_by f (map seat_of xs)
sum_same f [] [] e h = refl
sum_same f [] (y ∷ ys) e h = absurd (omega (arith, e))
sum_same f (x ∷ xs) [] e h = absurd (omega (arith, e))
sum_same f (x ∷ xs) (y ∷ ys) e h =
    let head : f y.seat ≡ f x.seat = h 0 x (omega arith) in
    let rest = sum_same f xs ys (omega (arith, e)) (λ i d lt. h (suc i) d (omega (arith, lt))) in
    omega (arith, head, rest, sum_by-cons f x.seat (map seat_of xs), sum_by-cons f y.seat (map seat_of ys))

-- workers at such seats, to whom no memory was refused
pub seated : (run : Run) (seats : List (Seat Tasked)) (workers : List Worker) → map seat_of workers ≡ seats → All (SitsAt (table_id_of run)) seats → All WantsNone workers → All (HasSeat run) workers
seated run seats workers e sits calm k d lt =
    (subst (SitsAt (table_id_of run)) (get_or-map seat_of workers k d d.seat lt) (subst (All (SitsAt (table_id_of run))) (sym e) sits k d.seat (omega (arith, lt, length-map workers seat_of))), calm k d lt)

-- one worker more gave back its seat
pub one_more : (workers : List Worker) (w : Worker) (a : Bool) → (All HasCause workers → 0 < crew_raised workers ↔ a ≡ true) → All HasCause (workers ++ w ∷ []) →
    0 < crew_raised (workers ++ w ∷ []) ↔ (a || w.hints.wanted) ≡ true
one_more workers w a before all =
    let t = all_but_last HasCause workers w all in
    let was = before t.0 in
    let sum : crew_raised (workers ++ w ∷ []) ≡ crew_raised workers + w.seat.seat.me.0.raised =
    ap raised_of (map-append seat_of workers (w ∷ [])) ∙ sum_by_push (λ (s : Seat Tasked). s.seat.me.0.raised) (map seat_of workers) w.seat in (
      λ lt. dite (ℕ_discrete (crew_raised workers) 0)
          (λ none. or_right a w.hints.wanted (t.1.0 (omega (arith, lt, none, sum))))
          (λ some. or_left a w.hints.wanted (was.0 (omega (arith, some)))),
      λ yes. ⊎_elim (λ x. omega (arith, was.1 x, sum)) (λ x. omega (arith, t.1.1 x, sum)) (or_either a w.hints.wanted yes),
    )

-- all have worked
pub all_gone : (run : Run) (old new : List Worker) → length new ≡ length old →
    ((i : ℕ) (d : Worker) → i < length old → HasGone run (slice_index_or new i d) × ((slice_index_or new i d).seat.seat.me.0.parts ≡ (slice_index_or old i d).seat.seat.me.0.parts)) →
    All (HasGone run) new × (parts_of (map seat_of new) ≡ parts_of (map seat_of old))
all_gone run old new e h = (
  (λ i d lt. (h i d (omega (arith, lt, e))).0),
  sum_same (λ (s : Seat Tasked). s.seat.me.0.parts) old new e (λ i d lt. (h i d lt).1),
)

-- none halted the run more often than all
one_least : (workers : List Worker) (i : ℕ) (d : Worker) → i < length workers → (slice_index_or workers i d).seat.seat.me.0.raised ≤ crew_raised workers
one_least ws i d lt =
    let f : Seat Tasked → ℕ = λ s. s.seat.me.0.raised in
    omega (arith, get_or-le-sum_by f (map seat_of ws) i d.seat (omega (arith, lt, length-map ws seat_of)), ap f (get_or-map seat_of ws i d d.seat lt))

-- those that halted the run wanted memory, and no others, where nobody had halted it and nobody had wanted memory
pub all_caused : (old new : List Worker) → length new ≡ length old → crew_raised old ≡ 0 →
    ((i : ℕ) (d : Worker) → i < length old → (slice_index_or old i d).hints.wanted ≡ false) →
    ((i : ℕ) (d : Worker) → i < length old → Heeds (slice_index_or old i d) (slice_index_or new i d)) →
    All HasCause new
all_caused old new e none calm h i d lt =
    let at : i < length old = omega (arith, lt, e) in
    let least = one_least old i d at in
    ⊎_elim (λ (x : ((slice_index_or new i d).seat.seat.me.0.raised ≡ (slice_index_or old i d).seat.seat.me.0.raised) × ((slice_index_or new i d).hints.wanted ≡ (slice_index_or old i d).hints.wanted)).
    ((λ raised. absurd (omega (arith, x.0, raised, least, none))), (λ yes. absurd (true≢false (sym yes ∙ (x.1 ∙ calm i d at))))))
    (λ x. ((λ _. x.1), (λ _. omega (arith, x.0)))) (h i d at).3

-- one of them halted it
pub one_raised : (new : List Worker) (i : ℕ) → i < length new → ((d : Worker) → 0 < (slice_index_or new i d).seat.seat.me.0.raised) → 0 < crew_raised new
one_raised [] i lt raised = absurd (omega (arith, lt))
one_raised (w ∷ ws) i lt raised = omega (arith, raised w, one_least (w ∷ ws) i w lt)

-- one of several that was told to leave is there too where one more comes to the end
pub told_among : {A : Type 0} (Q : A → A → Type 0) (olds rest news left : List A) (a b : A) → olds ≡ rest ++ a ∷ [] → news ≡ left ++ b ∷ [] → length left ≡ length rest →
    (i : ℕ) × (i < length rest) × ((d : A) → Q (slice_index_or rest i d) (slice_index_or left i d)) →
    (i : ℕ) × (i < length olds) × ((d : A) → Q (slice_index_or olds i d) (slice_index_or news i d))
told_among Q olds rest news left a b e f same q = (
  q.0,
  omega (arith, q.1, ap length e, length-append rest (a ∷ [])),
  (λ d.
      let old : slice_index_or rest q.0 d ≡ slice_index_or olds q.0 d = sym (ap (λ l. slice_index_or l q.0 d) e ∙ get_or_append_left rest (a ∷ []) d q.0 q.1) in
      let new : slice_index_or left q.0 d ≡ slice_index_or news q.0 d = sym (ap (λ l. slice_index_or l q.0 d) f ∙ get_or_append_left left (b ∷ []) d q.0 (omega (arith, q.1, same))) in
      subst (λ x. Q x (slice_index_or news q.0 d)) old (subst (λ x. Q (slice_index_or rest q.0 d) x) new (q.2 d))),
)
