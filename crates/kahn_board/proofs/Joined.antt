-- Seats that are made one, and one that is made several.
use Rattle.kahn_board.proofs.Common.{◌≡◌, ◌+◌, ◌≤◌, ◌<◌, List, [], ◌∷◌, ◌++◌, length, All, sym, refl, ap, ◌∙◌, arith, subst, get_or_append_left, get_or_push, TableId, AreCut, after_joining, Sat, Seat, RestsWith, sum_by_push, SitsAt, parts_of, done_of, raised_of}
use Rattle.std.proofs.{lemmas.List.length-append, lemmas.List.Elements.All-push}
use Rattle.kahn_board.proofs.Seats.{zeros}

pub all_but_last : {A : Type 0} (P : A → Type 0) (xs : List A) (x : A) → All P (xs ++ x ∷ []) → All P xs × P x
all_but_last P xs x all = (
  (λ k d near. subst P (get_or_append_left xs (x ∷ []) d k near) (all k d (omega (arith, near, length-append xs (x ∷ []))))),
  subst P (get_or_push xs x x (length xs) refl) (all (length xs) x (omega (arith, length-append xs (x ∷ [])))),
)

module _ {T : Type 0} where
  abbrev pub IsUnbusy : Seat T → Type 0
  IsUnbusy s = s.seat.me.0.stage ≤ 1

  -- of a first seat and others: the seat `now` was made of the first and of all others that aren't left
  pub record Joining (z : TableId) (first : Seat T) (others : List (Seat T)) (now : Seat T) (left : List (Seat T)) : Type 0 where
    pub sits : SitsAt z now
    pub each : All (SitsAt z) left
    pub parts : now.seat.me.0.parts + parts_of left ≡ first.seat.me.0.parts + parts_of others
    pub done : now.seat.me.0.done + done_of left ≡ first.seat.me.0.done + done_of others
    pub raised : now.seat.me.0.raised + raised_of left ≡ first.seat.me.0.raised + raised_of others
    pub stage : All IsUnbusy others → first.seat.me.0.stage ≡ 1 → All IsUnbusy left × (now.seat.me.0.stage ≡ 1)

  pub join_one : (z : TableId) (first : Seat T) (others : List (Seat T)) (now : Seat T) (left : List (Seat T)) (next other : Seat T) (rest : List (Seat T))
      → Joining z first others now left → left ≡ rest ++ other ∷ [] → next.seat.table_id ≡ now.seat.table_id → next.seat.me ≡ (after_joining now.seat.me.0 other.seat.me.0, now.seat.me.1) → Joining z first others next rest
  join_one z first others now left next other rest j split same is = let t = all_but_last (SitsAt z) rest other (subst (All (SitsAt z)) split j.each) in let v = now.seat.me.0 in let u = other.seat.me.0 in record {
    sits = (same ∙ j.sits.0, subst (λ (m : Sat T). RestsWith 0 m.0) (sym is) (j.sits.1.0, omega (arith, j.sits.1.1, t.1.1.1)));
    each = t.0;
    parts = omega (arith, j.parts, ap (λ (m : Sat T). m.0.parts) is, ap parts_of split, sum_by_push (λ (s : Seat T). s.seat.me.0.parts) rest other);
    done = omega (arith, j.done, ap (λ (m : Sat T). m.0.done) is, ap done_of split, sum_by_push (λ (s : Seat T). s.seat.me.0.done) rest other);
    raised = omega (arith, j.raised, ap (λ (m : Sat T). m.0.raised) is, ap raised_of split, sum_by_push (λ (s : Seat T). s.seat.me.0.raised) rest other);
    stage = λ all one. let k = j.stage all one in let s = all_but_last IsUnbusy rest other (subst (All IsUnbusy) split k.0) in (s.0, omega (arith, ap (λ (m : Sat T). m.0.stage) is, k.1, s.1));
  }

  -- of one seat with all parts: so many were cut off it, and it is what is left
  pub record Splitting (z : TableId) (whole : Seat T) (made : List (Seat T)) (now : Seat T) : Type 0 where
    pub sits : SitsAt z now
    pub each : All (SitsAt z) made
    pub parts : (now.seat.me.0.parts + length made ≡ whole.seat.me.0.parts) × (parts_of made ≡ length made)
    pub done : (now.seat.me.0.done ≡ whole.seat.me.0.done) × (done_of made ≡ 0)
    pub raised : (now.seat.me.0.raised ≡ whole.seat.me.0.raised) × (raised_of made ≡ 0)

  pub split_one : (z : TableId) (whole : Seat T) (made : List (Seat T)) (now : Seat T) (made' : List (Seat T)) (kept cut : Seat T) → Splitting z whole made now → made' ≡ made ++ cut ∷ [] → 1 < now.seat.me.0.parts
      → AreCut now kept cut → Splitting z whole made' kept
  split_one z whole made now made' kept cut s is more e = record {
    sits = (e.0.0 ∙ s.sits.0, subst (λ (m : Sat T). RestsWith 0 m.0) (sym e.1) s.sits.1);
    each = subst (All (SitsAt z)) (sym is) (All-push (SitsAt z) made cut s.each (e.2 ∙ s.sits.0, subst (λ (m : Sat T). RestsWith 0 m.0) (sym e.3) ((zeros (length now.seat.me.0.hands), refl, refl, refl), refl)));
    parts = (
      omega (arith, s.parts.0, ap (λ (m : Sat T). m.0.parts) e.1, ap length is, length-append made (cut ∷ []), more),
      omega (arith, s.parts.1, ap parts_of is, sum_by_push (λ (s : Seat T). s.seat.me.0.parts) made cut, ap (λ (m : Sat T). m.0.parts) e.3, ap length is, length-append made (cut ∷ [])),
    );
    done = (
      ap (λ (m : Sat T). m.0.done) e.1 ∙ s.done.0,
      omega (arith, s.done.1, ap done_of is, sum_by_push (λ (s : Seat T). s.seat.me.0.done) made cut, ap (λ (m : Sat T). m.0.done) e.3),
    );
    raised = (
      ap (λ (m : Sat T). m.0.raised) e.1 ∙ s.raised.0,
      omega (arith, s.raised.1, ap raised_of is, sum_by_push (λ (s : Seat T). s.seat.me.0.raised) made cut, ap (λ (m : Sat T). m.0.raised) e.3),
    );
  }

  -- the one that is left comes to those that were cut off
  pub split_all : (z : TableId) (whole : Seat T) (made : List (Seat T)) (now : Seat T) (all : List (Seat T)) → Splitting z whole made now → all ≡ made ++ now ∷ [] → All (SitsAt z) all × (parts_of all ≡ whole.seat.me.0.parts) × (done_of all ≡ whole.seat.me.0.done) × (raised_of all ≡ whole.seat.me.0.raised)
  split_all z whole made now all s is = (
    subst (All (SitsAt z)) (sym is) (All-push (SitsAt z) made now s.each s.sits),
    omega (arith, s.parts.0, s.parts.1, ap parts_of is, sum_by_push (λ (s : Seat T). s.seat.me.0.parts) made now),
    omega (arith, s.done.0, s.done.1, ap done_of is, sum_by_push (λ (s : Seat T). s.seat.me.0.done) made now),
    omega (arith, s.raised.0, s.raised.1, ap raised_of is, sum_by_push (λ (s : Seat T). s.seat.me.0.raised) made now),
  )
