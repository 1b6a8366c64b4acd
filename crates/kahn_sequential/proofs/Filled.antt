-- Streams filled from the lists of the cells, one by one.
use Rattle.kahn_sequential.proofs.Common.{Option, arith, ◌≡◌, ℕ, ◌<◌, ◌≤◌, List, [], length, map, Some, refl, sym, ap, ◌∙◌, subst, slice_get, slice_set, slice_index_or, ◌+◌, zero, suc, ◌∷◌, Program, Lists, CellView, AreKeptOf, AreOpen, network_of, inputs_of, told_view, map-set, length-map, get_or-set_other, get_or-map, slice_get-get_or, Line, Channel, Print, Token, source, Schema, Writes, Source, Given, Written, Nobody, instance_at, actual_at, Kept, HaveChanged, Stream, RunState, AreStreams, view_at, IsFrom, stream_line, stream_lines, AreNamed, IsDeclared, IsFilled, IsFilledStream, OpensWith, AreLists, KeepsOtherLines, kept_lists, kept_in, printed_list, printed_in, map-set_same, set_each, length-set}
use Rattle.kahn_sequential.proofs.{Lists.map_changed, Lists.ChangedTo, Lists.next_old, Lists.one_changed, Lists.old_item, Named.HasLine, Named.has_line, Named.line_at, Named.declared, Named.once}

-- ---- one list of a cell changed

-- a list of lists of which one is set, at another place
elsewhere : {X : Type 0} (ks : List (List (List X))) (p q r s : ℕ) (x : List X) → (p ≡ r → q ≡ s → ⊥) →
    slice_index_or (slice_index_or (slice_set ks p (slice_set (slice_index_or ks p []) q x)) r []) s [] ≡ slice_index_or (slice_index_or ks r []) s []
elsewhere (k ∷ ks) zero q zero s x n = get_or-set_other k q s x [] (λ e. n refl (sym e))
elsewhere (k ∷ ks) (suc p) q (suc r) s x n = elsewhere ks p q r s x (λ e. n (ap suc e))
elsewhere _ _ q _ s x n = refl

module _ {A : Type 0} {N : Schema} {ls : List (Kept A)} (are : AreLists N ls) {p : ℕ} (within : p < length N.instances) {l : Kept A} (at : l ≡ slice_index_or ls p l) (l' : Kept A) where
  here : p < length ls
  here = let n = are.count in omega (arith, within, n)

  lists_here : {X : Type 0} (f : Kept A → X) (d : X) → slice_index_or (map f ls) p d ≡ f l
  lists_here f d = get_or-map f ls p l d here ∙ ap f (sym at)

  same_lists : length l'.kept.items ≡ length l.kept.items → AreLists N (slice_set ls p l')
  same_lists e = record {
    count = length-set ls p l' ∙ are.count;
    parameters = set_each (λ r m. length m.kept.items ≡ length (instance_at N r).actuals) ls p l' (λ r m n. are.parameters r m)
        (e ∙ are.parameters p l (slice_get-get_or ls p l here ∙ ap (λ x. Some x) (sym at)));
  }

  -- the list of a parameter that writes channel c is taken
  pub kept_taken : (q : ℕ) {c : ℕ} (before : List Token) {after : List Token} → actual_at (instance_at N p) q ≡ Writes c →
      kept_lists l' ≡ slice_set (kept_lists l) q before → l'.printed ≡ l.printed → after ≡ slice_index_or (kept_lists l) q [] →
      AreLists N (slice_set ls p l') × (after ≡ kept_in ls p q) × KeepsOtherLines N (Channel c) ls (slice_set ls p l')
  kept_taken q {c} before {after} w e f g =
      (same_lists size, g ∙ ap (λ xs. slice_index_or xs q []) (sym (lists_here kept_lists [])), λ d n. others d n)
    where
      size : length l'.kept.items ≡ length l.kept.items
      size = sym (length-map l'.kept.items (λ v. v.items)) ∙ (ap length e ∙ (length-set (kept_lists l) q before ∙ length-map l.kept.items (λ v. v.items)))

      kept_set : map kept_lists (slice_set ls p l') ≡ slice_set (map kept_lists ls) p (slice_set (slice_index_or (map kept_lists ls) p []) q before)
      kept_set = map-set kept_lists ls p l' ∙ ap (slice_set (map kept_lists ls) p) (e ∙ ap (λ xs. slice_set xs q before) (sym (lists_here kept_lists [])))

      others : (d : Line) → (d ≡ Channel c → ⊥) → (ts us : List Token) → IsFilled N (slice_set ls p l') (source N d) d ts us → IsFilled N ls (source N d) d ts us
      others d n ts us = by d n (source N d)
        where
          by : (d : Line) → (d ≡ Channel c → ⊥) → (o : Source) → IsFilled N (slice_set ls p l') o d ts us → IsFilled N ls o d ts us
          by d n Given h = h
          by d n Nobody h = h
          by (Print r) n (Written t) h = h ∙ ap (λ xs. slice_index_or xs t []) (map-set_same printed_list ls p l' l (ap (λ v. v.items) f ∙ ap printed_list at))
          by (Channel b) n (Written t) (s, v, h) = (
            s,
            v,
            h ∙ ap (λ xs. slice_index_or (slice_index_or xs t []) s []) kept_set ∙ elsewhere (map kept_lists ls) p q t s before (λ j k. n (cc)),
          )

  -- the list of the print stream is taken
  pub printed_taken : {after : List Token} → l'.kept ≡ l.kept → after ≡ l.printed.items →
      AreLists N (slice_set ls p l') × (after ≡ printed_in ls p) × KeepsOtherLines N (Print p) ls (slice_set ls p l')
  printed_taken {after} e f =
      (same_lists (ap (λ v. length v.items) e), f ∙ sym (lists_here printed_list []), λ d n. others d n)
    where
      others : (d : Line) → (d ≡ Print p → ⊥) → (ts us : List Token) → IsFilled N (slice_set ls p l') (source N d) d ts us → IsFilled N ls (source N d) d ts us
      others (Print r) n ts us h = h ∙ ap (λ xs. slice_index_or xs r []) (map-set printed_list ls p l') ∙ get_or-set_other (map printed_list ls) p r (printed_list l') [] (λ k. n (ap Print k))
      others (Channel b) n ts us h = by (source N (Channel b)) h
        where
          by : (o : Source) → IsFilled N (slice_set ls p l') o (Channel b) ts us → IsFilled N ls o (Channel b) ts us
          by Given h = h
          by Nobody h = h
          by (Written t) (s, v, h) = (s, v, h ∙ ap (λ xs. slice_index_or (slice_index_or xs t []) s []) (map-set_same kept_lists ls p l' l (ap (λ v. map (λ u. u.items) v.items) e ∙ ap kept_lists at)))

-- ---- the first streams are filled

pub record Filling {A : Type 0} (N : Schema) (ls : List (Kept A)) (old : List Stream) (ks : List (Kept A)) (now : List Stream) (n : ℕ) : Type 0 where
  pub named : AreNamed N old
  pub lists : AreLists N ks
  pub changed : ChangedTo (IsFilledStream N ls) old now n
  -- the lists of the further lines are as at first
  pub held : (j : ℕ) (x : Stream) → n ≤ j → slice_get old j ≡ Some x → (ts us : List Token) →
      IsFilled N ks (source N x.line) x.line ts us → IsFilled N ls (source N x.line) x.line ts us

module _ {A : Type 0} {N : Schema} {ls : List (Kept A)} {old : List Stream} {ks : List (Kept A)} {now : List Stream} {n : ℕ} (f : Filling N ls old ks now n)
    {x : Stream} (here : n < length now) (value : x ≡ slice_index_or now n x) where
  pub next_declared : IsDeclared N x.line
  next_declared = declared N old n x f.named (next_old f.changed here value)

  pub filling_goes : (ks' : List (Kept A)) (y : Stream) → AreLists N ks' → IsFilledStream N ks x y → KeepsOtherLines N x.line ks ks' → Filling N ls old ks' (slice_set now n y) (n + 1)
  filling_goes ks' y lists filled others = record {
    named = f.named;
    lists = lists;
    changed = one_changed f.changed here value (
      filled.0,
      subst (λ d. (ts us : List Token) → IsFilled N ks (source N d) d ts us → IsFilled N ls (source N d) d ts us) (sym filled.0)
          (f.held n x (omega arith) (next_old f.changed here value)) x.tokens.items y.tokens.items filled.1,
    );
    held = λ j u l a ts us h. f.held j u (omega (arith, l)) a ts us (others u.line (λ k. apart j u l a k) ts us h);
  }
    where
      apart : (j : ℕ) (u : Stream) → n + 1 ≤ j → slice_get old j ≡ Some u → u.line ≡ x.line → ⊥
      apart j u l a k = let m : j ≡ n = once N old j n u x f.named a (next_old f.changed here value) k in omega (arith, l, m)

-- ---- the streams of an answer

-- what cells keep, as lists and as it is seen
seen : (cells : List CellView) (p : ℕ) → ((q : ℕ) → slice_index_or (slice_index_or (map (λ c. c.kept) cells) p []) q [] ≡ (view_at (map told_view cells) p).kept q)
    × (slice_index_or (map (λ c. c.printed) cells) p [] ≡ (view_at (map told_view cells) p).printed)
seen [] p = (λ q. refl, refl)
seen (c ∷ cells) zero = (λ q. refl, refl)
seen (c ∷ cells) (suc p) = seen cells p

-- streams that are filled from the lists of these cells are those of the answer
module _ {A : Type 0} (t : Program) (lists : Lists) (watch : Option ℕ) (cells : List CellView) {ls : List (Kept A)} {old new : List Stream} (kept : AreKeptOf cells ls)
    (begun : AreOpen t lists watch old) (filled : HaveChanged (IsFilledStream (network_of t) ls) old new) where
  abbrev s : RunState
  s = record { network = network_of t; input = inputs_of lists; watch = watch; cells = map told_view cells }

  pub are_streams : AreStreams s new (stream_lines s.network s.watch)
  are_streams = record { named = lines ∙ begun.lines; each = each }
    where
      lines : map stream_line new ≡ map stream_line old
      lines = map_changed stream_line stream_line (λ x y e. e.0) old new filled

      turn : (j : ℕ) (x y : Stream) (d : Line) (o : Source) → slice_get old j ≡ Some x → x.line ≡ d → source s.network d ≡ o → HasLine s.network s.watch d →
          IsFilled s.network ls o d x.tokens.items y.tokens.items → IsFrom s.network s.input s.watch s.cells o d y.tokens.items
      turn j x y (Channel c) Given a b e l h = subst (OpensWith s.network s.input Given (Channel c)) (sym h)
          (subst (λ o. OpensWith s.network s.input o (Channel c) x.tokens.items) e (subst (λ d. OpensWith s.network s.input (source s.network d) d x.tokens.items) b (begun.given j x a)))
      turn j x y (Channel c) (Written p) a b e l (q, w, h) =
          (q, w, l.1, h ∙ ap (λ xs. slice_index_or (slice_index_or xs p []) q []) kept.sent ∙ (seen cells p).0 q)
      turn j x y (Print r) Given a b e l h = absurd cc
      turn j x y (Print r) (Written p) a b e l h = h ∙ ap (λ xs. slice_index_or xs p []) kept.printed ∙ (seen cells p).1
      turn j x y d o a b e l h = absurd h

      each : (j : ℕ) (y : Stream) → slice_get new j ≡ Some y → IsFrom s.network s.input s.watch s.cells (source s.network y.line) y.line y.tokens.items
      each j y e =
          let x = old_item filled j y e in
          turn j x.0 y y.line (source s.network y.line) x.1 (sym x.2.0) refl
          (has_line s.network s.watch j y.line (line_at new (stream_lines s.network s.watch) j y (lines ∙ begun.lines) e)) x.2.1
