-- What is new on the streams, one after another.
use Rattle.kahn_session.proofs.Common.{[], arith, ◌≡◌, ◌∙◌, ℕ, zero, suc, ◌+◌, ◌-◌, ◌<◌, ◌≤◌, append-nil, List, ◌∷◌, ◌++◌, length, map, drop, get_or, add-one, refl, sym, ap, subst, Some, slice_get, slice_index_or, Program, Line, Value, Token, token_value, HeldRun, so_far, AreNew, Flowing, flow_lines, more_text, news_text, IsLine, values_behind, AreStale, slice_get-get_or}
use Rattle.std.proofs.Math.Seq.{drop-append_seam, drop-nil}
use Rattle.kahn_streams.proofs.By_number.{all_at}
use Rattle.kahn_texts.proofs.Answer_lines.{streamed_lines}

-- what is new on one stream
abbrev pub news_line : Program → HeldRun → List ℕ → ℕ → Line → List ℕ
news_line program h counts i c = more_text program c (drop (slice_index_or counts i 0) (so_far h c))

-- and on those from one on
abbrev pub rest_text : Program → HeldRun → List Line → List ℕ → ℕ → List ℕ
rest_text program h lines counts i = news_text program (drop i lines) (values_behind h (drop i lines) (drop i counts))

split : (program : Program) (h : HeldRun) (lines : List Line) (counts : List ℕ) (i : ℕ) (d : Line) → i < length lines →
    rest_text program h lines counts i ≡ news_line program h counts i (get_or lines i d) ++ rest_text program h lines counts (suc i)
split program h [] counts i d below = absurd (omega (arith, below))
split program h (c ∷ lines) [] zero d below = refl
split program h (c ∷ lines) (n ∷ counts) zero d below = refl
split program h (c ∷ lines) [] (suc i) d below =
    ap (λ l. news_text program (drop i lines) (values_behind h (drop i lines) l)) (sym (drop-nil i)) ∙ split program h lines [] i d (omega (arith, below))
split program h (c ∷ lines) (n ∷ counts) (suc i) d below = split program h lines counts i d (omega (arith, below))

-- the line of the stream at i, and those that follow
news_split : (program : Program) (h : HeldRun) (lines : List Line) (counts : List ℕ) (i : ℕ) (d : Line) → i < length lines →
    rest_text program h lines counts i ≡ news_line program h counts i (get_or lines i d) ++ rest_text program h lines counts (i + 1)
news_split program h lines counts i d below =
    subst (λ n. rest_text program h lines counts i ≡ news_line program h counts i (get_or lines i d) ++ rest_text program h lines counts n) (sym (add-one i))
    (split program h lines counts i d below)

-- the values behind what was let go of a stream
pub behind_out : (f : Flowing) (i : ℕ) (c : Line) (news : List Value) → so_far f.run c ≡ slice_index_or f.out i [] ++ news → drop (slice_index_or (map length f.out) i 0) (so_far f.run c) ≡ news
behind_out f i c news e =
    ap (λ vs. drop (slice_index_or (map length f.out) i 0) vs) e ∙ ap (λ n. drop n (slice_index_or f.out i [] ++ news)) (counted f.out i) ∙ drop-append_seam (slice_index_or f.out i []) news
  where
    counted : (outs : List (List Value)) (i : ℕ) → slice_index_or (map length outs) i 0 ≡ length (slice_index_or outs i [])
    counted [] i = refl
    counted (vs ∷ outs) zero = refl
    counted (vs ∷ outs) (suc i) = counted outs i

-- are those of the tokens that are new of it
pub values_new : (f : Flowing) (i : ℕ) (c : Line) (ts : List Token) → slice_get (flow_lines f.run) i ≡ Some c → AreNew f c ts →
    map token_value ts ≡ drop (slice_index_or (map length f.out) i 0) (so_far f.run c)
values_new f i c ts at new = sym (behind_out f i c (map token_value ts) (new i at))

-- where nothing is new of so many streams, the text is that of those behind them
pub rest_stale : (program : Program) (f : Flowing) (lines : List Line) (d : Line) → lines ≡ flow_lines f.run → (k from : ℕ) → AreStale f from (from + k) → from + k ≤ length lines →
    rest_text program f.run lines (map length f.out) from ≡ rest_text program f.run lines (map length f.out) (from + k)
rest_stale program f lines d is zero from stale few = let e : from ≡ from + 0 = omega arith in ap (rest_text program f.run lines (map length f.out)) e
rest_stale program f lines d is (suc k) from stale few =
    let below : from < length lines = omega (arith, few) in
    let line = get_or lines from d in
    let at = subst (λ (l : List Line). slice_get l from ≡ Some line) is (slice_get-get_or lines from d below) in
    let e : suc from + k ≡ from + suc k = omega arith in
    let old = stale from (omega arith) (omega arith) line at ∙ sym (append-nil (slice_index_or f.out from [])) in
    split program f.run lines (map length f.out) from d below
    ∙ ap (λ vs. more_text program line vs ++ rest_text program f.run lines (map length f.out) (suc from)) (behind_out f from line [] old)
    ∙ rest_stale program f lines d is k (suc from) (λ j a b. stale j (omega (arith, a)) (omega (arith, b))) (omega (arith, few))
    ∙ ap (rest_text program f.run lines (map length f.out)) e

-- up to one of them, and up to the end
pub stale_up : (program : Program) (f : Flowing) (lines : List Line) (d : Line) → lines ≡ flow_lines f.run → (from to : ℕ) → from ≤ to → to ≤ length lines → AreStale f from to →
    rest_text program f.run lines (map length f.out) from ≡ rest_text program f.run lines (map length f.out) to
stale_up program f lines d is from to le few stale =
    let e : from + (to - from) ≡ to = omega (arith, le) in
    rest_stale program f lines d is (to - from) from (λ j a b. stale j a (omega (arith, b, e))) (omega (arith, e, few)) ∙ ap (rest_text program f.run lines (map length f.out)) e

pub nothing_left : (program : Program) (h : HeldRun) (lines : List Line) (counts : List ℕ) → rest_text program h lines counts (length lines) ≡ []
nothing_left program h [] counts = refl
nothing_left program h (c ∷ lines) [] = ap (λ l. news_text program (drop (length lines) lines) (values_behind h (drop (length lines) lines) l)) (sym (drop-nil (length lines))) ∙ nothing_left program h lines []
nothing_left program h (c ∷ lines) (n ∷ counts) = nothing_left program h lines counts

tokens_new : (program : Program) (f : Flowing) (i : ℕ) (c : Line) (ts : List Token) → slice_get (flow_lines f.run) i ≡ Some c → AreNew f c ts →
    more_text program c (map token_value ts) ≡ news_line program f.run (map length f.out) i c
tokens_new program f i c ts at new = ap (more_text program c) (values_new f i c ts at new)

-- behind streams on which nothing is new that of a number, and then those that follow
pub moved_up : (program : Program) (f : Flowing) (lines : List Line) (d : Line) (from i : ℕ) (ts : List Token) (all done : List ℕ) → lines ≡ flow_lines f.run → from ≤ i → i < length lines
    → AreStale f from i → AreNew f (get_or lines i d) ts → all ≡ done ++ rest_text program f.run lines (map length f.out) from
    → all ≡ done ++ (more_text program (get_or lines i d) (map token_value ts) ++ rest_text program f.run lines (map length f.out) (i + 1))
moved_up program f lines d from i ts all done is le below stale new e =
    let at = subst (λ (l : List Line). slice_get l i ≡ Some (get_or lines i d)) is (slice_get-get_or lines i d below) in
    e ∙ ap (λ l. done ++ l) (stale_up program f lines d is from i le (omega (arith, below)) stale ∙ news_split program f.run lines (map length f.out) i d below
    ∙ ap (λ l. l ++ rest_text program f.run lines (map length f.out) (i + 1)) (sym (tokens_new program f i (get_or lines i d) ts at new)))

-- the news of the stream of a number, and of no stream
pub news_at : (h : HeldRun) (lines : List Line) (counts : List ℕ) (i : ℕ) (d : Line) → i < length lines →
    slice_index_or (values_behind h lines counts) i [] ≡ drop (slice_index_or counts i 0) (so_far h (slice_index_or lines i d))
news_at h [] counts i d below = absurd (omega (arith, below))
news_at h (c ∷ lines) [] zero d below = refl
news_at h (c ∷ lines) (n ∷ counts) zero d below = refl
news_at h (c ∷ lines) [] (suc i) d below = news_at h lines [] i d (omega (arith, below))
news_at h (c ∷ lines) (n ∷ counts) (suc i) d below = news_at h lines counts i d (omega (arith, below))

pub news_past : (h : HeldRun) (lines : List Line) (counts : List ℕ) (i : ℕ) → length lines ≤ i → slice_index_or (values_behind h lines counts) i [] ≡ []
news_past h [] counts i past = refl
news_past h (c ∷ lines) counts zero past = absurd (omega (arith, past))
news_past h (c ∷ lines) [] (suc i) past = news_past h lines [] i (omega (arith, past))
news_past h (c ∷ lines) (n ∷ counts) (suc i) past = news_past h lines counts i (omega (arith, past))

-- a line of a stream is one of the network
pub is_line : (t : Program) (h : HeldRun) (i : ℕ) (c : Line) → h.network ≡ t → slice_get (flow_lines h) i ≡ Some c → IsLine t c
is_line t h i c e at = subst (λ u. IsLine u c) e (all_at (IsLine h.network) (flow_lines h) i c (streamed_lines h.network h.watch) at)
