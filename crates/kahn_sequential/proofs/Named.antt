-- The lines of an answer: each is of the network, and none stands twice.
use Rattle.kahn_sequential.proofs.Common.{arith, ◌≡◌, ℕ, zero, suc, ◌+◌, ◌<◌, Bool, true, false, if◌then◌else◌, List, [], ◌∷◌, ◌++◌, length, map, Option, Some, refl, sym, ap, ◌∙◌, subst, slice_get, ◌≤◌, drop, drop-cons, append-nil, Line, Integer, Inner, prints_in, Channel, Print, Schema, is_streamed, stream_line, channel_lines, print_lines, stream_lines, Stream, AreNamed, IsDeclared, same_Some, idle, instance_at, mapped as get_map, drop_all}

module _ (N : Schema) (watch : Option ℕ) where
  -- the network has that channel, which has a stream; or that instance
  abbrev pub HasLine : Line → Type 0
  HasLine (Channel c) = (c < length N.channels) × (is_streamed N watch c ≡ true)
  HasLine (Print p) = p < length N.instances

  -- lines are numbered, those of channels first
  abbrev number : Line → ℕ
  number (Channel c) = c
  number (Print p) = length N.channels + p

  -- lines of the network whose numbers rise, from b on
  abbrev Rise : ℕ → List Line → Type 0
  Rise b [] = Unit {0}
  Rise b (d ∷ ls) = (b ≤ number d) × HasLine d × Rise (suc (number d)) ls

  weaken : (b : ℕ) (ls : List Line) → Rise (suc b) ls → Rise b ls
  weaken b [] h = tt
  weaken b (d ∷ ls) (l, here, rest) = (omega (arith, l), here, rest)

  one_more : (b : ℕ) (has : Bool) (d : Line) (ls rest : List Line) → number d ≡ b → (has ≡ true → HasLine d) → Rise (suc b) (ls ++ rest) →
      Rise b ((if has then d ∷ ls else ls) ++ rest)
  one_more b true d ls rest n here h = (omega (arith, n), here refl, subst (λ k. Rise (suc k) (ls ++ rest)) (sym n) h)
  one_more b false d ls rest n here h = weaken b (ls ++ rest) h

  prints : (k p : ℕ) → p + k ≡ length N.instances → Rise (length N.channels + p) (print_lines (drop p N.instances) p ++ [])
  prints zero p e = rw (drop_all p N.instances (omega (arith, e))) tt
  prints (suc k) p e =
      let l : p < length N.instances = omega (arith, e) in
      rw (drop-cons N.instances p idle l)
      (one_more (length N.channels + p) (prints_in (instance_at N p).body) (Print p) (print_lines (drop (suc p) N.instances) (suc p)) [] refl (λ s. l)
      (subst (λ b. Rise b (print_lines (drop (suc p) N.instances) (suc p) ++ [])) (omega arith) (prints k (suc p) (omega (arith, e)))))

  channels : (k c : ℕ) → c + k ≡ length N.channels → Rise c (channel_lines watch (drop c N.channels) c ++ (print_lines N.instances 0 ++ []))
  channels zero c e = rw (drop_all c N.channels (omega (arith, e))) (subst (λ b. Rise b (print_lines N.instances 0 ++ [])) (omega (arith, e)) (prints (length N.instances) 0 (omega arith)))
  channels (suc k) c e =
      let l : c < length N.channels = omega (arith, e) in
      rw (drop-cons N.channels c (Integer, Inner) l)
      (one_more c (is_streamed N watch c) (Channel c) (channel_lines watch (drop (suc c) N.channels) (suc c)) (print_lines N.instances 0 ++ []) refl (λ s. (l, s)) (channels k (suc c) (omega (arith, e))))

  rising : Rise 0 (stream_lines N watch)
  rising = subst (λ ls. Rise 0 (channel_lines watch N.channels 0 ++ ls)) (append-nil (print_lines N.instances 0)) (channels (length N.channels) 0 (omega arith))

  line_in : (b : ℕ) (ls : List Line) (j : ℕ) (d : Line) → Rise b ls → slice_get ls j ≡ Some d → (b ≤ number d) × HasLine d
  line_in b [] j d h e = absurd cc
  line_in b (x ∷ ls) zero d (l, here, rest) e = subst (λ y. (b ≤ number y) × HasLine y) (same_Some x d e) (l, here)
  line_in b (x ∷ ls) (suc j) d (l, here, rest) e = let r = line_in (suc (number x)) ls j d rest e in let m = r.0 in (omega (arith, l, m), r.1)

  one_place : (b : ℕ) (ls : List Line) (j k : ℕ) (d : Line) → Rise b ls → slice_get ls j ≡ Some d → slice_get ls k ≡ Some d → j ≡ k
  one_place b [] j k d h e f = absurd cc
  one_place b (x ∷ ls) zero zero d h e f = refl
  one_place b (x ∷ ls) zero (suc k) d h e f = absurd (let n = ap number (same_Some x d e) in let l = (line_in (suc (number x)) ls k d h.2 f).0 in omega (arith, n, l))
  one_place b (x ∷ ls) (suc j) zero d h e f = absurd (let n = ap number (same_Some x d f) in let l = (line_in (suc (number x)) ls j d h.2 e).0 in omega (arith, n, l))
  one_place b (x ∷ ls) (suc j) (suc k) d h e f = ap suc (one_place (suc (number x)) ls j k d h.2 e f)

  pub has_line : (j : ℕ) (d : Line) → slice_get (stream_lines N watch) j ≡ Some d → HasLine d
  has_line j d e = (line_in 0 (stream_lines N watch) j d rising e).1

  declares : (d : Line) → HasLine d → IsDeclared N d
  declares (Channel c) h = h.0
  declares (Print p) h = h

  pub line_declared : (j : ℕ) (d : Line) → slice_get (stream_lines N watch) j ≡ Some d → IsDeclared N d
  line_declared j d e = declares d (has_line j d e)

-- ---- the streams that have these lines

pub line_at : (streams : List Stream) (lines : List Line) (j : ℕ) (x : Stream) → map stream_line streams ≡ lines → slice_get streams j ≡ Some x → slice_get lines j ≡ Some x.line
line_at streams lines j x e f = subst (λ l. slice_get l j ≡ Some x.line) e (get_map stream_line streams j x f)

pub declared : (N : Schema) (streams : List Stream) (j : ℕ) (x : Stream) → AreNamed N streams → slice_get streams j ≡ Some x → IsDeclared N x.line
declared N streams j x (watch, e) f = line_declared N watch j x.line (line_at streams (stream_lines N watch) j x e f)

pub once : (N : Schema) (streams : List Stream) (j k : ℕ) (x y : Stream) → AreNamed N streams → slice_get streams j ≡ Some x → slice_get streams k ≡ Some y →
    x.line ≡ y.line → j ≡ k
once N streams j k x y (watch, e) f g same =
    one_place N watch 0 (stream_lines N watch) j k x.line (rising N watch) (line_at streams (stream_lines N watch) j x e f)
    (line_at streams (stream_lines N watch) k y e g ∙ ap (λ l. Some l) (sym same))
