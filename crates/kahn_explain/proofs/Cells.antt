-- Which streams an answer has, and which lines the columns.
use Rattle.kahn_explain.proofs.Common.{◌≡◌, ◌∙◌, ℕ, zero, suc, ◌+◌, ◌<◌, ◌||◌, Bool, true, false, if◌then◌else◌, List, [], ◌∷◌, ◌++◌, length, map, flat_map, Option, Some, refl, sym, ap, subst, arith, ap₂, All, slice_get, flat_map-append, map-append, All-append, slice_get-get_or, Kind, Role, Line, Inner, Output, Node, Schema, role_at, Channel, Print, is_output, is_watched, HasStream, channel_lines, stream_line, print_lines, stream_lines, Answer, Stream, HasLine, print_of, print_part}
use Rattle.std.proofs.lemmas.List.Elements.{All-from_recursion}
use Rattle.kahn_streams.specs.{declared.tree.Kind.TheVariants.Integer, Syntax.prints_in}
use Rattle.kahn_code.specs.Cells.{is_streamed}
use Rattle.kahn_streams.proofs.By_number.{mapped_at}

-- ---- an output has a stream

first_of : (b : Bool) (x : Line) (rest : List Line) → b ≡ true → slice_get (if b then x ∷ rest else rest) 0 ≡ Some x
first_of true x rest e = refl
first_of false x rest e = absurd cc

later : (b : Bool) (x y : Line) (rest : List Line) → (j : ℕ) × (slice_get rest j ≡ Some y) → (j : ℕ) × (slice_get (if b then x ∷ rest else rest) j ≡ Some y)
later true x y rest (j, e) = (suc j, e)
later false x y rest h = h

listed : (watch : Option ℕ) (rs : List (Kind × Role)) (c k n : ℕ) (r : Kind × Role) → n ≡ c + k → slice_get rs k ≡ Some r
    → (is_output r.1 || is_watched watch n) ≡ true → (j : ℕ) × (slice_get (channel_lines watch rs c) j ≡ Some (Channel n))
listed watch [] c k n r e at is = absurd cc
listed watch (q ∷ rs) c zero n r e at is =
    let same : n ≡ c = omega (arith, e) in
    let row : r ≡ q = cc in
    let held : (is_output q.1 || is_watched watch c) ≡ true =
    subst (λ (w : Kind × Role). (is_output w.1 || is_watched watch c) ≡ true) row (subst (λ m. (is_output r.1 || is_watched watch m) ≡ true) same is) in
    (0, first_of (is_output q.1 || is_watched watch c) (Channel c) (channel_lines watch rs (suc c)) held ∙ ap (λ m. Some (Channel m)) (sym same))
listed watch (q ∷ rs) c (suc k) n r e at is =
    later (is_output q.1 || is_watched watch c) (Channel c) (Channel n) (channel_lines watch rs (suc c)) (listed watch rs (suc c) k n r (omega (arith, e)) at is)

in_front : (xs ys : List Line) (j : ℕ) (x : Line) → slice_get xs j ≡ Some x → slice_get (xs ++ ys) j ≡ Some x
in_front [] ys j x e = absurd cc
in_front (y ∷ xs) ys zero x e = e
in_front (y ∷ xs) ys (suc j) x e = in_front xs ys j x e

pub has_line : (N : Schema) (watch : Option ℕ) (a : Answer) (c : ℕ) → map stream_line a.streams.items ≡ stream_lines N watch → c < length N.channels
    → is_streamed N watch c ≡ true → HasLine a (Channel c)
has_line N watch a c named below is =
    let row = slice_get-get_or N.channels c (Integer, Inner) below in
    let (j, at) = listed watch N.channels 0 c c _ (omega arith) row is in
    let (s, has, line) = mapped_at stream_line a.streams.items j (Channel c)
    (ap (λ l. slice_get l j) named ∙ in_front (channel_lines watch N.channels 0) (print_lines N.instances 0) j (Channel c) at) in
    (s, (j, has), sym line)

pub output_streamed : (N : Schema) (watch : Option ℕ) (c : ℕ) → role_at N c ≡ Output → is_streamed N watch c ≡ true
output_streamed N watch c e = ap (λ r. is_output r || is_watched watch c) e

-- ---- the lines of the prints are those that an answer has

abbrev print_line : Line → List Line
print_line (Channel c) = []
print_line (Print p) = Print p ∷ []

no_print : (b : Bool) (c : ℕ) (rest : List Line) → flat_map print_line rest ≡ [] → flat_map print_line (if b then Channel c ∷ rest else rest) ≡ []
no_print true c rest e = e
no_print false c rest e = e

no_prints : (watch : Option ℕ) (rs : List (Kind × Role)) (c : ℕ) → flat_map print_line (channel_lines watch rs c) ≡ []
no_prints watch [] c = refl
no_prints watch (r ∷ rs) c = no_print (is_output r.1 || is_watched watch c) c (channel_lines watch rs (suc c)) (no_prints watch rs (suc c))

one_print : (b : Bool) (p : ℕ) (rest : List Line) → flat_map print_line rest ≡ rest → flat_map print_line (if b then Print p ∷ rest else rest) ≡ (if b then Print p ∷ rest else rest)
one_print true p rest e = ap (λ l. Print p ∷ l) e
one_print false p rest e = e

all_prints : (is : List Node) (p : ℕ) → flat_map print_line (print_lines is p) ≡ print_lines is p
all_prints [] p = refl
all_prints (i ∷ is) p = one_print (prints_in i.body) p (print_lines is (suc p)) (all_prints is (suc p))

part_lines : (ss : List Stream) → map stream_line (flat_map print_part ss) ≡ flat_map print_line (map stream_line ss)
part_lines [] = refl
part_lines (s ∷ ss) = map-append stream_line (print_part s) (flat_map print_part ss) ∙ ap₂ (λ a b. a ++ b) (one s.line refl) (part_lines ss)
  where
    one : (c : Line) → s.line ≡ c → map stream_line (print_of c s) ≡ print_line c
    one (Channel d) e = refl
    one (Print p) e = ap (λ l. l ∷ []) e

pub printed : (N : Schema) (watch : Option ℕ) (ss : List Stream) → map stream_line ss ≡ stream_lines N watch → map stream_line (flat_map print_part ss) ≡ print_lines N.instances 0
printed N watch ss named =
    part_lines ss ∙ ap (flat_map print_line) named ∙ flat_map-append print_line (channel_lines watch N.channels 0) (print_lines N.instances 0)
    ∙ ap (λ l. l ++ flat_map print_line (print_lines N.instances 0)) (no_prints watch N.channels 0) ∙ all_prints N.instances 0

-- what holds of all streams holds of those of prints
pub prints_all : (P : Stream → Type 0) (ss : List Stream) → ((s : Stream) (j : ℕ) → slice_get ss j ≡ Some s → P s) → All P (flat_map print_part ss)
prints_all P [] h = All-from_recursion P [] tt
prints_all P (s ∷ ss) h = All-append P (print_part s) (flat_map print_part ss) (one s.line) (prints_all P ss (λ r j e. h r (suc j) e))
  where
    one : (c : Line) → All P (print_of c s)
    one (Channel d) = All-from_recursion P [] tt
    one (Print p) = All-from_recursion P (s ∷ []) (h s 0 refl, tt)
