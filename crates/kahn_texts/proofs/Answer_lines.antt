-- The streams of a right answer are of lines of the network: what `work` shows for `write_report`.
use Rattle.kahn_texts.proofs.Common.{◌≡◌, ◌+◌, ◌≤◌, ◌||◌, ℕ, zero, suc, Bool, true, false, if◌then◌else◌, Option, List, [], ◌∷◌, ◌++◌, length, map, All, arith, subst, sym, length-map, AllByRecursion, Program, Line, Node, network_of, channels_of, Stream, channel_count, instance_count, IsLine, HasItsLines}
use Rattle.kahn_streams.specs.{declared.tree.Kind.Kind, declared.tree.Role.Role, Syntax.prints_in, declared.value.Line.TheVariants.Channel, declared.value.Line.TheVariants.Print, declared.answer.Answer.Answer, Answers.is_output, Answers.is_watched, Answers.channel_lines, Answers.print_lines, Answers.stream_lines, Answers.stream_line}

each_if : (P : Line → Type 0) (b : Bool) (x : Line) (r : List Line) → P x → AllByRecursion P r → AllByRecursion P (if b then x ∷ r else r)
each_if P true x r p h = (p, h)
each_if P false x r p h = h

each_append : (P : Line → Type 0) (xs ys : List Line) → AllByRecursion P xs → AllByRecursion P ys → AllByRecursion P (xs ++ ys)
each_append P [] ys h k = k
each_append P (x ∷ xs) ys h k = (h.0, each_append P xs ys h.1 k)

each_channel : (t : Program) (watch : Option ℕ) (rows : List (Kind × Role)) (c : ℕ) → c + length rows ≤ channel_count t → AllByRecursion (IsLine t) (channel_lines watch rows c)
each_channel t watch [] c below = tt
each_channel t watch (r ∷ rest) c below =
    each_if (IsLine t) (is_output r.1 || is_watched watch c) (Channel c) (channel_lines watch rest (suc c)) (omega (arith, below)) (each_channel t watch rest (suc c) (omega (arith, below)))

each_print : (t : Program) (is : List Node) (p : ℕ) → p + length is ≤ instance_count t → AllByRecursion (IsLine t) (print_lines is p)
each_print t [] p below = tt
each_print t (i ∷ rest) p below =
    each_if (IsLine t) (prints_in i.body) (Print p) (print_lines rest (suc p)) (omega (arith, below)) (each_print t rest (suc p) (omega (arith, below)))

each_all : (P : Line → Type 0) (xs : List Stream) → AllByRecursion P (map stream_line xs) → All (λ s. P s.line) xs
each_all P [] h k d below = absurd (omega (arith, below))
each_all P (x ∷ xs) h zero d below = h.0
each_all P (x ∷ xs) h (suc k) d below = each_all P xs h.1 k d (omega (arith, below))

-- the lines of the streams are lines of the network
pub streamed_lines : (t : Program) (watch : Option ℕ) → AllByRecursion (IsLine t) (stream_lines (network_of t) watch)
streamed_lines t watch =
    let N = network_of t in
    let all_channels : length N.channels ≡ channel_count t = length-map {B = Kind × Role} (channels_of t.declarations.items) (λ c. c.1) in
    let all_instances : length N.instances ≡ instance_count t = length-map {B = Node} t.instances.items _ in
    let channels : 0 + length N.channels ≤ channel_count t = omega (arith, all_channels) in
    let instances : 0 + length N.instances ≤ instance_count t = omega (arith, all_instances) in
    each_append (IsLine t) (channel_lines watch N.channels 0) (print_lines N.instances 0) (each_channel t watch N.channels 0 channels) (each_print t N.instances 0 instances)

pub right_lines : (t : Program) (watch : Option ℕ) (a : Answer) → map stream_line a.streams.items ≡ stream_lines (network_of t) watch → HasItsLines t a
right_lines t watch a named = each_all (IsLine t) a.streams.items (subst (AllByRecursion (IsLine t)) (sym named) (streamed_lines t watch))
