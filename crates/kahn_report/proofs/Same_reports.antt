-- Two finished reports of the same texts are the same bytes.
use Rattle.kahn_report.proofs.Common.{◌≡◌, ℕ, ◌+◌, List, [], ◌∷◌, ◌++◌, length, map, Option, Some, None, flat_map, refl, sym, ap, ◌∙◌, subst, codes, decimal, string_bytes, slice_index_or, Program, Scope, place_of, Schema, network_of, channel_names, program_tree, terminals, IsProgram, Spells, one_tree, same_lexemes, program_spelled, text_lines, line_head, stream_text, outcome_word, waited_name, end_words, end_text, ends_text, verdict_text, last_text, report_text}
use Rattle.std.proofs.lemmas.Bool.{eqb-true}
use Rattle.std.specs.{Io.KnownBytes.Appends, List.concat, declared.string.String.String, declared.alloc.Global.Global}
use Rattle.kahn_streams.specs.{declared.value.Value.Value, declared.value.Line.Line, declared.config.Config.Config, Wiring.IsWellWired, Solution.Inputs, Inputs.inputs_of, declared.value.Line.TheVariants.Channel, declared.value.Line.TheVariants.Print, declared.answer.Answer.Answer, declared.answer.End.End, declared.answer.Outcome.Outcome, declared.answer.Outcome.TheVariants.Ended, declared.answer.Outcome.TheVariants.Waits, declared.answer.Outcome.TheVariants.Faulted, declared.answer.Outcome.TheVariants.More, declared.answer.Stream.Stream, declared.answer.Verdict.TheVariants.Finished, Answers.AreOne, Answers.IsRight, Answers.stream_line, Answers.values_of, Answers.IsWatched, Written.line_feed, Written.spaced_text}
use Rattle.kahn_streams.proofs.{Handed.bytes_self, By_number.distinct_channels, By_number.number_test}
use Rattle.kahn_syntax.specs.declared.lexeme.Lexeme.{Lexeme}
use Rattle.kahn_sequential.proofs.Unique.{finished_is_one}
use Rattle.kahn_texts.specs.Formats as name
use Rattle.kahn_fault.specs.Work.{IsOneReport, watched_name}
use Rattle.kahn_report.proofs.Same_programs.{one_network, one_channels, one_processes}
use Rattle.kahn_texts.proofs.Same_inputs.{one_list, one_input}

-- ---- one text is one program

one_program : (text : List ℕ) (t u : Program) → IsProgram text t → IsProgram text u → program_tree t ≡ program_tree u
one_program text t u h g =
    let same : g.0 ≡ h.0 = same_lexemes text 0 (length text) g.0 h.0 g.1.1 h.1.1 in
    one_tree (program_tree t) (program_tree u) (terminals text h.0) (program_spelled text t h.0 h.2)
    (subst (λ (l : List Lexeme). Spells (program_tree u) (terminals text l)) same (program_spelled text u g.0 g.2))

-- ---- the channel that is watched

abbrev place_in : Scope → Option (List ℕ) → Option ℕ
place_in names None = None
place_in names (Some name) = Some (place_of names name)

watch_is : (t : Program) → IsWellWired t → (watched : Option (String Global)) (watch : Option ℕ) → IsWatched t watched watch →
    watch ≡ place_in (channel_names t) (watched_name watched)
watch_is t wired None watch h = h
watch_is t wired (Some name) None named = absurd named
watch_is t wired (Some name) (Some c) named =
    let x = string_bytes name in
    let test = number_test (channel_names t) c x x (distinct_channels t.declarations.items wired.names) named in
    ap Some (sym (eqb-true (place_of (channel_names t) x) c (test ∙ bytes_self x)))

-- ---- one answer is one text

heads : {A : Type 0} {x y : A} {xs ys : List A} → x ∷ xs ≡ y ∷ ys → x ≡ y
heads e = cc

tails : {A : Type 0} {x y : A} {xs ys : List A} → x ∷ xs ≡ y ∷ ys → xs ≡ ys
tails e = cc

module _ (t u : Program) (channels : channel_names t ≡ channel_names u)
    (processes : map (λ i. string_bytes i.process.text) t.instances.items ≡ map (λ i. string_bytes i.process.text) u.instances.items) where
  same_head : (line : Line) → line_head t line ≡ line_head u line
  same_head (Channel c) = ap (λ (l : List (List ℕ)). concat (slice_index_or l c [] ∷ codes ":" ∷ [])) channels
  same_head (Print p) =
      ap (λ (l : List (List ℕ)). concat (codes "print " ∷ decimal (p + 1) ∷ codes " " ∷ slice_index_or l p [] ∷ codes ":" ∷ [])) processes

  same_waited : (o : Outcome) → waited_name t o ≡ waited_name u o
  same_waited Ended = refl
  same_waited (Waits c) = ap (λ (l : List (List ℕ)). slice_index_or l c []) channels
  same_waited (Faulted k) = refl
  same_waited More = refl

  same_end : (i : ℕ) (e : End) → end_text t i e ≡ end_text u i e
  same_end i e =
      ap (λ (l : List (List ℕ)). end_words (decimal (i + 1)) (slice_index_or l i []) (outcome_word e.outcome) (waited_name t e.outcome) (decimal e.events)) processes
      ∙ ap (λ (w : List ℕ). end_words (decimal (i + 1)) (name.process_name u i) (outcome_word e.outcome) w (decimal e.events)) (same_waited e.outcome)

  same_ends : (i : ℕ) (es : List End) → ends_text t i es ≡ ends_text u i es
  same_ends i [] = refl
  same_ends i (e ∷ es) = ap (λ l. l ++ ends_text t (i + 1) es) (same_end i e) ∙ ap (λ l. end_text u i e ++ l) (same_ends (i + 1) es)

  same_stream : (s r : Stream) → s.line ≡ r.line → values_of s ≡ values_of r → stream_text t s ≡ stream_text u r
  same_stream s r line values =
      ap (λ (h : List ℕ). h ++ (flat_map spaced_text (values_of s) ++ line_feed)) (same_head s.line)
      ∙ ap (λ (l : Line). name.values_line u l (values_of s)) line ∙ ap (λ (v : List Value). name.values_line u r.line v) values

  same_streams : (ss rs : List Stream) → map stream_line ss ≡ map stream_line rs → map values_of ss ≡ map values_of rs → flat_map (stream_text t) ss ≡ flat_map (stream_text u) rs
  same_streams [] [] e f = refl
  same_streams [] (r ∷ rs) e f = absurd cc
  same_streams (s ∷ ss) [] e f = absurd cc
  same_streams (s ∷ ss) (r ∷ rs) e f =
      ap (λ l. l ++ flat_map (stream_text t) ss) (same_stream s r (heads e) (heads f)) ∙ ap (λ l. stream_text u r ++ l) (same_streams ss rs (tails e) (tails f))

  same_report : (a b : Answer) → AreOne a b → a.verdict ≡ b.verdict → report_text t a ≡ report_text u b
  same_report a b one verdicts =
      let last : last_text a ≡ last_text b =
      ap (λ v. concat (verdict_text v ∷ decimal a.events ∷ line_feed ∷ [])) verdicts ∙ ap (λ n. concat (verdict_text b.verdict ∷ decimal n ∷ line_feed ∷ [])) one.events in
      let ends : ends_text t 0 a.ends.items ≡ ends_text u 0 b.ends.items = same_ends 0 a.ends.items ∙ ap (ends_text u 0) one.ends in
      ap (λ l. l ++ (ends_text t 0 a.ends.items ++ last_text a)) (same_streams a.streams.items b.streams.items one.lines one.values)
      ∙ ap (λ l. flat_map (stream_text u) b.streams.items ++ (l ++ last_text a)) ends
      ∙ ap (λ l. flat_map (stream_text u) b.streams.items ++ (ends_text u 0 b.ends.items ++ l)) last

appended : (old x y : List ℕ) (new newer : Option (List ℕ)) → Appends (Some old) new x → Appends (Some old) newer y → x ≡ y → new ≡ newer
appended old x y None newer h g e = absurd h
appended old x y (Some bs) None h g e = absurd g
appended old x y (Some bs) (Some cs) h g e = ap Some (h ∙ ap (λ l. old ++ l) e ∙ sym g)

-- ---- the whole

-- right answers for one network, input and watch, however they are named
one_answer : (N M : Schema) (I J : Inputs) (n m : ℕ) (watch other : Option ℕ) (a b : Answer) → N ≡ M → I ≡ J → watch ≡ other →
    IsRight N I n watch a → IsRight M J m other b → a.verdict ≡ Finished → b.verdict ≡ Finished → AreOne a b
one_answer N M I J n m watch other a b network input watched r s f g =
    finished_is_one N I watch n m a b r
    (subst (λ (K : Schema). IsRight K I m watch b) (sym network) (subst (λ (L : Inputs). IsRight M L m watch b) (sym input)
    (subst (λ (w : Option ℕ). IsRight M J m w b) (sym watched) s))) f g

pub one_report : (program input : List ℕ) (config other : Config) → IsOneReport program input config other
one_report program input config other old new newer watched (t, i, a, (checked, stands, run), verdict, gone) (u, j, b, (rechecked, restands, rerun), reverdict, regone) =
    let tree : program_tree t ≡ program_tree u = one_program program t u checked.0.0 rechecked.0.0 in
    let channels : channel_names t ≡ channel_names u = one_channels t u tree in
    let entries = one_list (text_lines input) stands.0 restands.0 stands.1.1 restands.1.1 in
    let lists : inputs_of i ≡ inputs_of j = one_input t u stands.0 restands.0 i j channels entries stands.2 restands.2 in
    let place : run.1.0 ≡ rerun.1.0 =
    watch_is t checked.1 config.watch run.1.0 run.1.1 ∙ ap (λ (c : Scope). place_in c (watched_name config.watch)) channels ∙ ap (place_in (channel_names u)) watched
    ∙ sym (watch_is u rechecked.1 other.watch rerun.1.0 rerun.1.1) in
    let one = one_answer (network_of t) (network_of u) (inputs_of i) (inputs_of j) config.bound other.bound run.1.0 rerun.1.0 a b (one_network t u tree) lists place run.1.2 rerun.1.2 verdict reverdict in
    appended old (report_text t a) (report_text u b) new newer gone regone
    (same_report t u channels (one_processes t u tree) a b one (verdict ∙ sym reverdict))
