-- What the parts of a sheet say of the whole.
use Rattle.kahn_explain.proofs.Common.{◌≡◌, arith, ℕ, Bool, false, List, [], ◌++◌, None, Line, Lists, Recorded, IsInputTextFault, IsSeeking, IsTableAsked, IsToldFor, StandsFor, inputs_of, network_of, MatchResult, Option, are_allowed, HasBrokenOff, HasPutNeeds, HasPutReply, IsAskable, IsNetworkLine, IsPlaceGiven, IsAskedFor, IsNothingAsked, Replies, Result, Ok, Err, inl, inr, refl, string_bytes, subst, sym, Appends, Appends-nil, Config, NoMemory, WorkFault, Syntax, Check, Text, Run, Write, HasRefused, HasWritten, IsAdmitted, Admitted, Came, Stopped, Refused, Request, IsUntraced, HasReplied, IsReplyFor, notes_for}
use Rattle.kahn_line.specs.Parts.{parted}
use Rattle.kahn_explain.proofs.Firsts.{same_search}
use Rattle.kahn_needs.specs.{Finding.Seeking, declared.needs.Found.Found}
use Rattle.kahn_needs.specs.declared.needs.Found.TheVariants as found
use Rattle.kahn_texts.specs.declared.input.TextFault.{TextFault}
use Rattle.kahn_explain.specs.{Histories.IsRecordedFor, Needing.AreAllNeeds, Needing.found_end, Running.beside, Needing.IsQuestion, Needing.IsReply, Needing.IsUnasked, declared.needing.AskFault.AskFault, declared.needing.Question.Question, declared.replies.Asked.Asked, declared.replies.Reply.Reply, declared.running.Sheet.Sheet}
use Rattle.kahn_explain.specs.declared.replies.Asked.TheVariants as asked
use Rattle.kahn_explain.specs.declared.running.Sheet.TheVariants as sheet
use Rattle.kahn_explain.specs.declared.rows.RowsFault.{RowsFault}
use Rattle.kahn_explain.specs.declared.rows.RowsFault.TheVariants as rows
use Rattle.kahn_explain.specs.inner.Told.{rows_fault}
use Rattle.kahn_streams.specs.Written.{AppendsFront}
use Rattle.kahn_fault.specs.Work.{IsChecked}
use Rattle.kahn_streams.specs.{declared.answer.Verdict.Verdict, declared.answer.Verdict.TheVariants.Bound, declared.fault.RunFault.RunFault}
use Rattle.kahn_explanation.specs.{declared.why.told.Finding.Finding, declared.why.told.Finding.TheVariants.Stop}
use Rattle.kahn_explain.proofs.Parts.{unfed, unrun}

-- nothing went out
stays : (kind : Sheet) (f : RunFault) (out : Option (List ℕ)) → HasBrokenOff kind f out out
stays (sheet.Table counts) f out = refl
stays (sheet.Needs wakes) f out = inl refl

module _ (x : Request) (kind : Sheet) (config : Config) where
  pub refused_reply : (out old new : Option (List ℕ)) (r : Result Came WorkFault) → HasRefused x.path.now x.program.now x.strict old new r
      → HasReplied x kind config out out old new r
  refused_reply out old new (Ok (Stopped y)) h = absurd h
  refused_reply out old new (Ok Refused) h = ([], h.0, (refl, inl h.1), Appends-nil out, h.2)
  refused_reply out old new (Err (Syntax f)) h = (h.0, h.1, refl, h.2)
  refused_reply out old new (Err (Check f)) h = (h.0, h.1, refl, h.2)
  refused_reply out old new (Err (Text f)) h = absurd h
  refused_reply out old new (Err (Run f)) h = (inl h.0, stays kind f out, h.1)
  refused_reply out old new (Err (Write f)) h = (Refused, [], h.0, (refl, inl h.1), inr (Appends-nil out, h.2))

  -- there is none
  pub no_reply : (it : Admitted) (out old new : Option (List ℕ)) (fault : WorkFault) → IsAdmitted x.path.now x.program.now x.strict it → new ≡ old
      → IsUntraced it.network x.input.now config fault → HasReplied x kind config out out old new (Err fault)
  no_reply it out old new fault on same (inl e) = subst (λ f. HasReplied x kind config out out old new (Err f)) (sym e) (inl refl, stays kind NoMemory out, same)
  no_reply it out old new (Text f) on same (inr h) = (unfed x it on f h, refl, same)
  no_reply it out old new (Run f) on same (inr h) = (inr (string_bytes it.notes, unrun x it on h.0 h.1 config f h.2), stays kind f out, same)
  no_reply it out old new f on same (inr h) = absurd h

  -- a text went out, and then what is told beside it
  pub put_text : (came : Came) (text more : List ℕ) (out made old new : Option (List ℕ)) (r : Result Came WorkFault) → Replies x kind config came text more
      → Appends out made text → HasWritten more came old new r → HasReplied x kind config out made old new r
  put_text came text more out made old new r is gone (inl (e, told)) = subst (HasReplied x kind config out made old new) (sym e) (text, more, is, gone, told)
  put_text came text more out made old new r is gone (inr (f, e, told)) =
      subst (HasReplied x kind config out made old new) (sym e) (came, text, more, is, inr (gone, told))

  pub put : (it : Admitted) (y : Reply) (out made old new : Option (List ℕ)) (r : Result Came WorkFault) → IsReplyFor kind x config it y
      → Appends out made (string_bytes y.text) → HasWritten (notes_for y.came (string_bytes it.notes) ++ string_bytes y.words) y.came old new r
      → HasReplied x kind config out made old new r
  put it y = put_text y.came (string_bytes y.text) (notes_for y.came (string_bytes it.notes) ++ string_bytes y.words)

  pub put_reply : (it : Admitted) (y : Reply) (out made old new : Option (List ℕ)) (r : Result Came WorkFault) → IsReplyFor kind x config it y
      → HasPutReply it y out made old new r → HasReplied x kind config out made old new r
  put_reply it y out made old new r is (inl (gone, told)) = put it y out made old new r is gone told
  put_reply it y out made old new r is (inr (f, e, front, same)) =
      subst (HasReplied x kind config out made old new) (sym e)
      (y.came, string_bytes y.text, notes_for y.came (string_bytes it.notes) ++ string_bytes y.words, is, inl (front, same))

module _ (x : Request) (wakes : Bool) (config : Config) (it : Admitted) where
  -- a word asks for nothing
  pub unasked : (f : AskFault) (r : Result Asked WorkFault) → IsChecked x.program.now it.network → IsUnasked wakes it.network x.word.now f
      → MatchResult r IsNothingAsked (λ g. g ≡ Run NoMemory) → MatchResult r (IsAskedFor wakes x config it) (IsUntraced it.network x.input.now config)
  unasked f (Ok (asked.Text y)) checked is h =
      subst (λ c. Replies x (sheet.Needs wakes) config c (string_bytes y.text) (notes_for c (string_bytes it.notes) ++ string_bytes y.words)) (sym h.0)
      (h.1, inr (it.network, f, checked, is))
  unasked f (Ok (asked.Table c)) checked is h = absurd h
  unasked f (Err g) checked is h = inl h

  -- or for something that is told
  pub asked_text : (q : Question) (y : Reply) (v : Verdict) → IsAdmitted x.path.now x.program.now x.strict it → IsQuestion wakes it.network x.word.now q
      → (y.came ≡ Stopped (Stop v)) × (string_bytes y.words ≡ []) → IsReply wakes it.network x.input.now config q.line q.place v → IsReplyFor (sheet.Needs wakes) x config it y
  asked_text q y v on is (came, none) told =
      subst (λ c. Replies x (sheet.Needs wakes) config c (string_bytes y.text) (notes_for c (string_bytes it.notes) ++ string_bytes y.words)) (sym came)
      (string_bytes it.notes, string_bytes y.words, are_allowed x.path.now x.program.now x.strict it on, ((it.network, q, v, on.checked, is, told, refl), none), refl)

  -- or for a table
  pub asked_table : (q : Question) → wakes ≡ false → IsQuestion wakes it.network x.word.now q → IsNetworkLine (network_of it.network) q.line → q.place ≡ None
      → (wakes ≡ false) × IsTableAsked it.network x.word.now q.line
  asked_table q kind is listed none = (
    kind,
    (
      (record { line = is.0.line; place = subst (IsPlaceGiven (parted 58 x.word.now).1) none is.0.place }, subst (λ b. IsAskable b it.network q.line) kind is.1),
      listed,
    ),
  )

-- a sheet of a kind that is known, with notes behind what stayed as it was
pub of_kind : (x : Request) (kind k : Sheet) (config : Config) (out made old mid new : Option (List ℕ)) (r : Result Came WorkFault) → kind ≡ k → mid ≡ old
    → HasReplied x k config out made mid new r → HasReplied x kind config out made old new r
of_kind x kind k config out made old mid new r e same h =
    subst (λ (z : Sheet × Option (List ℕ)). HasReplied x z.0 config out made z.1 new r) (λ i. (sym e i, same i)) h

pub rows_replied : (x : Request) (wakes : Bool) (config : Config) (out made old new : Option (List ℕ)) (r : Result Came WorkFault) → wakes ≡ false
    → HasPutNeeds x out made old new r → HasReplied x (sheet.Needs wakes) config out made old new r
rows_replied x wakes config out made old new r kind h = subst (λ b. HasReplied x (sheet.Needs b) config out made old new r) (sym kind) (h config)

-- of an admitted program
module _ (x : Request) (config : Config) (it : Admitted) where
  -- the table of all histories
  pub traced : (run : Recorded) (y : Finding) (text words : List ℕ) → IsAdmitted x.path.now x.program.now x.strict it → IsRecordedFor it.network x.input.now config run
      → IsToldFor it.network run.answer y words → Replies x (sheet.Table false) config (Stopped y) text (string_bytes it.notes ++ beside y words)
  traced run y text words on ran told =
      (string_bytes it.notes, beside y words, are_allowed x.path.now x.program.now x.strict it on, (it.network, run, words, on.checked, ran, told, refl), refl)

  -- its input text is refused
  pub unfound : (out old : Option (List ℕ)) (f : TextFault) → IsAdmitted x.path.now x.program.now x.strict it → IsInputTextFault it.network x.input.now f
      → HasReplied x (sheet.Needs false) config out out old old (Err (Text f))
  unfound out old f on h = (unfed x it on f h, refl, refl)

  -- the rows of a line
  pub rows_told : (lists : Lists) (c : Line) (text : List ℕ) (f : Found) (v : Verdict) (s : Seeking) → IsAdmitted x.path.now x.program.now x.strict it
      → IsTableAsked it.network x.word.now c → StandsFor it.network x.input.now lists → IsSeeking it.network lists c 0 s
      → AreAllNeeds (network_of s.network) (inputs_of s.input) s.line f → v ≡ found_end f
      → Replies x (sheet.Needs false) config (Stopped (Stop v)) text (string_bytes it.notes ++ [])
  rows_told lists c text f v s on asked stands (a, b, d, n) rows e = (
    string_bytes it.notes,
    [],
    are_allowed x.path.now x.program.now x.strict it on,
    ((it.network, record { line = c; place = None }, v, on.checked, asked.0, (lists, stands, (f, same_search (λ N I l. AreAllNeeds N I l f) a b d rows, e)), refl), refl),
    refl,
  )

  -- a beginning of them
  pub some_rows : (lists : Lists) (c : Line) (text : List ℕ) → IsAdmitted x.path.now x.program.now x.strict it → IsTableAsked it.network x.word.now c
      → StandsFor it.network x.input.now lists → Replies x (sheet.Needs false) config (Stopped (Stop Bound)) text (string_bytes it.notes ++ [])
  some_rows lists c text on asked stands = (
    string_bytes it.notes,
    [],
    are_allowed x.path.now x.program.now x.strict it on,
    ((it.network, record { line = c; place = None }, Bound, on.checked, asked.0, (lists, stands, (found.Bound, (0, (λ k l. absurd (omega (arith, l))), tt, tt), refl)), refl), refl),
    refl,
  )

  pub broken_rows : (lists : Lists) (c : Line) (out made old : Option (List ℕ)) (f : RowsFault) → IsAdmitted x.path.now x.program.now x.strict it
      → IsTableAsked it.network x.word.now c → StandsFor it.network x.input.now lists → (text : List ℕ) × AppendsFront out made text
      → HasReplied x (sheet.Needs false) config out made old old (Err (rows_fault f))
  broken_rows lists c out made old rows.NoMemory on asked stands (t, (front, rest, e, gone)) = (inl refl, inr (refl, (front, gone)), refl)
  broken_rows lists c out made old (rows.Write f) on asked stands (t, gone) =
      (Stopped (Stop Bound), t, string_bytes it.notes ++ [], some_rows lists c t on asked stands, inl (gone, refl))
