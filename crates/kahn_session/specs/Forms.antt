-- Believed. In which form what is new on the streams goes out, and what is let go of then (this project's profile).
use Rattle.std.specs.Prelude.{◌≡◌, ◌⊎◌, ℕ, zero, suc, ◌-◌, ◌==◌, ◌&&◌, Bool, true, false, List, [], ◌∷◌, ◌++◌, codes, drop, length, map, min, nat_lt, Option, None, Some, slice_get, slice_index_or, if◌then◌else◌}
use Rattle.std.specs.List.{concat, list_any}
use Rattle.kahn_streams.specs.{declared.tree.Program.Program, declared.value.Value.Value, declared.value.Line.Line, Written.value_text}
use Rattle.kahn_sequential.specs.{HeldRuns.HeldRun, HeldRuns.so_far, Flows.Flowing, Flows.flow_lines}
use Rattle.kahn_texts.specs.News.{news_text, plain_text}
use Rattle.kahn_session.specs.Pace.{Pace}

-- of these lines the values of each stream behind so many; where nothing is said of a stream all of them
abbrev pub values_behind : HeldRun → List Line → List ℕ → List (List Value)
values_behind h [] counts = []
values_behind h (c ∷ lines) [] = so_far h c ∷ values_behind h lines []
values_behind h (c ∷ lines) (n ∷ counts) = drop n (so_far h c) ∷ values_behind h lines counts

-- and those behind what was let go of
abbrev pub news_of : Flowing → List (List Value)
news_of f = values_behind f.run (flow_lines f.run) (map length f.out)

-- what is new on the stream of a number, or nothing where there is none
abbrev pub news_on : ℕ → List (List Value) → List Value
news_on number news = slice_index_or news number []

-- the values of a stream that stand in the next rows: those that wait for the others of their rows, and behind them what is new
abbrev pub next_of : Pace → ℕ → List Value
next_of p number = news_on number p.waits ++ news_on number (news_of p.flow)

-- how many values the stream has that has the fewest, of these and one with so many; and of these alone
abbrev pub fewest : (ℕ → List Value) → ℕ → List ℕ → ℕ
fewest values n [] = n
fewest values n (c ∷ cs) = fewest values (min n (length (values c))) cs

abbrev pub row_count : (ℕ → List Value) → List ℕ → ℕ
row_count values [] = 0
row_count values (c ∷ cs) = fewest values (length (values c)) cs

-- the values of one place, with commas between
abbrev pub cell_news : Option Value → List ℕ → List ℕ
cell_news None stop = []
cell_news (Some value) stop = concat (value_text value ∷ stop ∷ [])

abbrev pub row_stop : List ℕ → List ℕ
row_stop [] = codes "\n"
row_stop (c ∷ cs) = codes ","

abbrev pub row_news : (ℕ → List Value) → ℕ → List ℕ → List ℕ
row_news values place [] = []
row_news values place (c ∷ cs) = cell_news (slice_get (values c) place) (row_stop cs) ++ row_news values place cs

-- so many rows from a place on
abbrev pub rows_news : (ℕ → List Value) → List ℕ → ℕ → ℕ → List ℕ
rows_news values columns place zero = []
rows_news values columns place (suc n) = row_news values place columns ++ rows_news values columns (suc place) n

-- the text of the news of streams: a line for each that has some; or the values alone of the one that is shown, or rows of those of several,
-- behind the rows that went out
abbrev pub form_text : List ℕ → ℕ → Program → Pace → List ℕ
form_text [] shown program p = news_text program (flow_lines p.flow.run) (news_of p.flow)
form_text (c ∷ []) shown program p = plain_text (news_on c (news_of p.flow))
form_text (c ∷ d ∷ cs) shown program p = rows_news (next_of p) (c ∷ d ∷ cs) shown (row_count (next_of p) (c ∷ d ∷ cs) - shown)

-- whether the values of streams stand in rows
abbrev pub are_rows : List ℕ → Bool
are_rows [] = false
are_rows (c ∷ []) = false
are_rows (c ∷ d ∷ cs) = true

-- whether a value waits for the others of its row
abbrev pub is_uneven : (ℕ → List Value) → ℕ → List ℕ → Bool
is_uneven values count columns = are_rows columns && list_any (λ c. nat_lt count (length (values c))) columns

-- what waits behind so many rows: of each of these streams, the first of which has this number, if its values stand in rows
abbrev pub waiting_from : (ℕ → List Value) → ℕ → List ℕ → ℕ → List Line → List (List Value)
waiting_from values count columns number [] = []
waiting_from values count columns number (line ∷ lines) =
    (if list_any (λ c. c == number) columns then drop count (values number) else []) ∷ waiting_from values count columns (suc number) lines

-- all is let go of, and this waits
abbrev pub let_go_but : Pace → List (List Value) → Pace
let_go_but p waits = record p { flow = record p.flow { out = map (so_far p.flow.run) (flow_lines p.flow.run) }; waits = waits }

-- So many rows went out, and so many of what is there now. All is let go of; where a value waits for the others of its row, what waits is kept,
-- or all is.
abbrev pub HasLetGoAt : Bool → ℕ → List ℕ → Pace → Pace → ℕ → Type 0
HasLetGoAt false count columns old new shown = (new ≡ let_go_but old []) × (shown ≡ 0)
HasLetGoAt true count columns old new shown = ((new ≡ old) × (shown ≡ count))
    ⊎ ((new ≡ let_go_but old (waiting_from (next_of old) count columns 0 (flow_lines old.flow.run))) × (shown ≡ 0))

abbrev pub HasLetGoBehind : ℕ → List ℕ → Pace → Pace → ℕ → Type 0
HasLetGoBehind count columns old new shown = HasLetGoAt (is_uneven (next_of old) count columns) count columns old new shown
