-- Believed. The text of what is new on streams, and of how a run ended (this project's profile).
use Rattle.std.specs.Prelude.{ℕ, List, [], ◌∷◌, ◌++◌, flat_map}
use Rattle.kahn_streams.specs.{declared.tree.Program.Program, declared.value.Value.Value, declared.value.Line.Line, declared.answer.End.End, declared.answer.Verdict.Verdict, Written.line_feed, Written.plain_line, Written.spaced_text}
use Rattle.kahn_texts.specs.Formats.{line_head, ends_text, last_line}

-- the line of a stream with these new values, or nothing if there are none
abbrev pub more_text : Program → Line → List Value → List ℕ
more_text program line [] = []
more_text program line (value ∷ values) = line_head program line ++ (flat_map spaced_text (value ∷ values) ++ line_feed)

-- a line for each stream that has news, in the order of the streams
abbrev pub news_text : Program → List Line → List (List Value) → List ℕ
news_text program [] news = []
news_text program (line ∷ lines) [] = []
news_text program (line ∷ lines) (values ∷ news) = more_text program line values ++ news_text program lines news

-- values alone, each on a line of its own
abbrev pub plain_text : List Value → List ℕ
plain_text values = flat_map plain_line values

-- what was shown of each stream, and after it the news
abbrev pub joined : List (List Value) → List (List Value) → List (List Value)
joined shown [] = []
joined [] (values ∷ news) = values ∷ joined [] news
joined (before ∷ shown) (values ∷ news) = (before ++ values) ∷ joined shown news

-- the lines of the ends and the last line of a report
abbrev pub closing_text : Program → Verdict → List End → ℕ → List ℕ
closing_text program verdict ends events = ends_text program 0 ends ++ last_line verdict events
