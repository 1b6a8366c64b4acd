-- Believed. The sample text, word by word. Kahn's paper has it in section 2.
use Rattle.std.specs.Prelude.{◌≡◌, ℕ, List, [], ◌∷◌, codes, pos}
use Rattle.kahn_syntax.specs.declared.lexeme.Keyword.TheVariants as keyword
use Rattle.kahn_syntax.specs.declared.lexeme.Sign.TheVariants as mark
use Rattle.kahn_syntax.specs.{declared.lexeme.Lexeme.Lexeme, Grammar.Terminal, Grammar.word, Grammar.sign, Grammar.numeral, Grammar.name, Texts.terminals, Texts.AreLexemes}

abbrev pub comma : Terminal
comma = sign mark.Comma

abbrev pub semicolon : Terminal
semicolon = sign mark.Semicolon

-- process NAME (
abbrev pub process_words : List ℕ → List Terminal → List Terminal
process_words n r = word keyword.Process ∷ name n ∷ sign mark.Open ∷ r

-- ); begin integer I;
abbrev pub variable_words : List Terminal → List Terminal
variable_words r = sign mark.Close ∷ semicolon ∷ word keyword.Begin ∷ word keyword.Integer ∷ name (codes "I") ∷ semicolon ∷ r

-- logical B; B := true; repeat begin I :=
abbrev pub loop_words : List Terminal → List Terminal
loop_words r =
    word keyword.Logical ∷ name (codes "B") ∷ semicolon ∷ name (codes "B") ∷ sign mark.Becomes ∷ word keyword.True ∷ semicolon
    ∷ word keyword.Repeat ∷ word keyword.Begin ∷ name (codes "I") ∷ sign mark.Becomes ∷ r

-- wait(NAME)
abbrev pub wait_words : List ℕ → List Terminal → List Terminal
wait_words n r = word keyword.Wait ∷ sign mark.Open ∷ name n ∷ sign mark.Close ∷ r

-- send NAME on NAME
abbrev pub send_words : List ℕ → List ℕ → List Terminal → List Terminal
send_words v n r = word keyword.Send ∷ name v ∷ word keyword.On ∷ name n ∷ r

-- B := not B;
abbrev pub turn_words : List Terminal → List Terminal
turn_words r = name (codes "B") ∷ sign mark.Becomes ∷ word keyword.Not ∷ name (codes "B") ∷ semicolon ∷ r

-- end; end;
abbrev pub closing_words : List Terminal → List Terminal
closing_words r = word keyword.End ∷ semicolon ∷ word keyword.End ∷ semicolon ∷ r

abbrev pub f_words : List Terminal → List Terminal
f_words r =
    process_words (codes "f") (word keyword.Integer ∷ word keyword.In ∷ name (codes "U") ∷ comma ∷ name (codes "V") ∷ semicolon
    ∷ word keyword.Integer ∷ word keyword.Out ∷ name (codes "W") ∷ variable_words (loop_words
    (word keyword.If ∷ name (codes "B") ∷ word keyword.Then ∷ wait_words (codes "U") (word keyword.Else ∷ wait_words (codes "V") (semicolon
    ∷ word keyword.Print ∷ sign mark.Open ∷ name (codes "I") ∷ sign mark.Close ∷ semicolon
    ∷ send_words (codes "I") (codes "W") (semicolon ∷ turn_words (closing_words r)))))))

abbrev pub g_words : List Terminal → List Terminal
g_words r =
    process_words (codes "g") (word keyword.Integer ∷ word keyword.In ∷ name (codes "U") ∷ semicolon
    ∷ word keyword.Integer ∷ word keyword.Out ∷ name (codes "V") ∷ comma ∷ name (codes "W") ∷ variable_words (loop_words
    (wait_words (codes "U") (semicolon
    ∷ word keyword.If ∷ name (codes "B") ∷ word keyword.Then ∷ send_words (codes "I") (codes "V") (word keyword.Else
    ∷ send_words (codes "I") (codes "W") (semicolon ∷ turn_words (closing_words r)))))))

abbrev pub h_words : List Terminal → List Terminal
h_words r =
    process_words (codes "h") (word keyword.Integer ∷ word keyword.In ∷ name (codes "U") ∷ semicolon
    ∷ word keyword.Integer ∷ word keyword.Out ∷ name (codes "V") ∷ semicolon ∷ word keyword.Integer ∷ name (codes "INIT") ∷ variable_words
    (send_words (codes "INIT") (codes "V") (semicolon ∷ word keyword.Repeat ∷ word keyword.Begin ∷ name (codes "I") ∷ sign mark.Becomes
    ∷ wait_words (codes "U") (semicolon ∷ send_words (codes "I") (codes "V") (semicolon ∷ closing_words r)))))

-- f(Y, Z, X) par g(X, T1, T2) par h(T1, Y, 0) par h(T2, Z, 1)
abbrev pub main_words : List Terminal → List Terminal
main_words r =
    name (codes "f") ∷ sign mark.Open ∷ name (codes "Y") ∷ comma ∷ name (codes "Z") ∷ comma ∷ name (codes "X") ∷ sign mark.Close
    ∷ word keyword.Par ∷ name (codes "g") ∷ sign mark.Open ∷ name (codes "X") ∷ comma ∷ name (codes "T1") ∷ comma ∷ name (codes "T2") ∷ sign mark.Close
    ∷ word keyword.Par ∷ name (codes "h") ∷ sign mark.Open ∷ name (codes "T1") ∷ comma ∷ name (codes "Y") ∷ comma ∷ numeral (pos 0) ∷ sign mark.Close
    ∷ word keyword.Par ∷ name (codes "h") ∷ sign mark.Open ∷ name (codes "T2") ∷ comma ∷ name (codes "Z") ∷ comma ∷ numeral (pos 1) ∷ sign mark.Close ∷ r

-- begin integer channel X, Y, Z, T1, T2; the three processes; the main body; end;
abbrev pub sample_words : List Terminal
sample_words =
    word keyword.Begin ∷ word keyword.Integer ∷ word keyword.Channel ∷ name (codes "X") ∷ comma ∷ name (codes "Y") ∷ comma ∷ name (codes "Z")
    ∷ comma ∷ name (codes "T1") ∷ comma ∷ name (codes "T2") ∷ semicolon
    ∷ f_words (g_words (h_words (main_words (word keyword.End ∷ semicolon ∷ []))))

-- the text's lexemes are these words, whatever the blanks, the comments and the letter case
abbrev pub IsSampleText : List ℕ → Type 0
IsSampleText text = (xs : List Lexeme) × AreLexemes text xs × (terminals text xs ≡ sample_words)
