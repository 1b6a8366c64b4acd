-- A table that goes out in pieces.
use Rattle.std.specs.Prelude.{ℕ, List, [], ◌++◌, Option, Result, Ok, Err, IsErr}
use Rattle.std.proofs.Common.{refl}
use Rattle.std.proofs.KnownBytes.{Appends-kept, Appends-nil, Appends-trans}
use Rattle.std.specs.Io.KnownBytes.{Appends, Keeps}
use Rattle.kahn_texts.proofs.Writing.{goes_on, goes_on_front}
use Rattle.kahn_streams.specs.Written.{AppendsFront}
use Rattle.kahn_explain.specs.Running.{HasPut, HasSentSome}

-- nothing yet
pub none_sent : (a : Option (List ℕ)) → HasSentSome a a
none_sent a = ([], Appends-nil a)

pub no_piece : {X E : Type 0} (a : Option (List ℕ)) (r : Result X E) → HasPut a a r
no_piece a (Ok x) = ([], Appends-nil a)
no_piece a (Err e) = ([], ([], [], refl, Appends-nil a))

-- what stays as it is
pub kept_piece : {X E : Type 0} (a b : Option (List ℕ)) (r : Result X E) → Keeps a b → HasPut a b r
kept_piece a b (Ok x) kept = ([], Appends-kept a a b [] (Appends-nil a) kept)
kept_piece a b (Err e) kept = ([], ([], [], refl, Appends-kept a a b [] (Appends-nil a) kept))

-- a piece that went out, and what follows it
pub next_piece : {X E : Type 0} (a b c : Option (List ℕ)) (r : Result X E) → HasSentSome a b → HasPut b c r → HasPut a c r
next_piece a b c r (t, gone) (u, rest) = (t ++ u, goes_on a b c r t u gone rest)

-- a piece that broke off
pub fails : {X Y E F : Type 0} (a b : Option (List ℕ)) (q : Result Y F) (r : Result X E) → IsErr q → IsErr r → HasPut a b q → HasPut a b r
fails a b (Ok y) r failed over h = absurd cc
fails a b (Err f) (Ok x) failed over h = absurd cc
fails a b (Err f) (Err e) failed over h = h

-- one more piece that went out, or that broke off
pub sent_more : (a b c : Option (List ℕ)) → HasSentSome a b → HasSentSome b c → HasSentSome a c
sent_more a b c (t, gone) (u, more) = (t ++ u, Appends-trans a b c t u gone more)

pub later_front : (a b c : Option (List ℕ)) → HasSentSome a b → (text : List ℕ) × AppendsFront b c text → (text : List ℕ) × AppendsFront a c text
later_front a b c (t, gone) (u, front) = (t ++ u, goes_on_front a b c t u gone front)
