use Rattle.kahn_syntax.proofs.Common.{◌≡◌, ℕ, ◌<◌, get_or, And, letters_of, IsSpelled}
use Rattle.kahn_syntax.proofs.Keywords.{all_keywords}
use Rattle.kahn_syntax.proofs.lexeme.Keyword.named.Given as goal

abbrev pub invariant-keywords : goal.invariant-keywords
invariant-keywords l =
    record {
      items : l.keyword-items ≡ all_keywords;
      passed : (i : ℕ) → i < l.keyword-index → ¬ (IsSpelled (letters_of (get_or all_keywords i And)) l.word);
    }
