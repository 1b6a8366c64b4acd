use Rattle.kahn_texts.proofs.Common.{rules, ◌≡◌, [], subst, Writes}
use Rattle.kahn_texts.proofs.Fresh.{line_more}
use Rattle.kahn_texts.proofs.write.write_news.Goals as goal

pub returns : goal.returns
returns g c =
    let some : c.args.values.now ≡ [] → ⊥ = search rules in
    subst (Writes _ _ c.put_line_values.result) (line_more c.args.network.now c.args.line c.args.values.now some) c.put_line_values.ensures.text
