use Rattle.kahn_live.proofs.Common.{◌∙◌, ap, inr, rules, string_bytes, first_line}
use Rattle.kahn_live.proofs.telling.Teller.tell_ring.Goals as goal

pub returns : goal.returns
returns g c =
    let is = c.is_ring_new.ensures (search rules) in
    let first = c.parted.ensures.first ∙ ap first_line c.as_str.ensures.value in
    inr (is.0, is.1, (string_bytes c.in-Ok.words, c.in-Ok.ensures, rw first at c.say.ensures))
