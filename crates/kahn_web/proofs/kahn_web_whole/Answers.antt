use Rattle.kahn_web.proofs.Common.{inr, subst, IsPut}
use Rattle.kahn_web.proofs.kahn_web_whole.Goals as goal

pub returns-in-Some : goal.returns-in-Some
returns-in-Some c =
    inr (c.in-Some.text.items, c.in-Some.ensures, subst (λ bytes. IsPut bytes c.args.room.now c.put.new.room c.put.result) c.as_slice.ensures.value c.put.ensures)
