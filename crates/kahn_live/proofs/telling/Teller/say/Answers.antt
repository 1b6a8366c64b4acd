use Rattle.kahn_live.proofs.Common.{[], ◌∷◌, List, ℕ, refl, subst, string_bytes, Writes, origin, said_text}
use Rattle.kahn_live.proofs.Meeting.{put_as}
use Rattle.kahn_live.proofs.telling.Teller.say.Goals as goal

pub returns : goal.returns
returns g c =
    let a = c.args in
    let before = g.E.Write.contents a.self.now.errors in
    let after = g.E.Write.contents c.write_said-told.new.out in
    let told = c.write_said-told.result in
    let more = a.first.now ∷ a.next.now ∷ a.last.now ∷ [] in
    let wrote = subst (λ (path : List ℕ). Writes before after told (said_text path (origin a.from) a.words.now a.part.now more)) c.as_str-path.ensures.value c.write_said-told.ensures in
    let text = said_text (string_bytes a.self.now.path) (origin a.from) a.words.now a.part.now more in
    let put = put_as text before after a.self.now.failed c.is_err.result told c.is_err.ensures.value wrote in
    record { front = put.0; whole = put.1; rest = refl }
