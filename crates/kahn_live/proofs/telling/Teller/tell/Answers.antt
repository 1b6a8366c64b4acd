use Rattle.kahn_live.proofs.Common.{[], ◌∷◌, Some, refl, refused_origin, subst, take_words, LiveTelling, WasSaid, telling_of}
use Rattle.kahn_live.proofs.telling.Teller.tell.Goals as goal

pub returns-in_default : goal.returns-in_default
returns-in_default g c =
    let n = c.args.number in
    let f = c.args.fault in
    let part = c.args.part in
    let last = telling_of g.E.Write.contents c.say.new.self in
    let said = rw (c.refused_origin-from.ensures, c.take_words.ensures) at c.say.ensures in
    let told = subst (λ (k : LiveTelling). WasSaid (refused_origin n f) (take_words f) part.word.now (part.words.now ∷ []) (record k { last = Some f; first = n }) last) c.count.ensures said in
    (telling_of g.E.Write.contents c.tell_more.new.self, last, c.tell_more.ensures, told, rw c.in_default.is refl)

pub returns : goal.returns
returns g c =
    let n = c.args.number in
    let f = c.args.fault in
    let part = c.args.part in
    let last = telling_of g.E.Write.contents c.say.new.self in
    let said = rw (c.refused_origin-from.ensures, c.take_words.ensures) at c.say.ensures in
    let told = subst (λ (k : LiveTelling). WasSaid (refused_origin n f) (take_words f) part.word.now (part.words.now ∷ []) (record k { last = Some f; first = n }) last) c.count.ensures said in
    (telling_of g.E.Write.contents c.tell_more.new.self, last, c.tell_more.ensures, told, rw c.in-Some.is c.say-2.ensures)
