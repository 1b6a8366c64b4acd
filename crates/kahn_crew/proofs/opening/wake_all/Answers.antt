use Rattle.kahn_crew.proofs.Common.{◌≡◌, List, [], ◌∷◌, ◌++◌, length, map, sym, ap, ◌∙◌, subst, Some, slice_get, append_assoc, map-append, Work, Tasked, woken_task}
use Rattle.kahn_crew.proofs.Started.{goes_on, middle_at}
use Rattle.kahn_crew.proofs.opening.wake_all.Goals as goal

pub woken-requires : goal.woken-requires
woken-requires c =
    let done = c.loop-idle.yielded in
    let split = c.loop-idle.invariant.2 ∙ ap (λ (l : List Work). done ++ l) c.in-Some.ensures.steps.0 in
    goes_on c.args.network.now c.args.input.now c.args.idles.items c.requires.idle c.requires.settled (length done) c.in-Some.idle
    (subst (λ (l : List Work). slice_get l (length done) ≡ Some c.in-Some.idle) (sym split) (middle_at done c.next.new.self.rest.items c.in-Some.idle))

pub loop-idle-preserved : goal.loop-idle-preserved
loop-idle-preserved c =
    let done = c.loop-idle.yielded in
    let i = c.loop-idle.invariant in
    let task = woken_task c.args.input.now in (
      tt,
      tt,
      i.2 ∙ (ap (λ (l : List Work). done ++ l) c.in-Some.ensures.steps.0 ∙ sym (append_assoc done (c.in-Some.idle ∷ []) c.next.new.self.rest.items)),
      c.push_reserved.ensures.items ∙ (ap (λ (l : List Tasked). l ++ c.woken.result ∷ []) i.3 ∙ (ap (λ (x : Tasked). map task done ++ x ∷ []) c.woken.ensures ∙ sym (map-append task done (c.in-Some.idle ∷ [])))),
      c.push_reserved.ensures.capacity ∙ i.4,
    )
