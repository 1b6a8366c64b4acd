use Rattle.kahn_crew.proofs.Common.{rules, ◌≡◌, List, [], ◌∷◌, ◌++◌, All, map, sym, ap, ◌∙◌, subst, map-append, All-push, IsJob, Work, work_of}
use Rattle.kahn_crew.proofs.opening.rest_all.Goals as goal

pub loop-task-preserved : goal.loop-task-preserved
loop-task-preserved c =
    let pushed : c.push_reserved.new.self.items ≡ c.loop-task.idles.items ++ c.rest.result ∷ [] = search rules in
    let i = c.loop-task.invariant in (
      tt,
      tt,
      pushed ∙ (ap (λ (l : List Work). l ++ c.rest.result ∷ []) i.2 ∙ (ap (λ (w : Work). map work_of c.loop-task.yielded ++ w ∷ []) c.rest.ensures.same ∙
          sym (map-append work_of c.loop-task.yielded (c.in-Some.task ∷ [])))),
      subst (All IsJob) (sym pushed) (All-push IsJob c.loop-task.idles.items c.rest.result i.3 c.rest.ensures.job),
      search rules,
    )
