use Rattle.kahn_crew.proofs.Common.{◌≡◌, sym, ◌∙◌, subst, ℕ, IsWellWired, wires, IsDue, HasStanding, IsTrueOf, terms_of}
use Rattle.kahn_crew.proofs.{Resting.due_waits, Resting.dry_routed, Wirings.routed_as, Working.inside_code}
use Rattle.kahn_job.specs.declared.task.TaskStanding.TheVariants as standing
use Rattle.kahn_crew.specs.declared.worker.Due.TheVariants as due
use Rattle.kahn_crew.proofs.worker.due_of.Goals as goal

pub channel-requires : goal.channel-requires
channel-requires c = inside_code c.args.run.now c.args.p c.requires.0

pub unreachable-requires : goal.unreachable-requires
unreachable-requires c =
    let run = c.args.run.now in
    let well = subst IsWellWired run.fits.network c.program-program.ensures.wired in
    let t = (terms_of run).network.value in
    let x = c.args.task.now in
    let q = c.in-Dry.parameter in
    let stands : x.standing ≡ standing.Dry q = sym c.standing.ensures.result ∙ c.in-Dry.is in
    let paused : HasStanding x.work (standing.Dry q) = subst (IsTrueOf x.work) stands c.standing.ensures.said in
    dry_routed t well c.args.p x q c.requires.1 paused (routed_as c.args.p q run.fits.code c.channel.ensures ∙ c.in-None.is)

pub returns-in-Some : goal.returns-in-Some
returns-in-Some c =
    let run = c.args.run.now in
    let well = subst IsWellWired run.fits.network c.program-program.ensures.wired in
    let t = (terms_of run).network.value in
    let p = c.args.p in
    let x = c.args.task.now in
    let q = c.in-Dry.parameter in
    let d = c.in-Some.channel in
    let stands : x.standing ≡ standing.Dry q = sym c.standing.ensures.result ∙ c.in-Dry.is in
    let paused : HasStanding x.work (standing.Dry q) = subst (IsTrueOf x.work) stands c.standing.ensures.said in
    let is = due_waits t well p x q d c.requires.1 paused stands (routed_as p q run.fits.code c.channel.ensures ∙ c.in-Some.is) c.requires.2 c.parameters.ensures.counts in
    subst (λ (k : ℕ). IsDue (wires t) p x (due.Waits d k)) (sym c.taken.ensures) is
