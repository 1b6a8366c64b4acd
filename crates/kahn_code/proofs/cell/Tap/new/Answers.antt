use Rattle.kahn_code.proofs.Common.{rules, ap, ◌∙◌, network_of}
use Rattle.kahn_code.proofs.Celled.{opened_as, standing_opened}
use Rattle.kahn_code.proofs.cell.Tap.new.Goals as goal

pub assembled-requires : goal.assembled-requires
assembled-requires g c =
    let code = c.args.code.now in
    let e = c.in_ok-progress.ensures in
    let stands = standing_opened code.network.value g.input c.args.instance c.process_code-process_code.result.now c.arguments-arguments.result.now c.in_ok-progress.progress code.driven code.formed c.process_code-process_code.ensures c.arguments-arguments.ensures e.core e.names.0 e.place c.requires.1 in
    search (rules, stands)

pub returns-clause-parameters : goal.returns-clause-parameters
returns-clause-parameters g c =
    let N = network_of c.args.code.now.network.value in
    let core = c.in_ok-progress.ensures.core ∙ opened_as N c.args.instance c.process_code-process_code.result.now c.arguments-arguments.result.now c.process_code-process_code.ensures c.arguments-arguments.ensures in
    rw c.assembled.ensures (ap (λ k. k.taken) core, ap (λ k. k.sent) core, ap (λ k. k.kept) core)
