use Rattle.kahn_crew.proofs.Common.{arith, sym, ◌∙◌, subst, network_of, IsOnly, IsWriter}
use Rattle.kahn_crew.proofs.Started.{number_given, number_none, number_sent, sent_there}
use Rattle.kahn_crew.proofs.opening.number.Goals as goal

pub returns-in-Input : goal.returns-in-Input
returns-in-Input c =
    number_given c.program-program.ensures.wired c.requires.ready.1 c.args.channel (sym c.channel.ensures.role ∙ c.in-Input.is) c.count.result c.count.ensures.count (omega (arith, c.count.ensures.few))

pub returns-in_default-writer : goal.returns-in_default-writer
returns-in_default-writer c =
    number_none c.program-program.ensures.wired c.requires.ready.1 c.args.channel (λ i. c.in_default.not-Input (c.channel.ensures.role ∙ i))
    (subst (IsOnly (IsWriter (network_of c.args.network.now) c.args.channel)) c.in_default-writer.is c.writer.ensures.only)

pub sent-requires : goal.sent-requires
sent-requires c =
    let only = subst (IsOnly (IsWriter (network_of c.args.network.now) c.args.channel)) c.in-Some.is c.writer.ensures.only in
    sent_there c.program-program.ensures.wired c.requires.ready.1 c.args.channel c.in-Some.writer only c.index-tasks-writer.result c.index-tasks-writer.is c.parameters-parameters.ensures.counts

pub returns : goal.returns
returns c =
    let only = subst (IsOnly (IsWriter (network_of c.args.network.now) c.args.channel)) c.in-Some.is c.writer.ensures.only in
    number_sent c.program-program.ensures.wired c.requires.ready.1 c.args.channel (λ i. c.in_default.not-Input (c.channel.ensures.role ∙ i)) c.in-Some.writer only
    c.index-tasks-writer.result c.index-tasks-writer.is c.parameters-parameters.ensures.counts c.requires.few c.sent.result c.sent.ensures
