use Rattle.kahn_session.proofs.Common.{sym, ap, ap₂, ◌∙◌, flow_lines, bears_name, position}
use Rattle.kahn_session.proofs.session.Session.stream_of.Goals as goal

pub returns : goal.returns
returns c = c.line_of.ensures ∙ ap₂ (λ t lines. position (bears_name t c.args.channel.now) lines)
    (sym c.self.invariant.0 ∙ ap (λ s. s.flow.run.network) c.self.view_is) (c.lines.ensures ∙ ap (λ s. flow_lines s.flow.run) c.self.view_is)
