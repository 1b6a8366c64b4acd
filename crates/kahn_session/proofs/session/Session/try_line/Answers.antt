use Rattle.kahn_session.proofs.Common.{inr, string_bytes, subst, sym, IsMeantFor, IsNotMeant, Entry, IsEntry, content, IsText, IsMeantLine, IsUnfedBy, Live, Program}
use Rattle.kahn_session.proofs.Steps.{unmeant}
use Rattle.kahn_session.specs.declared.refusal.TakeFault.TheVariants.{Feed}
use Rattle.kahn_session.proofs.session.Session.try_line.Goals as goal

pub returns-in-Ok : goal.returns-in-Ok
returns-in-Ok c =
    let i = c.self.inside in
    let line = c.args.line.now in
    let entry : Entry = (string_bytes c.in-Ok-Some.name, c.in-Ok-Some.values.items) in
    let is : IsText line × IsEntry (content line) entry = rw c.in-Ok-Some.field-0-is at c.in-Ok-Some.ensures in
    let meant : IsMeantFor i.network.now entry c.in-Ok.field-0 = rw c.deref.ensures.value at (rw c.as_str.ensures.value at c.in-Ok.ensures) in
    subst (λ (s : Live). IsMeantLine line s.flow.run.network) c.self.view_is
    (subst (λ (t : Program). IsMeantLine line t) (sym c.self.invariant.0) (is.0, inr (entry, is.1, meant.1)))

pub returns-in-Ok-Some : goal.returns-in-Ok-Some
returns-in-Ok-Some c =
    let i = c.self.inside in
    let line = c.args.line.now in
    let entry : Entry = (string_bytes c.in-Ok-Some.name, c.in-Ok-Some.values.items) in
    let is : IsText line × IsEntry (content line) entry = rw c.in-Ok-Some.field-0-is at c.in-Ok-Some.ensures in
    let fault = c.in-Err-channel_meant.fault in
    let why : IsNotMeant i.network.now entry fault = rw c.deref.ensures.value at (rw c.as_str.ensures.value at c.in-Err-channel_meant.ensures) in
    subst (λ (s : Live). IsUnfedBy line s.flow (Feed fault)) c.self.view_is (is.0, (entry, is.1, unmeant i.network.now entry i.paced.flow fault c.self.invariant.0 why))
