use Rattle.kahn_session.proofs.Common.{string_bytes, Entry, IsEntry, content, IsText}
use Rattle.kahn_session.proofs.Steps.{one_pace, unpoured}
use Rattle.kahn_session.proofs.session.feed_line.Goals as goal

pub returns-in-Ok-Some-clause-fed : goal.returns-in-Ok-Some-clause-fed
returns-in-Ok-Some-clause-fed c =
    let entry : Entry = (string_bytes c.in-Ok-Some.name, c.in-Ok-Some.values.items) in
    let is : IsText c.args.line.now × IsEntry (content c.args.line.now) entry = rw c.in-Ok-Some.field-0-is at c.in-Ok-Some.ensures in
    let (same, why) = unpoured entry _ _ _ (rw c.deref.ensures.value at (rw c.as_str.ensures.value at c.in-Err-feed.ensures.unfed)) in
    (one_pace _ _ same c.in-Err-feed.ensures.rest, (is.0, (entry, is.1, why)))
