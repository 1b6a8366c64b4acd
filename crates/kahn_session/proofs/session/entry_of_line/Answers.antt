use Rattle.kahn_session.proofs.Common.{rules, HasNoHead, HasNoValues, content, IsText}
use Rattle.kahn_session.proofs.session.entry_of_line.Goals as goal

pub returns-in-Err-NoHead : goal.returns-in-Err-NoHead
returns-in-Err-NoHead c =
    let text : IsText c.args.line.now = search rules in
    let why : HasNoHead (content c.args.line.now) = rw c.in-Err-NoHead.field-0-is at c.in-Err-NoHead.ensures in
    λ h. (text, why)

pub returns-in-Err-NoValues : goal.returns-in-Err-NoValues
returns-in-Err-NoValues c =
    let text : IsText c.args.line.now = search rules in
    let why : HasNoValues (content c.args.line.now) = rw c.in-Err-NoValues.field-0-is at c.in-Err-NoValues.ensures in
    λ h. (text, why)
