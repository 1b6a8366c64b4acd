use Rattle.kahn_texts.proofs.Common.{◌+◌, map, entry_of, AreFirstEntries}
use Rattle.std.proofs.lemmas.Result.{err_from_is_err_and}
use Rattle.kahn_texts.proofs.{Kept.input_kept, Told.entries_told, Told.input_told}
use Rattle.kahn_texts.proofs.input.read_input.Goals as goal

pub returns-in_err-new-clause-read : goal.returns-in_err-new-clause-read
returns-in_err-new-clause-read c =
    let first : AreFirstEntries c.args.text.now (c.channels.result + 1) (map entry_of c.in_ok-entries.entries.items) = c.in_ok-entries.ensures in
    let it = input_told c.args.network.now c.args.text.now (c.channels.result + 1) (map entry_of c.in_ok-entries.entries.items) c.in_err-new.field-0.0 first c.in_err-new.ensures.made in
    let p = err_from_is_err_and c.from_residual-in_err-new.result c.from_residual-in_err-new.ensures.1 in
    rw (p.1, p.2) it

pub returns-in_err-entries-clause-read : goal.returns-in_err-entries-clause-read
returns-in_err-entries-clause-read c =
    let p = err_from_is_err_and c.from_residual.result c.from_residual.ensures.1 in
    rw (p.1, p.2) (entries_told c.args.network.now c.args.text.now _ c.in_err-entries.ensures)

pub returns-clause-read : goal.returns-clause-read
returns-clause-read c =
    let first : AreFirstEntries c.args.text.now (c.channels.result + 1) (map entry_of c.in_ok-entries.entries.items) = c.in_ok-entries.ensures in
    input_kept c.args.network.now c.args.text.now c.channels.result (map entry_of c.in_ok-entries.entries.items) c.in_ok-new.field-0 c.channels.ensures first c.in_ok-new.ensures.made
