use Rattle.std.proofs.Common.{ℕ, refl, rules}
use Rattle.kahn_syntax.proofs.{Cuts.run_cut, Runs.run_large, Runs.run_value}
use Rattle.kahn_syntax.proofs.lexer.number_item.Goals as goal

pub range-requires-clause-end_boundary : goal.range-requires-clause-end_boundary
range-requires-clause-end_boundary c =
    run_cut c.args.text.now c.args.span.from c.args.span.to c.utf8.text c.requires.longest.inside c.requires.run

pub returns-in-Err-clause-fault : goal.returns-in-Err-clause-fault
returns-in-Err-clause-fault c = (
  refl,
  (
    c.requires.longest,
    c.requires.run,
    run_large c.args.text.now c.args.span.from c.args.span.to c.in-Err.field-0 c.requires.longest.inside c.requires.run
        (rw c.range.ensures.value at c.in-Err.ensures.value.0),
  ),
)

pub returns-in-Ok-clause-item : goal.returns-in-Ok-clause-item
returns-in-Ok-clause-item c =
    let value = run_value ℕ c.args.text.now c.args.span.from c.args.span.to c.in-Ok.value c.requires.longest.inside c.requires.run
    (rw c.range.ensures.value at c.in-Ok.ensures.value.0) in
    (refl, record { longest = c.requires.longest; class = (c.requires.run, (search (rules, value.0)), value.1) })
