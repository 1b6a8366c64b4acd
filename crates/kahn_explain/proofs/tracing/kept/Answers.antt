use Rattle.kahn_explain.proofs.Common.{◌<◌, arith, length, refl, slice_get_read}
use Rattle.kahn_explain.proofs.Kept_columns.{how_many, kept_column}
use Rattle.kahn_explain.proofs.tracing.kept.Goals as goal

pub index-requires : goal.index-requires
index-requires c =
    let n = how_many c.args._network.now c.args.run.now c.requires.run in
    let l = c.requires.here in
    omega (arith, n, l)

pub returns : goal.returns
returns c =
    let n = how_many c.args._network.now c.args.run.now c.requires.run in
    let l = c.requires.here in
    let xs = c.args.run.now.channels.items in
    let here : c.args.channel < length xs = omega (arith, n, l) in
    kept_column c.args._network.now c.args.run.now c.args.channel c.index.result.now c.requires.run (slice_get_read xs (length xs) c.args.channel c.index.result.now refl here c.index.ensures) c.requires.kept
