-- A checked network is within its limits.
use Rattle.kahn_board.proofs.Common.{◌≡◌, ℕ, ◌≤◌, List, [], ◌∷◌, map, length, length-append, refl, arith, length-map, Program, channels_of, network_of, wires, IsWellWired, declared_channels}
use Rattle.kahn_streams.specs.{View.bytes_of, declared.tree.Name.Name, declared.tree.Kind.Kind, declared.tree.Role.Role, declared.tree.Declaration.Declaration}
use Rattle.kahn_streams.specs.declared.tree.Declaration.TheVariants as D

abbrev with_bytes : Kind → Role → Name → List ℕ × (Kind × Role)
with_bytes kind role n = (bytes_of n, (kind, role))

abbrev with_name : Kind → Role → Name → Name × (Kind × Role)
with_name kind role n = (n, (kind, role))

as_many : (ds : List Declaration) → length (channels_of ds) ≡ length (declared_channels ds)
as_many [] = refl
as_many (D.Channels kind role names ∷ rest) = omega (
  arith,
  as_many rest,
  length-append (map (with_bytes kind role) names.items) (channels_of rest),
  length-append (map (with_name kind role) names.items) (declared_channels rest),
  length-map names.items (with_bytes kind role),
  length-map names.items (with_name kind role),
)
as_many (D.Process p ∷ rest) = as_many rest

mapped : {A B : Type 0} (f : A → B) (xs : List A) (n : ℕ) → length xs ≤ n → length (map f xs) ≤ n
mapped f xs n h = omega (arith, h, length-map xs f)

pub few_instances : (program : Program) → IsWellWired program → (wires program).instances ≤ 256
unfolding wires
few_instances program w = mapped _ program.instances.items 256 w.instance_limit

pub few_channels : (program : Program) → IsWellWired program → (wires program).channels ≤ 1024
unfolding wires
few_channels program w = mapped _ (channels_of program.declarations.items) 1024 (omega (arith, w.channel_limit, as_many program.declarations.items))

pub counts_are : (program : Program) → (length (network_of program).instances ≡ (wires program).instances) × (length (network_of program).channels ≡ (wires program).channels)
unfolding wires
counts_are program = (refl, refl)
