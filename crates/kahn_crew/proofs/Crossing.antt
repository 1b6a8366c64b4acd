-- Which types may go from one thread to another, or be shared by threads, part by part.
--     boxed_send, worker_send      a task in its box and a worker may go to another thread
--     empty_sync      threads may share an empty list, also where they may not share what it is for
--     board_sync      threads may share a board of what may go from one to another
--     run_sync      threads may share what the workers of a run share
use Rattle.kahn_crew.proofs.Common.{IsSend, IsSync, SyncAt, FieldsAt, sendable, struct_sync, struct_sync_at, array_sync_at, recorded_sync, shr_sync}
use mathlib.Core.Path.{◌≡◌, sym, subst}
use mathlib.Core.List.{[], ◌∷◌}
use base.Fml.{ftrue}
use base.Shift.{Keyless}
use denote.Builtin.{usize}
use denote.Exit.{Entries}
use denote.RattleType.{RattleType, Denots}
use denote.RawPtr.{Ptr, block_ptr, null_ptr, block_of, count_of, in_block}
use denote.Ref.{NamedLft}
use Rattle.std.specs.contracts.impls.GlobalAllocator.TheImpl.{ghosts}
use Rattle.kahn_job.proofs.Crossing.{network_sync}
use Rattle.kahn_board.specs.declared.board.Reports.{Ghosts}
use denote.Struct.Declared as S
use denote.Struct.Owning as owning
use Rattle.std.proofs.Crossing as std
use Rattle.std.proofs.option.Option.TheSendSync as option
use Rattle.std.specs.contracts.alloc.Global as Heap
use Rattle.std.specs.contracts.option.Option as Option
use Rattle.std.specs.contracts.vec.Vec as Vec
use Rattle.atomic_table.specs.contracts.owned.Table as Table
use Rattle.atomic_table.proofs.owned.Table.TheSendSync as table
use Rattle.kahn_code.specs.contracts.code.Code as Code
use Rattle.kahn_code.proofs.code.Code.TheSendSync as code
use Rattle.kahn_streams.proofs.input.Input.TheSendSync as input
use Rattle.kahn_board.specs.contracts.board.Board as Board
use Rattle.kahn_board.specs.contracts.board.Rule as Rule
use Rattle.kahn_board.specs.contracts.board.RuleTableRuleOptionSeatViewTerms.TheImpl as rule
use Rattle.kahn_board.specs.contracts.board.Terms as Terms
use Rattle.kahn_board.specs.contracts.view.SeatView as SeatView
use Rattle.kahn_crew.specs.contracts.opening.Boxed as Boxed
use Rattle.kahn_crew.proofs.opening.Boxed.TheSendSync as boxed
use Rattle.kahn_crew.specs.contracts.opening.BoxedReports.TheImpl as told
use Rattle.kahn_crew.specs.contracts.opening.Run as Run
use Rattle.kahn_crew.specs.contracts.worker.Worker as Worker
use Rattle.kahn_crew.proofs.worker.Worker.TheSendSync as worker

boxed_send : IsSend Boxed.the_row
boxed_send = search (boxed.the_send) depth 60

pub worker_send : IsSend Worker.the_row
worker_send = search (worker.the_send) depth 60

in_block_keyless : (p : Ptr) → Keyless (in_block p ftrue)
in_block_keyless (block_ptr b o) = tt
in_block_keyless null_ptr = tt

empty_sync : (T : RattleType) (d : (Vec.the_row T Heap.the_row ghosts).Denot) → d.items ≡ [] → SyncAt (Vec.the_row T Heap.the_row ghosts) d
empty_sync T d none = let O = Vec.the_type T Heap.the_row ghosts in λ b o κ. (
  (struct_sync (owning.shape O) (search sendable, (search sendable, (search sendable, (std.sync, tt))))).shared (owning.to O d) b o κ,
  (tt, (in_block_keyless d.ptr, array_sync_at T d.len d.items (subst (Entries (SyncAt T)) (sym none) tt) (block_of d.ptr) (count_of d.ptr) κ)),
)

with_last : (R₁ R₂ R₃ R₄ R₅ : RattleType) → IsSync R₁ → IsSync R₂ → IsSync R₃ → IsSync R₄ → (a : Denots (R₁ ∷ R₂ ∷ R₃ ∷ R₄ ∷ R₅ ∷ [])) → SyncAt R₅ a.1.1.1.1.0 → FieldsAt SyncAt (R₁ ∷ R₂ ∷ R₃ ∷ R₄ ∷ R₅ ∷ []) a
with_last R₁ R₂ R₃ R₄ R₅ s₁ s₂ s₃ s₄ a s = (s₁.shared a.0, (s₂.shared a.1.0, (s₃.shared a.1.1.0, (s₄.shared a.1.1.1.0, (s, tt)))))

module _ (T : RattleType) (g : Ghosts T.Denot) (s : IsSend T) where
  abbrev in_table : RattleType
  in_table = (Table.the_field (Option.the_row T) SeatView.the_row (Terms.the_row T) (Rule.the_row T) Heap.the_row (rule.ghosts T g rule.no_dict) ghosts).row

  table_sync : IsSync in_table
  table_sync = table.the_field_sync (Option.the_row T) SeatView.the_row (Terms.the_row T) (Rule.the_row T) Heap.the_row (rule.ghosts T g rule.no_dict) ghosts (option.the_send T s) std.send std.sync std.frees

  readers_sync : IsSync (Vec.the_row (Option.the_row usize) Heap.the_row ghosts)
  readers_sync = std.Vec-sync (Option.the_row usize) (option.the_sync usize (search sendable))

  pub board_sync : IsSync (Board.the_row T g)
  board_sync = let B = Board.the_type T g in record {
    shared = λ d. struct_sync_at (S.shape B) (B.to d)
        (with_last in_table usize usize (Vec.the_row (Option.the_row usize) Heap.the_row ghosts) (Vec.the_row T Heap.the_row ghosts) table_sync (search sendable) (search sendable) readers_sync (B.to d)
        (empty_sync T d.room d.roomy.0));
  }

code_sync : IsSync (Code.the_row Heap.the_row ghosts)
code_sync = code.the_sync Heap.the_row ghosts std.sync

pub run_sync : (b : NamedLft) → IsSync (Run.the_row b)
run_sync b = recorded_sync (Run.the_field b).row _ _ (Run.the_type b).to_one
    (struct_sync (S.shape (Run.the_type b))
    (shr_sync _ _ _ (board_sync Boxed.the_row told.ghosts boxed_send), (shr_sync _ _ _ network_sync, (shr_sync _ _ _ input.the_sync, (shr_sync _ _ _ code_sync, (search sendable, tt))))))
