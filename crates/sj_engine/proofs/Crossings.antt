-- A board may cross threads, where its disks may.
use denote.RattleType.{RattleType}
use denote.Param.Send.{IsSend, IsSync, recorded_send, recorded_sync, sendable, shr_sync, struct_send, struct_sync}
use denote.Ref.{NamedLft}
use denote.Struct.Declared.{Declared, shape}
use denote.Struct.Field.{u8-field}
use denote.Struct.Struct.{Struct}
use Rattle.std.proofs.Crossing.{crosses}
use Rattle.std.specs.contracts.alloc.Global as Global
use Rattle.std.specs.contracts.option.Option as Options
use Rattle.sj_base.proofs.program.Program.TheSendSync as Program
use Rattle.sj_base.proofs.trace.Trace.TheSendSync as Trace
use Rattle.sj_deps.specs.contracts.deps.Deps as Deps
use Rattle.sj_pool.proofs.chunk.Chunk.TheSendSync as Chunk
use Rattle.sj_pool.proofs.tree.Tree.TheLaws.TheKnot as Trees
use Rattle.sj_pool.specs.contracts.pool.Pool as Pool
use Rattle.sj_edge.specs.declared.disk.Disk.{Ghosts}
use Rattle.sj_disk.proofs.rack.DiskSlot.TheSendSync as Slot
use Rattle.sj_disk.specs.contracts.rack.DiskSlot as Slots
use Rattle.sj_disk.specs.contracts.lending_set.LendingSet as LendingSet
use Rattle.sj_machine.proofs.rows.Rows.TheSendSync as Rows
use Rattle.sj_board.proofs.tiles.CellTiles.TheSendSync as CellTiles
use Rattle.sj_board.specs.contracts.run_state.RunState as RunState
use Rattle.sj_board.proofs.delivered.Delivered.TheSendSync as Delivered
use Rattle.sj_board.proofs.gifts.Gifts.TheSendSync as Gifts
use Rattle.sj_board.specs.contracts.board.Board as Board
use Rattle.sj_desk.proofs.desk.Desk.TheSendSync as Desks
use Rattle.sj_desk.proofs.seat.DeskSeat.TheSendSync as Seats
use Rattle.sj_desk.specs.contracts.desk.Desk as Desk
use Rattle.sj_steal.proofs.shared.Pass.TheSendSync as Passes
use Rattle.sj_steal.proofs.shared.Shared.TheSendSync as Queues
use Rattle.sj_steal.specs.contracts.shared.Pass as Pass
use Rattle.sj_steal.specs.contracts.shared.Shared as Shared
use Rattle.sj_engine.specs.contracts.member.Stage as Stage
use Rattle.sj_engine.specs.contracts.member.SeatedWorker as SeatedWorkers
use Rattle.sj_engine.specs.contracts.noted_board.NotedBoard as NotedBoard
use Rattle.sj_engine.specs.contracts.noted_board.NotedBoardKeyed.TheImpl as Keyed
use Rattle.sj_engine.specs.contracts.shared_board.SharedBoard as SharedBoard
use Rattle.sj_engine.specs.contracts.site.Site as Site
use Rattle.sj_engine.specs.contracts.worker_seat.WorkerSeat as WorkerSeat

deps-send : IsSend Deps.the_row
deps-send = search (sendable, crosses) depth 60 fits 20000

pool-send : IsSend Pool.the_row
pool-send = search (crosses, Trees.crosses, Chunk.the_send, sendable) depth 60 fits 20000

module _ (D : RattleType) (g : Ghosts D.Denot) (s : IsSend D) where
  slot-send : IsSend (Slots.the_row D)
  slot-send = Slot.the_send D s

  disks-send : IsSend (LendingSet.the_row D g)
  disks-send = search (sendable, crosses, slot-send) depth 60

  run-send : IsSend (RunState.the_row D g)
  run-send = search (sendable, crosses, Rows.the_send, CellTiles.the_send, Trace.the_send, disks-send) depth 60

  board-send : IsSend (Board.the_row D g)
  board-send = search (sendable, crosses, run-send, deps-send, pool-send, Gifts.the_send, Delivered.the_send) depth 60

  shared-send : IsSend (SharedBoard.the_row D g)
  shared-send = search (sendable, crosses, board-send) depth 60

  pub noted_send : IsSend (NotedBoard.the_row D g)
  noted_send = search (sendable, crosses, shared-send) depth 60

  seat-send : IsSend (WorkerSeat.the_row D g)
  seat-send = search (sendable, crosses, noted_send, Seats.the_send) depth 60

  stage-send : IsSend (Stage.the_field).row
  stage-send = search (sendable, crosses) depth 60

  pass-send : IsSend (Options.the_field Pass.the_row).row
  pass-send = search (sendable, crosses, Passes.the_send) depth 60

  bell-send : IsSend u8-field.row
  bell-send = search (sendable, crosses) depth 60

  -- a worker with its seat
  pub member_send : IsSend (SeatedWorkers.the_row D g)
  member_send =
      let T : Declared = SeatedWorkers.the_type D g in
      recorded_send (Struct (shape T)) T.D T.to T.to_one (struct_send (shape T) (seat-send, (pass-send, (stage-send, (bell-send, tt)))))

  desk-sync : IsSync (Desk.the_row (NotedBoard.the_row D g) (Keyed.ghosts D g Keyed.no_dict Keyed.no_dict))
  desk-sync = Desks.the_sync _ _ noted_send

  queues-sync : IsSync (Options.the_row Shared.the_row)
  queues-sync = search (sendable, crosses, Queues.the_sync) depth 60

  heap-sync : IsSync (Global.the_field).row
  heap-sync = search sendable depth 60

  -- what all workers have at hand
  pub site_sync : (ℓ : NamedLft) (C G R : RattleType) → IsSync C → IsSync G → IsSync R → IsSync (Site.the_row ℓ C G R D g)
  site_sync ℓ C G R codelets gate runtime =
      let T : Declared = Site.the_type ℓ C G R D g in
      recorded_sync (Struct (shape T)) T.D T.to T.to_one (struct_sync (shape T)
      (shr_sync _ _ _ runtime, (heap-sync, (shr_sync _ _ _ desk-sync, (shr_sync _ _ _ Program.the_sync, (shr_sync _ _ _ codelets, (shr_sync _ _ _ gate, (shr_sync _ _ _ queues-sync, tt))))))))
