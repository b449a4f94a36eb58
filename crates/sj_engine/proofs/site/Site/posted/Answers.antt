use denote.Exit.{no}
use denote.RattleType.{RattleType}
use denote.Param.{param}
use denote.Param.Send.{AllSend, IsSend, IsSync, arg_send, param_send, recorded_send, sendable, shr_send, struct_send}
use denote.Ref.{NamedLft}
use denote.Struct.Field.{shr_ref_field}
use denote.Struct.Declared.{Declared, shape}
use denote.Struct.Struct.{Struct}
use denote.Struct.Tuple.{TupleAt, type_at}
use mathlib.Core.List.{List, [], ◌∷◌}
use mir.Syntax.{named}
use Rattle.std.proofs.Crossing.{crosses}
use Rattle.std.specs.contracts.sync.atomic.AtomicU64 as AtomicU64
use Rattle.sj_engine.specs.contracts.member.SeatedWorker as SeatedWorkers
use Rattle.sj_engine.specs.contracts.site.Site as Site
use Rattle.sj_engine.proofs.Crossings.{member_send, site_sync}
use Rattle.sj_engine.proofs.site.Site.posted.Goals as goal

atomic-sync : IsSync AtomicU64.the_row
atomic-sync = search (sendable, crosses) depth 20

pub spawn_with-started-requires-send-T : goal.spawn_with-started-requires-send-T
spawn_with-started-requires-send-T g c κs within = param_send 3 _ (arg_send _ no _ (member_send (param 3 g.row.D) g.D.Disk c.type_bounds.send-D))

-- what the closure takes: the site, the word of refusals and the worker
pub spawn_with-started-requires-send-F : goal.spawn_with-started-requires-send-F
spawn_with-started-requires-send-F g c κs within =
    let at : NamedLft = record { mir = named 7; lft = κs.1.1.1.1.1.1.1.0 } in
    let site : RattleType = Site.the_row at (param 0 g.row.C) (param 1 g.row.G) (param 2 g.row.R) (param 3 g.row.D) g.D.Disk in
    let fields : List RattleType = (shr_ref_field (record { mir = named 6; lft = κs.1.1.1.1.1.1.0 }) site tt).row ∷ (shr_ref_field (record { mir = named 8; lft = κs.1.1.1.1.1.1.1.1.0 }) AtomicU64.the_row tt).row ∷ SeatedWorkers.the_row (param 3 g.row.D) g.D.Disk ∷ [] in
    let sites = site_sync (param 3 g.row.D) g.D.Disk c.type_bounds.send-D at (param 0 g.row.C) (param 1 g.row.G) (param 2 g.row.R) c.type_bounds.sync-C c.type_bounds.sync-G c.type_bounds.sync-R in
    let each : AllSend fields = (shr_send _ _ _ sites, (shr_send _ _ _ atomic-sync, (member_send (param 3 g.row.D) g.D.Disk c.type_bounds.send-D, tt))) in
    let captures : Declared = type_at (115 ∷ 106 ∷ 95 ∷ 101 ∷ 110 ∷ 103 ∷ 105 ∷ 110 ∷ 101 ∷ 58 ∷ 58 ∷ 115 ∷ 105 ∷ 116 ∷ 101 ∷ 58 ∷ 58 ∷ 102 ∷ 110 ∷ 58 ∷ 58 ∷ 83 ∷ 105 ∷ 116 ∷ 101 ∷ 58 ∷ 58 ∷ 112 ∷ 111 ∷ 115 ∷ 116 ∷ 101 ∷ 100 ∷ 58 ∷ 58 ∷ 115 ∷ 112 ∷ 97 ∷ 119 ∷ 110 ∷ 95 ∷ 119 ∷ 105 ∷ 116 ∷ 104 ∷ 43 ∷ 83 ∷ 101 ∷ 108 ∷ 102 ∷ []) fields in
    let closure : IsSend (TupleAt (115 ∷ 106 ∷ 95 ∷ 101 ∷ 110 ∷ 103 ∷ 105 ∷ 110 ∷ 101 ∷ 58 ∷ 58 ∷ 115 ∷ 105 ∷ 116 ∷ 101 ∷ 58 ∷ 58 ∷ 102 ∷ 110 ∷ 58 ∷ 58 ∷ 83 ∷ 105 ∷ 116 ∷ 101 ∷ 58 ∷ 58 ∷ 112 ∷ 111 ∷ 115 ∷ 116 ∷ 101 ∷ 100 ∷ 58 ∷ 58 ∷ 115 ∷ 112 ∷ 97 ∷ 119 ∷ 110 ∷ 95 ∷ 119 ∷ 105 ∷ 116 ∷ 104 ∷ 43 ∷ 83 ∷ 101 ∷ 108 ∷ 102 ∷ []) fields) = recorded_send (Struct (shape captures)) captures.D captures.to captures.to_one (struct_send (shape captures) each) in
    param_send 2 _ (arg_send _ no _ closure)
