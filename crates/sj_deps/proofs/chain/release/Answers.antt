use Rattle.std.proofs.Common.{◌≡◌, ◌<◌, arith, length}
use Rattle.sj_deps.specs.Chains.{party_at, no_member, waits_of}
use Rattle.sj_deps.proofs.Waits.{TakesWaits-more, waits_some}
use Rattle.sj_deps.proofs.chain.release.Goals as goal

pub loop-p-preserved : goal.loop-p-preserved
loop-p-preserved c =
    let within : c.loop-p.p < length c.args.members.now = omega arith in
    let known : party_at c.args.members.now c.loop-p.p < length c.args.waits.now.items = c.requires.parties c.loop-p.p no_member within in
    let len : length c.loop-p.waits.items ≡ length c.args.waits.now.items = c.loop-p.invariant.0.len in
    let some : 0 < waits_of c.loop-p.waits.items (party_at c.args.members.now c.loop-p.p) = waits_some _ _ _ _ c.args.members.now c.args.first c.loop-p.p within c.requires.waiting c.loop-p.invariant.0 in
    (TakesWaits-more c.args.waits.now.items c.loop-p.waits.items c.count_down.new.waits.items c.args.opened.now.items c.loop-p.opened.items c.count_down.new.opened.items c.args.members.now c.args.first c.loop-p.p within (omega arith) some c.count_down.ensures.waits c.count_down.ensures.opened c.count_down.ensures.total c.loop-p.invariant.0, omega arith)
