use Rattle.std.proofs.Common.{◌≡◌, ◌+◌, ◌-◌, ◌<◌, ℕ, List, length, take, sym, subst, arith, count_by, slice_index_or, ap, ◌∙◌}
use Rattle.std.proofs.lemmas.List.{length-set}
use Rattle.sj_deps.specs.Chains.{is_party, left_of}
use Rattle.sj_deps.proofs.Leaving.{leave_some, leave_left, still_free, SameMembers-more, ListsReady-next}
use Rattle.sj_deps.proofs.settle.leave_all.Goals as goal

pub leave-requires-clause-some : goal.leave-requires-clause-some
leave-requires-clause-some c = leave_some c.args.parties.now c.loop-party.party-index (omega arith) c.args.left.now.items c.loop-party.left.items c.loop-party.invariant.1 c.requires.enough

pub leave-requires-clause-free : goal.leave-requires-clause-free
leave-requires-clause-free c = still_free c.args.waits.now.items c.loop-party.waits.items c.args.opened.now.items c.loop-party.opened.items c.requires.fresh c.loop-party.invariant.4 _ (c.requires.free c.loop-party.party-index 0 (omega arith))

pub loop-party-preserved : goal.loop-party-preserved
loop-party-preserved c =
    let within : c.loop-party.party-index < length c.args.parties.now = omega arith in
    let some = leave_some c.args.parties.now c.loop-party.party-index within c.args.left.now.items c.loop-party.left.items c.loop-party.invariant.1 c.requires.enough in
    let n : ℕ = slice_index_or c.args.parties.now c.loop-party.party-index 0 in
    let same_len : length c.loop-party.left.items ≡ length c.args.left.now.items = c.loop-party.invariant.2 in
    let in_args : n < length c.args.left.now.items = c.requires.known c.loop-party.party-index 0 within in
    let known : n < length c.loop-party.left.items = omega arith in
    let law = leave_left c.args.parties.now c.loop-party.party-index within c.args.left.now.items c.loop-party.left.items c.loop-party.invariant.1 known some in
    (c.leave.ensures.fits, λ k. subst (λ (l : List ℕ). left_of l k + count_by (is_party k) (take (c.loop-party.party-index + 1) c.args.parties.now) ≡ left_of c.args.left.now.items k) (sym c.leave.ensures.left) (law k), ap length c.leave.ensures.left ∙ length-set c.loop-party.left.items n (left_of c.loop-party.left.items n - 1) ∙ same_len, SameMembers-more c.args.chains.now.items c.loop-party.chains.items c.leave.new.chains.items c.loop-party.invariant.3 c.leave.ensures.chains, ListsReady-next c.args.waits.now.items c.loop-party.waits.items c.leave.new.waits.items c.args.opened.now.items c.loop-party.opened.items c.leave.new.opened.items c.loop-party.invariant.4 c.leave.ensures.answers, omega arith)
