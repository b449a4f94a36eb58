use Rattle.std.proofs.Common.{rules, ◌≡◌, ◌≤◌, sum, ap, ◌∙◌, arith}
use Rattle.sj_node.specs.Entry.{total}
use Rattle.sj_node.specs.Store.{Store, used_bytes}
use Rattle.sj_node.proofs.Admitting.{turn_first, turn_next, turn_last}
use Rattle.sj_node.proofs.store.NodeStore.admit.Goals as goal

pub loop-victim-init : goal.loop-victim-init
loop-victim-init c =
    let old = ap (λ (v : Store). v.entries) c.self.view_is in
    let limit = ap (λ (v : Store). v.limit) c.self.view_is in
    turn_first (record { paired = c.requires.paired; there = c.requires.victims_there; absent = c.requires.cells_absent })
    (c.in_ok-put_all.ensures.ok ∙ rw (old, limit))
    (c.self.invariant.0 ∙ ap total old)
    (ap (λ (v : Store). v.size) c.self.view_is)
    (ap (λ (v : Store). v.scratch) c.self.view_is)

pub overflow_sub-self : goal.overflow_sub-self
overflow_sub-self c = (turn_next (record { paired = c.requires.paired; there = c.requires.victims_there; absent = c.requires.cells_absent }) c.loop-victim.invariant c.loop-victim-test.true c.take_out.ensures.entries c.take_out.ensures.bytes).0

pub loop-victim-preserved : goal.loop-victim-preserved
loop-victim-preserved c = (turn_next (record { paired = c.requires.paired; there = c.requires.victims_there; absent = c.requires.cells_absent }) c.loop-victim.invariant c.loop-victim-test.true c.take_out.ensures.entries c.take_out.ensures.bytes).1

pub overflow_add-self : goal.overflow_add-self
overflow_add-self c =
    let added : c.sum.result ≡ sum c.args.bytes.now = search rules in
    let size = ap (λ (v : Store). v.size) c.self.view_is in
    let fit : used_bytes c.args.self.now ≤ c.args.self.now.size = rw (← c.self.view_is) (omega arith) in
    let end = turn_last (record { paired = c.requires.paired; there = c.requires.victims_there; absent = c.requires.cells_absent }) c.loop-victim.invariant c.loop-victim-test.false fit c.requires.fits in
    omega (arith, end.within, end.sized)

pub invariant_of-self-2 : goal.invariant_of-self-2
invariant_of-self-2 c =
    let added : c.sum.result ≡ sum c.args.bytes.now = search rules in
    let fit : used_bytes c.args.self.now ≤ c.args.self.now.size = rw (← c.self.view_is) (omega arith) in
    let end = turn_last (record { paired = c.requires.paired; there = c.requires.victims_there; absent = c.requires.cells_absent }) c.loop-victim.invariant c.loop-victim-test.false fit c.requires.fits in
    rw added (end.counted, end.within)

pub returns-clause-ok : goal.returns-clause-ok
returns-clause-ok c =
    let fit : used_bytes c.args.self.now ≤ c.args.self.now.size = rw (← c.self.view_is) (omega arith) in
    let end = turn_last (record { paired = c.requires.paired; there = c.requires.victims_there; absent = c.requires.cells_absent }) c.loop-victim.invariant c.loop-victim-test.false fit c.requires.fits in
    rw (end.now, end.sized, end.held)
