use Rattle.sj_machine.proofs.Words.{Coming, Leaving, marked, refl, ◌∙◌, ◌≡◌}
use Rattle.sj_machine.proofs.ClaimRows.{claim-can, claimed}
use Rattle.sj_machine.proofs.rows.Rows.claim.Goals as goal

pub hold_all-requires-clause-can : goal.hold_all-requires-clause-can
hold_all-requires-clause-can c = (claim-can _ _ _ _ _ _ c.self.invariant _ c.self.view_is c.args.t c.args.w c.requires.can _ c.requires.plan _ c.node_of-n.ensures).hold

pub mark_all-requires-clause-cells : goal.mark_all-requires-clause-cells
mark_all-requires-clause-cells c = rw c.victims.ensures (claim-can _ _ _ _ _ _ c.self.invariant _ c.self.view_is c.args.t c.args.w c.requires.can _ c.requires.plan _ c.node_of-n.ensures).victims

pub mark_all-requires-2-clause-cells : goal.mark_all-requires-2-clause-cells
mark_all-requires-2-clause-cells c = rw c.missing.ensures (rw c.mark_all.ensures (rw c.victims.ensures (claim-can _ _ _ _ _ _ c.self.invariant _ c.self.view_is c.args.t c.args.w c.requires.can _ c.requires.plan _ c.node_of-n.ensures).missing))

pub mark_all-requires-2-clause-node : goal.mark_all-requires-2-clause-node
mark_all-requires-2-clause-node c = rw c.mark_all.ensures (rw c.victims.ensures (claim-can _ _ _ _ _ _ c.self.invariant _ c.self.view_is c.args.t c.args.w c.requires.can _ c.requires.plan _ c.node_of-n.ensures).wide)

pub invariant_of-self-2 : goal.invariant_of-self-2
invariant_of-self-2 c =
    let n = c.node_of-n.result in
    let came : c.mark_all-2.new.cells.items ≡ marked (marked c.self.inside.cells.items c.args.plan.victims n (Leaving c.args.w)) c.args.plan.missing n (Coming c.args.w) = c.mark_all-2.ensures ∙ rw c.missing.ensures (rw c.mark_all.ensures (rw c.victims.ensures refl)) in
    (claimed _ _ _ _ _ _ c.self.invariant _ c.self.view_is c.args.t c.args.w c.requires.can c.args.plan c.requires.plan n c.node_of-n.ensures _ _ _ came c.in_ok-hold_all.ensures.ok c.take_plan.ensures).keeps

pub returns-clause-ok : goal.returns-clause-ok
returns-clause-ok c =
    let n = c.node_of-n.result in
    let came : c.mark_all-2.new.cells.items ≡ marked (marked c.self.inside.cells.items c.args.plan.victims n (Leaving c.args.w)) c.args.plan.missing n (Coming c.args.w) = c.mark_all-2.ensures ∙ rw c.missing.ensures (rw c.mark_all.ensures (rw c.victims.ensures refl)) in
    (claimed _ _ _ _ _ _ c.self.invariant _ c.self.view_is c.args.t c.args.w c.requires.can c.args.plan c.requires.plan n c.node_of-n.ensures _ _ _ came c.in_ok-hold_all.ensures.ok c.take_plan.ensures).happened
