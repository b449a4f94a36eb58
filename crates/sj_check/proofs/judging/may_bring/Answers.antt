use Rattle.sj_check.proofs.Words.{ap, CanMoveIn, claimant_of, is_coming_by, IsTrue, None, not, rules, Some, source_of, subst, sym, transfer, Worker, ◌∙◌, ◌≡◌}
use Rattle.sj_core.proofs.Replicas.{same_worker-refl}
use Rattle.sj_check.proofs.judging.may_bring.Goals as goal

pub returns-in-Some : goal.returns-in-Some
returns-in-Some c =
    let a = c.args in
    let r = a.rows.now in
    let comes = ap (is_coming_by a.w) c.requires.coming ∙ same_worker-refl a.w in
    let none : transfer r.state a.w ≡ None = search rules in
    let source : source_of r.program r.machine r.state a.cell ≡ Some c.in-Some.source = sym c.source_of.ensures ∙ c.in-Some.is in (
      λ h. subst (λ (v : Worker). CanMoveIn r.program r.machine r.state a.cell a.from a.n v) (sym (ap claimant_of c.requires.coming)) (record {
        own_node = c.is_sound.ensures.coherent.pins.coming_here a.w a.cell a.n comes;
        free = none;
        coming = comes;
        old_value_needed = ap not (sym c.is_fresh.ensures ∙ c.if-is_fresh.false);
        room = sym c.has_room.ensures ∙ c.if-not-has_room.false;
        source = source ∙ ap Some (let same : c.in-Some.source ≡ a.from = search rules in same);
      }),
      λ can. (let same : c.in-Some.source ≡ a.from = (let both : Some c.in-Some.source ≡ Some a.from = sym source ∙ can.source in cc) in let h : IsTrue c.eq.result = search rules in h),
    )
