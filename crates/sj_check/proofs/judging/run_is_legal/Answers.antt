use Rattle.sj_check.proofs.Words.{ap, Claimed, is_begun, is_moving, is_present, list_all, node_of, not, progress, rules, sym, written_cells, ◌∙◌, ◌≡◌}
use Rattle.std.proofs.lemmas.Bool.{and_from, and_parts}
use Rattle.sj_check.proofs.judging.run_is_legal.Goals as goal

pub returns-then-has_room : goal.returns-then-has_room
returns-then-has_room c =
    let r = c.args.rows.now in
    let present = is_present r.program r.state c.args.t c.args.w (node_of r.machine c.args.w) in
    let unmoved = list_all (λ x. not (is_moving r.state x)) (written_cells r.program c.args.t c.args.w) in
    let claimed : progress r.state c.args.t ≡ Claimed c.args.w = search rules in (
      λ h.
          let parts = and_parts present unmoved (sym c.may_run.ensures ∙ h) in
          record {
            claimed = claimed;
            earlier = c.is_sound.ensures.coherent.order.earlier c.args.t (ap is_begun claimed);
            room = sym c.has_room.ensures ∙ c.if-has_room.true;
            present = parts.0;
            unmoved = parts.1;
          },
      λ can. c.may_run.ensures ∙ and_from present unmoved can.present can.unmoved,
    )
