use Rattle.sj_lower.proofs.Words.{ap, arith, child, children_of, length, length-append, List, map, option_copied, Rect, rect_cell, refl, sym, ◌++◌, ◌∙◌, ◌≡◌}
use Rattle.std.proofs.lemmas.List.{length-map}
use Rattle.sj_lower.proofs.{Laying.lays_full, Laying.lays_new, Places.length-places}
use Rattle.sj_lower.proofs.layout.Layout.take.Goals as goal

pub returns-then-first-parts-gt-MOST_PER_JOB-clause-full : goal.returns-then-first-parts-gt-MOST_PER_JOB-clause-full
returns-then-first-parts-gt-MOST_PER_JOB-clause-full c = λ T C s inside dims.
    lays_full T c.args.self.now C c.args.root c.args.parts s inside (sym c.get.ensures.value ∙ ap option_copied c.in_default.is) (omega (arith, c.len-first.ensures, c.args.self.now.infos.ok, c.if-first-parts-gt-MOST_PER_JOB.true))

pub returns-clause-few : goal.returns-clause-few
returns-clause-few c =
    let cells : c.push_cells.new.infos.items ≡ c.args.self.now.infos.items ++ map (rect_cell c.args.root) (children_of c.args.dims c.args.parts) =
    c.in_ok-push_cells.ensures ∙ ap (λ (rs : List Rect). c.args.self.now.infos.items ++ map (rect_cell c.args.root) rs) (c.items.ensures ∙ c.in_ok-rects.ensures.children) in
    omega (
      arith,
      c.len-first.ensures,
      c.args.self.now.infos.ok,
      c.push_cells.new.infos.ok,
      ap length cells,
      length-append c.args.self.now.infos.items (map (rect_cell c.args.root) (children_of c.args.dims c.args.parts)),
      length-map (children_of c.args.dims c.args.parts) (rect_cell c.args.root),
      length-places (child c.args.dims c.args.parts) c.args.parts,
      c.if-first-parts-gt-MOST_PER_JOB.false,
    )

pub returns-clause-taken : goal.returns-clause-taken
returns-clause-taken c = λ T C s inside distinct few dims.
    lays_new T c.args.self.now _ C c.args.root c.args.dims c.args.parts c.len-first.result s inside distinct few dims (sym c.get.ensures.value ∙ ap option_copied c.in_default.is)
    (c.in_ok-push_cells.ensures ∙ ap (λ (rs : List Rect). c.args.self.now.infos.items ++ map (rect_cell c.args.root) rs) (c.items.ensures ∙ c.in_ok-rects.ensures.children))
    c.in_ok-insert.ensures.updates.0 refl (omega (arith, c.len-first.ensures, c.args.self.now.infos.ok))
