-- Deliveries put in their places.
use Rattle.std.proofs.Common.{◌≡◌, ◌-◌, List, [], ◌∷◌, length, get_or, sym, ap, ◌∙◌, subst, arith}
use Rattle.std.specs.Prelude.{All}
use Rattle.sj_base.specs.declared.program.Delivery.{Delivery}
use Rattle.sj_base.specs.declared.ids.Task.{Task}
use Rattle.sj_base.specs.declared.tile.Dims.{Dims}
use Rattle.sj_base.specs.Array.{Array, element, zeros}
use Rattle.sj_plan.specs.declared.rect.Rect.{Rect}
use Rattle.sj_plan.specs.Rect.{Within, rect_dims}
use Rattle.sj_plan.specs.Window.{with_window, IsWhole}
use Rattle.sj_plan.proofs.Windows.{element-with_window, IsWhole-with_window, same_arrays, written-inside}
use Rattle.sj_top.specs.Gathering.{assembled, part_by, rect_at}

-- an array put into a rectangle that is the whole array
pub with_window-whole : (a b : Array) (r : Rect) → Within r a.dims → rect_dims r ≡ a.dims → b.dims ≡ a.dims → IsWhole b → with_window a r b ≡ b
with_window-whole a b r within whole dims whole_b =
    let rows : r.rows ≡ a.dims.rows = ap (λ (d : Dims). d.rows) whole in
    let cols : r.cols ≡ a.dims.cols = ap (λ (d : Dims). d.cols) whole in
    same_arrays (with_window a r b) b (sym dims) (IsWhole-with_window a r b) whole_b (λ i j in_rows in_cols.
    element-with_window a r b i j in_rows in_cols
    ∙ written-inside a r b i j ((omega (arith, within.0, rows), omega (arith, within.0, rows)), (omega (arith, within.1, cols), omega (arith, within.1, cols)))
    ∙ ap (λ n. element b n (j - r.col)) (omega (arith, within.0, rows)) ∙ ap (λ n. element b i n) (omega (arith, within.1, cols)))

-- the only delivery, whose array has the dimensions of the whole
pub assembled-whole : (arrays : Task → Array) (d : Dims) (ds : List Delivery) (e : Delivery) (a : Array) → length ds ≡ 1 → a ≡ arrays (get_or ds 0 e).task → a.dims ≡ d → IsWhole a → All (λ x. Within (part_by arrays x).0 d) ds → a ≡ assembled arrays d ds
assembled-whole arrays d [] e a long is dims whole within = absurd (omega arith)
assembled-whole arrays d (x ∷ []) e a long is dims whole within =
    sym (ap (λ (b : Array). with_window (zeros d) (rect_at x b.dims) b) (sym is) ∙ with_window-whole (zeros d) a (rect_at x a.dims) (subst (λ (b : Array). Within (rect_at x b.dims) d) (sym is) (within 0 x (omega arith))) dims dims whole)
assembled-whole arrays d (x ∷ y ∷ ds) e a long is dims whole within = absurd (omega arith)
