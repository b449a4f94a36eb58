use Rattle.std.proofs.Common.{◌+◌, ◌-◌, List, ℤ, pos, ◌++◌, length, cond, refl, ap, ◌∙◌, arith}
use Rattle.std.specs.List.{between}
use Rattle.std.proofs.lemmas.List.{get_or-take}
use borrow.Rule.Slice.PartMut.{put_mid}
use Rattle.sj_base.specs.Array.{at}
use Rattle.sj_base.specs.Window.{is_within}
use Rattle.sj_codelet.specs.Listing.{listing}
use Rattle.sj_codelet.proofs.Filling.{same_listing}
use Rattle.sj_kernels.specs.Panels.{column_sum, row_within}
use Rattle.sj_kernels.proofs.Panels.{row_part}
use Rattle.sj_kernels.proofs.product.add_to_rows.Goals as goal

pub returns : goal.returns
returns c =
    let a = c.args in
    let n = a.n in
    let from = a.columns.first in
    let to = from + a.columns.len in
    let k = to - from in
    let r = c.split_at_mut-top.result in
    let s = c.split_at_mut-top.ensures in
    let top = row_part n to k a.columns a.a.now a.tile.now r.0.now (between from to r.0.now) c.two_rows.new.c s.front_len c.requires.within refl (omega arith) refl c.two_rows.ensures.first in
    let read = same_listing n (row_within a.columns a.a.now a.tile.now r.0.now) (row_within a.columns a.a.now a.tile.now a.c.now) (λ j h.
    ap (λ (z : ℤ). cond (is_within j from a.columns.len) (column_sum a.columns.len a.a.now a.tile.now (j - from) (length a.a.now) z) z)
    (ap (λ (xs : List ℤ). at xs j) s.front ∙ get_or-take n a.c.now j (pos 0) h)) in
    let bottom = row_part n to k a.columns a.e.now a.tile.now r.1.now (between from to r.1.now) c.two_rows.new.d (omega arith) c.requires.within refl (omega arith) refl c.two_rows.ensures.second in
    ap (λ (xs : List ℤ). xs ++ put_mid from k r.1.now c.two_rows.new.d) (top ∙ read)
    ∙ ap (λ (xs : List ℤ). listing n (row_within a.columns a.a.now a.tile.now a.c.now) ++ xs) (bottom ∙ ap (λ (xs : List ℤ). listing n (row_within a.columns a.e.now a.tile.now xs)) s.back)
