use Rattle.std.proofs.Common.{◌≡◌, ◌&&◌, IsTrue, ℤ, pos, List, [], ◌∷◌, ◌++◌, get_or, to_z, of_z, w64, FitsSigned, refl, sym, ap, ◌∙◌, arith, rules}
use Rattle.std.specs.List.{list_all}
use Rattle.std.specs.Int.RustNames.{int_le}
use Rattle.std.proofs.lemmas.Bool.{and_parts}
use Rattle.std.proofs.lemmas.Int.{to_z-of_z}
use Rattle.sj_base.specs.declared.tile.Dims.{Dims}
use Rattle.sj_base.specs.Array.{Array, at}
use Rattle.sj_codelet.specs.declared.kernel.Kernel.TheVariants.{Axpy, Dot, LoadFill, Paste}
use Rattle.sj_codelet.specs.declared.window.Window.{Window}
use Rattle.sj_codelet.specs.Frame.{Slot, own, arrays, all_dims}
use Rattle.sj_codelet.specs.Kernel.{dims_at, lies_in, operand}
use Rattle.sj_codelet.specs.Equations.{axpy, dot, loadfill, paste}
use Rattle.sj_codelet.specs.Runs.{IsReadyOf}
use Rattle.sj_codelet.specs.Window.{window_of}
use Rattle.sj_codelet.proofs.Operands.{dims_go, dims_at-all_dims}
use Rattle.sj_kernels.proofs.Last.{ready_of, read_before, last_itself, written_as}
use Rattle.sj_kernels.proofs.Tiles.{axpy_on_tiles, dot_on_tiles, loadfill_on_tile, paste_on_tiles}
use Rattle.sj_kernels.proofs.runs.write_last.Goals as goal

-- the window of a paste lies in both of its arrays
windows_lie : (args : List ℤ) (slots : List Slot) (w : Window) (d e : Dims) → IsReadyOf Paste args slots → w ≡ window_of args → d ≡ (operand (arrays slots) 0).dims → e ≡ (operand (arrays slots) 1).dims
    → IsTrue (lies_in w.old_row w.old_col w.rows w.cols d) × IsTrue (lies_in w.new_row w.new_col w.rows w.cols e)
windows_lie args slots w d e ready is old new =
    let ds = all_dims slots in
    let u = window_of args in
    let within = lies_in u.old_row u.old_col u.rows u.cols (dims_at ds 0) in
    let both = and_parts (list_all (int_le (pos 0)) args && within) (lies_in u.new_row u.new_col u.rows u.cols (dims_at ds 1)) (dims_go Paste args slots ready) in
    let first = and_parts (list_all (int_le (pos 0)) args) within both.0 in (
      ap (λ (v : Window). lies_in v.old_row v.old_col v.rows v.cols d) is ∙ ap (λ (q : Dims). lies_in u.old_row u.old_col u.rows u.cols q) (old ∙ sym (dims_at-all_dims slots 0)) ∙ first.1,
      ap (λ (v : Window). lies_in v.new_row v.new_col v.rows v.cols e) is ∙ ap (λ (q : Dims). lies_in u.new_row u.new_col u.rows u.cols q) (new ∙ sym (dims_at-all_dims slots 1)) ∙ both.1,
    )

pub paste-requires-clause-from : goal.paste-requires-clause-from
paste-requires-clause-from c =
    let args = c.args.args.now in
    let front = c.args.frame.now.slots in
    let y = c.args.last.now in
    let slots = front ++ own y ∷ [] in
    let ready = ready_of c.args.kernel Paste c.in-Paste.is args front y c.requires.ready in
    let x = read_before Paste args front y ready 0 c.tile-old.result.now (omega arith) c.tile-old.ensures in
    (windows_lie args slots c.of.result c.dims.result (operand (arrays slots) 1).dims ready.ready c.of.ensures (c.dims.ensures.dims ∙ ap (λ (a : Array). a.dims) x) refl).0

pub paste-requires-clause-target : goal.paste-requires-clause-target
paste-requires-clause-target c =
    let args = c.args.args.now in
    let front = c.args.frame.now.slots in
    let y = c.args.last.now in
    let slots = front ++ own y ∷ [] in
    let ready = ready_of c.args.kernel Paste c.in-Paste.is args front y c.requires.ready in
    let z = last_itself Paste args front y ready 1 refl in
    (windows_lie args slots c.of.result (operand (arrays slots) 0).dims c.dims-dims.result ready.ready c.of.ensures refl (c.dims-dims.ensures.dims ∙ ap (λ (a : Array). a.dims) (sym z))).1

pub returns-in-Axpy : goal.returns-in-Axpy
returns-in-Axpy c =
    let args = c.args.args.now in
    let front = c.args.frame.now.slots in
    let y = c.args.last.now in
    let slots = front ++ own y ∷ [] in
    let ready = ready_of c.args.kernel Axpy c.in-Axpy.is args front y c.requires.ready in
    let x = read_before Axpy args front y ready 0 c.tile-in-Axpy.result.now (omega arith) c.tile-in-Axpy.ensures in
    let z = last_itself Axpy args front y ready 1 refl in
    let fits : FitsSigned w64 (get_or args 0 (pos 0)) = search rules in
    written_as c.args.kernel Axpy c.in-Axpy.is args front y _ (axpy (at args 0) (operand (arrays slots) 0) (operand (arrays slots) 1)) refl (
    axpy_on_tiles (to_z w64 (of_z w64 (at args 0))) (at args 0) c.tile-in-Axpy.result.now y c.elements-in-Axpy.result.now c.elements_mut-y.result.now c.axpy.new.y c.elements-in-Axpy.ensures.elements c.elements_mut-y.ensures.elements ready.whole (to_z-of_z w64 (at args 0) fits) c.axpy.ensures
    ∙ ap (λ (a : Array). axpy (at args 0) a y) x ∙ ap (λ (a : Array). axpy (at args 0) (operand (arrays slots) 0) a) (sym z)) refl

pub returns-in-Dot : goal.returns-in-Dot
returns-in-Dot c =
    let args = c.args.args.now in
    let front = c.args.frame.now.slots in
    let s = c.args.last.now in
    let slots = front ++ own s ∷ [] in
    let ready = ready_of c.args.kernel Dot c.in-Dot.is args front s c.requires.ready in
    let x = read_before Dot args front s ready 0 c.tile-in-Dot.result.now (omega arith) c.tile-in-Dot.ensures in
    let y = read_before Dot args front s ready 1 c.tile-in-Dot-2.result.now (omega arith) c.tile-in-Dot-2.ensures in
    let z = last_itself Dot args front s ready 2 refl in
    written_as c.args.kernel Dot c.in-Dot.is args front s _ (dot (operand (arrays slots) 0) (operand (arrays slots) 1) (operand (arrays slots) 2)) refl (
    dot_on_tiles c.tile-in-Dot.result.now c.tile-in-Dot-2.result.now s c.elements-in-Dot.result.now c.elements-in-Dot-2.result.now c.elements_mut-y.result.now c.dot.new.s
    c.elements-in-Dot.ensures.elements c.elements-in-Dot-2.ensures.elements c.elements_mut-y.ensures.elements c.elements-in-Dot.ensures.whole ready.whole c.dot.ensures
    ∙ ap (λ (a : Array). dot a c.tile-in-Dot-2.result.now s) x ∙ ap (λ (a : Array). dot (operand (arrays slots) 0) a s) y ∙ ap (λ (a : Array). dot (operand (arrays slots) 0) (operand (arrays slots) 1) a) (sym z)) refl

pub returns-in-LoadFill : goal.returns-in-LoadFill
returns-in-LoadFill c =
    let args = c.args.args.now in
    let front = c.args.frame.now.slots in
    let y = c.args.last.now in
    let slots = front ++ own y ∷ [] in
    let ready = ready_of c.args.kernel LoadFill c.in-LoadFill.is args front y c.requires.ready in
    let z = last_itself LoadFill args front y ready 0 refl in
    let f0 : FitsSigned w64 (get_or args 0 (pos 0)) = search rules in
    let f1 : FitsSigned w64 (get_or args 1 (pos 0)) = search rules in
    let f2 : FitsSigned w64 (get_or args 2 (pos 0)) = search rules in
    let f3 : FitsSigned w64 (get_or args 3 (pos 0)) = search rules in
    let f4 : FitsSigned w64 (get_or args 4 (pos 0)) = search rules in
    let filled = loadfill (at args 0) (at args 1) (at args 2) (at args 3) (at args 4) in
    written_as c.args.kernel LoadFill c.in-LoadFill.is args front y _ (filled (operand (arrays slots) 0)) refl (
    loadfill_on_tile args y c.elements_mut-y.result.now c.loadfill.new.x c.dims-dims.result c.elements_mut-y.ensures.elements c.dims-dims.ensures.dims ready.whole f0 f1 f2 f3 f4 c.loadfill.ensures
    ∙ ap filled (sym z)) refl

pub returns-in-Paste : goal.returns-in-Paste
returns-in-Paste c =
    let args = c.args.args.now in
    let front = c.args.frame.now.slots in
    let y = c.args.last.now in
    let slots = front ++ own y ∷ [] in
    let ready = ready_of c.args.kernel Paste c.in-Paste.is args front y c.requires.ready in
    let x = read_before Paste args front y ready 0 c.tile-old.result.now (omega arith) c.tile-old.ensures in
    let z = last_itself Paste args front y ready 1 refl in
    written_as c.args.kernel Paste c.in-Paste.is args front y _ (paste (window_of args) (operand (arrays slots) 0) (operand (arrays slots) 1)) refl (
    paste_on_tiles c.of.result (window_of args) c.tile-old.result.now y c.elements-in-Paste.result.now c.elements_mut-y.result.now c.paste.new.new c.dims.result c.dims-dims.result c.of.ensures c.dims.ensures.dims c.elements-in-Paste.ensures.elements c.dims-dims.ensures.dims c.elements_mut-y.ensures.elements ready.whole c.paste.ensures
    ∙ ap (λ (a : Array). paste (window_of args) a y) x ∙ ap (λ (a : Array). paste (window_of args) (operand (arrays slots) 0) a) (sym z)) refl
