use Rattle.std.proofs.Common.{ℕ, ℤ, ◌*◌, ◌<◌, ◌≡◌, pos, List, [], ◌∷◌, ◌++◌, length, get_or, replicate, refl, sym, ap, ◌∙◌, arith}
use Rattle.std.proofs.lemmas.Bool.Decides.{nat_tests}
use Rattle.std.proofs.lemmas.List.{length-append, append_assoc, get_or_append_left}
use Rattle.sj_base.specs.Lending.{written_over}
use Rattle.sj_base.specs.declared.tile.Dims.{Dims}
use Rattle.sj_base.specs.Array.{Array}
use Rattle.sj_codelet.specs.declared.kernel.Kernel.TheVariants.{GemmThree}
use Rattle.sj_codelet.specs.declared.formal.Formal.TheVariants.{R, RW, Scratch}
use Rattle.sj_codelet.specs.Frame.{Slot, Frame, own, arrays, all_dims, written_arrays, AllKeep}
use Rattle.sj_codelet.specs.Kernel.{new_arrays, operand, dims_at}
use Rattle.sj_codelet.specs.Runs.{IsReadyOf, IsRunOf}
use Rattle.sj_codelet.specs.Equations.{gemm3}
use Rattle.sj_codelet.proofs.Operands.{operands_are, dims_go, dims_at-all_dims, ready_before, ready_at, ends_owned_from_ready, tile_is, last_is, operand_shift}
use Rattle.sj_kernels.proofs.Tiles.{gemm3_on_tiles}
use Rattle.sj_kernels.proofs.runs.run_gemm3.Goals as goal

ran_three : (before : List Slot) (t u y z : Array) → length before ≡ 3 → u.dims ≡ t.dims → z.dims ≡ y.dims
    → (written_arrays (R ∷ R ∷ R ∷ Scratch ∷ RW ∷ []) ((before ++ own u ∷ []) ++ own z ∷ []) ≡ z ∷ []) × AllKeep (R ∷ R ∷ R ∷ Scratch ∷ RW ∷ []) ((before ++ own t ∷ []) ++ own y ∷ []) ((before ++ own u ∷ []) ++ own z ∷ [])
ran_three [] t u y z l du dz = absurd (omega arith)
ran_three (a ∷ []) t u y z l du dz = absurd (omega arith)
ran_three (a ∷ b ∷ []) t u y z l du dz = absurd (omega arith)
ran_three (a ∷ b ∷ d ∷ []) t u y z l du dz = (refl, (refl, (refl, (refl, ((refl, du), ((refl, dz), tt))))))
ran_three (a ∷ b ∷ d ∷ e ∷ before) t u y z l du dz = absurd (omega arith)

-- a run that writes the scratch operand and the last one
ran_with_scratch : (args : List ℤ) (old new : Frame) (before : List Slot) (t u y z : Array) → IsReadyOf GemmThree args old.slots
    → old.slots ≡ (before ++ own t ∷ []) ++ own y ∷ [] → new.slots ≡ (before ++ own u ∷ []) ++ own z ∷ []
    → new.spare ≡ old.spare → u.dims ≡ t.dims → z.dims ≡ y.dims → new_arrays GemmThree args (arrays old.slots) ≡ z ∷ [] → IsRunOf GemmThree args old new
ran_with_scratch args old new before t u y z ready e e' r du dz o =
    let n = operands_are GemmThree args old.slots ready in
    let m = length-append (before ++ own t ∷ []) (own y ∷ []) in
    let k = length-append before (own t ∷ []) in
    let both = ran_three before t u y z (omega (arith, ap length e)) du dz in
    record {
      written = ap (written_arrays (R ∷ R ∷ R ∷ Scratch ∷ RW ∷ [])) e' ∙ both.0 ∙ sym o;
      kept = rw (e, e') both.1;
      room = r;
    }

gemm3_dims : (args : List ℤ) (slots : List Slot) → IsReadyOf GemmThree args slots
    → ((operand (arrays slots) 3).dims.rows ≡ (operand (arrays slots) 4).dims.rows) × ((operand (arrays slots) 3).dims.cols ≡ (operand (arrays slots) 1).dims.cols) × ((operand (arrays slots) 2).dims.cols ≡ (operand (arrays slots) 4).dims.cols)
gemm3_dims args slots ready =
    let ds = all_dims slots in
    let go = dims_go GemmThree args slots ready in
    let rows : (dims_at ds 3).rows ≡ (dims_at ds 4).rows = grind (arith, nat_tests) in
    let inner : (dims_at ds 1).cols ≡ (dims_at ds 3).cols = grind (arith, nat_tests) in
    let cols : (dims_at ds 2).cols ≡ (dims_at ds 4).cols = grind (arith, nat_tests) in
    let at' = dims_at-all_dims slots in
    let r = λ (d : Dims). d.rows in
    let k = λ (d : Dims). d.cols in
    (sym (ap r (at' 3)) ∙ rows ∙ ap r (at' 4), sym (ap k (at' 3)) ∙ sym inner ∙ ap k (at' 1), sym (ap k (at' 2)) ∙ cols ∙ ap k (at' 4))

count_front : (slots before front : List Slot) (s t : Slot) → length slots ≡ 5 → slots ≡ before ++ s ∷ [] → before ≡ front ++ t ∷ [] → (length before ≡ 4) × (length front ≡ 3)
count_front slots before front s t n e f =
    let a = length-append before (s ∷ []) in
    let b = length-append front (t ∷ []) in
    let long = ap length e in
    let mid = ap length f in
    (omega arith, omega arith)

front_read : (before front : List Slot) (t : Slot) (i : ℕ) (a : Array) → before ≡ front ++ t ∷ [] → i < length front → a ≡ (get_or front i (own a)).array → a ≡ (get_or before i (own a)).array
front_read before front t i a f l e =
    e ∙ ap (λ (s : Slot). s.array) (sym (get_or_append_left front (t ∷ []) (own a) i l)) ∙ ap (λ (xs : List Slot). (get_or xs i (own a)).array) (sym f)

pub take_own-t-requires : goal.take_own-t-requires
take_own-t-requires c =
    let slots = c.args.frame.now.slots in
    let before = c.take_own-c.new.self.slots in
    let y = c.take_own-c.result in
    let e = c.take_own-c.ensures.slots in
    let n = operands_are GemmThree c.args._args.now slots c.requires in
    let l : length before ≡ 4 = omega (arith, ap length e, length-append before (own y ∷ [])) in
    let ready = rw e at c.requires.ready in
    let fs = R ∷ R ∷ R ∷ Scratch ∷ [] in
    ends_owned_from_ready fs before refl l (ready_before fs (RW ∷ []) before (own y ∷ []) l ready)

pub gemm3-requires-clause-scratch : goal.gemm3-requires-clause-scratch
gemm3-requires-clause-scratch c =
    let slots = c.args.frame.now.slots in
    let args = c.args._args.now in
    let before = c.take_own-c.new.self.slots in
    let front = c.take_own-t.new.self.slots in
    let y = c.take_own-c.result in
    let t = c.take_own-t.result in
    let e = c.take_own-c.ensures.slots in
    let f = c.take_own-t.ensures.slots in
    let n = count_front slots before front (own y) (own t) (operands_are GemmThree args slots c.requires) e f in
    let whole : slots ≡ front ++ own t ∷ (own y ∷ []) = e ∙ ap (λ (xs : List Slot). xs ++ own y ∷ []) f ∙ append_assoc front (own t ∷ []) (own y ∷ []) in
    let ready = ready_at (R ∷ R ∷ R ∷ []) (RW ∷ []) Scratch front (own y ∷ []) (own t) n.1 (rw whole at c.requires.ready) in
    let d = gemm3_dims args slots c.requires in
    let et : operand (arrays slots) 3 ≡ t = sym (operand_shift slots before (own y) 3 e (omega arith)) ∙ last_is before front (own t) 3 f n.1 in
    let ey = last_is slots before (own y) 4 e n.0 in
    let eb = tile_is slots before (own y) 1 c.tile-b.result.now e (omega arith) (front_read before front (own t) 1 c.tile-b.result.now f (omega arith) c.tile-b.ensures) in
    let rows : c.dims-dims.result.rows ≡ t.dims.rows = ap (λ (q : Dims). q.rows) c.dims-dims.ensures.dims ∙ ap (λ (a : Array). a.dims.rows) (sym ey) ∙ sym d.0 ∙ ap (λ (a : Array). a.dims.rows) et in
    let cols : c.dims-2.result.cols ≡ t.dims.cols = ap (λ (q : Dims). q.cols) c.dims-2.ensures.dims ∙ ap (λ (a : Array). a.dims.cols) eb ∙ sym d.1 ∙ ap (λ (a : Array). a.dims.cols) et in
    c.elements_mut.ensures.elements ∙ ap (λ (a : Array). a.elements) ready.1
    ∙ ap (λ (k : ℕ). replicate (k * t.dims.cols) (pos 0)) (sym rows) ∙ ap (λ (k : ℕ). replicate (c.dims-dims.result.rows * k) (pos 0)) (sym cols)

pub returns : goal.returns
returns c =
    let slots = c.args.frame.now.slots in
    let args = c.args._args.now in
    let before = c.take_own-c.new.self.slots in
    let front = c.take_own-t.new.self.slots in
    let y = c.take_own-c.result in
    let t = c.take_own-t.result in
    let e = c.take_own-c.ensures.slots in
    let f = c.take_own-t.ensures.slots in
    let n = count_front slots before front (own y) (own t) (operands_are GemmThree args slots c.requires) e f in
    let whole : slots ≡ (front ++ own t ∷ []) ++ own y ∷ [] = e ∙ ap (λ (xs : List Slot). xs ++ own y ∷ []) f in
    let d = gemm3_dims args slots c.requires in
    let ey = last_is slots before (own y) 4 e n.0 in
    let ea = tile_is slots before (own y) 0 c.tile-a.result.now e (omega arith) (front_read before front (own t) 0 c.tile-a.result.now f (omega arith) c.tile-a.ensures) in
    let eb = tile_is slots before (own y) 1 c.tile-b.result.now e (omega arith) (front_read before front (own t) 1 c.tile-b.result.now f (omega arith) c.tile-b.ensures) in
    let ed = tile_is slots before (own y) 2 c.tile-d.result.now e (omega arith) (front_read before front (own t) 2 c.tile-d.result.now f (omega arith) c.tile-d.ensures) in
    let rows = ap (λ (q : Dims). q.rows) c.dims-dims.ensures.dims in
    let cols = ap (λ (q : Dims). q.cols) c.dims-dims.ensures.dims in
    let inner = ap (λ (q : Dims). q.cols) c.dims.ensures.dims in
    let middle = ap (λ (q : Dims). q.cols) c.dims-2.ensures.dims in
    let last = ap (λ (a : Array). a.dims.cols) ed ∙ d.2 ∙ ap (λ (a : Array). a.dims.cols) ey in
    ran_with_scratch args c.args.frame.now c.push_own-2.new.self front t _ y _ c.requires whole (c.push_own-2.ensures.slots ∙ ap (λ (xs : List Slot). xs ++ own (written_over y c.gemm3.new.c) ∷ []) c.push_own.ensures.slots) (omega arith) refl refl
    (sym (ap (λ (a : Array). a ∷ []) (
    gemm3_on_tiles c.dims-dims.result.rows c.dims.result.cols c.dims-2.result.cols c.dims-dims.result.cols c.tile-a.result.now c.tile-b.result.now c.tile-d.result.now y
    c.elements.result.now c.elements-2.result.now c.elements-3.result.now c.elements_mut-2.result.now c.gemm3.new.c
    c.elements.ensures.elements c.elements-2.ensures.elements c.elements-3.ensures.elements c.elements_mut-2.ensures.elements
    rows inner middle cols last c.take_own-c.ensures.whole c.gemm3.ensures
    ∙ ap (λ (a : Array). gemm3 a c.tile-b.result.now c.tile-d.result.now y) ea
    ∙ ap (λ (a : Array). gemm3 (operand (arrays slots) 0) a c.tile-d.result.now y) eb
    ∙ ap (λ (a : Array). gemm3 (operand (arrays slots) 0) (operand (arrays slots) 1) a y) ed
    ∙ ap (λ (a : Array). gemm3 (operand (arrays slots) 0) (operand (arrays slots) 1) (operand (arrays slots) 2) a) (sym ey))))
