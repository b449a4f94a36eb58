-- Contributions by codelets of one reduction may be exchanged: each combines an array that doesn't depend on the old one.
use Rattle.sj_core.proofs.Words.{[], All, ap, arguments_fit, arith, Array, codelet_of, combined, commutes_of, cond, contributes_of, Dims, dims_fit, DoesContribute, Equations, fits, FitsSigned, Formal, formals_of, init_of, is_output, IsCall, IsReduction, IsTile, Kernel, Least, length, List, list_all, MakesTiles, not, operand, outputs_among, Plus, Reduction, refl, result_of, sym, true, unit_of, UpdateFormal, w64, zeros, ℤ, ◌++◌, ◌∙◌, ◌∷◌, ◌≡◌}
use Rattle.std.proofs.lemmas.{Bool.and_parts, Bool.not-true, List.length-append, List.length-map, List.map-append, List.Elements.All-append, List.Elements.All-cons, List.Elements.All-head, List.Elements.All-nil, List.Elements.All-tail}
use Rattle.sj_codelet.proofs.{NewArrays.fits-parts, NewArrays.operand-tile, NewArrays.zeros-tile, Table.each_dims}
use Rattle.sj_core.proofs.{Swapping.Exchange, Updating.contributing-commutes, Updating.updates-last}

-- ---- what a commuting codelet makes

pub tiles-parts : (before : List Array) (v : Array) → All IsTile (before ++ v ∷ []) → All IsTile before × IsTile v
tiles-parts [] v h = (All-nil IsTile, All-head IsTile v [] h)
tiles-parts (x ∷ before) v h = let rest = tiles-parts before v (All-tail IsTile x (before ++ v ∷ []) h) in (All-cons IsTile x before (All-head IsTile x (before ++ v ∷ []) h) rest.0, rest.1)

-- a call with another array of the same dimensions as its last operand
pub call-with : (k : Kernel) (args : List ℤ) (before : List Array) (v v' : Array) → IsCall k args (before ++ v ∷ []) → IsTile v' → v'.dims ≡ v.dims → IsCall k args (before ++ v' ∷ [])
call-with k args before v v' call tile dims = record {
  fits = ap (fits k args) (ends v' ∙ ap (λ (d : Dims). each_dims before ++ d ∷ []) dims ∙ sym (ends v)) ∙ call.fits;
  tiles = (let parts = tiles-parts before v call.tiles in All-append IsTile before (v' ∷ []) parts.0 (All-cons IsTile v' [] tile (All-nil IsTile)));
}
  where
    ends : (x : Array) → each_dims (before ++ x ∷ []) ≡ each_dims before ++ x.dims ∷ []
    ends x = map-append (λ (a : Array). a.dims) before (x ∷ [])

-- of outputs and inputs it has one output, the last
outputs-last : (fs : List Formal) (ds : List Dims) (d : Dims) → list_all (λ f. not (is_output f)) fs ≡ true → length ds ≡ length fs → outputs_among (fs ++ UpdateFormal ∷ []) (ds ++ d ∷ []) ≡ d ∷ []
outputs-last [] [] d h e = refl
outputs-last [] (x ∷ ds) d h e = absurd (omega arith)
outputs-last (f ∷ fs) [] d h e = absurd (omega arith)
outputs-last (f ∷ fs) (x ∷ ds) d h e =
    let both = and_parts (not (is_output f)) (list_all (λ g. not (is_output g)) fs) h in
    ap (λ b. cond b (x ∷ outputs_among (fs ++ UpdateFormal ∷ []) (ds ++ d ∷ [])) (outputs_among (fs ++ UpdateFormal ∷ []) (ds ++ d ∷ []))) (not-true (is_output f) both.0) ∙ outputs-last fs ds d both.1 (omega arith)

first-dims : (xs : List Array) (d : Dims) → each_dims xs ≡ d ∷ [] → (operand xs 0).dims ≡ d
first-dims [] d e = absurd (let n : 0 ≡ 1 = ap length e in omega arith)
first-dims (x ∷ xs) d e = let f : x.dims ∷ each_dims xs ≡ d ∷ [] = e in cc

-- the result is a tile of the same dimensions
pub record ResultFills (eq : Equations) (k : Kernel) (args : List ℤ) (before : List Array) (v : Array) : Type 0 where
  pub tile : IsTile (result_of eq k args before v)
  pub dims : (result_of eq k args before v).dims ≡ v.dims

pub result-fills : (eq : Equations) (k : Kernel) → MakesTiles eq k → commutes_of k ≡ true → (args : List ℤ) (before : List Array) (v : Array) → All (FitsSigned w64) args → IsCall k args (before ++ v ∷ []) → ResultFills eq k args before v
result-fills eq k makes commutes args before v long call =
    let ins : List Array = before ++ v ∷ [] in
    let last = updates-last k commutes in
    let parts = fits-parts (length (each_dims ins)) (length (formals_of k)) (arguments_fit k args (each_dims ins)) (dims_fit k args (each_dims ins)) call.fits in
    let many : length ins ≡ length (formals_of k) = sym (length-map ins (λ (x : Array). x.dims)) ∙ parts.0 in
    let counts : length before ≡ length last.first = omega (arith, many, ap length last.formals, length-append before (v ∷ []), length-append last.first (UpdateFormal ∷ [])) in
    let made : each_dims (eq (codelet_of k) args ins) ≡ v.dims ∷ [] =
    makes.dims args ins call ∙ ap (λ (fs : List Formal). outputs_among fs (each_dims ins)) last.formals ∙ ap (outputs_among (last.first ++ UpdateFormal ∷ [])) (map-append (λ (a : Array). a.dims) before (v ∷ []))
    ∙ outputs-last last.first (each_dims before) v.dims last.read_only (length-map before (λ (x : Array). x.dims) ∙ counts) in
    record { tile = operand-tile (eq (codelet_of k) args ins) (makes.tiles args ins long call) 0; dims = first-dims (eq (codelet_of k) args ins) v.dims made }

-- ---- reductions

-- the laws of a reduction, and that its unit is a tile
pub record Reduces (eq : Equations) (by : Reduction) : Type 0 where
  pub law : IsReduction eq by
  pub unit : MakesTiles eq (init_of by)

-- init takes an operand of any dimensions
init-call : (by : Reduction) (d : Dims) → IsCall (init_of by) [] (zeros d ∷ [])
init-call by d = record { fits = fit by; tiles = All-cons IsTile (zeros d) [] (zeros-tile d) (All-nil IsTile) }
  where
    fit : (r : Reduction) → fits (init_of r) [] (d ∷ []) ≡ true
    fit Plus = refl
    fit Least = refl

pub unit-fills : (eq : Equations) (by : Reduction) → MakesTiles eq (init_of by) → (d : Dims) → IsTile (unit_of eq by d) × ((unit_of eq by d).dims ≡ d)
unit-fills eq by makes d =
    let made = eq (codelet_of (init_of by)) [] (zeros d ∷ []) in
    (operand-tile made (makes.tiles [] (zeros d ∷ []) (All-nil (FitsSigned w64)) (init-call by d)) 0, first-dims made d (makes.dims [] (zeros d ∷ []) (init-call by d) ∙ one by))
  where
    one : (r : Reduction) → outputs_among (formals_of (init_of r)) (d ∷ []) ≡ d ∷ []
    one Plus = refl
    one Least = refl

-- what a codelet contributes to an array of these dimensions: its result on the unit
abbrev pub contribution : Equations → Reduction → Kernel → List ℤ → List Array → Dims → Array
contribution eq by k args before d = result_of eq k args before (unit_of eq by d)

module _ (eq : Equations) (by : Reduction) (reduces : Reduces eq by) where
  -- two arrays may be combined in either order
  pub combined-swap : (x y v : Array) → IsTile x → IsTile y → IsTile v → x.dims ≡ v.dims → y.dims ≡ v.dims → combined eq by y (combined eq by x v) ≡ combined eq by x (combined eq by y v)
  combined-swap x y v tx ty tv dx dy =
      let law = reduces.law in
      sym (law.associative y x v ty tx tv (dy ∙ sym dx) dx) ∙ ap (λ (u : Array). combined eq by u v) (law.commutative y x ty tx (dy ∙ sym dx)) ∙ law.associative x y v tx ty tv (dx ∙ sym dy) dy

  module _ (k : Kernel) (makes : MakesTiles eq k) (contributes : contributes_of k by ≡ true) (through : DoesContribute eq k by) where
    pub contribution-fills : (args : List ℤ) (before : List Array) (v : Array) → All (FitsSigned w64) args → IsCall k args (before ++ v ∷ []) → IsTile (contribution eq by k args before v.dims) × ((contribution eq by k args before v.dims).dims ≡ v.dims)
    contribution-fills args before v long call =
        let unit = unit-fills eq by reduces.unit v.dims in
        let fills = result-fills eq k makes (contributing-commutes k by contributes) args before (unit_of eq by v.dims) long (call-with k args before v (unit_of eq by v.dims) call unit.0 unit.1) in
        (fills.tile, fills.dims ∙ unit.1)

    -- a run combines its contribution, which the old array's dimensions determine
    pub combines : (args : List ℤ) (before : List Array) (v : Array) (d : Dims) → v.dims ≡ d → IsCall k args (before ++ v ∷ []) → result_of eq k args before v ≡ combined eq by (contribution eq by k args before d) v
    combines args before v d dims call = through.through_unit args before v call ∙ ap (λ (e : Dims). combined eq by (contribution eq by k args before e) v) dims

-- the codelets of two contributions may be exchanged
pub contributing-exchange : (eq : Equations) (by : Reduction) → Reduces eq by → (j k : Kernel) → MakesTiles eq j → MakesTiles eq k → contributes_of j by ≡ true → contributes_of k by ≡ true → DoesContribute eq j by → DoesContribute eq k by → Exchange eq j k
contributing-exchange eq by law j k mj mk cj ck through through' args args' before before' v long long' call call' =
    let tv : IsTile v = (tiles-parts before v call.tiles).1 in
    let x = contribution eq by j args before v.dims in
    let y = contribution eq by k args' before' v.dims in
    let fx = contribution-fills eq by law j mj cj through args before v long call in
    let fy = contribution-fills eq by law k mk ck through' args' before' v long' call' in
    let r = result-fills eq j mj (contributing-commutes j by cj) args before v long call in
    let r' = result-fills eq k mk (contributing-commutes k by ck) args' before' v long' call' in
    combines eq by law k mk ck through' args' before' (result_of eq j args before v) v.dims r.dims (call-with k args' before' v (result_of eq j args before v) call' r.tile r.dims)
    ∙ ap (combined eq by y) (combines eq by law j mj cj through args before v v.dims refl call)
    ∙ combined-swap eq by law x y v fx.0 fy.0 tv fx.1 fy.1
    ∙ ap (combined eq by x) (sym (combines eq by law k mk ck through' args' before' v v.dims refl call'))
    ∙ sym (combines eq by law j mj cj through args before (result_of eq k args' before' v) v.dims r'.dims (call-with j args before v (result_of eq k args' before' v) call r'.tile r'.dims))
