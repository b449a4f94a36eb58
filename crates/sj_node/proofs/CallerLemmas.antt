-- What a caller cites that keeps a node's order as a list of cells: the entries' cells, in their order.
use Rattle.std.proofs.Common.{◌≡◌, ℕ, ◌+◌, nat_le, sum_by, arith, Bool, true, false, not, cond, List, [], ◌∷◌, map, filter, Option, Some, None, option_map, refl, sym, ap, ◌∙◌}
use Rattle.std.specs.Bool.{then_some}
use Rattle.std.specs.List.{All, list_any}
use Rattle.std.specs.Option.{option_or}
use Rattle.std.proofs.lemmas.List.Elements.{All-head, All-tail, All-filter}
use Rattle.std.proofs.lemmas.List.Folds.{fold-map}
use Rattle.std.proofs.lemmas.List.Sums.{sum_by-cons}
use Rattle.sj_base.specs.declared.ids.Cell.{Cell}
use Rattle.sj_base.specs.Ids.{same_cell}
use Rattle.sj_node.specs.Entry.{NodeEntry, without_all}
use Rattle.sj_node.specs.Victims.{covers, shortest_suffix, victims}

abbrev pub cells_of : List NodeEntry → List Cell
cells_of = map (λ e. e.cell)

-- a filter by a test of what is shown
pub filter-map : {X Y : Type 0} (f : X → Y) (p : Y → Bool) (xs : List X) → filter p (map f xs) ≡ map f (filter (λ x. p (f x)) xs)
filter-map f p [] = refl
filter-map f p (x ∷ xs) = elim (p (f x)) as (λ b. cond b (f x ∷ filter p (map f xs)) (filter p (map f xs)) ≡ map f (cond b (x ∷ filter (λ y. p (f y)) xs) (filter (λ y. p (f y)) xs))) [
  | true ↦ ap (λ ys. f x ∷ ys) (filter-map f p xs)
  | false ↦ filter-map f p xs
]

pub shortest_suffix-map : {X Y : Type 0} (f : X → Y) (test : List Y → Bool) (xs : List X) → shortest_suffix test (map f xs) ≡ option_map (map f) (shortest_suffix (λ ys. test (map f ys)) xs)
shortest_suffix-map f test [] = elim (test []) as (λ b. then_some b [] ≡ option_map (map f) (then_some b [])) [ true ↦ refl | false ↦ refl ]
shortest_suffix-map {X = X} f test (x ∷ xs) = rw (shortest_suffix-map f test xs) (by_cases (shortest_suffix (λ ys. test (map f ys)) xs) (test (f x ∷ map f xs)))
  where
    by_cases : (o : Option (List X)) (b : Bool) → option_or (option_map (map f) o) (then_some b (f x ∷ map f xs)) ≡ option_map (map f) (option_or o (then_some b (x ∷ xs)))
    by_cases (Some ys) b = refl
    by_cases None true = refl
    by_cases None false = refl

-- ---- the order as a list of cells

pub cells_of-without_all : (vs : List Cell) (es : List NodeEntry) → cells_of (without_all vs es) ≡ filter (λ d. not (list_any (λ v. same_cell v d) vs)) (cells_of es)
cells_of-without_all vs es = sym (filter-map (λ (e : NodeEntry). e.cell) (λ d. not (list_any (λ v. same_cell v d) vs)) es)

-- ---- the victims of an order, where bytes and pins are told by the cell

module _ {X : Type 0} (b c : X → ℕ) (p q : X → Bool) where
  sum_by-agree : (xs : List X) → All (λ x. b x ≡ c x) xs → sum_by b xs ≡ sum_by c xs
  sum_by-agree [] h = refl
  sum_by-agree (x ∷ xs) h =
      let here = All-head (λ y. b y ≡ c y) x xs h in
      let rest = sum_by-agree xs (All-tail (λ y. b y ≡ c y) x xs h) in
      omega (arith, here, rest, sum_by-cons b x xs, sum_by-cons c x xs)

  filter-agree : (xs : List X) → All (λ x. p x ≡ q x) xs → filter p xs ≡ filter q xs
  filter-agree [] h = refl
  filter-agree (x ∷ xs) h = let here : p x ≡ q x = All-head (λ y. p y ≡ q y) x xs h in
      rw (here, filter-agree xs (All-tail (λ y. p y ≡ q y) x xs h))

  suffix-agree : (free need : ℕ) (xs : List X) → All (λ x. b x ≡ c x) xs → shortest_suffix (covers b free need) xs ≡ shortest_suffix (covers c free need) xs
  suffix-agree free need [] h = refl
  suffix-agree free need (x ∷ xs) h = rw (suffix-agree free need xs (All-tail (λ y. b y ≡ c y) x xs h), sum_by-agree (x ∷ xs) h)

  pub victims-agree : (free need : ℕ) (xs : List X) → All (λ x. b x ≡ c x) xs → All (λ x. p x ≡ q x) xs → victims b p xs free need ≡ victims c q xs free need
  victims-agree free need xs same tests = rw (filter-agree xs tests) (suffix-agree free need (filter q xs) (All-filter q (λ x. b x ≡ c x) xs same))

pub victims-map : {X Y : Type 0} (f : X → Y) (b : Y → ℕ) (p : Y → Bool) (xs : List X) (free need : ℕ) → victims b p (map f xs) free need ≡ option_map (map f) (victims (λ x. b (f x)) (λ x. p (f x)) xs free need)
victims-map f b p xs free need =
    ap (shortest_suffix (covers b free need)) (filter-map f p xs)
    ∙ shortest_suffix-map f (covers b free need) (filter (λ x. p (f x)) xs)
    ∙ ap (λ t. option_map (map f) (shortest_suffix t (filter (λ x. p (f x)) xs))) (λ i ys. nat_le need (free + sum_by-map f b ys i))
  where
    sum_by-map : {X Y : Type 0} (f : X → Y) (b : Y → ℕ) (ys : List X) → sum_by b (map f ys) ≡ sum_by (λ x. b (f x)) ys
    sum_by-map f b ys = fold-map (λ a y. a + b y) f 0 ys
