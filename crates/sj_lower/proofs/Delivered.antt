-- Deliveries follow the print statements.
use Rattle.sj_lower.proofs.Words.{[], a_delivery, AllByRecursion, AllPairs, ap, area, arith, Array, Assemble, Bool, Cell, cell_of, Cells, child, children_of, cond, Contents, count_by, data_operands, Deliver, deliver_row, Delivery, each_of, false, filter, gathered, get_or, given, held_before, held_in, info_of, inl, inr, is_valued, IsPermutation, IsPlace, IsWhole, JobState, kernel_of, length, length-append, Line, List, Lowered, Lowering, nat_eq, None, nothing, number, out, part_of, Parts, places, pos, Printed, printed_as, Program, Rect, refl, Root, root_array, root_of, RootState, same_child_place, slice_get, Some, subst, suc, sym, Table, task, task_of, true, window, Within, worked_on, zero, zeros, ℕ, ◌*◌, ◌++◌, ◌+◌, ◌-◌, ◌<◌, ◌∙◌, ◌∷◌, ◌≡◌, ◌≤◌, ◌⊎◌}
use Rattle.std.specs.List.{All}
use Rattle.std.proofs.lemmas.{Bool.cases_lt, Bool.eq-eqb, Bool.false≢true, Bool.ne_eqb, List.append-nil, List.length-map, List.length-replicate, List.Elements.All-append, List.Elements.All-from_recursion, List.Elements.All-nil, List.Elements.All-weaker, List.Elements.filter-append, List.Elements.recursion_from_All, List.Sorted.All-permutation, List.Sorted.IsPermutation-map, List.Sums.sum_by-append, List.Sums.sum_by-cons, Option.slice_get_within, Simd.map-map}
use Rattle.sj_base.proofs.Numbers.{none_more, one_more, positive_product}
use Rattle.sj_plan.proofs.{Gathering.tiling-reassembles, Lists.count_by-map, Lists.count_places, Lists.each-all, Lists.each-map, Lists.each-of, Lists.each-places, Lists.filter_all, Lists.filter_gone, Lists.ordered-append, Lists.ordered-from_pairs, Lists.pairs-from_ordered, Repartitioning.child-within, Repartitioning.same_child_place-law, Repartitioning.same_child_place-refl, Tiling.children_of-tiling}
use Rattle.sj_job.proofs.Children.{number-alone}
use Rattle.sj_lower.proofs.{Combined.denoted-closed, Combined.IsTrusted, Combined.Phases, Contents.contents-next, Contents.contents_before, Contents.first_worker, Elements.child-window, Elements.valued-child, Filling.after_deliver, Folding.after_row-is, Folding.Stand, Holding.HasRoot, Places.length-places, Places.number-below, Places.number-place_at, Places.place_at, Places.place_at-inside, Places.places-at, Places.places-by_number}

-- ---- lists

map-same : {X Y : Type 0} (f g : X → Y) (xs : List X) → AllByRecursion (λ x. f x ≡ g x) xs → each_of f xs ≡ each_of g xs
map-same f g [] h = refl
map-same f g (x ∷ xs) h = ap (λ y. y ∷ each_of f xs) h.0 ∙ ap (λ ys. g x ∷ ys) (map-same f g xs h.1)

count-same : {X : Type 0} (f g : X → Bool) (xs : List X) → AllByRecursion (λ x. f x ≡ g x) xs → count_by f xs ≡ count_by g xs
count-same f g [] h = refl
count-same f g (x ∷ xs) h = sum_by-cons (λ y. cond (f y) 1 0) x xs ∙ (λ i. cond (h.0 i) 1 0 + count-same f g xs h.1 i) ∙ sym (sum_by-cons (λ y. cond (g y) 1 0) x xs)

count-none : {X : Type 0} (f : X → Bool) (xs : List X) → AllByRecursion (λ x. f x ≡ false) xs → count_by f xs ≡ 0
count-none f [] h = refl
count-none f (x ∷ xs) h = sum_by-cons (λ y. cond (f y) 1 0) x xs ∙ (λ i. cond (h.0 i) 1 0 + count-none f xs h.1 i)

pub slice-push : {X : Type 0} (xs : List X) (x y : X) (k : ℕ) → slice_get (xs ++ x ∷ []) k ≡ Some y → (slice_get xs k ≡ Some y) ⊎ ((k ≡ length xs) × (x ≡ y))
slice-push [] x y zero e = inr (refl, cc)
slice-push [] x y (suc k) e = absurd (cc)
slice-push (z ∷ xs) x y zero e = inl e
slice-push (z ∷ xs) x y (suc k) e = elim (slice-push xs x y k e) [
  | inl old ↦ inl old
  | inr new ↦ inr (omega (arith, new.0), new.1)
]

pairs-append : {X : Type 0} (R : X → X → Type 0) (xs ys : List X) → AllPairs R xs → AllPairs R ys → AllByRecursion (λ x. AllByRecursion (R x) ys) xs → AllPairs R (xs ++ ys)
pairs-append R xs ys a b across = pairs-from_ordered R (xs ++ ys) (ordered-append R xs ys (ordered-from_pairs R xs a) (ordered-from_pairs R ys b) across)

-- ---- what is delivered

-- deliveries hand over the pieces of what a print statement finds
pub record AreHanded (T : Table) (p : Program) (ds : List Delivery) (x : Printed) : Type 0 where
  pub some : 0 < length ds
  pub named : All (λ (d : Delivery). printed_as T d.root ≡ (x.name, x.kind)) ds
  pub dims : All (λ (d : Delivery). (info_of T d.root).dims ≡ x.array.dims) ds
  pub within : IsTrusted p → All (λ (d : Delivery). Within (part_of p d).0 x.array.dims) ds
  pub array : IsTrusted p → Assemble p ds x.array

-- the deliveries of print statement k
abbrev pub of_print : ℕ → List Delivery → List Delivery
of_print k ds = filter (λ d. nat_eq d.print k) ds

abbrev pub Delivers : Program → ℕ → Type 0
Delivers p n = kernel_of (task_of p (task n)).codelet ≡ Some Deliver

pub record AreDelivered (T : Table) (p : Program) (L : Lowering) (xs : List Printed) : Type 0 where
  pub each : (k : ℕ) (x : Printed) → slice_get xs k ≡ Some x → AreHanded T p (of_print k L.deliveries) x
  pub counted : L.prints ≡ length xs
  pub printed : All (λ (d : Delivery). d.print < length xs) L.deliveries
  pub in_order : AllPairs (λ (d e : Delivery). d.print ≤ e.print) L.deliveries
  pub rooted : All (λ (d : Delivery). d.root.0 < length T.names) L.deliveries
  pub below : All (λ (d : Delivery). d.task.0 < length L.tasks) L.deliveries
  pub ascending : AllPairs (λ (d e : Delivery). d.task.0 < e.task.0) L.deliveries
  pub delivers : All (λ (d : Delivery). Delivers p d.task.0) L.deliveries
  pub once : (n : ℕ) → n < length L.tasks → Delivers p n → count_by (λ (d : Delivery). nat_eq d.task.0 n) L.deliveries ≡ 1

none_pair : {X : Type 0} (R : X → X → Type 0) → AllPairs R []
none_pair R i j d h k = absurd (omega arith)

pub delivered_none : (T : Table) (p : Program) → AreDelivered T p nothing []
delivered_none T p = record {
  each = λ k x e. absurd (nothing_there k x e);
  counted = refl;
  printed = All-nil (λ (d : Delivery). d.print < 0);
  in_order = none_pair (λ (d e : Delivery). d.print ≤ e.print);
  rooted = All-nil (λ (d : Delivery). d.root.0 < length T.names);
  below = All-nil (λ (d : Delivery). d.task.0 < 0);
  ascending = none_pair (λ (d e : Delivery). d.task.0 < e.task.0);
  delivers = All-nil (λ (d : Delivery). Delivers p d.task.0);
  once = λ n h e. absurd (omega arith);
}
  where
    nothing_there : (k : ℕ) (x : Printed) → slice_get {X = Printed} [] k ≡ Some x → ⊥
    nothing_there k x e = let h = slice_get_within {A = Printed} [] k x e in omega arith

-- ---- tasks that don't deliver

abbrev pub NoneDelivers : List Lowered → Type 0
NoneDelivers ls = AllByRecursion (λ l. kernel_of l.codelet ≡ Some Deliver → ⊥) ls

not_among : (p : Program) (n m : ℕ) (ls : List Lowered) → Stand p n ls → NoneDelivers ls → n ≤ m → m < n + length ls → Delivers p m → ⊥
not_among p n m [] s other lo hi e = omega arith
not_among p n m (l ∷ ls) s other lo hi e =
    elim (cases_lt n m) [
      | inl later ↦ not_among p (n + 1) m ls s.2 other.1 (omega arith) (omega arith) e
      | inr past ↦ (let here : n ≡ m = omega arith in other.0 (ap (λ (k : Lowered). kernel_of k.codelet) (sym s.0) ∙ ap (λ i. kernel_of (task_of p (task i)).codelet) here ∙ e))
    ]

pub delivered_beside : (T : Table) (p : Program) (L M : Lowering) (xs : List Printed) (ls : List Lowered) → M.deliveries ≡ L.deliveries → M.prints ≡ L.prints → M.tasks ≡ L.tasks ++ ls → Stand p (length L.tasks) ls → NoneDelivers ls → AreDelivered T p L xs → AreDelivered T p M xs
delivered_beside T p L M xs ls ed ep et s other g = record {
  each = λ k x e. subst (λ (ds : List Delivery). AreHanded T p (of_print k ds) x) (sym ed) (g.each k x e);
  counted = ep ∙ g.counted;
  printed = subst (λ (ds : List Delivery). All (λ (d : Delivery). d.print < length xs) ds) (sym ed) g.printed;
  in_order = subst (λ (ds : List Delivery). AllPairs (λ (d e : Delivery). d.print ≤ e.print) ds) (sym ed) g.in_order;
  rooted = subst (λ (ds : List Delivery). All (λ (d : Delivery). d.root.0 < length T.names) ds) (sym ed) g.rooted;
  below = subst (λ (ds : List Delivery). All (λ (d : Delivery). d.task.0 < length M.tasks) ds) (sym ed) (All-weaker (λ (d : Delivery). d.task.0 < length L.tasks) (λ (d : Delivery). d.task.0 < length M.tasks) (λ d h. omega (arith, longer)) L.deliveries g.below);
  ascending = subst (λ (ds : List Delivery). AllPairs (λ (d e : Delivery). d.task.0 < e.task.0) ds) (sym ed) g.ascending;
  delivers = subst (λ (ds : List Delivery). All (λ (d : Delivery). Delivers p d.task.0) ds) (sym ed) g.delivers;
  once = λ n h e. ap (count_by (λ (d : Delivery). nat_eq d.task.0 n)) ed ∙ one n h e;
}
  where
    longer : length M.tasks ≡ length L.tasks + length ls
    longer = ap length et ∙ length-append L.tasks ls

    one : (n : ℕ) → n < length M.tasks → Delivers p n → count_by (λ (d : Delivery). nat_eq d.task.0 n) L.deliveries ≡ 1
    one n h e =
        elim (cases_lt n (length L.tasks)) [
          | inl inside ↦ g.once n inside e
          | inr past ↦ absurd (not_among p (length L.tasks) n ls s other past (omega (arith, longer)) e)
        ]

-- ---- the deliveries of one print statement

-- a task among those that hand over
delivers_there : (p : Program) (n i : ℕ) (cell : ℕ × ℕ → Cell) (line : Line) (ps : List (ℕ × ℕ)) → Stand p n (each_of (λ place. deliver_row (cell place) line) ps) → i < length ps → task_of p (task (n + i)) ≡ deliver_row (cell (get_or ps i (0, 0))) line
delivers_there p n i cell line [] s h = absurd (omega arith)
delivers_there p n zero cell line (q ∷ qs) s h = ap (λ m. task_of p (task m)) (none_more n) ∙ s.0
delivers_there p n (suc i) cell line (q ∷ qs) s h = ap (λ m. task_of p (task m)) (one_more n i) ∙ delivers_there p (n + 1) i cell line qs s.2 (omega arith)

-- they change nothing
delivers_keep : (p : Program) (n i : ℕ) (cell : ℕ × ℕ → Cell) (line : Line) (ps : List (ℕ × ℕ)) → Stand p n (each_of (λ place. deliver_row (cell place) line) ps) → i ≤ length ps → contents_before p (n + i) ≡ contents_before p n
delivers_keep p n zero cell line ps s h = ap (contents_before p) (none_more n)
delivers_keep p n (suc i) cell line [] s h = absurd (omega arith)
delivers_keep p n (suc i) cell line (q ∷ qs) s h =
    ap (contents_before p) (one_more n i) ∙ delivers_keep p (n + 1) i cell line qs s.2 (omega arith)
    ∙ contents-next p n (n + 1) refl ∙ after_row-is p n (contents_before p n) (deliver_row (cell q) line) s.0 ∙ after_deliver p (contents_before p n) (cell q) line

given_there : (p : Program) (m : ℕ) (c : Cell) (line : Line) → task_of p (task m) ≡ deliver_row c line → given out p (task m) ≡ held_in p (contents_before p m) c
given_there p m c line e = ap (λ (l : Lowered). held_before out p m (get_or (each_of (worked_on p first_worker) (data_operands l)) 0 (record { 0 = 0 }))) e

at_child : (s : Parts) (place : ℕ × ℕ) → IsPlace s place → get_or (places s) (number s place) (0, 0) ≡ place
at_child s place h =
    ap (λ ps. get_or ps (number s place) (0, 0)) (sym (map_same (places s))) ∙ places-at (λ q. q) s place (0, 0) h
  where
    map_same : (ps : List (ℕ × ℕ)) → each_of (λ q. q) ps ≡ ps
    map_same [] = refl
    map_same (q ∷ qs) = ap (λ xs. q ∷ xs) (map_same qs)

many : (s : Parts) → length (places s) ≡ s.r * s.c
many s = sym (length-map (places s) (λ q. q)) ∙ length-places (λ q. q) s

-- what holds where the tasks of a print statement stand
pub record Stands (p : Program) (C : Cells) (phases : Phases) (S : JobState) (name : List ℕ) (r : RootState) (n : ℕ) (line : Line) : Type 0 where
  pub valued : is_valued r ≡ true
  pub is_root : root_of S name ≡ Some r
  pub has : HasRoot p C phases n (contents_before p n) name r
  pub shut : (place : ℕ × ℕ) → IsPlace r.parts place → phases (cell_of C name r.parts place) ≡ None
  pub stand : Stand p n (each_of (λ place. deliver_row (cell_of C name r.parts place) line) (places r.parts))

child_task : (p : Program) (C : Cells) (phases : Phases) (S : JobState) (name : List ℕ) (r : RootState) (n : ℕ) (line : Line) (place : ℕ × ℕ) → Stands p C phases S name r n line → IsPlace r.parts place → task_of p (task (n + number r.parts place)) ≡ deliver_row (cell_of C name r.parts place) line
child_task p C phases S name r n line place t h =
    delivers_there p n (number r.parts place) (cell_of C name r.parts) line (places r.parts) t.stand (omega (arith, number-below r.parts place h, many r.parts))
    ∙ ap (λ q. deliver_row (cell_of C name r.parts q) line) (at_child r.parts place h)

-- a child's task hands over its window
child_given : (p : Program) (C : Cells) (phases : Phases) (S : JobState) (name : List ℕ) (r : RootState) (n : ℕ) (line : Line) (place : ℕ × ℕ) → IsTrusted p → Stands p C phases S name r n line → IsPlace r.parts place → given out p (task (n + number r.parts place)) ≡ window (root_array r) (child r.dims r.parts place)
child_given p C phases S name r n line place trust t h =
    given_there p (n + number r.parts place) (cell_of C name r.parts place) line (child_task p C phases S name r n line place t h)
    ∙ ap (λ (k : Contents). held_in p k (cell_of C name r.parts place)) (delivers_keep p n (number r.parts place) (cell_of C name r.parts) line (places r.parts) t.stand (omega (arith, number-below r.parts place h, many r.parts)))
    ∙ sym (denoted-closed p phases (contents_before p n) (cell_of C name r.parts place) (t.shut place h)) ∙ (t.has.held place h (valued-child r place t.has.whole t.valued h)).value trust ∙ child-window r place

abbrev piece_of : RootState → ℕ × ℕ → Rect × Array
piece_of r place = (child r.dims r.parts place, window (root_array r) (child r.dims r.parts place))

abbrev IsPiece : RootState → Rect × Array → Type 0
IsPiece r part = part.1 ≡ window (root_array r) part.0

child_part : (p : Program) (C : Cells) (phases : Phases) (S : JobState) (name : List ℕ) (r : RootState) (n : ℕ) (line : Line) (root : Root) (print : ℕ) (place : ℕ × ℕ) → IsTrusted p → Stands p C phases S name r n line → IsPlace r.parts place → part_of p (a_delivery n root r.dims r.parts print place) ≡ piece_of r place
child_part p C phases S name r n line root print place trust t h =
    let c = child r.dims r.parts place in
    let part : Array → Rect × Array = λ a. (record { row = c.row; col = c.col; rows = a.dims.rows; cols = a.dims.cols }, a) in
    ap part (child_given p C phases S name r n line place trust t h)

abbrev pub deliveries_by : RootState → ℕ → Root → ℕ → List Delivery
deliveries_by r n root print = each_of (a_delivery n root r.dims r.parts print) (places r.parts)

all_places : (P : Delivery → Type 0) (r : RootState) (n : ℕ) (root : Root) (print : ℕ) → ((place : ℕ × ℕ) → IsPlace r.parts place → P (a_delivery n root r.dims r.parts print place)) → AllByRecursion P (deliveries_by r n root print)
all_places P r n root print h = each-map P (a_delivery n root r.dims r.parts print) (places r.parts) (each-places (λ place. P (a_delivery n root r.dims r.parts print place)) r.parts h)

whole_array : (p : Program) (C : Cells) (phases : Phases) (n : ℕ) (k : Contents) (name : List ℕ) (r : RootState) → HasRoot p C phases n k name r → IsWhole (root_array r)
whole_array p C phases n k name r h = length-map r.elements _ ∙ h.whole

-- the deliveries hand over what the print statement finds
pub handed : (T : Table) (p : Program) (C : Cells) (phases : Phases) (S : JobState) (name : List ℕ) (r : RootState) (n : ℕ) (line : Line) (root : Root) (print : ℕ) → Stands p C phases S name r n line → printed_as T root ≡ (name, r.kind) → (info_of T root).dims ≡ r.dims
    → AreHanded T p (deliveries_by r n root print) (record { name = name; kind = r.kind; array = root_array r })
handed T p C phases S name r n line root print t named dims = record {
  some = let e = length-places (a_delivery n root r.dims r.parts print) r.parts in omega (arith, e, positive_product r.parts.r r.parts.c t.has.fits.some_rows t.has.fits.some_cols);
  named = All-from_recursion (λ (d : Delivery). printed_as T d.root ≡ (name, r.kind)) (deliveries_by r n root print) (all_places (λ (d : Delivery). printed_as T d.root ≡ (name, r.kind)) r n root print (λ place h. named));
  dims = All-from_recursion (λ (d : Delivery). (info_of T d.root).dims ≡ r.dims) (deliveries_by r n root print) (all_places (λ (d : Delivery). (info_of T d.root).dims ≡ r.dims) r n root print (λ place h. dims));
  within = λ trust. All-from_recursion (λ (d : Delivery). Within (part_of p d).0 r.dims) (deliveries_by r n root print) (all_places (λ (d : Delivery). Within (part_of p d).0 r.dims) r n root print (λ place h.
      subst (λ (x : Rect × Array). Within x.0 r.dims) (sym (child_part p C phases S name r n line root print place trust t h)) (child-within r.dims r.parts place h)));
  array = λ trust parts order. assembled parts (subst (λ (xs : List (Rect × Array)). IsPermutation xs parts) (pieces trust) order);
}
  where
    pieces : IsTrusted p → each_of (part_of p) (deliveries_by r n root print) ≡ each_of (piece_of r) (places r.parts)
    pieces trust = map-map (part_of p) (a_delivery n root r.dims r.parts print) (places r.parts)
        ∙ map-same (λ place. part_of p (a_delivery n root r.dims r.parts print place)) (piece_of r) (places r.parts) (each-places (λ place. part_of p (a_delivery n root r.dims r.parts print place) ≡ piece_of r place) r.parts (λ place h. child_part p C phases S name r n line root print place trust t h))

    assembled : (parts : List (Rect × Array)) → IsPermutation (each_of (piece_of r) (places r.parts)) parts → gathered (zeros r.dims) parts ≡ root_array r
    assembled parts order =
        tiling-reassembles r.dims (children_of r.dims r.parts) (children_of-tiling r.dims r.parts t.has.fits) (root_array r) (zeros r.dims) parts refl (whole_array p C phases n (contents_before p n) name r t.has) refl (length-replicate (area r.dims) (pos 0))
        (subst (λ (xs : List Rect). IsPermutation xs (each_of (λ (part : Rect × Array). part.0) parts)) (map-map (λ (part : Rect × Array). part.0) (piece_of r) (places r.parts)) (IsPermutation-map (λ (part : Rect × Array). part.0) (each_of (piece_of r) (places r.parts)) parts order))
        (All-permutation (IsPiece r) (each_of (piece_of r) (places r.parts)) parts order (All-from_recursion (IsPiece r) (each_of (piece_of r) (places r.parts)) (each-map (IsPiece r) (piece_of r) (places r.parts) (each-of (λ place. IsPiece r (piece_of r place)) (λ place. refl) (places r.parts)))))

-- ---- a print

-- a child's task has its number
one_task : (s : Parts) (n m : ℕ) → n ≤ m → m < n + s.r * s.c → count_by (λ (place : ℕ × ℕ). nat_eq (n + number s place) m) (places s) ≡ 1
one_task s n m lo hi =
    let q = place_at s (m - n) in
    let inside = place_at-inside s (m - n) (omega arith) in
    count-same (λ (place : ℕ × ℕ). nat_eq (n + number s place) m) (same_child_place q) (places s) (each-places (λ place. nat_eq (n + number s place) m ≡ same_child_place q place) s (λ place h. by_test place h (same_child_place q place) refl))
    ∙ count_places s q inside
  where
    here : n + number s (place_at s (m - n)) ≡ m
    here = ap (λ k. n + k) (number-place_at s (m - n)) ∙ omega arith

    by_test : (place : ℕ × ℕ) → IsPlace s place → (b : Bool) → same_child_place (place_at s (m - n)) place ≡ b → nat_eq (n + number s place) m ≡ b
    by_test place h true e = eq-eqb (n + number s place) m (ap (λ q. n + number s q) (sym (same_child_place-law (place_at s (m - n)) place e)) ∙ here)
    by_test place h false e = ne_eqb (n + number s place) m (λ same.
        let one : number s place ≡ number s (place_at s (m - n)) = omega (arith, same, here) in
        let is = number-alone s place (place_at s (m - n)) h (place_at-inside s (m - n) (omega arith)) one in
        false≢true (sym e ∙ ap (same_child_place (place_at s (m - n))) is ∙ same_child_place-refl (place_at s (m - n))))

pub delivered_print : (T : Table) (p : Program) (L M : Lowering) (S : JobState) (xs : List Printed) (line : Line) (name : List ℕ) (r : RootState) (root : Root)
    → Stands p L.cells L.phase S name r (length L.tasks) line → printed_as T root ≡ (name, r.kind) → (info_of T root).dims ≡ r.dims → root.0 < length T.names
    → M.deliveries ≡ L.deliveries ++ deliveries_by r (length L.tasks) root L.prints → M.prints ≡ L.prints + 1 → length M.tasks ≡ length L.tasks + r.parts.r * r.parts.c
    → AreDelivered T p L xs → AreDelivered T p M (xs ++ record { name = name; kind = r.kind; array = root_array r } ∷ [])
delivered_print T p L M S xs line name r root t named dims there ed ep et g = record {
  each = λ k y e. subst (λ (ds : List Delivery). AreHanded T p (of_print k ds) y) (sym ed) (each_print k y (slice-push xs x y k e));
  counted = ep ∙ ap (λ n. n + 1) g.counted ∙ sym more_out;
  printed = subst (λ (ds : List Delivery). All (λ (d : Delivery). d.print < length (xs ++ x ∷ [])) ds) (sym ed)
      (All-append (λ (d : Delivery). d.print < length (xs ++ x ∷ [])) L.deliveries news (All-weaker (λ (d : Delivery). d.print < length xs) (λ (d : Delivery). d.print < length (xs ++ x ∷ [])) (λ d h. omega (arith, more_out)) L.deliveries g.printed)
      (from_places (λ (d : Delivery). d.print < length (xs ++ x ∷ [])) (λ place h. omega (arith, more_out, g.counted))));
  in_order = subst (λ (ds : List Delivery). AllPairs (λ (d e : Delivery). d.print ≤ e.print) ds) (sym ed)
      (pairs-append (λ (d e : Delivery). d.print ≤ e.print) L.deliveries news g.in_order same_print
      (each-all (λ (d : Delivery). d.print < length xs) (λ (d : Delivery). AllByRecursion (λ (e : Delivery). d.print ≤ e.print) news) (λ d h. all_places (λ (e : Delivery). d.print ≤ e.print) r n root L.prints (λ place at. omega (arith, h, g.counted))) L.deliveries (recursion_from_All (λ (d : Delivery). d.print < length xs) L.deliveries g.printed)));
  rooted = subst (λ (ds : List Delivery). All (λ (d : Delivery). d.root.0 < length T.names) ds) (sym ed)
      (All-append (λ (d : Delivery). d.root.0 < length T.names) L.deliveries news g.rooted (from_places (λ (d : Delivery). d.root.0 < length T.names) (λ place h. there)));
  below = subst (λ (ds : List Delivery). All (λ (d : Delivery). d.task.0 < length M.tasks) ds) (sym ed)
      (All-append (λ (d : Delivery). d.task.0 < length M.tasks) L.deliveries news (All-weaker (λ (d : Delivery). d.task.0 < n) (λ (d : Delivery). d.task.0 < length M.tasks) (λ d h. omega (arith, et)) L.deliveries g.below)
      (from_places (λ (d : Delivery). d.task.0 < length M.tasks) (λ place h. omega (arith, et, number-below r.parts place h))));
  ascending = subst (λ (ds : List Delivery). AllPairs (λ (d e : Delivery). d.task.0 < e.task.0) ds) (sym ed)
      (pairs-append (λ (d e : Delivery). d.task.0 < e.task.0) L.deliveries news g.ascending rising
      (each-all (λ (d : Delivery). d.task.0 < n) (λ (d : Delivery). AllByRecursion (λ (e : Delivery). d.task.0 < e.task.0) news) (λ d h. all_places (λ (e : Delivery). d.task.0 < e.task.0) r n root L.prints (λ place at. omega (arith, h))) L.deliveries (recursion_from_All (λ (d : Delivery). d.task.0 < n) L.deliveries g.below)));
  delivers = subst (λ (ds : List Delivery). All (λ (d : Delivery). Delivers p d.task.0) ds) (sym ed)
      (All-append (λ (d : Delivery). Delivers p d.task.0) L.deliveries news g.delivers (from_places (λ (d : Delivery). Delivers p d.task.0) (λ place h. ap (λ (l : Lowered). kernel_of l.codelet) (child_task p L.cells L.phase S name r n line place t h))));
  once = λ m h e. ap (count_by (λ (d : Delivery). nat_eq d.task.0 m)) ed ∙ sum_by-append (λ (d : Delivery). cond (nat_eq d.task.0 m) 1 0) L.deliveries news ∙ both m h e (cases_lt m n);
}
  where
    n : ℕ
    n = length L.tasks

    x : Printed
    x = record { name = name; kind = r.kind; array = root_array r }

    news : List Delivery
    news = deliveries_by r n root L.prints

    more_out : length (xs ++ x ∷ []) ≡ length xs + 1
    more_out = length-append xs (x ∷ [])

    from_places : (P : Delivery → Type 0) → ((place : ℕ × ℕ) → IsPlace r.parts place → P (a_delivery n root r.dims r.parts L.prints place)) → All P news
    from_places P h = All-from_recursion P news (all_places P r n root L.prints h)

    news_at : (i : ℕ) (d : Delivery) → i < length news → get_or news i d ≡ a_delivery n root r.dims r.parts L.prints (place_at r.parts i)
    news_at i d h = places-by_number (a_delivery n root r.dims r.parts L.prints) r.parts i d (omega (arith, length-places (a_delivery n root r.dims r.parts L.prints) r.parts))

    same_print : AllPairs (λ (d e : Delivery). d.print ≤ e.print) news
    same_print i j d h k = let a = ap (λ (d : Delivery). d.print) (news_at i d (omega arith)) in let b = ap (λ (d : Delivery). d.print) (news_at j d k) in omega (arith, a, b)

    rising : AllPairs (λ (d e : Delivery). d.task.0 < e.task.0) news
    rising i j d h k =
        let a = ap (λ (d : Delivery). d.task.0) (news_at i d (omega arith)) in
        let b = ap (λ (d : Delivery). d.task.0) (news_at j d k) in
        omega (arith, a, b, number-place_at r.parts i, number-place_at r.parts j)

    -- the old deliveries are of other print statements
    each_print : (k : ℕ) (y : Printed) → (slice_get xs k ≡ Some y) ⊎ ((k ≡ length xs) × (x ≡ y)) → AreHanded T p (of_print k (L.deliveries ++ news)) y
    each_print k y (inl e) =
        let h = slice_get_within xs k y e in
        let gone : of_print k news ≡ [] = filter_gone (λ (d : Delivery). nat_eq d.print k) news (all_places (λ (d : Delivery). nat_eq d.print k ≡ false) r n root L.prints (λ place at. ne_eqb L.prints k (λ same. omega (arith, same, h, g.counted)))) in
        subst (λ (ds : List Delivery). AreHanded T p ds y) (sym (filter-append (λ (d : Delivery). nat_eq d.print k) L.deliveries news ∙ ap (λ ds. of_print k L.deliveries ++ ds) gone ∙ append-nil (of_print k L.deliveries))) (g.each k y e)
    each_print k y (inr e) =
        let gone : of_print k L.deliveries ≡ [] = filter_gone (λ (d : Delivery). nat_eq d.print k) L.deliveries (each-all (λ (d : Delivery). d.print < length xs) (λ (d : Delivery). nat_eq d.print k ≡ false) (λ d h. ne_eqb d.print k (λ same. omega (arith, same, h, e.0))) L.deliveries (recursion_from_All (λ (d : Delivery). d.print < length xs) L.deliveries g.printed)) in
        let all : of_print k news ≡ news = filter_all (λ (d : Delivery). nat_eq d.print k) news (all_places (λ (d : Delivery). nat_eq d.print k ≡ true) r n root L.prints (λ place at. eq-eqb L.prints k (omega (arith, g.counted, e.0)))) in
        subst (λ (ds : List Delivery). AreHanded T p ds y) (sym (filter-append (λ (d : Delivery). nat_eq d.print k) L.deliveries news ∙ ap (λ ds. ds ++ of_print k news) gone ∙ all))
        (subst (λ (y : Printed). AreHanded T p news y) e.1 (handed T p L.cells L.phase S name r n line root L.prints t named dims))

    count_news : (m : ℕ) → count_by (λ (d : Delivery). nat_eq d.task.0 m) news ≡ count_by (λ (place : ℕ × ℕ). nat_eq (n + number r.parts place) m) (places r.parts)
    count_news m = count_by-map (λ (d : Delivery). nat_eq d.task.0 m) (a_delivery n root r.dims r.parts L.prints) (places r.parts)

    both : (m : ℕ) → m < length M.tasks → Delivers p m → (m < n) ⊎ (n ≤ m) → count_by (λ (d : Delivery). nat_eq d.task.0 m) L.deliveries + count_by (λ (d : Delivery). nat_eq d.task.0 m) news ≡ 1
    both m h e (inl old) =
        let none = count_news m ∙ count-none (λ (place : ℕ × ℕ). nat_eq (n + number r.parts place) m) (places r.parts) (each-of (λ place. nat_eq (n + number r.parts place) m ≡ false) (λ place. ne_eqb (n + number r.parts place) m (λ same. omega (arith, same, old))) (places r.parts)) in
        omega (arith, g.once m old e, none)
    both m h e (inr new) =
        let none = count-none (λ (d : Delivery). nat_eq d.task.0 m) L.deliveries (each-all (λ (d : Delivery). d.task.0 < n) (λ (d : Delivery). nat_eq d.task.0 m ≡ false) (λ d h. ne_eqb d.task.0 m (λ same. omega (arith, same, h, new))) L.deliveries (recursion_from_All (λ (d : Delivery). d.task.0 < n) L.deliveries g.below)) in
        omega (arith, none, count_news m ∙ one_task r.parts n m new (omega (arith, h, et)))
