-- A board on which nothing has happened has released nothing.
use Rattle.sj_board.proofs.Words.{[], ap, BoardBy, DiskState, Eager, Entry, Equations, first_pool, HasTakenReleased, IsOpening, List, Machine, Policy, Prio, Program, refl, released_in, released_of, Task, Worker, Ws, ℕ, ◌∙◌, ◌≡◌}
use Rattle.sj_base.proofs.Lists.{get_or-replicate_same}

first-released : (p : Program) (q : Policy) (ready : List Task) (n : ℕ) → released_in q (first_pool p q ready) n ≡ []
first-released p Eager ready n = rw (get_or-replicate_same {X = List Entry} p.workers n []) refl
first-released p Prio ready n = refl
first-released p Ws ready n = rw (get_or-replicate_same {X = List Entry} p.workers n []) refl

pub opening-taken : {D : Type 0} (eq : Equations) (p : Program) (m : Machine) (disks : DiskState D) (b : BoardBy eq D) → IsOpening eq p m disks b → (w : Worker) → HasTakenReleased b w
opening-taken eq p m disks b opening w = ap (λ (k : BoardBy _ _). released_of k w) opening.opens ∙ first-released p m.policy opening.ready w.0
