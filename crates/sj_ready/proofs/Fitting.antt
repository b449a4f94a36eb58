-- What a machine has isn't lacking.
use Rattle.std.proofs.Common.{◌≡◌, ◌<◌, ◌≤◌, Bool, true, false, cond, ℕ, suc, List, [], ◌∷◌, arith, refl, subst, Option, Some, None}
use Rattle.std.specs.Prelude.{Contains, IsTrue, find, is_some}
use Rattle.std.proofs.lemmas.Bool.Decides.{nat_tests}
use Rattle.std.proofs.lemmas.List.Elements.{All-contains}
use Rattle.std.proofs.lemmas.Option.{same_Some}
use Rattle.sj_base.specs.declared.ids.Line.{Line}
use Rattle.sj_base.specs.declared.program.Machine.{Machine}
use Rattle.sj_base.specs.declared.program.Program.{Program}
use Rattle.sj_base.proofs.Options.{the}
use Rattle.sj_core.specs.Needs.{footprint, place, room}
use Rattle.sj_core.specs.Program.{tasks_of}
use Rattle.sj_needs.specs.Shortage.{FitRoom, IsShortage, IsTooLarge, is_too_large}
use Rattle.sj_needs.specs.declared.shortage.Shortage.{Shortage}
use Rattle.sj_needs.specs.declared.shortage.Shortage.TheVariants.{TooLarge, SwapTooSmall, OutOfMemory}
use Rattle.sj_codelet.specs.declared.kernel.Kernel.{Kernel}
use Rattle.sj_core.specs.Proper.{HasSwapFor}
use Rattle.sj_ready.specs.Ready.{IsReady}
use Rattle.sj_ready.specs.Work.{HasRoom, Work, WorkOrRefusal, program_of}
use Rattle.sj_ready.specs.declared.ready.ReadyJob.{ReadyJob}

-- what is found passes
found-passes : {X : Type 0} (test : X → Bool) (xs : List X) (x : X) → find test xs ≡ Some x → (test x ≡ true) × Contains xs x
found-passes test [] x e = absurd (let bad : None ≡ Some x = e in the ⊥ cc)
found-passes test (y ∷ ys) x e = by_test (test y) refl e (found-passes test ys x)
  where
    by_test : (b : Bool) → test y ≡ b → cond b (Some y) (find test ys) ≡ Some x → (find test ys ≡ Some x → (test x ≡ true) × Contains ys x) → (test x ≡ true) × Contains (y ∷ ys) x
    by_test true t found later = let same : y ≡ x = same_Some y x found in (subst (λ z. test z ≡ true) same t, (0, omega arith, same))
    by_test false t found later = let h = later found in (h.0, (suc h.1.0, omega (arith, h.1.1), h.1.2))

-- where each task fits none is too large
pub too-large-fits : (p : Program) (m : Machine) (line : Line) (bytes : ℕ) → FitRoom p m → IsTooLarge p m line bytes → ⊥
too-large-fits p m line bytes fits large =
    let found = found-passes (is_too_large p m) (tasks_of p) large.task large.first in
    let within = All-contains (λ t. footprint p t ≤ room m) (tasks_of p) large.task fits found.1 in
    let above : room m < footprint p large.task = grind (arith, nat_tests, found.0) in
    omega (arith, within, above)

-- a place isn't missing
pub none-some-placed : {X : Type 0} (o : Option X) → o ≡ None → IsTrue (is_some o) → ⊥
none-some-placed None e h = cc
none-some-placed (Some x) e h = cc

-- the machine that is ready has room for the work that is asked for
pub ready-room : (has : Kernel → Bool) (asked : WorkOrRefusal) (r : ReadyJob) (ready : IsReady has asked r) → HasRoom ready.work
ready-room has asked r ready = record { tasks_fit = of_work FitRoom ready.tasks_fit; blocks_have_places = of_work HasSwapFor ready.blocks_have_places }
  where
    of_work : (P : Program → Machine → Type 0) → P r.program.value r.machine → P (program_of ready.work) ready.work.machine
    of_work P h = subst (λ (m : Machine). P (program_of ready.work) m) ready.machine_is (subst (λ (p : Program). P p r.machine) ready.program_is h)

-- what has room lacks nothing
pub room-no-shortage : (w : Work) (what : Shortage) → HasRoom w → IsShortage (program_of w) w.machine what → what ≡ OutOfMemory
room-no-shortage w (TooLarge line bytes) room h = absurd (too-large-fits (program_of w) w.machine line bytes room.tasks_fit h)
room-no-shortage w (SwapTooSmall needed have) room h =
    absurd (none-some-placed (place (program_of w) w.machine.disks) h.has_no_places room.blocks_have_places.blocks_fit)
room-no-shortage w OutOfMemory room h = refl
