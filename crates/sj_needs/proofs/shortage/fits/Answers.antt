use Rattle.std.proofs.Common.{◌≡◌, ℕ, false, List, Option, Some, None, Result, Ok, Err, IfErr, nat_lt, sum, refl, find, ap, sym, ◌∙◌, arith, subst}
use Rattle.std.specs.Prelude.{is_some}
use Rattle.std.proofs.lemmas.Bool.Decides.{nat_tests}
use Rattle.std.proofs.lemmas.Bool.{true≢false}
use Rattle.sj_base.specs.declared.ids.Task.{Task}
use Rattle.sj_base.specs.declared.program.Machine.{Machine}
use Rattle.sj_base.specs.declared.program.Program.{Program}
use Rattle.sj_core.specs.Needs.{footprint, place, room, swap_need}
use Rattle.sj_core.specs.Program.{tasks_of}
use Rattle.sj_needs.specs.Shortage.{FitRoom, IsShortage}
use Rattle.sj_needs.specs.declared.shortage.Shortage.TheVariants.{SwapTooSmall, OutOfMemory}
use Rattle.sj_needs.proofs.Tasks.{each-fails}
use Rattle.sj_needs.proofs.shortage.fits.Goals as goal

-- where no task is too large, each fits
all-fit : (p : Program) (m : Machine) (n : ℕ) → n ≡ room m → None ≡ find (λ (t : Task). nat_lt n (footprint p t)) (tasks_of p) → FitRoom p m
all-fit p m n e none k d below =
    let fails = each-fails (λ (t : Task). nat_lt n (footprint p t)) (tasks_of p) (sym none) k d below in
    grind (arith, nat_tests, fails, e)

none-placed : {X : Type 0} (o : Option X) → is_some o ≡ false → o ≡ None
none-placed None none = refl
none-placed (Some x) none = absurd (true≢false none)

-- what is so anyhow is so where there is this refusal
anyhow : {A E P : Type 0} (r : Result A E) (e : E) → P → IfErr r (λ why. why ≡ e → P)
anyhow (Ok x) e p = tt
anyhow (Err why) e p = λ same. p

pub returns-in_err-footprints-clause-too_large_first : goal.returns-in_err-footprints-clause-too_large_first
returns-in_err-footprints-clause-too_large_first c =
    anyhow c.from_residual.result OutOfMemory (all-fit c.args.program.now c.args.machine.now c.room.result c.room.ensures (sym c.in_default.is ∙ c.first_above.ensures.first))

pub returns-in_err-has_places-clause-too_large_first : goal.returns-in_err-has_places-clause-too_large_first
returns-in_err-has_places-clause-too_large_first c =
    anyhow c.from_residual-in_err-has_places.result OutOfMemory (all-fit c.args.program.now c.args.machine.now c.room.result c.room.ensures (sym c.in_default.is ∙ c.first_above.ensures.first))

pub returns-then-branch-clause-room : goal.returns-then-branch-clause-room
returns-then-branch-clause-room c ok =
    all-fit c.args.program.now c.args.machine.now c.room.result c.room.ensures (sym c.in_default.is ∙ c.first_above.ensures.first)

pub returns-clause-shortage : goal.returns-clause-shortage
returns-clause-shortage c =
    let p = c.args.program.now in
    let m = c.args.machine.now in
    let disks : c.items-disks.result.now ≡ m.disks = c.items-disks.ensures in
    let none : is_some (place p m.disks) ≡ false = ap (λ (ns : List ℕ). is_some (place p ns)) (sym disks) ∙ sym (c.in_ok-has_places.ensures) ∙ c.if-branch.false in
    let short : IsShortage p m (SwapTooSmall (swap_need p) (sum c.items-disks.result.now)) = record {
      tasks_fit = all-fit p m c.room.result c.room.ensures (sym c.in_default.is ∙ c.first_above.ensures.first);
      has_no_places = none-placed (place p m.disks) none;
      all_blocks = refl;
      all_disks = ap sum disks;
    } in
    subst (IsShortage p m) (sym c.swap_too_small.ensures) short
