-- An operand that counts as one access, which is no contribution.
use Rattle.std.proofs.Common.{◌≡◌, ℕ, ◌<◌, List, [], ◌∷◌, ◌++◌, false, length, sym, subst, ap, arith}
use Rattle.std.specs.Prelude.{Contains}
use Rattle.std.proofs.lemmas.List.Elements.{Contains-push}
use Rattle.sj_base.specs.declared.mode.Access.{Access}
use Rattle.sj_base.specs.declared.mode.Mode.{Mode}
use Rattle.sj_base.specs.declared.program.Codelet.{Codelet}
use Rattle.sj_base.specs.declared.program.Program.{Program}
use Rattle.sj_deps.specs.declared.entry.Entered.{Entered}
use Rattle.sj_deps.specs.declared.manner.Manner.{Manner}
use Rattle.sj_deps.specs.declared.manner.Manner.TheVariants.{Contribute}
use Rattle.sj_deps.specs.declared.manner.Usage.{Usage}
use Rattle.sj_deps.specs.Chains.{joins}
use Rattle.sj_deps.specs.Conflict.{HasDependencies, Uses, usage, usages_of}
use Rattle.sj_deps.specs.Counts.{Entering, HoldsAccesses}
use Rattle.sj_deps.proofs.Accessing.{plain_of}

pub usages_by : (P : Program) (k : Codelet) (a : Access) (w : Mode) → a.mode ≡ w → usages_of P k a ≡ usages_of P k (record { mode = w; cell = a.cell })
usages_by P k a w is = ap (λ (v : Mode). usages_of P k (record { mode = v; cell = a.cell })) is

module _ (P : Program) (k : Codelet) (t : ℕ) (a : Access) (m : Manner) (one : usages_of P k a ≡ usage m a.cell.0 ∷ []) (deps : HasDependencies P) (uses : (c : ℕ) (n : Manner) → Contains (usages_of P k a) (usage n c) → Uses P t c n) where
  used : Uses P t a.cell.0 m
  used = uses a.cell.0 m (subst (λ (us : List Usage). Contains us (usage m a.cell.0)) (sym one) (Contains-push [] (usage m a.cell.0)))

  pub cell_within : (e : Entered) → HoldsAccesses P e.chains.items e.cells.items e.tasks.items → a.cell.0 < length e.chains.items
  cell_within e holds =
      let below = deps.cells t a.cell.0 m used in
      let len = holds.every_cell in
      omega arith

  pub one_entered : (e new : Entered) → t < length P.tasks → joins m Contribute ≡ false → ((Q : Program) (us : List Usage) → HasDependencies Q → t < length Q.tasks → Uses Q t a.cell.0 m → ¬ (m ≡ Contribute) → Entering Q t us e → Entering Q t (us ++ usage m a.cell.0 ∷ []) new) → (us : List Usage) → Entering P t us e → Entering P t (us ++ usages_of P k a) new
  one_entered e new task plain enters us entering =
      subst (λ (vs : List Usage). Entering P t (us ++ vs) new) (sym one) (enters P us deps task used (plain_of m plain) entering)
