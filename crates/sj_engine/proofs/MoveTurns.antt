-- What a store or a fetch that ended well counts.
use Rattle.std.proofs.Common.{◌≡◌, ℕ, List, ap, ◌∙◌, subst}
use Rattle.std.specs.Prelude.{Result, Ok}
use Rattle.sj_disk.specs.Holding.{CountsStay}
use Rattle.sj_disk.specs.declared.refusal.DiskRefusal.{DiskRefusal}
use Rattle.sj_edge.specs.Faults.{counted}
use Rattle.sj_board.specs.Counts.{AreCounted, differed_at, failed_at}
use Rattle.sj_board.specs.Board.{BoardState}
use Rattle.sj_base.proofs.Lists.{map-places}

-- where the call ended well, no count has changed
pub counts-stay : {D A : Type 0} (faults mismatches : D → ℕ) (a : A) (result : Result A DiskRefusal) (old new : List D) → result ≡ Ok a → AreCounted faults mismatches result old new → CountsStay faults mismatches old new
counts-stay faults mismatches a result old new is c = (
  map-places faults old new c.as_many (λ k x y e g. (c.each k x y e g).of_faults ∙ ap (λ r. counted (faults x) (failed_at r k)) is),
  map-places mismatches old new c.as_many (λ k x y e g. (c.each k x y e g).of_mismatches ∙ ap (λ r. counted (mismatches x) (differed_at r k)) is),
)

-- so too on a board that was found as another
pub counts-found : {D A : Type 0} (faults mismatches : D → ℕ) (b x y : BoardState D) → x ≡ b → (a : A) (result : Result A DiskRefusal) → result ≡ Ok a → AreCounted faults mismatches result x.run.disks.disks y.run.disks.disks → CountsStay faults mismatches b.run.disks.disks y.run.disks.disks
counts-found faults mismatches b x y ex a result is c = subst (λ (k : BoardState _). CountsStay faults mismatches k.run.disks.disks y.run.disks.disks) ex (counts-stay faults mismatches a result x.run.disks.disks y.run.disks.disks is c)
