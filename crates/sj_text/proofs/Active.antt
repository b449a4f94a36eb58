-- The plans of roots by number are those of their names, since no two roots have one name.
use Rattle.std.proofs.Common.{◌≡◌, [], arith}
use Rattle.sj_meaning.specs.Table.{Table}
use Rattle.sj_text.specs.Forms.{no_plans}
use Rattle.sj_text.specs.Text.{AreCurrent}

-- nothing is said of no plans
pub none-active : (T : Table) → AreCurrent T [] no_plans
none-active T = record { active = λ n h. absurd (omega (arith, h)) }
