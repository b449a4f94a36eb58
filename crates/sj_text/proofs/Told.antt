-- The lines of statements, one statement after another.
use Rattle.std.proofs.Common.{◌≡◌, ℕ, suc, ◌+◌, ◌<◌, ◌≤◌, List, [], ◌∷◌, ◌++◌, length, get_or, drop, drop-cons, refl, ap, sym, subst, ◌∙◌, arith, append_assoc}
use Rattle.std.proofs.lemmas.List.{append-nil, drop_all}
use Rattle.sj_meaning.proofs.Views.{counts-grow}
use Rattle.sj_meaning.specs.Table.{Table}
use Rattle.sj_meaning.specs.View.{ActsArePlaced, IsNumbered, IsPlaced, act_seen, count_after, count_from, seen_from}
use Rattle.sj_meaning.specs.declared.job.Statement.{Statement as Kept}
use Rattle.sj_plan.specs.declared.parts.Parts.{Parts}
use Rattle.sj_text.specs.Forms.{Plans, no_plans, plans_after}
use Rattle.sj_text.specs.Text.{AreCurrent, act_line, statement_lines}
use Rattle.sj_text.proofs.Active.{none-active}

-- so many roots are registered, and these statements are left: with their lines the text is whole
pub record GoesOn (T : Table) (parts : List Parts) (rest : List Kept) (now whole : List ℕ) : Type 0 where
  pub plans : Plans
  pub active : AreCurrent T parts plans
  pub placed : ActsArePlaced (length parts) rest
  pub counted : count_from (length parts) rest ≡ length T.names
  pub told : now ++ statement_lines plans (seen_from T (length parts) rest) ≡ whole

abbrev pub whole_of : Table → List Kept → List ℕ → List ℕ
whole_of T ss old = old ++ statement_lines no_plans (seen_from T 0 ss)

pub begins : (T : Table) (ss : List Kept) (old : List ℕ) → IsNumbered T ss → GoesOn T [] ss old (whole_of T ss old)
begins T ss old numbered = record {
  plans = no_plans;
  active = none-active T;
  placed = numbered.placed;
  counted = numbered.counted;
  told = refl;
}

-- the next statement of those that are left
pub next : (T : Table) (parts : List Parts) (ss : List Kept) (i : ℕ) (d s : Kept) (now whole : List ℕ) → i < length ss → get_or ss i d ≡ s → GoesOn T parts (drop i ss) now whole → GoesOn T parts (s ∷ drop (i + 1) ss) now whole
next T parts ss i d s now whole in' here g =
    let after : suc i ≡ i + 1 = omega arith in
    let cut : drop i ss ≡ s ∷ drop (i + 1) ss = drop-cons ss i d in' ∙ ap (λ (m : ℕ). get_or ss i d ∷ drop m ss) after ∙ ap (λ x. x ∷ drop (i + 1) ss) here in
    subst (λ (rest : List Kept). GoesOn T parts rest now whole) cut g

-- its act speaks of roots that are registered, and registers one that the table has
pub may-tell : (T : Table) (parts : List Parts) (s : Kept) (rest : List Kept) (now whole : List ℕ) → GoesOn T parts (s ∷ rest) now whole → IsPlaced (length parts) s.act × (count_after (length parts) s.act ≤ length T.names)
may-tell T parts s rest now whole g = (g.placed.0, omega (arith, counts-grow (count_after (length parts) s.act) rest, g.counted))

-- it is told
pub goes-on : (T : Table) (parts new_parts : List Parts) (s : Kept) (rest : List Kept) (now new whole : List ℕ) → GoesOn T parts (s ∷ rest) now whole
    → ((active : Plans) → AreCurrent T parts active → new ≡ now ++ act_line active (act_seen T (length parts) s.act))
    → length new_parts ≡ count_after (length parts) s.act
    → ((active : Plans) → AreCurrent T parts active → AreCurrent T new_parts (plans_after (act_seen T (length parts) s.act) active))
    → GoesOn T new_parts rest new whole
goes-on T parts new_parts s rest now new whole g written count activated =
    let act = act_seen T (length parts) s.act in
    let plans = plans_after act g.plans in
    record {
      plans = plans;
      active = activated g.plans g.active;
      placed = subst (λ (k : ℕ). ActsArePlaced k rest) (sym count) g.placed.1;
      counted = ap (λ k. count_from k rest) count ∙ g.counted;
      told = ap (λ k. new ++ statement_lines plans (seen_from T k rest)) count
          ∙ ap (λ t. t ++ statement_lines plans (seen_from T (count_after (length parts) s.act) rest)) (written g.plans g.active)
          ∙ append_assoc now (act_line g.plans act) (statement_lines plans (seen_from T (count_after (length parts) s.act) rest))
          ∙ g.told;
    }

pub ends : (T : Table) (parts : List Parts) (ss : List Kept) (i : ℕ) (now whole : List ℕ) → length ss ≤ i → GoesOn T parts (drop i ss) now whole → now ≡ whole
ends T parts ss i now whole all g =
    let none : drop i ss ≡ [] = drop_all i ss all in
    let h = subst (λ (rest : List Kept). GoesOn T parts rest now whole) none g in
    sym (append-nil now) ∙ h.told
