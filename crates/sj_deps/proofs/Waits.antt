-- How waits and answers change as accesses are released.
use Rattle.std.proofs.Common.{◌≡◌, ℕ, ◌+◌, ◌-◌, ◌<◌, ◌≤◌, Bool, true, false, cond, List, length, sym, ap, refl, ◌∙◌, arith, slice_set, ⊎_elim, nat_lt, min}
use Rattle.std.specs.List.{count_by}
use Rattle.std.proofs.lemmas.List.{get_or-set_same, get_or-set_other, length-set}
use Rattle.std.proofs.lemmas.List.Sums.{sum_by-drop_more, sum_by-set}
use Rattle.std.proofs.lemmas.Bool.{cases_eq, eq-eqb, ne_eqb}
use Rattle.sj_deps.specs.declared.chain.Chain.{Chain}
use Rattle.sj_deps.specs.declared.chain.Member.{Member}
use Rattle.sj_deps.specs.Chains.{waits_of, is_party, is_of, left_from, party_at, member_at, no_member, no_chain, chain_at, members_at, wanted, TakesWaits}

left_from-more : (ms : List Member) (p t : ℕ) → p < length ms → left_from ms p t ≡ cond (is_of t (member_at ms p)) 1 0 + left_from ms (p + 1) t
left_from-more ms p t h = sum_by-drop_more (λ m. cond (is_of t m) 1 0) ms p no_member h

pub left_from-same : (ms : List Member) (p t : ℕ) → p < length ms → party_at ms p ≡ t → left_from ms p t ≡ left_from ms (p + 1) t + 1
left_from-same ms p t h e =
    let more = left_from-more ms p t h in
    let yes : is_of t (member_at ms p) ≡ true = eq-eqb _ _ e in
    let one : cond {A = ℕ} (is_of t (member_at ms p)) 1 0 ≡ 1 = ap (λ (b : Bool). cond {A = ℕ} b 1 0) yes in
    omega arith

pub left_from-other : (ms : List Member) (p t : ℕ) → p < length ms → (party_at ms p ≡ t → ⊥) → left_from ms p t ≡ left_from ms (p + 1) t
left_from-other ms p t h e =
    let more = left_from-more ms p t h in
    let no : is_of t (member_at ms p) ≡ false = ne_eqb _ _ e in
    let none : cond {A = ℕ} (is_of t (member_at ms p)) 1 0 ≡ 0 = ap (λ (b : Bool). cond {A = ℕ} b 1 0) no in
    omega arith

-- one access more has taken its wait
released_waits : (w₀ w w' : List ℕ) (ms : List Member) (first p : ℕ) → p < length ms → party_at ms p < length w → 0 < waits_of w (party_at ms p) → w' ≡ slice_set w (party_at ms p) (waits_of w (party_at ms p) - 1) → (t : ℕ) → waits_of w t + left_from ms first t ≡ waits_of w₀ t + left_from ms p t → waits_of w' t + left_from ms first t ≡ waits_of w₀ t + left_from ms (p + 1) t
released_waits w₀ w w' ms first p h known some e t law =
    ⊎_elim (λ (same : party_at ms p ≡ t).
    let left = left_from-same ms p t h same in
    let now : waits_of w' (party_at ms p) ≡ waits_of w (party_at ms p) - 1 = ap (λ v. waits_of v (party_at ms p)) e ∙ get_or-set_same w (party_at ms p) (waits_of w (party_at ms p) - 1) 0 known in
    let at_t : waits_of w' t ≡ waits_of w t - 1 = ap (waits_of w') (sym same) ∙ now ∙ ap (λ u. waits_of w u - 1) same in
    let some_t : 0 < waits_of w t = rw (← same) some in
    omega arith) (λ (other : party_at ms p ≡ t → ⊥).
    let left = left_from-other ms p t h other in
    let at_t : waits_of w' t ≡ waits_of w t = ap (λ v. waits_of v t) e ∙ get_or-set_other w (party_at ms p) t (waits_of w (party_at ms p) - 1) 0 (λ q. other (sym q)) in
    omega arith) (cases_eq (party_at ms p) t)

pub TakesWaits-more : (w₀ w w' : List ℕ) (r₀ r r' : List ℕ) (ms : List Member) (first p : ℕ) → p < length ms → party_at ms p < length w → 0 < waits_of w (party_at ms p) → w' ≡ slice_set w (party_at ms p) (waits_of w (party_at ms p) - 1) → ((t : ℕ) → count_by (is_party t) r' + min 1 (waits_of w' t) ≡ count_by (is_party t) r + min 1 (waits_of w t)) → length r' + count_by (nat_lt 0) w' ≡ length r + count_by (nat_lt 0) w → TakesWaits w₀ w r₀ r ms first p → TakesWaits w₀ w' r₀ r' ms first (p + 1)
TakesWaits-more w₀ w w' r₀ r r' ms first p h known some e each all so = record {
  waits = λ t. released_waits w₀ w w' ms first p h known some e t (so.waits t);
  len = ap length e ∙ length-set w (party_at ms p) (waits_of w (party_at ms p) - 1) ∙ so.len;
  opened = λ t. each t ∙ so.opened t;
  total = all ∙ so.total;
}

-- the accesses that a party waits for, when one chain changes
pub wanted-set : (chains : List Chain) (c : ℕ) (ch : Chain) (t : ℕ) → c < length chains → wanted (slice_set chains c ch) t + left_from (members_at chains c) (chain_at chains c).released t ≡ wanted chains t + left_from ch.members ch.released t
wanted-set chains c ch t h = sum_by-set (λ x. left_from x.members x.released t) chains c ch no_chain h

-- the party of the next access still waits
pub waits_some : (w₀ w : List ℕ) (r₀ r : List ℕ) (ms : List Member) (first p : ℕ) → p < length ms → ((t : ℕ) → left_from ms first t ≤ waits_of w₀ t) → TakesWaits w₀ w r₀ r ms first p → 0 < waits_of w (party_at ms p)
waits_some w₀ w r₀ r ms first p h all so =
    let enough = all (party_at ms p) in
    let law = so.waits (party_at ms p) in
    let more = left_from-same ms p (party_at ms p) h refl in
    omega arith
