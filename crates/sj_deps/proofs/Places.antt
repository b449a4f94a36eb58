-- The accesses of a party that may not begin yet, by places.
use Rattle.std.proofs.Common.{◌≡◌, ℕ, ◌<◌, ◌≤◌, List, length, sym, ap, subst, arith, ⊎_elim, slice_index_or}
use Rattle.std.proofs.lemmas.List.{get_or_default, get_or_past}
use Rattle.std.proofs.lemmas.List.Sums.{get_or-le-sum_by, sum_by-le}
use Rattle.std.proofs.lemmas.Bool.{cases_lt, eq-eqb, ne_eqb}
use Rattle.sj_deps.specs.declared.chain.Chain.{Chain}
use Rattle.sj_deps.specs.Chains.{no_member, no_chain, party_at, chain_at, members_at, is_of, left_from, wanted}
use Rattle.sj_deps.proofs.Counting.{none_dropped, some_dropped}

-- the accesses of a party that may not begin yet, by places
pub wanted_some : (chains : List Chain) (c q t : ℕ) → c < length chains → (chain_at chains c).released ≤ q → q < length (members_at chains c) → party_at (members_at chains c) q ≡ t → 0 < wanted chains t
wanted_some chains c q t inside late within same =
    let here = some_dropped (is_of t) (members_at chains c) no_member (chain_at chains c).released q late within (eq-eqb _ _ same) in
    let part = get_or-le-sum_by (λ ch. left_from ch.members ch.released t) chains c no_chain inside in
    omega arith

pub wanted_none : (chains : List Chain) (t : ℕ) → ((c q : ℕ) → c < length chains → (chain_at chains c).released ≤ q → q < length (members_at chains c) → party_at (members_at chains c) q ≡ t → ⊥) → wanted chains t ≡ 0
wanted_none chains t none =
    let bound = sum_by-le (λ ch. left_from ch.members ch.released t) 0 chains (λ c d inside.
    let at_c : slice_index_or chains c d ≡ chain_at chains c = get_or_default chains c d no_chain inside in
    let here : left_from (members_at chains c) (chain_at chains c).released t ≡ 0 = none_dropped (is_of t) (members_at chains c) no_member (chain_at chains c).released (λ q late within. ne_eqb _ _ (none c q inside late within)) in
    subst (λ (ch : Chain). left_from ch.members ch.released t ≤ 0) (sym at_c) (omega arith)) in
    omega arith

-- a cell past the end has no accesses
pub inside_of : (chains : List Chain) (c q : ℕ) → q < length (members_at chains c) → c < length chains
inside_of chains c q h =
    ⊎_elim (λ inside. inside) (λ past.
    let none : length (members_at chains c) ≡ 0 = ap (λ (ch : Chain). length ch.members) (get_or_past chains c no_chain past) in
    absurd (omega arith)) (cases_lt c (length chains))
