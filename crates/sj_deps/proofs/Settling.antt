-- One access more is finished: the counts still fit.
use Rattle.std.proofs.Common.{◌≡◌, ℕ, ◌+◌, ◌<◌, ◌≤◌, Bool, cond, List, length, drop, sym, ap, refl, ◌∙◌, subst, arith, ⊎_elim, slice_index_or, slice_set, nat_eq}
use Rattle.std.specs.List.{count_by}
use Rattle.std.proofs.lemmas.List.{get_or-set_same, get_or-set_other, get_or-drop, get_or_default, length-set, length-drop}
use Rattle.std.proofs.lemmas.List.Sums.{sum_by-take-drop, sum_by-drop_more}
use Rattle.std.proofs.lemmas.Bool.{cases_lt, cases_eq, both_ways, eq-eqb, ne_eqb}
use Rattle.sj_deps.specs.declared.chain.Chain.{Chain}
use Rattle.sj_deps.specs.declared.chain.Member.{Member}
use Rattle.sj_deps.specs.Chains.{no_member, no_chain, chain_at, members_at, is_member_done, left_from, CountsChain, IsLongestRun, Finishes, TakesWaits}
use Rattle.sj_deps.specs.Counts.{CanSettle, Settles, ListsReady}
use Rattle.sj_deps.proofs.Waits.{wanted-set}
use Rattle.sj_deps.proofs.Counting.{all_before, none_dropped, count_taken-le}
use Rattle.sj_deps.proofs.Pushing.{moved}

-- no more are done than are released
pub done-le-released : (left : List ℕ) (ch : Chain) (n : ℕ) → CountsChain left ch n → ch.finished + n ≤ ch.released
done-le-released left ch n tracks =
    let none = none_dropped (is_member_done left) ch.members no_member ch.released tracks.later in
    let some = count_taken-le (is_member_done left) ch.members no_member ch.released tracks.within in
    let whole = sum_by-take-drop (λ m. cond {A = ℕ} (is_member_done left m) 1 0) ch.members ch.released in
    let counted = tracks.counted in
    omega arith

tracks_moved : (left : List ℕ) (ms : List Member) (r f r' n : ℕ) → CountsChain left (moved ms r f) (n + 1) → (f + 1 < r → r' ≡ r) → (f + 1 ≡ r → IsLongestRun ms r r') → CountsChain left (moved ms r' (f + 1)) n
tracks_moved left ms r f r' n tracks stays moves =
    let most : f + (n + 1) ≤ r = done-le-released left (moved ms r f) (n + 1) tracks in
    let counted : f + (n + 1) ≡ count_by (is_member_done left) ms = tracks.counted in
    ⊎_elim (λ less.
    let same : r' ≡ r = stays less in
    record {
      within = rw same tracks.within;
      counted = omega arith;
      later = λ p late within. tracks.later p (omega arith) within;
      earlier = λ p q inner cut below. tracks.earlier p q (omega arith) cut below;
      boundary = λ p edge within. tracks.boundary p (omega arith) (omega arith);
      waiting = λ within. omega arith;
    }) (λ last.
    let all : f + 1 ≡ r = omega arith in
    let run : IsLongestRun ms r r' = moves all in
    let whole : count_by (is_member_done left) ms ≡ r = omega arith in
    let full = all_before (is_member_done left) ms no_member r tracks.within tracks.later whole in
    let grows = run.grows in
    record {
      within = run.within;
      counted = omega arith;
      later = λ p late within. tracks.later p (omega arith) within;
      earlier = λ p q inner cut below. ⊎_elim (λ lower. full q (omega arith)) (λ higher. absurd (both_ways _ cut (run.one_run p higher inner))) (cases_lt p r);
      boundary = λ p edge within. run.whole p edge within;
      waiting = λ within. let some : r < r' = run.some (omega arith) in omega arith;
    }) (cases_lt (f + 1) r)

pub CountsChain-finish : (left : List ℕ) (old new : Chain) (n : ℕ) → CountsChain left old (n + 1) → Finishes old new → CountsChain left new n
CountsChain-finish left old new n tracks fin =
    let next = tracks_moved left old.members old.released old.finished new.released n tracks fin.stays fin.moves in
    let same : moved old.members new.released (old.finished + 1) ≡ new = rw (← fin.members, ← fin.finished) refl in
    subst (λ (ch : Chain). CountsChain left ch n) same next

abbrev cell_at : List ℕ → ℕ → ℕ
cell_at cells i = slice_index_or cells i 0

abbrev is_cell : ℕ → ℕ → Bool
is_cell c d = nat_eq d c

left-same : (cells : List ℕ) (i c : ℕ) → i < length cells → cell_at cells i ≡ c → count_by (is_cell c) (drop i cells) ≡ count_by (is_cell c) (drop (i + 1) cells) + 1
left-same cells i c h e =
    let more = sum_by-drop_more (λ d. cond {A = ℕ} (is_cell c d) 1 0) cells i 0 h in
    let one : cond {A = ℕ} (is_cell c (cell_at cells i)) 1 0 ≡ 1 = ap (λ (b : Bool). cond {A = ℕ} b 1 0) (eq-eqb _ _ e) in
    omega arith

left-other : (cells : List ℕ) (i c : ℕ) → i < length cells → (cell_at cells i ≡ c → ⊥) → count_by (is_cell c) (drop i cells) ≡ count_by (is_cell c) (drop (i + 1) cells)
left-other cells i c h e =
    let more = sum_by-drop_more (λ d. cond {A = ℕ} (is_cell c d) 1 0) cells i 0 h in
    let none : cond {A = ℕ} (is_cell c (cell_at cells i)) 1 0 ≡ 0 = ap (λ (b : Bool). cond {A = ℕ} b 1 0) (ne_eqb _ _ e) in
    omega arith

module _ (chains : List Chain) (w : List ℕ) (cells : List ℕ) (i : ℕ) (within : i < length cells) (can : CanSettle chains w (drop i cells)) (old : Chain) (is : old ≡ slice_index_or chains (cell_at cells i) old) where
  inside : cell_at cells i < length chains
  inside =
      let long = length-drop i cells in
      subst (λ n. n < length chains) (get_or-drop i cells 0 0 ∙ ap (cell_at cells) (omega arith)) (can.inside 0 0 (omega arith))

  old_is : old ≡ chain_at chains (cell_at cells i)
  old_is = is ∙ get_or_default chains (cell_at cells i) old no_chain inside

  pub unfinished_next : old.finished < old.released
  unfinished_next =
      let one = left-same cells i (cell_at cells i) within refl in
      let all = can.unfinished (cell_at cells i) in
      subst (λ (ch : Chain). ch.finished < ch.released) (sym old_is) (omega arith)

  module _ (new : Chain) (fin : Finishes old new) where
    abbrev after : List Chain
    after = slice_set chains (cell_at cells i) new

    here : chain_at after (cell_at cells i) ≡ new
    here = get_or-set_same chains (cell_at cells i) new no_chain inside

    elsewhere : (c : ℕ) → (cell_at cells i ≡ c → ⊥) → chain_at after c ≡ chain_at chains c
    elsewhere c other = get_or-set_other chains (cell_at cells i) c new no_chain (λ e. other (sym e))

    -- what holds of each chain before, and of the new one, holds of each chain after
    each : (Q : ℕ → Chain → Type 0) → Q (cell_at cells i) new → ((c : ℕ) → (cell_at cells i ≡ c → ⊥) → Q c (chain_at chains c)) → (c : ℕ) → Q c (chain_at after c)
    each Q at_new others c =
        ⊎_elim (λ same. subst (λ n. Q n (chain_at after n)) same (subst (Q (cell_at cells i)) (sym here) at_new)) (λ other. subst (Q c) (sym (elsewhere c other)) (others c other)) (cases_eq (cell_at cells i) c)

    pub kept_members : (c : ℕ) → members_at after c ≡ members_at chains c
    kept_members = each (λ c ch. ch.members ≡ members_at chains c) (fin.members ∙ ap (λ (ch : Chain). ch.members) old_is) (λ c other. refl)

    grown : old.released ≤ new.released × (new.released ≤ length old.members)
    grown =
        let most = unfinished_next in
        let old_within : old.released ≤ length old.members = subst (λ (ch : Chain). ch.released ≤ length ch.members) (sym old_is) (can.within (cell_at cells i)) in
        ⊎_elim (λ less. let e = fin.stays less in (omega arith, omega arith)) (λ last. let run = fin.moves (omega arith) in (run.grows, run.within)) (cases_lt (old.finished + 1) old.released)

    pub CanSettle-more : (w' : List ℕ) (r r' : List ℕ) → TakesWaits w w' r r' old.members old.released new.released → CanSettle after w' (drop (i + 1) cells)
    CanSettle-more w' r r' rel =
        let same_len : length after ≡ length chains = length-set chains (cell_at cells i) new in
        record {
          inside = λ j d h.
              let long = length-drop i cells in
              let long' = length-drop (i + 1) cells in
              let at_j : slice_index_or (drop (i + 1) cells) j d ≡ slice_index_or (drop i cells) (j + 1) d = get_or-drop (i + 1) cells j d ∙ ap (λ n. slice_index_or cells n d) (omega arith) ∙ sym (get_or-drop i cells (j + 1) d) in
              let old_inside = can.inside (j + 1) d (omega arith) in
              rw (at_j, same_len) old_inside;
          within = each (λ c ch. ch.released ≤ length ch.members) (rw fin.members grown.1) (λ c other. can.within c);
          unfinished = each (λ c ch. ch.finished + count_by (is_cell c) (drop (i + 1) cells) ≤ ch.released) (
              let one = left-same cells i (cell_at cells i) within refl in
              let all : old.finished + count_by (is_cell (cell_at cells i)) (drop i cells) ≤ old.released = subst (λ (ch : Chain). ch.finished + count_by (is_cell (cell_at cells i)) (drop i cells) ≤ ch.released) (sym old_is) (can.unfinished (cell_at cells i)) in
              let grows = grown.0 in
              let more = fin.finished in
              omega arith) (λ c other.
              let none = left-other cells i c within other in
              let all = can.unfinished c in
              omega arith);
          parties = λ c. rw (kept_members c, rel.len) (can.parties c);
          waits = λ t.
              let set = wanted-set chains (cell_at cells i) new t inside in
              let law = rel.waits t in
              let was = can.waits t in
              let at_old : left_from (members_at chains (cell_at cells i)) (chain_at chains (cell_at cells i)).released t ≡ left_from old.members old.released t = ap (λ (ch : Chain). left_from ch.members ch.released t) (sym old_is) in
              let at_new : left_from new.members new.released t ≡ left_from old.members new.released t = ap (λ ms. left_from ms new.released t) fin.members in
              omega arith;
        }

    pub Settles-more : (start : List Chain) → Settles start chains cells (drop i cells) → Settles start after cells (drop (i + 1) cells)
    Settles-more start so = record {
      same = record {
        len = length-set chains (cell_at cells i) new ∙ so.same.len;
        members = λ c. kept_members c ∙ so.same.members c;
      };
      tracks = λ left before. each (λ c ch. CountsChain left ch (count_by (is_cell c) (drop (i + 1) cells))) (CountsChain-finish left old new _ (subst (λ (ch : Chain). CountsChain left ch (count_by (is_cell (cell_at cells i)) (drop (i + 1) cells) + 1)) (sym old_is) (subst (CountsChain left (chain_at chains (cell_at cells i))) (left-same cells i (cell_at cells i) within refl) (so.tracks left before (cell_at cells i)))) fin) (λ c other. subst (CountsChain left (chain_at chains c)) (left-other cells i c within other) (so.tracks left before c));
    }

pub ListsReady-more : (w₀ w w' : List ℕ) (r₀ r r' : List ℕ) (ms : List Member) (first last : ℕ) → TakesWaits w w' r r' ms first last → ListsReady w₀ w r₀ r → ListsReady w₀ w' r₀ r'
ListsReady-more w₀ w w' r₀ r r' ms first last rel so = record {
  len = rel.len ∙ so.len;
  opened = λ t. rel.opened t ∙ so.opened t;
  total = rel.total ∙ so.total;
}
