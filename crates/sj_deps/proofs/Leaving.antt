-- A task of a party is done: the counts still fit.
use Rattle.std.proofs.Common.{◌≡◌, ℕ, ◌+◌, ◌-◌, ◌<◌, ◌≤◌, true, cond, List, [], ◌∷◌, length, take, sym, ap, refl, ◌∙◌, subst, arith, ⊎_elim, slice_index_or, slice_set, nat_eq}
use Rattle.std.specs.List.{count_by}
use Rattle.std.proofs.lemmas.List.{get_or-set_same, get_or-set_other, get_or_past}
use Rattle.std.proofs.lemmas.List.Sums.{sum_by-cons, sum_by_more, sum_by-take-le, get_or-le-sum_by}
use Rattle.std.proofs.lemmas.Bool.{cases_lt, cases_eq, eq-eqb, ne_eqb, cond-true, cond-false}
use Rattle.sj_deps.specs.declared.chain.Chain.{Chain}
use Rattle.sj_deps.specs.declared.chain.Member.{Member}
use Rattle.sj_deps.specs.Chains.{no_chain, member_at, party_at, chain_at, members_at, is_of, is_party, is_member_done, left_of, waits_of, CountsChain}
use Rattle.sj_deps.specs.Counts.{CanSettle, Settles, SameMembers, ListsReady, CountsFit, cells_at}
use Rattle.sj_deps.proofs.Settling.{done-le-released}
use Rattle.sj_deps.proofs.Places.{wanted_some, inside_of}

count_agree : (l l' : List ℕ) → ((m : Member) → is_member_done l' m ≡ is_member_done l m) → (ms : List Member) → count_by (is_member_done l') ms ≡ count_by (is_member_done l) ms
count_agree l l' same [] = refl
count_agree l l' same (m ∷ ms) =
    let a = sum_by-cons (λ x. cond {A = ℕ} (is_member_done l' x) 1 0) m ms in
    let b = sum_by-cons (λ x. cond {A = ℕ} (is_member_done l x) 1 0) m ms in
    let rest = count_agree l l' same ms in
    let one : cond {A = ℕ} (is_member_done l' m) 1 0 ≡ cond {A = ℕ} (is_member_done l m) 1 0 = ap (λ b. cond {A = ℕ} b 1 0) (same m) in
    omega arith

-- only which parties are done matters to a chain
pub CountsChain-agree : (l l' : List ℕ) → ((m : Member) → is_member_done l' m ≡ is_member_done l m) → (ch : Chain) (n : ℕ) → CountsChain l ch n → CountsChain l' ch n
CountsChain-agree l l' same ch n tracks = record {
  within = tracks.within;
  counted = tracks.counted ∙ sym (count_agree l l' same ch.members);
  later = λ p late within. same (member_at ch.members p) ∙ tracks.later p late within;
  earlier = λ p q inner cut below. same (member_at ch.members q) ∙ tracks.earlier p q inner cut below;
  boundary = tracks.boundary;
  waiting = tracks.waiting;
}

module _ (left : List ℕ) (n : ℕ) (known : n < length left) (some : 0 < left_of left n) where
  left_same : (v : ℕ) → left_of (slice_set left n v) n ≡ v
  left_same v = get_or-set_same left n v 1 known

  left_other : (v u : ℕ) → (n ≡ u → ⊥) → left_of (slice_set left n v) u ≡ left_of left u
  left_other v u other = get_or-set_other left n u v 1 (λ e. other (sym e))

  -- not its last task
  still : (v : ℕ) → 0 < v → (m : Member) → is_member_done (slice_set left n v) m ≡ is_member_done left m
  still v more m =
      ⊎_elim (λ same.
      let now : left_of (slice_set left n v) m.party ≡ v = subst (λ u. left_of (slice_set left n v) u ≡ v) same (left_same v) in
      let was : 0 < left_of left m.party = subst (λ u. 0 < left_of left u) same some in
      ne_eqb _ _ (λ e. omega arith) ∙ sym (ne_eqb _ _ (λ e. omega arith))) (λ other. ap (λ k. nat_eq k 0) (left_other v m.party other)) (cases_eq n m.party)

  abbrev zeroed : List ℕ
  zeroed = slice_set left n 0

  one_more : (m : Member) → cond {A = ℕ} (is_member_done zeroed m) 1 0 ≡ cond (is_member_done left m) 1 0 + cond {A = ℕ} (is_of n m) 1 0
  one_more m =
      ⊎_elim (λ same.
      let now : cond {A = ℕ} (is_member_done zeroed m) 1 0 ≡ 1 = cond-true _ 1 0 (eq-eqb _ _ (subst (λ u. left_of zeroed u ≡ 0) same (left_same 0))) in
      let idle : 0 < left_of left m.party = subst (λ u. 0 < left_of left u) same some in
      let was : cond {A = ℕ} (is_member_done left m) 1 0 ≡ 0 = cond-false _ 1 0 (ne_eqb _ _ (λ e. omega arith)) in
      let one : cond {A = ℕ} (is_of n m) 1 0 ≡ 1 = cond-true _ 1 0 (eq-eqb _ _ (sym same)) in
      omega arith) (λ other.
      let now : cond {A = ℕ} (is_member_done zeroed m) 1 0 ≡ cond {A = ℕ} (is_member_done left m) 1 0 = ap (λ k. cond {A = ℕ} (nat_eq k 0) 1 0) (left_other 0 m.party other) in
      let none : cond {A = ℕ} (is_of n m) 1 0 ≡ 0 = cond-false _ 1 0 (ne_eqb _ _ (λ e. other (sym e))) in
      omega arith) (cases_eq n m.party)

  count_zeroed : (ms : List Member) → count_by (is_member_done zeroed) ms ≡ count_by (is_member_done left) ms + count_by (is_of n) ms
  count_zeroed [] = refl
  count_zeroed (m ∷ ms) =
      let a = sum_by-cons (λ x. cond {A = ℕ} (is_member_done zeroed x) 1 0) m ms in
      let b = sum_by-cons (λ x. cond {A = ℕ} (is_member_done left x) 1 0) m ms in
      let d = sum_by-cons (λ x. cond {A = ℕ} (is_of n x) 1 0) m ms in
      let rest = count_zeroed ms in
      let one = one_more m in
      omega arith

  done_more : (m : Member) → is_member_done left m ≡ true → is_member_done zeroed m ≡ true
  done_more m h =
      ⊎_elim (λ same. eq-eqb _ _ (subst (λ u. left_of zeroed u ≡ 0) same (left_same 0))) (λ other. ap (λ k. nat_eq k 0) (left_other 0 m.party other) ∙ h) (cases_eq n m.party)

  -- the chain's counts fit but for the accesses of the party, all of which are released
  tracks_zeroed : (ch : Chain) → CountsChain left ch 0 → ((q : ℕ) → ch.released ≤ q → q < length ch.members → party_at ch.members q ≡ n → ⊥) → CountsChain zeroed ch (count_by (is_of n) ch.members)
  tracks_zeroed ch tracks free = record {
    within = tracks.within;
    counted = let e = tracks.counted in let m = count_zeroed ch.members in omega arith;
    later = λ p late within. ap (λ k. nat_eq k 0) (left_other 0 (party_at ch.members p) (λ e. free p late within (sym e))) ∙ tracks.later p late within;
    earlier = λ p q inner cut below. done_more (member_at ch.members q) (tracks.earlier p q inner cut below);
    boundary = tracks.boundary;
    waiting = tracks.waiting;
  }

  module _ (chains : List Chain) (cells : List (List ℕ)) (w : List ℕ) (fits : CountsFit left chains cells w) (free : waits_of w n ≡ 0) where
    pub Fits-still : (v : ℕ) → 0 < v → CountsFit (slice_set left n v) chains cells w
    Fits-still v more = record {
      tracks = λ c. CountsChain-agree left (slice_set left n v) (still v more) (chain_at chains c) 0 (fits.tracks c);
      waits = fits.waits;
      listed = fits.listed;
      parties = fits.parties;
    }

    released_all : (c q : ℕ) → (chain_at chains c).released ≤ q → q < length (members_at chains c) → party_at (members_at chains c) q ≡ n → ⊥
    released_all c q late within same =
        let some = wanted_some chains c q n (inside_of chains c q within) late within same in
        let waits = fits.waits n in
        absurd (omega arith)

    tracks_left : (c : ℕ) → CountsChain zeroed (chain_at chains c) (count_by (λ d. nat_eq d c) (cells_at cells n))
    tracks_left c = subst (CountsChain zeroed (chain_at chains c)) (sym (fits.listed n c)) (tracks_zeroed (chain_at chains c) (fits.tracks c) (released_all c))

    pub can_settle : CanSettle chains w (cells_at cells n)
    can_settle = record {
      inside = λ j d h.
          let cell = slice_index_or (cells_at cells n) j d in
          ⊎_elim (λ inside. inside) (λ past.
          let some = get_or-le-sum_by (λ e. cond {A = ℕ} (nat_eq e cell) 1 0) (cells_at cells n) j d h in
          let one : cond {A = ℕ} (nat_eq cell cell) 1 0 ≡ 1 = cond-true _ 1 0 (eq-eqb cell cell refl) in
          let listed = fits.listed n cell in
          let gone : count_by (is_of n) (members_at chains cell) ≡ 0 = ap (λ (ch : Chain). count_by (is_of n) ch.members) (get_or_past chains cell no_chain past) in
          absurd (omega arith)) (cases_lt cell (length chains));
      within = λ c. (fits.tracks c).within;
      unfinished = λ c. done-le-released _ _ _ (tracks_left c);
      parties = fits.parties;
      waits = fits.waits;
    }

    pub Fits-settled : (new : List Chain) (w' : List ℕ) → Settles chains new (cells_at cells n) [] → CanSettle new w' [] → CountsFit zeroed new cells w'
    Fits-settled new w' settles settled = record {
      tracks = settles.tracks zeroed tracks_left;
      waits = settled.waits;
      listed = λ u c. fits.listed u c ∙ ap (count_by (is_of u)) (sym (settles.same.members c));
      parties = settled.parties;
    }

pub SameMembers-more : (a b c : List Chain) → SameMembers a b → SameMembers b c → SameMembers a c
SameMembers-more a b c first second = record { len = second.len ∙ first.len; members = λ n. second.members n ∙ first.members n }

pub ListsReady-next : (w₀ w w' r₀ r r' : List ℕ) → ListsReady w₀ w r₀ r → ListsReady w w' r r' → ListsReady w₀ w' r₀ r'
ListsReady-next w₀ w w' r₀ r r' first second = record {
  len = second.len ∙ first.len;
  opened = λ n. second.opened n ∙ first.opened n;
  total = second.total ∙ first.total;
}

module _ (parties : List ℕ) (i : ℕ) (h : i < length parties) where
  abbrev nth : ℕ
  nth = slice_index_or parties i 0

  taken_more : (k : ℕ) → count_by (is_party k) (take (i + 1) parties) ≡ count_by (is_party k) (take i parties) + cond {A = ℕ} (is_party k nth) 1 0
  taken_more k = sum_by_more (λ x. cond {A = ℕ} (is_party k x) 1 0) parties i 0 h

  one_here : cond {A = ℕ} (is_party nth nth) 1 0 ≡ 1
  one_here = cond-true _ 1 0 (eq-eqb nth nth refl)

  module _ (left₀ left : List ℕ) (law : (n : ℕ) → left_of left n + count_by (is_party n) (take i parties) ≡ left_of left₀ n) where
    pub leave_some : ((n : ℕ) → count_by (is_party n) parties ≤ left_of left₀ n) → 0 < left_of left nth
    leave_some enough =
        let all = enough nth in
        let more = taken_more nth in
        let one = one_here in
        let part = sum_by-take-le (λ x. cond {A = ℕ} (is_party nth x) 1 0) parties (i + 1) in
        let e = law nth in
        omega arith

    pub leave_left : nth < length left → 0 < left_of left nth → (k : ℕ) → left_of (slice_set left nth (left_of left nth - 1)) k + count_by (is_party k) (take (i + 1) parties) ≡ left_of left₀ k
    leave_left known some k =
        let more = taken_more k in
        let e = law k in
        ⊎_elim (λ same.
        let one : cond {A = ℕ} (is_party k nth) 1 0 ≡ 1 = cond-true _ 1 0 (eq-eqb _ _ same) in
        let now : left_of (slice_set left nth (left_of left nth - 1)) k ≡ left_of left nth - 1 = subst (λ u. left_of (slice_set left nth (left_of left nth - 1)) u ≡ left_of left nth - 1) same (get_or-set_same left nth (left_of left nth - 1) 1 known) in
        let at_k : left_of left nth ≡ left_of left k = ap (left_of left) same in
        omega arith) (λ other.
        let none : cond {A = ℕ} (is_party k nth) 1 0 ≡ 0 = cond-false _ 1 0 (ne_eqb _ _ other) in
        let now : left_of (slice_set left nth (left_of left nth - 1)) k ≡ left_of left k = get_or-set_other left nth k (left_of left nth - 1) 1 (λ q. other (sym q)) in
        omega arith) (cases_eq nth k)

-- a party that doesn't wait goes on so
pub still_free : (w₀ w r₀ r : List ℕ) → r₀ ≡ [] → ListsReady w₀ w r₀ r → (n : ℕ) → waits_of w₀ n ≡ 0 → waits_of w n ≡ 0
still_free w₀ w r₀ r fresh answers n free =
    let law = answers.opened n in
    let none : count_by (is_party n) r₀ ≡ 0 = ap (count_by (is_party n)) fresh in
    omega arith
