-- One access more stands in a chain.
use Rattle.std.proofs.Common.{◌≡◌, ℕ, ◌+◌, ◌-◌, ◌<◌, ◌≤◌, ◌==◌, Bool, true, false, cond, List, [], ◌∷◌, ◌++◌, length, drop, sym, ap, refl, ◌∙◌, subst, arith, ⊎_elim, slice_set, nat_eq, slice_index_or}
use Rattle.std.specs.List.{count_by}
use Rattle.std.proofs.lemmas.List.{get_or-set_same, get_or-set_other, get_or_append_left, get_or_push, length-set, length_push, drop-append-le, drop_all}
use Rattle.std.proofs.lemmas.List.Sums.{sum_by_push}
use Rattle.std.proofs.lemmas.Bool.{cases_lt, cases_eq, cases_Bool, both_ways, eq-eqb, eqb-true, ne_eqb, cond-true, cond-false, and_parts, and_cases}
use Rattle.sj_deps.specs.declared.chain.Chain.{Chain}
use Rattle.sj_deps.specs.declared.chain.Member.{Member}
use Rattle.sj_deps.specs.declared.entry.Entered.{Entered}
use Rattle.sj_deps.specs.Chains.{joins, joined, joins_last, no_chain, no_member, member_at, party_at, manner_at, chain_at, members_at, is_of, is_member_done, left_from, wanted, waits_of, CountsChain, Pushes}
use Rattle.sj_deps.specs.Counts.{Begun}
use Rattle.sj_deps.proofs.Counting.{none_dropped, below_cases}
use Rattle.sj_deps.proofs.Waits.{wanted-set}

-- what holds of each chain before, and of the new one, holds of each chain after
pub each_set : (chains : List Chain) (c : ℕ) (new : Chain) → c < length chains → (Q : ℕ → Chain → Type 0) → Q c new → ((d : ℕ) → (c ≡ d → ⊥) → Q d (chain_at chains d)) → (d : ℕ) → Q d (chain_at (slice_set chains c new) d)
each_set chains c new inside Q at_new others d =
    ⊎_elim (λ same. subst (λ n. Q n (chain_at (slice_set chains c new) n)) same (subst (Q c) (sym (get_or-set_same chains c new no_chain inside)) at_new)) (λ other. subst (Q d) (sym (get_or-set_other chains c d new no_chain (λ e. other (sym e)))) (others d other)) (cases_eq c d)

joins_last_is : (ms : List Member) (x : Member) (p : ℕ) → p + 1 ≡ length ms → joins_last ms x ≡ joins (manner_at ms p) x.manner
joins_last_is ms x p e =
    let long : (length ms == 0) ≡ false = ne_eqb (length ms) 0 (λ none. omega arith) in
    cond-false _ true (joins (manner_at ms (length ms - 1)) x.manner) long ∙ ap (λ n. joins (manner_at ms n) x.manner) (omega arith)

joins_last_some : (ms : List Member) (x : Member) → joins_last ms x ≡ false → 0 < length ms
joins_last_some ms x h =
    ⊎_elim (λ order. order) (λ short. absurd (both_ways _ h (cond-true (length ms == 0) true (joins (manner_at ms (length ms - 1)) x.manner) (eq-eqb (length ms) 0 (omega arith))))) (cases_lt 0 (length ms))

module _ (ms : List Member) (x : Member) where
  abbrev more : List Member
  more = ms ++ x ∷ []

  pub at_old : (p : ℕ) → p < length ms → member_at more p ≡ member_at ms p
  at_old p h = get_or_append_left ms (x ∷ []) no_member p h

  pub at_new : (p : ℕ) → p ≡ length ms → member_at more p ≡ x
  at_new p e = get_or_push ms x no_member p (sym e)

  joined_old : (p : ℕ) → p + 1 < length ms → joined more p ≡ joined ms p
  joined_old p h = ap (λ (m : Member). joins m.manner (manner_at more (p + 1))) (at_old p (omega arith)) ∙ ap (λ (m : Member). joins (manner_at ms p) m.manner) (at_old (p + 1) h)

  joined_last : (p : ℕ) → p + 1 ≡ length ms → joined more p ≡ joins_last ms x
  joined_last p e = ap (λ (m : Member). joins m.manner (manner_at more (p + 1))) (at_old p (omega arith)) ∙ ap (λ (m : Member). joins (manner_at ms p) m.manner) (at_new (p + 1) e) ∙ sym (joins_last_is ms x p e)

  left_pushed : (r u : ℕ) → r ≤ length ms → left_from more r u ≡ left_from ms r u + cond {A = ℕ} (is_of u x) 1 0
  left_pushed r u h = ap (count_by (is_of u)) (drop-append-le r ms (x ∷ []) h) ∙ sum_by_push (λ m. cond {A = ℕ} (is_of u m) 1 0) (drop r ms) x

  -- each access after a push is an old one or the new one
  pub each_pushed : (R : ℕ → Member → Type 0) → ((p : ℕ) → p < length ms → R p (member_at ms p)) → R (length ms) x → (p : ℕ) → p < length more → R p (member_at more p)
  each_pushed R old new p h =
      let long = length_push ms x in
      ⊎_elim (λ lower. subst (R p) (sym (at_old p lower)) (old p lower)) (λ same. subst (R p) (sym (at_new p same)) (subst (λ n. R n x) (sym same) new)) (below_cases p (length ms) (omega arith))

abbrev pub moved : List Member → ℕ → ℕ → Chain
moved ms r f = record { members = ms; released = r; finished = f }

pub nothing_done : (ms : List Member) → count_by (is_member_done []) ms ≡ 0
nothing_done ms = none_dropped (is_member_done []) ms no_member 0 (λ p from below. refl)

tracks_at_once : (ms : List Member) (x : Member) (r f r' : ℕ) → CountsChain [] (moved ms r f) 0 → r' ≡ r + 1 → r ≡ length ms → joins_last ms x ≡ true → CountsChain [] (moved (ms ++ x ∷ []) r' f) 0
tracks_at_once ms x r f r' tracks e all joins_it =
    let long = length_push ms x in
    let none = nothing_done ms in
    let none' = nothing_done (ms ++ x ∷ []) in
    let counted : f + 0 ≡ count_by (is_member_done []) ms = tracks.counted in
    record {
      within = omega arith;
      counted = omega arith;
      later = λ p late within. refl;
      earlier = λ p q inner cut below. ⊎_elim (λ lower. tracks.earlier p q (omega arith) (sym (joined_old ms x p (omega arith)) ∙ cut) below) (λ last. absurd (both_ways _ cut (joined_last ms x p (omega arith) ∙ joins_it))) (cases_lt (p + 1) (length ms));
      boundary = λ p edge within. absurd (omega arith);
      waiting = λ within. absurd (omega arith);
    }

tracks_later : (ms : List Member) (x : Member) (r f r' : ℕ) → CountsChain [] (moved ms r f) 0 → r' ≡ r → (r ≡ length ms → joins_last ms x ≡ false) → CountsChain [] (moved (ms ++ x ∷ []) r' f) 0
tracks_later ms x r f r' tracks e cut_at =
    let long = length_push ms x in
    let none = nothing_done ms in
    let none' = nothing_done (ms ++ x ∷ []) in
    let counted : f + 0 ≡ count_by (is_member_done []) ms = tracks.counted in
    let old_within : r ≤ length ms = tracks.within in
    record {
      within = omega arith;
      counted = omega arith;
      later = λ p late within. refl;
      earlier = λ p q inner cut below. tracks.earlier p q (omega arith) (sym (joined_old ms x p (omega arith)) ∙ cut) below;
      boundary = λ p edge within. ⊎_elim (λ lower. joined_old ms x p (omega arith) ∙ tracks.boundary p (omega arith) lower) (λ last. joined_last ms x p (omega arith) ∙ cut_at (omega arith)) (cases_lt r (length ms));
      waiting = λ within. ⊎_elim (λ lower. let before : f < r = tracks.waiting lower in omega arith) (λ last. let some = joins_last_some ms x (cut_at (omega arith)) in omega arith) (cases_lt r (length ms));
    }

tracks_pushed : (old new : Chain) (x : Member) (b : Bool) → CountsChain [] old 0 → Pushes old new x b → CountsChain [] new 0
tracks_pushed old new x b tracks pushed =
    let same : moved (old.members ++ x ∷ []) new.released old.finished ≡ new = rw (← pushed.members, ← pushed.finished) refl in
    subst (λ (ch : Chain). CountsChain [] ch 0) same (⊎_elim (λ at_once.
    let both = and_parts (old.released == length old.members) (joins_last old.members x) (sym pushed.at_once ∙ at_once) in
    tracks_at_once old.members x old.released old.finished new.released tracks (pushed.released ∙ cond-true b (old.released + 1) old.released at_once) (eqb-true _ _ both.0) both.1) (λ waits.
    tracks_later old.members x old.released old.finished new.released tracks (pushed.released ∙ cond-false b (old.released + 1) old.released waits) (λ all. ⊎_elim (λ short. absurd (both_ways _ short (eq-eqb _ _ all))) (λ cut. cut) (and_cases (old.released == length old.members) (joins_last old.members x) (sym pushed.at_once ∙ waits)))) (cases_Bool b))

-- how many unreleased accesses of party u the push adds
abbrev added : Bool → ℕ → ℕ → ℕ
added b t u = cond b 0 (cond {A = ℕ} (nat_eq t u) 1 0)

left_after : (old new : Chain) (x : Member) (u : ℕ) (b : Bool) → old.released ≤ length old.members → Pushes old new x b → left_from new.members new.released u ≡ left_from old.members old.released u + added b x.party u
left_after old new x u b within pushed =
    ⊎_elim (λ at_once.
    let both = and_parts (old.released == length old.members) (joins_last old.members x) (sym pushed.at_once ∙ at_once) in
    let all : old.released ≡ length old.members = eqb-true _ _ both.0 in
    let long = length_push old.members x in
    let long' : length new.members ≡ length (old.members ++ x ∷ []) = ap (λ (ms : List Member). length ms) pushed.members in
    let released : new.released ≡ old.released + 1 = pushed.released ∙ cond-true b (old.released + 1) old.released at_once in
    let none : left_from old.members old.released u ≡ 0 = ap (count_by (is_of u)) (drop_all old.released old.members (omega arith)) in
    let none' : left_from new.members new.released u ≡ 0 = ap (count_by (is_of u)) (drop_all new.released new.members (omega arith)) in
    let add : added b x.party u ≡ 0 = cond-true b 0 (cond {A = ℕ} (nat_eq x.party u) 1 0) at_once in
    omega arith) (λ waits.
    let released : new.released ≡ old.released = pushed.released ∙ cond-false b (old.released + 1) old.released waits in
    let one = left_pushed old.members x old.released u within in
    let add : added b x.party u ≡ cond {A = ℕ} (nat_eq x.party u) 1 0 = cond-false b 0 (cond {A = ℕ} (nat_eq x.party u) 1 0) waits in
    let whole : left_from new.members new.released u ≡ left_from (old.members ++ x ∷ []) old.released u = rw (pushed.members, released) refl in
    whole ∙ one ∙ ap (λ n. left_from old.members old.released u + n) (sym add)) (cases_Bool b)

-- the waits after a push
waits_after : (w w' : List ℕ) (t u : ℕ) (b : Bool) → t < length w → w' ≡ cond b w (slice_set w t (waits_of w t + 1)) → waits_of w' u ≡ waits_of w u + added b t u
waits_after w w' t u b known e =
    ⊎_elim (λ at_once.
    let same : w' ≡ w = e ∙ cond-true b w (slice_set w t (waits_of w t + 1)) at_once in
    let add : added b t u ≡ 0 = cond-true b 0 (cond {A = ℕ} (nat_eq t u) 1 0) at_once in
    let at_u : waits_of w' u ≡ waits_of w u = ap (λ v. waits_of v u) same in
    omega arith) (λ waits.
    let set : w' ≡ slice_set w t (waits_of w t + 1) = e ∙ cond-false b w (slice_set w t (waits_of w t + 1)) waits in
    let add : added b t u ≡ cond {A = ℕ} (nat_eq t u) 1 0 = cond-false b 0 (cond {A = ℕ} (nat_eq t u) 1 0) waits in
    ⊎_elim (λ same.
    let one : cond {A = ℕ} (nat_eq t u) 1 0 ≡ 1 = cond-true _ 1 0 (eq-eqb _ _ same) in
    let at_t : waits_of w' t ≡ waits_of w t + 1 = ap (λ v. waits_of v t) set ∙ get_or-set_same w t (waits_of w t + 1) 0 known in
    let at_u : waits_of w' u ≡ waits_of w u + 1 = subst (λ n. waits_of w' n ≡ waits_of w n + 1) same at_t in
    omega arith) (λ other.
    let none : cond {A = ℕ} (nat_eq t u) 1 0 ≡ 0 = cond-false _ 1 0 (ne_eqb _ _ other) in
    let at_u : waits_of w' u ≡ waits_of w u = ap (λ v. waits_of v u) set ∙ get_or-set_other w t u (waits_of w t + 1) 0 (λ q. other (sym q)) in
    omega arith) (cases_eq t u)) (cases_Bool b)

waits_len : (w w' : List ℕ) (t : ℕ) (b : Bool) → w' ≡ cond b w (slice_set w t (waits_of w t + 1)) → length w' ≡ length w
waits_len w w' t b e = ⊎_elim (λ yes. ap length (e ∙ cond-true b w (slice_set w t (waits_of w t + 1)) yes)) (λ no. ap length (e ∙ cond-false b w (slice_set w t (waits_of w t + 1)) no) ∙ length-set w t (waits_of w t + 1)) (cases_Bool b)

abbrev pub closed_at : List Bool → ℕ → Bool
closed_at flags n = slice_index_or flags n true

pub Begun-pushed : (old new : Entered) (x : Member) (c : ℕ) (chain : Chain) (b : Bool) → Begun old → c < length old.chains.items → x.party < length old.tasks.items → Pushes (chain_at old.chains.items c) chain x b → new.chains.items ≡ slice_set old.chains.items c chain → length new.tasks.items ≡ length old.tasks.items → new.waits.items ≡ cond b old.waits.items (slice_set old.waits.items x.party (waits_of old.waits.items x.party + 1)) → length new.is_closed.items ≡ length old.is_closed.items → ((n : ℕ) → closed_at old.is_closed.items n ≡ true → closed_at new.is_closed.items n ≡ true) → ((p : ℕ) → p + 1 ≡ length (members_at old.chains.items c) → closed_at new.is_closed.items (party_at (members_at old.chains.items c) p) ≡ true) → Begun new
Begun-pushed old new x c chain b begun inside known pushed chains_are tasks_len waits_are flags_len kept last =
    let chains = old.chains.items in
    let ms = members_at chains c in
    let long = length_push ms x in
    let waits_known : x.party < length old.waits.items = let e = begun.every_wait in omega arith in
    let Each : (Q : ℕ → Chain → Type 0) → Q c chain → ((d : ℕ) → (c ≡ d → ⊥) → Q d (chain_at chains d)) → (d : ℕ) → Q d (chain_at new.chains.items d) = λ Q at_c others d. subst (λ (cs : List Chain). Q d (chain_at cs d)) (sym chains_are) (each_set chains c chain inside Q at_c others d) in
    record {
      tracks = Each (λ d ch. CountsChain [] ch 0) (tracks_pushed (chain_at chains c) chain x b (begun.tracks c) pushed) (λ d other. begun.tracks d);
      waits = λ u.
          let set = wanted-set chains c chain u inside in
          let left = left_after (chain_at chains c) chain x u b (begun.tracks c).within pushed in
          let was = begun.waits u in
          let now = waits_after old.waits.items new.waits.items x.party u b waits_known waits_are in
          let same : wanted new.chains.items u ≡ wanted (slice_set chains c chain) u = ap (λ cs. wanted cs u) chains_are in
          omega arith;
      closed = Each (λ d ch. (p : ℕ) → p + 1 < length ch.members → closed_at new.is_closed.items (party_at ch.members p) ≡ true) (subst (λ (xs : List Member). (p : ℕ) → p + 1 < length xs → closed_at new.is_closed.items (party_at xs p) ≡ true) (sym pushed.members) (λ p h. subst (λ (y : Member). closed_at new.is_closed.items y.party ≡ true) (sym (at_old ms x p (omega arith))) (⊎_elim (λ inner. kept _ (begun.closed c p inner)) (λ edge. last p (omega arith)) (cases_lt (p + 1) (length ms))))) (λ d other p h. kept _ (begun.closed d p h));
      every_wait = waits_len old.waits.items new.waits.items x.party b waits_are ∙ begun.every_wait ∙ sym tasks_len;
      every_flag = flags_len ∙ begun.every_flag ∙ sym tasks_len;
      parties = Each (λ d ch. (p : ℕ) → p < length ch.members → party_at ch.members p < length new.tasks.items) (subst (λ (xs : List Member). (p : ℕ) → p < length xs → party_at xs p < length new.tasks.items) (sym pushed.members) (each_pushed ms x (λ p y. y.party < length new.tasks.items) (λ p h. let e = begun.parties c p h in omega arith) (omega arith))) (λ d other p h. let e = begun.parties d p h in omega arith);
    }
