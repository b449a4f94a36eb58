-- Names and the roots that they stand for.
use Rattle.std.proofs.Common.{◌≡◌, ℕ, ◌+◌, ◌<◌, ◌≤◌, Bool, true, false, not, List, [], ◌∷◌, ◌++◌, length, get_or, nat_eq, nat_lt, position, Option, Some, None, option_map, cond, refl, ap, sym, subst, ◌∙◌, arith, length-append, get_or-set_same, get_or-set_other, bytes_eq}
use Rattle.std.proofs.Math.ListN.{set}
use Rattle.std.proofs.Math.Seq.{get_or-append_seam}
use Rattle.std.specs.List.{position_or_len}
use Rattle.std.proofs.lemmas.List.{get_or_append_left}
use Rattle.std.proofs.lemmas.List.Folds.{position_or_len_push}
use Rattle.std.proofs.lemmas.List.Sums.{prefix_len-le-length}
use Rattle.std.proofs.lemmas.List.Quantifiers.{position-Some}
use Rattle.std.proofs.lemmas.Bool.Decides.{nat_tests}
use Rattle.std.proofs.lemmas.Bool.{both_ways}
use Rattle.sj_base.specs.declared.ids.Root.{Root}
use Rattle.sj_base.specs.declared.tile.Dims.{Dims}
use Rattle.sj_base.proofs.Texts.{same_text}
use Rattle.sj_meaning.specs.declared.job.RootInfo.{RootInfo}
use Rattle.sj_job.specs.declared.names.RootStanding.{RootStanding}
use Rattle.sj_job.specs.declared.names.RootStanding.TheVariants.{Ended}
use Rattle.sj_job.specs.Names.{Found}
use Rattle.sj_meaning.specs.Table.{Table, a_root, name_of, no_info, info_of, root_in, IsRoot, with_root}
use Rattle.sj_meaning.proofs.Finding.{is-at, text-itself}

-- ---- how it stands with a name

abbrev pub entry : Table → List RootStanding → Root → Found
entry T sts r = record { root = r; dims = (info_of T r).dims; standing = get_or sts r.0 Ended }

abbrev pub a_found : Root → Dims → RootStanding → Found
a_found r d st = record { root = r; dims = d; standing = st }

abbrev pub found_with : Table → List RootStanding → List ℕ → Option Found
found_with T sts q = option_map (entry T sts) (root_in T q)

-- another standing of one root
set_by : (T : Table) (sts : List RootStanding) (r : Root) (st : RootStanding) (q : List ℕ) (o : Option Root) (b : Bool) → IsRoot T r → r.0 < length sts → root_in T q ≡ o → bytes_eq q (name_of T r) ≡ b
    → option_map (entry T (set sts r.0 st)) o ≡ cond b (Some (a_found r (info_of T r).dims st)) (option_map (entry T sts) o)
set_by T sts r st q None true h lt e t = absurd (let same : root_in T q ≡ Some r = ap (root_in T) (same_text q (name_of T r) t) ∙ h in cc)
set_by T sts r st q None false h lt e t = refl
set_by T sts r st q (Some s) true h lt e t =
    let found : root_in T q ≡ Some r = ap (root_in T) (same_text q (name_of T r) t) ∙ h in
    let same : s ≡ r = cc in
    ap (λ (u : Root). Some (entry T (set sts r.0 st) u)) same
    ∙ ap (λ (x : RootStanding). Some (a_found r (info_of T r).dims x)) (get_or-set_same sts r.0 st Ended lt)
set_by T sts r st q (Some s) false h lt e t =
    let other : s.0 ≡ r.0 → ⊥ = λ k. both_ways (bytes_eq q (name_of T r)) t (text-itself q (name_of T r) (sym (is-at T q s e).named ∙ ap (λ n. get_or T.names n []) k)) in
    ap (λ (x : RootStanding). Some (a_found s (info_of T s).dims x)) (get_or-set_other sts r.0 s.0 st Ended other)

pub found-set : (T : Table) (sts : List RootStanding) (r : Root) (st : RootStanding) (q : List ℕ) → IsRoot T r → r.0 < length sts
    → found_with T (set sts r.0 st) q ≡ cond (bytes_eq q (name_of T r)) (Some (a_found r (info_of T r).dims st)) (found_with T sts q)
found-set T sts r st q h lt = set_by T sts r st q (root_in T q) (bytes_eq q (name_of T r)) h lt refl refl

-- ---- a root more

push_some : (names : List (List ℕ)) (name q : List ℕ) (i : ℕ) → position (bytes_eq q) names ≡ Some i → position (bytes_eq q) (names ++ name ∷ []) ≡ Some i
push_some names name q i p = by_len (position_or_len (bytes_eq q) names) refl p
  where
    by_len : (n : ℕ) → position_or_len (bytes_eq q) names ≡ n → cond (nat_lt n (length names)) (Some n) None ≡ Some i → position (bytes_eq q) (names ++ name ∷ []) ≡ Some i
    by_len n e h = by_test (nat_lt n (length names)) refl h
      where
        by_test : (t : Bool) → nat_lt n (length names) ≡ t → cond t (Some n) None ≡ Some i → position (bytes_eq q) (names ++ name ∷ []) ≡ Some i
        by_test false t h = absurd (cc)
        by_test true t h =
            let lt : n < length names = grind (arith, nat_tests) in
            let apart : nat_eq n (length names) ≡ false = grind (arith, nat_tests) in
            let pushed : position_or_len (bytes_eq q) (names ++ name ∷ []) ≡ n =
            position_or_len_push (bytes_eq q) names name ∙ ap (λ m. cond (nat_eq m (length names)) (length names + cond (bytes_eq q name) 0 1) m) e
            ∙ ap (λ b. cond b (length names + cond (bytes_eq q name) 0 1) n) apart in
            let longer : length (names ++ name ∷ []) ≡ length names + 1 = length-append names (name ∷ []) in
            let within : nat_lt n (length (names ++ name ∷ [])) ≡ true = grind (arith, nat_tests) in
            ap (λ m. cond (nat_lt m (length (names ++ name ∷ []))) (Some m) None) pushed
            ∙ ap (λ b. cond b (Some n) None) within ∙ h

push_none : (names : List (List ℕ)) (name q : List ℕ) → position (bytes_eq q) names ≡ None → position (bytes_eq q) (names ++ name ∷ []) ≡ cond (bytes_eq q name) (Some (length names)) None
push_none names name q p = by_len (position_or_len (bytes_eq q) names) refl p
  where
    by_len : (n : ℕ) → position_or_len (bytes_eq q) names ≡ n → cond (nat_lt n (length names)) (Some n) None ≡ None → position (bytes_eq q) (names ++ name ∷ []) ≡ cond (bytes_eq q name) (Some (length names)) None
    by_len n e h = by_test (nat_lt n (length names)) refl h
      where
        by_test : (t : Bool) → nat_lt n (length names) ≡ t → cond t (Some n) None ≡ None → position (bytes_eq q) (names ++ name ∷ []) ≡ cond (bytes_eq q name) (Some (length names)) None
        by_test true t h = absurd (cc)
        by_test false t h =
            let le : n ≤ length names = omega (arith, subst (λ k. k ≤ length names) e (prefix_len-le-length (λ x. not (bytes_eq q x)) names)) in
            let same : n ≡ length names = grind (arith, nat_tests) in
            let at_end : nat_eq n (length names) ≡ true = grind (arith, nat_tests) in
            let longer : length (names ++ name ∷ []) ≡ length names + 1 = length-append names (name ∷ []) in
            let pushed : position_or_len (bytes_eq q) (names ++ name ∷ []) ≡ length names + cond (bytes_eq q name) 0 1 =
            position_or_len_push (bytes_eq q) names name ∙ ap (λ m. cond (nat_eq m (length names)) (length names + cond (bytes_eq q name) 0 1) m) e
            ∙ ap (λ b. cond b (length names + cond (bytes_eq q name) 0 1) n) at_end in
            ap (λ m. cond (nat_lt m (length (names ++ name ∷ []))) (Some m) None) pushed
            ∙ ap (λ k. cond (nat_lt (length names + cond (bytes_eq q name) 0 1) k) (Some (length names + cond (bytes_eq q name) 0 1)) None) longer
            ∙ by_name (bytes_eq q name)
          where
            by_name : (b : Bool) → cond (nat_lt (length names + cond b 0 1) (length names + 1)) (Some (length names + cond b 0 1)) None ≡ cond b (Some (length names)) None
            by_name true =
                let same : length names + 0 ≡ length names = omega arith in
                let within : nat_lt (length names) (length names + 1) ≡ true = grind (arith, nat_tests) in
                ap (λ k. cond (nat_lt k (length names + 1)) (Some k) None) same ∙ ap (λ b. cond b (Some (length names)) None) within
            by_name false =
                let past : nat_lt (length names + 1) (length names + 1) ≡ false = grind (arith, nat_tests) in
                ap (λ b. cond b (Some (length names + 1)) None) past

-- what is found of a name after a root more
push_by : (T : Table) (sts : List RootStanding) (name : List ℕ) (info : RootInfo) (st : RootStanding) (q : List ℕ) (o : Option ℕ) (b : Bool) → length T.infos ≡ length T.names → length sts ≡ length T.names → root_in T name ≡ None
    → position (bytes_eq q) T.names ≡ o → bytes_eq q name ≡ b
    → found_with (with_root name info T) (sts ++ st ∷ []) q ≡ cond b (Some (a_found (a_root (length T.names)) info.dims st)) (option_map (entry T sts) (option_map a_root o))
push_by T sts name info st q (Some i) true k l none p t =
    absurd (let gone : root_in T q ≡ None = ap (root_in T) (same_text q name t) ∙ none in let there : root_in T q ≡ Some (a_root i) = ap (option_map a_root) p in cc)
push_by T sts name info st q (Some i) false k l none p t =
    let lt : i < length T.names = (position-Some (bytes_eq q) T.names i [] p).0 in
    let in_infos : i < length T.infos = omega arith in
    let in_sts : i < length sts = omega arith in
    ap (λ o. option_map (entry (with_root name info T) (sts ++ st ∷ [])) (option_map a_root o)) (push_some T.names name q i p)
    ∙ ap (λ (d : RootInfo). Some (a_found (a_root i) d.dims (get_or (sts ++ st ∷ []) i Ended))) (get_or_append_left T.infos (info ∷ []) no_info i in_infos)
    ∙ ap (λ (s : RootStanding). Some (a_found (a_root i) (info_of T (a_root i)).dims s)) (get_or_append_left sts (st ∷ []) Ended i in_sts)
push_by T sts name info st q None b k l none p t =
    ap (λ o. option_map (entry (with_root name info T) (sts ++ st ∷ [])) (option_map a_root o)) (push_none T.names name q p ∙ ap (λ c. cond c (Some (length T.names)) None) t)
    ∙ by_name b
  where
    by_name : (b : Bool) → option_map (entry (with_root name info T) (sts ++ st ∷ [])) (option_map a_root (cond b (Some (length T.names)) None)) ≡ cond b (Some (a_found (a_root (length T.names)) info.dims st)) None
    by_name false = refl
    by_name true =
        let last_info : get_or (T.infos ++ info ∷ []) (length T.names) no_info ≡ info = ap (λ n. get_or (T.infos ++ info ∷ []) n no_info) (sym k) ∙ get_or-append_seam T.infos info [] no_info in
        let last_standing : get_or (sts ++ st ∷ []) (length T.names) Ended ≡ st = ap (λ n. get_or (sts ++ st ∷ []) n Ended) (sym l) ∙ get_or-append_seam sts st [] Ended in
        ap (λ (d : RootInfo). Some (a_found (a_root (length T.names)) d.dims (get_or (sts ++ st ∷ []) (length T.names) Ended))) last_info
        ∙ ap (λ (s : RootStanding). Some (a_found (a_root (length T.names)) info.dims s)) last_standing

pub found-pushed : (T : Table) (sts : List RootStanding) (name : List ℕ) (info : RootInfo) (st : RootStanding) (q : List ℕ) → length T.infos ≡ length T.names → length sts ≡ length T.names → root_in T name ≡ None
    → found_with (with_root name info T) (sts ++ st ∷ []) q ≡ cond (bytes_eq q name) (Some (a_found (a_root (length T.names)) info.dims st)) (found_with T sts q)
found-pushed T sts name info st q k l none = push_by T sts name info st q (position (bytes_eq q) T.names) (bytes_eq q name) k l none refl refl
