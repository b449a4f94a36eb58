-- Names and the roots that they stand for.
use Rattle.std.specs.FinMap as map
use Rattle.std.proofs.Common.{◌≡◌, ℕ, ◌+◌, ◌<◌, Bool, true, not, List, [], ◌∷◌, length, map, get_or, nat_lt, position, Option, Some, None, option_map, cond, refl, ap, sym, subst, ◌∙◌, bytes_eq}
use Rattle.std.specs.List.{position_or_len}
use Rattle.std.specs.Cmp.{eq_by_cmp_equiv}
use Rattle.std.specs.Cmp.Lexicographic.{nat_list_cmp_total}
use Rattle.std.proofs.lemmas.Map.Text.{is_eq-slice_cmp}
use Rattle.std.proofs.lemmas.List.{length-map}
use Rattle.std.proofs.lemmas.List.Quantifiers.{position-Some}
use Rattle.std.proofs.lemmas.Slice.Eq.{bytes_eq-Decides}
use Rattle.sj_base.specs.declared.ids.Root.{Root}
use Rattle.sj_meaning.specs.State.{RootState, Roots, JobState, root_of}
use Rattle.sj_meaning.specs.Meaning.{change}
use Rattle.sj_meaning.specs.Table.{Table, a_root, name_of, root_in, IsRoot}

-- ---- places in lists

len-map : {X Y : Type 0} (p : Y → Bool) (f : X → Y) (xs : List X) → position_or_len p (map f xs) ≡ position_or_len (λ x. p (f x)) xs
len-map p f [] = refl
len-map p f (x ∷ xs) = ap (λ n. cond (not (p (f x))) (1 + n) 0) (len-map p f xs)

pub position-map : {X Y : Type 0} (p : Y → Bool) (f : X → Y) (xs : List X) → position p (map f xs) ≡ position (λ x. p (f x)) xs
position-map p f xs = λ i. cond (nat_lt (len-map p f xs i) (length-map xs f i)) (Some (len-map p f xs i)) None

-- ---- the root of a name

pub record IsAt (T : Table) (q : List ℕ) (r : Root) : Type 0 where
  pub below : r.0 < length T.names
  pub named : name_of T r ≡ q

at_by : (T : Table) (q : List ℕ) (r : Root) (o : Option ℕ) → position (bytes_eq q) T.names ≡ o → option_map a_root o ≡ Some r → IsAt T q r
at_by T q r None p e = absurd (cc)
at_by T q r (Some i) p e =
    let at = position-Some (bytes_eq q) T.names i [] p in
    let same : a_root i ≡ r = cc in
    subst (λ (s : Root). IsAt T q s) same (record { below = at.0; named = sym ((bytes_eq-Decides q (get_or T.names i [])).0 at.1) })

pub is-at : (T : Table) (q : List ℕ) (r : Root) → root_in T q ≡ Some r → IsAt T q r
is-at T q r e = at_by T q r (position (bytes_eq q) T.names) refl e

pub is-root : (T : Table) (q : List ℕ) (r : Root) → root_in T q ≡ Some r → IsRoot T r
is-root T q r e = ap (root_in T) (is-at T q r e).named ∙ e

pub text-itself : (q name : List ℕ) → q ≡ name → bytes_eq q name ≡ true
text-itself q name e = (bytes_eq-Decides q name).1 e

-- ---- the roots of a state

pub bytes_eq-sym : (a b : List ℕ) → bytes_eq a b ≡ bytes_eq b a
bytes_eq-sym a b = sym (is_eq-slice_cmp a b) ∙ (eq_by_cmp_equiv nat_list_cmp_total).symm a b ∙ is_eq-slice_cmp b a

-- what a name's root is after another root was put
pub get-put : (M : Roots) (name : List ℕ) (root : RootState) (q : List ℕ) → map.get (map.insert M name root) q ≡ cond (bytes_eq name q) (Some root) (map.get M q)
get-put M name root q =
    map.get-insert nat_list_cmp_total M name root q ∙ ap (λ b. cond b (Some root) (map.get M q)) (is_eq-slice_cmp q name ∙ bytes_eq-sym q name)

pub get-gone : (M : Roots) (name : List ℕ) (q : List ℕ) → map.get (map.remove M name) q ≡ cond (bytes_eq name q) None (map.get M q)
get-gone M name q =
    map.get-remove nat_list_cmp_total M name q ∙ ap (λ b. cond b None (map.get M q)) (is_eq-slice_cmp q name ∙ bytes_eq-sym q name)

change-there : (f : RootState → RootState) (name : List ℕ) (S : JobState) (r : RootState) → root_of S name ≡ Some r → change f name S ≡ record { registered = S.registered; ended = S.ended; roots = map.insert S.roots name (f r) }
change-there f name S r e = ap (λ (o : Option RootState). elim o as (λ _. JobState) [
  | None ↦ S
  | Some r ↦ record { registered = S.registered; ended = S.ended; roots = map.insert S.roots name (f r) }
]) e

-- the roots after a change of one
pub root-change : (f : RootState → RootState) (name : List ℕ) (S : JobState) (r : RootState) (q : List ℕ) → root_of S name ≡ Some r → root_of (change f name S) q ≡ cond (bytes_eq name q) (Some (f r)) (root_of S q)
root-change f name S r q e = ap (λ (T : JobState). root_of T q) (change-there f name S r e) ∙ get-put S.roots name (f r) q
