-- What a word gives and how it is written, and where a word is divided.
use Rattle.std.proofs.Common.{◌≡◌, ℕ, suc, ◌+◌, ◌-◌, ◌<◌, ◌≤◌, ◌&&◌, not, Bool, true, false, List, [], ◌∷◌, ◌++◌, length, map, take, drop, get_or, refl, ap, ◌∙◌, sym, subst, arith, Option, Some, None, option_map, cond, nat_eq, nat_lt, nat_le, length-append}
use Rattle.std.specs.Str.{bytes_eq}
use Rattle.std.specs.List.{position_or_len, before_first, after_first, list_all}
use Rattle.std.proofs.lemmas.Slice.Eq.{bytes_eq-Decides}
use Rattle.std.proofs.lemmas.List.{take_all, drop_all, take_at, drop_more, take-append-drop}
use Rattle.std.proofs.lemmas.List.Sums.{prefix_len-le-length, split_at_first, passes_at_first}
use Rattle.std.proofs.lemmas.List.Folds.{length-prefix_len}
use Rattle.std.proofs.lemmas.Bool.Decides.{Decides-eqb, nat_tests}
use Rattle.std.proofs.lemmas.Bool.{and_from, and_parts}
use Rattle.sj_base.proofs.Lists.{find-passes}
use Rattle.sj_job.specs.Word.{is_name, is_letter, is_letter_or_digit}
use Rattle.sj_job.specs.Form.{spelled_in, each_some, ends_with, without_last}

-- what an option was, where its image is something
pub some_from : {A B : Type 0} (f : A → B) (o : Option A) (y : B) → option_map f o ≡ Some y → (x : A) × ((o ≡ Some x) × (f x ≡ y))
some_from f None y e = absurd (cc)
some_from f (Some x) y e = (x, (refl, cc))

-- f reads exactly what is written of the values that pass the test
pub record Reads {A B : Type 0} (f : A → Option B) (write : B → A) (test : B → Bool) : Type 0 where
  pub read : (x : A) (y : B) → f x ≡ Some y → (x ≡ write y) × (test y ≡ true)
  pub back : (y : B) → test y ≡ true → f (write y) ≡ Some y

-- ---- a word of the language

found_by : {A : Type 0} (p : A → Bool) (x y : A) (o : Option A) (t : Bool) → p x ≡ t → (o ≡ Some y → p y ≡ true) → cond t (Some x) o ≡ Some y → p y ≡ true
found_by p x y o true h k e = let s : x ≡ y = cc in ap p (sym s) ∙ h
found_by p x y o false h k e = k e

pub word-found : {A : Type 0} (word : A → List ℕ) (xs : List A) (w : List ℕ) (y : A) → spelled_in word xs w ≡ Some y → w ≡ word y
word-found word xs w y e = (bytes_eq-Decides w (word y)).0 (find-passes (λ x. bytes_eq w (word x)) xs y e)

-- ---- each word

abbrev each_by : {A B : Type 0} → (A → Option B) → List A → Option B → Option (List B)
each_by {A} {B} f xs o = elim o as (λ _. Option (List B)) [ None ↦ None | Some y ↦ option_map (λ ys. y ∷ ys) (each_some f xs) ]

each_read_by : {A B : Type 0} (f : A → Option B) (write : B → A) (test : B → Bool) (x : A) (xs : List A) (o : Option B) (ys : List B) → ((y : B) → o ≡ Some y → (x ≡ write y) × (test y ≡ true)) → ((zs : List B) → each_some f xs ≡ Some zs → (xs ≡ map write zs) × (list_all test zs ≡ true)) → each_by f xs o ≡ Some ys → (x ∷ xs ≡ map write ys) × (list_all test ys ≡ true)
each_read_by f write test x xs None ys h k e = absurd (cc)
each_read_by {A} {B} f write test x xs (Some y) ys h k e =
    let p = some_from (λ (zs : List B). y ∷ zs) (each_some f xs) ys e in
    let one = h y refl in
    let rest = k p.0 p.1.0 in
    subst (λ zs. (x ∷ xs ≡ map write zs) × (list_all test zs ≡ true)) p.1.1
    (ap (λ z. z ∷ xs) one.0 ∙ ap (λ zs. write y ∷ zs) rest.0, and_from (test y) (list_all test p.0) one.1 rest.1)

each_read : {A B : Type 0} (f : A → Option B) (write : B → A) (test : B → Bool) → Reads f write test → (xs : List A) (ys : List B) → each_some f xs ≡ Some ys → (xs ≡ map write ys) × (list_all test ys ≡ true)
each_read f write test r [] [] e = (refl, refl)
each_read f write test r [] (y ∷ ys) e = absurd (cc)
each_read f write test r (x ∷ xs) ys e = each_read_by f write test x xs (f x) ys (r.read x) (each_read f write test r xs) e

each_back : {A B : Type 0} (f : A → Option B) (write : B → A) (test : B → Bool) → Reads f write test → (ys : List B) → list_all test ys ≡ true → each_some f (map write ys) ≡ Some ys
each_back f write test r [] h = refl
each_back f write test r (y ∷ ys) h =
    let q = and_parts (test y) (list_all test ys) h in
    ap (each_by f (map write ys)) (r.back y q.0) ∙ ap (option_map (λ zs. y ∷ zs)) (each_back f write test r ys q.1)

pub each-reads : {A B : Type 0} (f : A → Option B) (write : B → A) (test : B → Bool) → Reads f write test → Reads (each_some f) (map write) (list_all test)
each-reads f write test r = record { read = each_read f write test r; back = each_back f write test r }

-- ---- a word divided at its first byte of a kind

-- where a byte of the kind follows bytes that are not
pub position-at : (p : ℕ → Bool) (n : List ℕ) (b : ℕ) (m : List ℕ) → list_all (λ c. not (p c)) n ≡ true → p b ≡ true → position_or_len p (n ++ b ∷ m) ≡ length n
position-at p [] b m f e = ap (λ t. cond (not t) (1 + position_or_len p m) 0) e
position-at p (x ∷ n) b m f e =
    let q = and_parts (not (p x)) (list_all (λ c. not (p c)) n) f in
    ap (λ t. cond t (1 + position_or_len p (n ++ b ∷ m)) 0) q.0 ∙ omega (arith, position-at p n b m q.1 e)

pub position-none : (p : ℕ → Bool) (n : List ℕ) → list_all (λ c. not (p c)) n ≡ true → position_or_len p n ≡ length n
position-none p [] f = refl
position-none p (x ∷ n) f =
    let q = and_parts (not (p x)) (list_all (λ c. not (p c)) n) f in
    ap (λ t. cond t (1 + position_or_len p n) 0) q.0 ∙ omega (arith, position-none p n q.1)

pub before-at : (p : ℕ → Bool) (n : List ℕ) (b : ℕ) (m : List ℕ) → list_all (λ c. not (p c)) n ≡ true → p b ≡ true → before_first p (n ++ b ∷ m) ≡ n
before-at p n b m f e = ap (λ k. take k (n ++ b ∷ m)) (position-at p n b m f e) ∙ take_at n (b ∷ m) (length n) refl

past : (n : List ℕ) (b : ℕ) (m : List ℕ) → drop (suc (length n)) (n ++ b ∷ m) ≡ m
past [] b m = refl
past (x ∷ n) b m = past n b m

pub after-at : (p : ℕ → Bool) (n : List ℕ) (b : ℕ) (m : List ℕ) → list_all (λ c. not (p c)) n ≡ true → p b ≡ true → after_first p (n ++ b ∷ m) ≡ m
after-at p n b m f e =
    let k : position_or_len p (n ++ b ∷ m) + 1 ≡ suc (length n) = omega (arith, position-at p n b m f e) in
    ap (λ k. drop k (n ++ b ∷ m)) k ∙ past n b m

pub before-none : (p : ℕ → Bool) (n : List ℕ) → list_all (λ c. not (p c)) n ≡ true → before_first p n ≡ n
before-none p n f = ap (λ k. take k n) (position-none p n f) ∙ take_all (length n) n (omega arith)

-- a word with such a byte is what stands before, the byte, and what follows
pub divided : (b : ℕ) (w : List ℕ) → position_or_len (λ c. nat_eq c b) w < length w → w ≡ before_first (λ c. nat_eq c b) w ++ b ∷ after_first (λ c. nat_eq c b) w
divided b w lt =
    let at : nat_eq (get_or w (position_or_len (λ c. nat_eq c b) w) 0) b ≡ true = passes_at_first (λ c. nat_eq c b) w 0 lt in
    split_at_first (λ c. nat_eq c b) w 0 lt
    ∙ ap (λ c. before_first (λ c. nat_eq c b) w ++ c ∷ after_first (λ c. nat_eq c b) w) ((Decides-eqb (get_or w (position_or_len (λ c. nat_eq c b) w) 0) b).0 at)

-- it has none
pub undivided : (p : ℕ → Bool) (w : List ℕ) → length w ≤ position_or_len p w → (before_first p w ≡ w) × (after_first p w ≡ [])
undivided p w le = (take_all (position_or_len p w) w le, drop_all (position_or_len p w + 1) w (omega arith))

-- whether what stands before is all
pub is-whole : (p : ℕ → Bool) (w : List ℕ) → nat_eq (length (before_first p w)) (length w) ≡ true → before_first p w ≡ w
is-whole p w e =
    let s : length (before_first p w) ≡ length w = (Decides-eqb (length (before_first p w)) (length w)).0 e in
    let k : length (before_first p w) ≡ position_or_len p w = length-prefix_len (λ c. not (p c)) w in
    (undivided p w (omega arith)).0

pub is-part : (p : ℕ → Bool) (w : List ℕ) → nat_eq (length (before_first p w)) (length w) ≡ false → position_or_len p w < length w
is-part p w e =
    let k : length (before_first p w) ≡ position_or_len p w = length-prefix_len (λ c. not (p c)) w in
    let le : position_or_len p w ≤ length w = prefix_len-le-length (λ c. not (p c)) w in
    grind (arith, nat_tests)

-- ---- the bytes of a name

other_byte : (q : ℕ → Bool) (b c : ℕ) (t : Bool) → q b ≡ false → q c ≡ true → nat_eq c b ≡ t → not t ≡ true
other_byte q b c true f e h = let s : q c ≡ q b = ap q ((Decides-eqb c b).0 h) in absurd (cc)
other_byte q b c false f e h = refl

other_bytes : (q : ℕ → Bool) (b : ℕ) (n : List ℕ) → q b ≡ false → list_all q n ≡ true → list_all (λ c. not (nat_eq c b)) n ≡ true
other_bytes q b [] f e = refl
other_bytes q b (c ∷ n) f e =
    let p = and_parts (q c) (list_all q n) e in
    ap (λ t. t && list_all (λ c. not (nat_eq c b)) n) (other_byte q b c (nat_eq c b) f p.0 refl) ∙ other_bytes q b n f p.1

-- a byte that is no letter and no digit is in no name
pub not-in-name : (b : ℕ) (n : List ℕ) → is_letter b ≡ false → is_letter_or_digit b ≡ false → is_name n ≡ true → list_all (λ c. not (nat_eq c b)) n ≡ true
not-in-name b [] f g e = refl
not-in-name b (c ∷ n) f g e =
    let p = and_parts (is_letter c && list_all is_letter_or_digit n) (nat_le (length n) 30) e in
    let q = and_parts (is_letter c) (list_all is_letter_or_digit n) p.0 in
    ap (λ t. t && list_all (λ c. not (nat_eq c b)) n) (other_byte is_letter b c (nat_eq c b) f q.0 refl) ∙ other_bytes is_letter_or_digit b n g q.1

-- ---- the last byte of a word

pub last-byte : (b : ℕ) (w : List ℕ) → ends_with b w ≡ true → w ≡ without_last w ++ b ∷ []
last-byte b w e =
    let p = and_parts (nat_lt 0 (length w)) (nat_eq (get_or w (length w - 1) 0) b) e in
    let some : 0 < length w = let h : nat_lt 0 (length w) ≡ true = p.0 in grind (arith, nat_tests) in
    let lt : length w - 1 < length w = omega arith in
    sym (take-append-drop (length w - 1) w)
    ∙ ap (λ l. without_last w ++ l) (drop_more w (length w - 1) 0 lt)
    ∙ ap (λ l. without_last w ++ get_or w (length w - 1) 0 ∷ l) (drop_all (length w - 1 + 1) w (omega arith))
    ∙ ap (λ c. without_last w ++ c ∷ []) ((Decides-eqb (get_or w (length w - 1) 0) b).0 p.1)

before_last : (n : List ℕ) (b : ℕ) → length (n ++ b ∷ []) - 1 ≡ length n
before_last n b = omega (arith, length-append n (b ∷ []))

pub without-last : (n : List ℕ) (b : ℕ) → without_last (n ++ b ∷ []) ≡ n
without-last n b = ap (λ k. take k (n ++ b ∷ [])) (before_last n b) ∙ take_at n (b ∷ []) (length n) refl

at_end : (n : List ℕ) (b : ℕ) → get_or (n ++ b ∷ []) (length n) 0 ≡ b
at_end [] b = refl
at_end (x ∷ n) b = at_end n b

ends_by : (l : ℕ) (c b : ℕ) → 0 < l → c ≡ b → (nat_lt 0 l && nat_eq c b) ≡ true
ends_by l c b lt e = grind (arith, nat_tests)

pub ends-with : (n : List ℕ) (b : ℕ) → ends_with b (n ++ b ∷ []) ≡ true
ends-with n b =
    ends_by (length (n ++ b ∷ [])) (get_or (n ++ b ∷ []) (length (n ++ b ∷ []) - 1) 0) b (omega (arith, length-append n (b ∷ [])))
    (ap (λ k. get_or (n ++ b ∷ []) k 0) (before_last n b) ∙ at_end n b)
