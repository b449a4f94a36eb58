-- What stands first in a text is one value, and its words are taken one behind another.
use Rattle.std.proofs.Common.{◌≡◌, ℕ, ◌<◌, ◌^◌, List, [], ◌∷◌, ◌++◌, codes, ap, sym, ◌∙◌, refl, arith, drop, get_or}
use Rattle.sj_base.specs.declared.ids.Cell.{Cell}
use Rattle.sj_base.specs.declared.ids.DiskNo.{DiskNo}
use Rattle.sj_base.specs.declared.ids.Node.{Node}
use Rattle.sj_base.specs.declared.ids.Task.{Task}
use Rattle.sj_base.specs.declared.ids.Worker.{Worker}
use Rattle.sj_base.specs.declared.ids.Place.{Place}
use Rattle.sj_base.specs.declared.ids.Place.TheVariants.{Node as AtNode, Disk as OnDisk}
use Rattle.sj_base.specs.declared.trace.Event.TheVariants.{Claim, Move, Moved, Drop, Run, End}
use Rattle.sj_trace.specs.Text.{word, place_word, line_of}
use Rattle.sj_trace.specs.Reading.{EventFits, TaskFits, DropFits, TransferFits, PlaceFits, ended_word, ended_place, task_line, transfer_line, drop_line}
use Rattle.sj_trace.proofs.Numbers.{same-word}

-- no two values stand first in one text
abbrev pub StandsFirst : {A : Type 0} → (A → Type 0) → (A → List ℕ) → Type 0
StandsFirst {A} Fits write = (a b : A) (r s : List ℕ) → Fits a → Fits b → write a ++ r ≡ write b ++ s → (a ≡ b) × (r ≡ s)

-- no value of this kind stands first in a text
abbrev pub NoneFirst : {A : Type 0} → (A → Type 0) → (A → List ℕ) → List ℕ → Type 0
NoneFirst {A} Fits write text = (a : A) (rest : List ℕ) → Fits a → write a ++ rest ≡ text → ⊥

-- behind the value that stands first there is none of another kind, so none of both stands first
pub none_behind : {A B : Type 0} (Fits : A → Type 0) (write : A → List ℕ) → StandsFirst Fits write → (FitsBehind : B → Type 0) (write_behind : B → List ℕ)
    → (a : A) (rest text : List ℕ) → Fits a → write a ++ rest ≡ text → NoneFirst FitsBehind write_behind rest
    → (x : A) (b : B) (s : List ℕ) → Fits x → FitsBehind b → write x ++ (write_behind b ++ s) ≡ text → ⊥
none_behind Fits write first FitsBehind write_behind a rest text fits is none x b s fx fb h =
    let same = first x a (write_behind b ++ s) rest fx fits (h ∙ sym is) in
    none b s fb same.1

-- ---- words

pub task-first : StandsFirst (λ (t : Task). t.0 < 2 ^ 32) (λ t. ended_word (codes "t") 32 t.0)
task-first t u r s l k h =
    let same = same-word 116 t.0 u.0 32 r s l k (omega arith) h in
    let number : ℕ → Task = λ n. record { 0 = n } in
    (ap number same.0, same.1)

pub cell-first : StandsFirst (λ (c : Cell). c.0 < 2 ^ 32) (λ c. ended_word (codes "c") 32 c.0)
cell-first c d r s l k h =
    let same = same-word 99 c.0 d.0 32 r s l k (omega arith) h in
    let number : ℕ → Cell = λ n. record { 0 = n } in
    (ap number same.0, same.1)

pub worker-first : StandsFirst (λ (w : Worker). w.0 < 2 ^ 8) (λ w. ended_word (codes "w") 10 w.0)
worker-first v w r s l k h =
    let same = same-word 119 v.0 w.0 10 r s (omega arith) (omega arith) (omega arith) h in
    let number : ℕ → Worker = λ n. record { 0 = n } in
    (ap number same.0, same.1)

pub node-first : (end : ℕ) → end < 48 → StandsFirst (λ (n : Node). n.0 < 2 ^ 8) (λ n. ended_word (codes "n") end n.0)
node-first end low m n r s l k h =
    let same = same-word 110 m.0 n.0 end r s (omega arith) (omega arith) low h in
    let number : ℕ → Node = λ x. record { 0 = x } in
    (ap number same.0, same.1)

disk-first : (end : ℕ) → end < 48 → StandsFirst (λ (d : DiskNo). d.0 < 2 ^ 8) (λ d. ended_word (codes "d") end d.0)
disk-first end low c d r s l k h =
    let same = same-word 100 c.0 d.0 end r s (omega arith) (omega arith) low h in
    let number : ℕ → DiskNo = λ x. record { 0 = x } in
    (ap number same.0, same.1)

pub place-first : (end : ℕ) → end < 48 → StandsFirst PlaceFits (ended_place end)
place-first end low (AtNode m) (AtNode n) r s l k h = let same = node-first end low m n r s l k h in (ap AtNode same.0, same.1)
place-first end low (OnDisk c) (OnDisk d) r s l k h = let same = disk-first end low c d r s l k h in (ap OnDisk same.0, same.1)
place-first end low p q r s l k h = absurd (omega (arith, ap (λ w. get_or w 0 0) h))

-- ---- what stands behind the verb of a line

parted : (word rest n s : List ℕ) (end : ℕ) → ((word ++ end ∷ rest) ++ n) ++ s ≡ (word ++ end ∷ []) ++ ((rest ++ n) ++ s)
parted [] rest n s end = refl
parted (b ∷ bs) rest n s end = ap (λ l. b ∷ l) (parted bs rest n s end)

pub task-parted : (p : Task × Worker) (s : List ℕ) → task_line p ++ s ≡ ended_word (codes "t") 32 p.0.0 ++ (ended_word (codes "w") 10 p.1.0 ++ s)
task-parted (t, w) s = parted (word (codes "t") t.0) (word (codes "w") w.0) (10 ∷ []) s 32

pub drop-parted : (p : Cell × Node) (s : List ℕ) → drop_line p ++ s ≡ ended_word (codes "c") 32 p.0.0 ++ (ended_word (codes "n") 10 p.1.0 ++ s)
drop-parted (c, n) s = parted (word (codes "c") c.0) (word (codes "n") n.0) (10 ∷ []) s 32

pub transfer-parted : (p : Cell × Place × Place) (s : List ℕ) → transfer_line p ++ s ≡ ended_word (codes "c") 32 p.0.0 ++ (ended_place 32 p.1 ++ (ended_place 10 p.2 ++ s))
transfer-parted (c, from, to) s =
    parted (word (codes "c") c.0) (place_word from ++ 32 ∷ place_word to) (10 ∷ []) s 32
    ∙ ap (λ l. ended_word (codes "c") 32 c.0 ++ l) (parted (place_word from) (place_word to) (10 ∷ []) s 32)

task_line-first : StandsFirst TaskFits task_line
task_line-first (t, w) (u, v) r s l k h =
    let one = task-first t u (ended_word (codes "w") 10 w.0 ++ r) (ended_word (codes "w") 10 v.0 ++ s) l.0 k.0 (sym (task-parted (t, w) r) ∙ h ∙ task-parted (u, v) s) in
    let other = worker-first w v r s l.1 k.1 one.1 in
    (cc (one.0, other.0), other.1)

drop_line-first : StandsFirst DropFits drop_line
drop_line-first (c, m) (d, n) r s l k h =
    let one = cell-first c d (ended_word (codes "n") 10 m.0 ++ r) (ended_word (codes "n") 10 n.0 ++ s) l.0 k.0 (sym (drop-parted (c, m) r) ∙ h ∙ drop-parted (d, n) s) in
    let other = node-first 10 (omega arith) m n r s l.1 k.1 one.1 in
    (cc (one.0, other.0), other.1)

transfer_line-first : StandsFirst TransferFits transfer_line
transfer_line-first (c, from, to) (d, p, q) r s l k h =
    let one = cell-first c d (ended_place 32 from ++ (ended_place 10 to ++ r)) (ended_place 32 p ++ (ended_place 10 q ++ s)) l.0 k.0 (sym (transfer-parted (c, from, to) r) ∙ h ∙ transfer-parted (d, p, q) s) in
    let two = place-first 32 (omega arith) from p (ended_place 10 to ++ r) (ended_place 10 q ++ s) l.1 k.1 one.1 in
    let three = place-first 10 (omega arith) to q r s l.2 k.2 two.1 in
    (cc (one.0, two.0, three.0), three.1)

pub no-task : (text : List ℕ) → NoneFirst (λ (t : Task). t.0 < 2 ^ 32) (λ t. ended_word (codes "t") 32 t.0) text → NoneFirst TaskFits task_line text
no-task text none (t, w) s l h = none t (ended_word (codes "w") 10 w.0 ++ s) l.0 (sym (task-parted (t, w) s) ∙ h)

pub no-cell-dropped : (text : List ℕ) → NoneFirst (λ (c : Cell). c.0 < 2 ^ 32) (λ c. ended_word (codes "c") 32 c.0) text → NoneFirst DropFits drop_line text
no-cell-dropped text none (c, n) s l h = none c (ended_word (codes "n") 10 n.0 ++ s) l.0 (sym (drop-parted (c, n) s) ∙ h)

pub no-cell-moved : (text : List ℕ) → NoneFirst (λ (c : Cell). c.0 < 2 ^ 32) (λ c. ended_word (codes "c") 32 c.0) text → NoneFirst TransferFits transfer_line text
no-cell-moved text none (c, from, to) s l h = none c (ended_place 32 from ++ (ended_place 10 to ++ s)) l.0 (sym (transfer-parted (c, from, to) s) ∙ h)

pub no-worker : (a : Task) (rest text : List ℕ) → a.0 < 2 ^ 32 → ended_word (codes "t") 32 a.0 ++ rest ≡ text → NoneFirst (λ (w : Worker). w.0 < 2 ^ 8) (λ w. ended_word (codes "w") 10 w.0) rest → NoneFirst TaskFits task_line text
no-worker a rest text fits is none p s l h =
    none_behind (λ (t : Task). t.0 < 2 ^ 32) (λ t. ended_word (codes "t") 32 t.0) task-first (λ (w : Worker). w.0 < 2 ^ 8) (λ w. ended_word (codes "w") 10 w.0)
    a rest text fits is none p.0 p.1 s l.0 l.1 (sym (task-parted p s) ∙ h)

pub no-node : (a : Cell) (rest text : List ℕ) → a.0 < 2 ^ 32 → ended_word (codes "c") 32 a.0 ++ rest ≡ text → NoneFirst (λ (n : Node). n.0 < 2 ^ 8) (λ n. ended_word (codes "n") 10 n.0) rest → NoneFirst DropFits drop_line text
no-node a rest text fits is none p s l h =
    none_behind (λ (c : Cell). c.0 < 2 ^ 32) (λ c. ended_word (codes "c") 32 c.0) cell-first (λ (n : Node). n.0 < 2 ^ 8) (λ n. ended_word (codes "n") 10 n.0)
    a rest text fits is none p.0 p.1 s l.0 l.1 (sym (drop-parted p s) ∙ h)

pub no-source : (a : Cell) (rest text : List ℕ) → a.0 < 2 ^ 32 → ended_word (codes "c") 32 a.0 ++ rest ≡ text → NoneFirst PlaceFits (ended_place 32) rest → NoneFirst TransferFits transfer_line text
no-source a rest text fits is none p s l h =
    none_behind (λ (c : Cell). c.0 < 2 ^ 32) (λ c. ended_word (codes "c") 32 c.0) cell-first PlaceFits (ended_place 32)
    a rest text fits is none p.0 p.1 (ended_place 10 p.2 ++ s) l.0 l.1 (sym (transfer-parted p s) ∙ h)

pub no-target : (a : Cell) (from : Place) (places rest text : List ℕ) → a.0 < 2 ^ 32 → PlaceFits from → ended_word (codes "c") 32 a.0 ++ places ≡ text → ended_place 32 from ++ rest ≡ places → NoneFirst PlaceFits (ended_place 10) rest → NoneFirst TransferFits transfer_line text
no-target a from places rest text fits from_fits is from_is none p s l h =
    let one = cell-first p.0 a (ended_place 32 p.1 ++ (ended_place 10 p.2 ++ s)) places l.0 fits (sym (transfer-parted p s) ∙ h ∙ sym is) in
    none_behind PlaceFits (ended_place 32) (place-first 32 (omega arith)) PlaceFits (ended_place 10)
    from rest places from_fits from_is none p.1 p.2 s l.1 l.2 one.1

-- ---- lines

pub event-first : StandsFirst EventFits line_of
event-first (Claim t w) (Claim u v) r s l k h = let same = task_line-first (t, w) (u, v) r s l k (ap (drop 6) h) in (ap (λ p. Claim p.0 p.1) same.0, same.1)
event-first (Run t w) (Run u v) r s l k h = let same = task_line-first (t, w) (u, v) r s l k (ap (drop 4) h) in (ap (λ p. Run p.0 p.1) same.0, same.1)
event-first (End t w) (End u v) r s l k h = let same = task_line-first (t, w) (u, v) r s l k (ap (drop 4) h) in (ap (λ p. End p.0 p.1) same.0, same.1)
event-first (Drop c m) (Drop d n) r s l k h = let same = drop_line-first (c, m) (d, n) r s l k (ap (drop 5) h) in (ap (λ p. Drop p.0 p.1) same.0, same.1)
event-first (Move c from to) (Move d p q) r s l k h = let same = transfer_line-first (c, from, to) (d, p, q) r s l k (ap (drop 5) h) in (ap (λ m. Move m.0 m.1 m.2) same.0, same.1)
event-first (Moved c from to) (Moved d p q) r s l k h = let same = transfer_line-first (c, from, to) (d, p, q) r s l k (ap (drop 6) h) in (ap (λ m. Moved m.0 m.1 m.2) same.0, same.1)
event-first a b r s l k h = absurd (omega (arith, ap (λ w. get_or w 0 0) h, ap (λ w. get_or w 4 0) h))
