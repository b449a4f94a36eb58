-- The header and the settings of a canonical text are read as they were.
use Rattle.std.proofs.Common.{◌≡◌, ℕ, ◌+◌, ◌<◌, ◌≤◌, Bool, true, false, not, cond, Option, Some, None, Result, Ok, Err, IfSome, List, [], ◌∷◌, ◌++◌, length, unwrap_or, refl, sym, ap, ◌∙◌, arith, append_assoc, append-nil, length-append, codes}
use Rattle.std.specs.Prelude.{All, nat_le, ◌^◌}
use Rattle.std.specs.Fmt.{decimal}
use Rattle.std.specs.List.{flat_map, join_with_byte, list_all}
use Rattle.std.proofs.lemmas.Bool.{le-leb, lt-leb, and_from}
use Rattle.std.proofs.lemmas.List.Elements.{All-from_recursion, All-head, All-tail}
use Rattle.sj_base.specs.declared.mode.Policy.{Policy}
use Rattle.sj_base.specs.declared.mode.Policy.TheVariants.{Eager, Prio, Ws}
use Rattle.sj_codelet.specs.declared.kernel.Kernel.{Kernel}
use Rattle.sj_job.specs.declared.form.Form.{Form}
use Rattle.sj_job.specs.declared.form.Form.TheVariants as form
use Rattle.sj_job.specs.declared.form.SettingForm.{SettingForm}
use Rattle.sj_job.specs.declared.form.SettingForm.TheVariants.{Workers, Node, Policy as PolicySet}
use Rattle.sj_job.specs.declared.form.Size.{Size}
use Rattle.sj_job.specs.declared.form.Size.TheVariants.{Vector, Matrix}
use Rattle.sj_job.specs.declared.reason.LimitKind.TheVariants as LimitKind
use Rattle.sj_job.specs.declared.reason.Reason.{Reason}
use Rattle.sj_job.specs.declared.reason.Reason.TheVariants.{Word, Number, Limit}
use Rattle.sj_meaning.specs.declared.settings.Settings.{Settings}
use Rattle.sj_job.specs.Grammar.{init_words, parts_words, sized, form_words}
use Rattle.sj_meaning.specs.Job.{Job}
use Rattle.sj_job.specs.Judge.{first_of}
use Rattle.sj_job.specs.Reading.{Refusal, front_of, reading, reading_settings, refusal, setting_in, with_settings}
use Rattle.sj_job.specs.Settings.{set_by, setting_of, setting_reasons, setting_written, with_setting}
use Rattle.sj_meaning.specs.Settings.{SettingsAreInRange, default_nodes, is_node_size, is_worker_count, nodes_of, policy_set, unset, worker_count}
use Rattle.sj_meaning.specs.State.{start}
use Rattle.sj_job.specs.Verdict.{Front, Passes, Begins, Stops}
use Rattle.sj_job.specs.Word.{count, is_count, is_skipped, lines, words}
use Rattle.sj_job.proofs.Numerals.{decimal-counts, decimal-is_count}
use Rattle.sj_job.proofs.Setting.{setting-back}
use Rattle.sj_show.specs.Words.{line_of_words}
use Rattle.sj_text.specs.Again.{settings_said}
use Rattle.sj_text.specs.Text.{node_line, settings_lines}
use Rattle.sj_text.proofs.Bytes.{allowed-joined, is_word, line-cut, words-joined}
use Rattle.sj_text.proofs.Written.{count-word}

-- ---- a line in front

abbrev front_by : Settings → Option SettingForm → Front
front_by g o = elim o as (λ _. Front) [
  | None ↦ Begins
  | Some f ↦ (elim (set_by g f) as (λ _. Front) [ Err why ↦ Stops why | Ok h ↦ Passes h ])
]

-- what comes of a line of words that isn't skipped
front-words : (g : Settings) (ws : List (List ℕ)) → list_all is_word ws ≡ true → is_skipped ws ≡ false → front_of g (join_with_byte 32 ws) ≡ front_by g (setting_of ws)
front-words g ws h k =
    let line = join_with_byte 32 ws in
    ap (λ (b : Bool). cond b (Passes g) (front_by g (setting_in line))) (ap is_skipped (words-joined ws h) ∙ k)
    ∙ ap (λ (b : Bool). front_by g (cond b (setting_of (words line)) None)) (allowed-joined ws h)
    ∙ ap (λ (vs : List (List ℕ)). front_by g (setting_of vs)) (words-joined ws h)

setting-unskipped : (f : SettingForm) → is_skipped (setting_written f) ≡ false
setting-unskipped (Workers n) = refl
setting-unskipped (Node n) = refl
setting-unskipped (PolicySet p) = refl

-- a settings line against which there is no reason
setting-passes : (g : Settings) (f : SettingForm) → list_all is_word (setting_written f) ≡ true → first_of (setting_reasons g f) ≡ None → front_of g (join_with_byte 32 (setting_written f)) ≡ Passes (with_setting f g)
setting-passes g f h none =
    front-words g (setting_written f) h (setting-unskipped f)
    ∙ ap (front_by g) (setting-back (setting_written f) f refl)
    ∙ ap (λ (o : Option Reason). elim (elim o as (λ _. Result Settings Reason) [ Some why ↦ Err why | None ↦ Ok (with_setting f g) ]) as (λ _. Front) [ Err why ↦ Stops why | Ok h ↦ Passes h ]) none

abbrev reads_on : (Kernel → Bool) → Settings → ℕ → List ℕ → List (List ℕ) → Front → Result Job Refusal
reads_on has g n l ls v = elim v as (λ _. Result Job Refusal) [
  | Passes h ↦ reading_settings has h (n + 1) ls
  | Begins ↦ with_settings g (reading has 0 start n (l ∷ ls))
  | Stops why ↦ Err (refusal n why)
]

setting-read : (has : Kernel → Bool) (g : Settings) (n : ℕ) (f : SettingForm) (rest : List ℕ) → list_all is_word (setting_written f) ≡ true → first_of (setting_reasons g f) ≡ None
    → reading_settings has g n (lines (line_of_words (setting_written f) ++ rest)) ≡ reading_settings has (with_setting f g) (n + 1) (lines rest)
setting-read has g n f rest h none =
    let line = join_with_byte 32 (setting_written f) in
    ap (reading_settings has g n) (line-cut (setting_written f) rest h)
    ∙ ap (reads_on has g n line (lines rest)) (setting-passes g f h none)

-- ---- each setting

abbrev set : Option ℕ → List ℕ → Option Policy → Settings
set w ns p = record { workers = w; nodes = ns; policy = p }

decimal-words : (first : List ℕ) (n : ℕ) → n < 2 ^ 63 → is_word first ≡ true → list_all is_word (first ∷ decimal n ∷ []) ≡ true
decimal-words first n lt h = and_from (is_word first) (list_all is_word (decimal n ∷ [])) h (and_from (is_word (decimal n)) true (count-word (decimal n) (decimal-is_count n lt)) refl)

-- none of three reasons
none-of : (a b c : Bool) (x y z : Reason) → a ≡ false → b ≡ false → c ≡ false → first_of ((a, x) ∷ (b, y) ∷ (c, z) ∷ []) ≡ None
none-of true b c x y z h k l = absurd (cc)
none-of false true c x y z h k l = absurd (cc)
none-of false false true x y z h k l = absurd (cc)
none-of false false false x y z h k l = refl

workers-read : (has : Kernel → Bool) (m n : ℕ) (rest : List ℕ) → (1 ≤ m) × (m ≤ 64) → reading_settings has unset n (lines (line_of_words (setting_written (Workers (decimal m))) ++ rest)) ≡ reading_settings has (set (Some m) [] None) (n + 1) (lines rest)
workers-read has m n rest h =
    let small : m < 2 ^ 63 = omega (arith, h.1) in
    let says : count (decimal m) ≡ m = decimal-counts m small in
    let within : is_worker_count (count (decimal m)) ≡ true = ap is_worker_count says ∙ and_from (nat_le 1 m) (nat_le m 64) (le-leb 1 m h.0) (le-leb m 64 h.1) in
    setting-read has unset n (Workers (decimal m)) rest (decimal-words (codes "workers") m small refl)
    (none-of false (not (is_count (decimal m))) (not (is_worker_count (count (decimal m)))) Word Number (Limit LimitKind.Workers) refl (ap not (decimal-is_count m small)) (ap not within))
    ∙ ap (λ (k : ℕ). reading_settings has (set (Some k) [] None) (n + 1) (lines rest)) says

abbrev IsSize : ℕ → Type 0
IsSize n = (8 ≤ n) × (n ≤ 2 ^ 40)

node-read : (has : Kernel → Bool) (w : Option ℕ) (before : List ℕ) (m n : ℕ) (rest : List ℕ) → length before < 16 → IsSize m → reading_settings has (set w before None) n (lines (node_line m ++ rest)) ≡ reading_settings has (set w (before ++ m ∷ []) None) (n + 1) (lines rest)
node-read has w before m n rest few h =
    let small : m < 2 ^ 63 = omega (arith, h.1) in
    let says : count (decimal m) ≡ m = decimal-counts m small in
    let within : is_node_size (count (decimal m)) ≡ true = ap is_node_size says ∙ and_from (nat_le 8 m) (nat_le m 1099511627776) (le-leb 8 m h.0) (le-leb m 1099511627776 (omega (arith, h.1))) in
    setting-read has (set w before None) n (Node (decimal m)) rest (decimal-words (codes "node") m small refl)
    (none-of (not (is_count (decimal m))) (nat_le 16 (length before)) (not (is_node_size (count (decimal m)))) Number (Limit LimitKind.Nodes) (Limit LimitKind.NodeBytes) (ap not (decimal-is_count m small)) (lt-leb 16 (length before) few) (ap not within))
    ∙ ap (λ (k : ℕ). reading_settings has (set w (before ++ k ∷ []) None) (n + 1) (lines rest)) says

nodes-read : (has : Kernel → Bool) (w : Option ℕ) (before ns : List ℕ) (n : ℕ) (rest : List ℕ) → length before + length ns ≤ 16 → All IsSize ns → reading_settings has (set w before None) n (lines (flat_map node_line ns ++ rest)) ≡ reading_settings has (set w (before ++ ns) None) (length ns + n) (lines rest)
nodes-read has w before [] n rest few h =
    let same : n ≡ 0 + n = omega arith in
    λ i. reading_settings has (set w (sym (append-nil before) i) None) (same i) (lines rest)
nodes-read has w before (m ∷ ns) n rest few h =
    let after : length ns + (n + 1) ≡ length (m ∷ ns) + n = omega arith in
    ap (λ (t : List ℕ). reading_settings has (set w before None) n (lines t)) (append_assoc (node_line m) (flat_map node_line ns) rest)
    ∙ node-read has w before m n (flat_map node_line ns ++ rest) (omega (arith, few)) (All-head IsSize m ns h)
    ∙ nodes-read has w (before ++ m ∷ []) ns (n + 1) rest (omega (arith, few, length-append before (m ∷ []))) (All-tail IsSize m ns h)
    ∙ (λ i. reading_settings has (set w (append_assoc before (m ∷ []) ns i) None) (after i) (lines rest))

policy-words : (p : Policy) → list_all is_word (setting_written (PolicySet p)) ≡ true
policy-words Eager = refl
policy-words Prio = refl
policy-words Ws = refl

-- ---- all of them

workers-within : (o : Option ℕ) → IfSome o (λ n. (1 ≤ n) × (n ≤ 64)) → (1 ≤ unwrap_or o 1) × (unwrap_or o 1 ≤ 64)
workers-within None h = (omega arith, omega arith)
workers-within (Some n) h = h

nodes-within : (ns : List ℕ) → length ns ≤ 16 → All IsSize ns → let ms = elim ns as (λ _. List ℕ) [ [] ↦ default_nodes | n ∷ ns ↦ n ∷ ns ] in (length ms ≤ 16) × All IsSize ms
nodes-within [] few h = (omega arith, All-from_recursion IsSize default_nodes ((omega arith, omega arith), tt))
nodes-within (n ∷ ns) few h = (few, h)

pub settings-read : (has : Kernel → Bool) (g : Settings) (n : ℕ) (rest : List ℕ) → SettingsAreInRange g → reading_settings has unset n (lines (settings_lines g ++ rest)) ≡ reading_settings has (settings_said g) (length (nodes_of g) + n + 2) (lines rest)
settings-read has g n rest h =
    let w = worker_count g in
    let ns = nodes_of g in
    let p = policy_set g in
    let first = line_of_words (setting_written (Workers (decimal w))) in
    let last = line_of_words (setting_written (PolicySet p)) in
    let within = nodes-within g.nodes h.few_nodes h.nodes in
    let after : length ns + (n + 1) + 1 ≡ length ns + n + 2 = omega arith in
    ap (λ (t : List ℕ). reading_settings has unset n (lines t)) (append_assoc (first ++ flat_map node_line ns) last rest ∙ append_assoc first (flat_map node_line ns) (last ++ rest))
    ∙ workers-read has w n (flat_map node_line ns ++ (last ++ rest)) (workers-within g.workers h.workers)
    ∙ nodes-read has (Some w) [] ns (n + 1) (last ++ rest) (omega (arith, within.0)) within.1
    ∙ setting-read has (set (Some w) ns None) (length ns + (n + 1)) (PolicySet p) rest (policy-words p) refl
    ∙ ap (λ (k : ℕ). reading_settings has (settings_said g) k (lines rest)) after

-- ---- the first statement

sized-begins : (name : List ℕ) (s : Size) (ws : List (List ℕ)) → (is_skipped (sized name s ws) ≡ false) × (setting_of (sized name s ws) ≡ None)
sized-begins name (Vector n) ws = (refl, refl)
sized-begins name (Matrix r c) ws = (refl, refl)

-- a statement is no comment and no setting
pub form-begins : (f : Form) → (is_skipped (form_words f) ≡ false) × (setting_of (form_words f) ≡ None)
form-begins (form.Register a) = sized-begins a.name a.size (parts_words a.parts ++ init_words a.init)
form-begins (form.Plan name r c) = (refl, refl)
form-begins (form.Redux name by) = (refl, refl)
form-begins (form.Task t) = (refl, refl)
form-begins (form.Print name) = (refl, refl)
form-begins (form.Invalidate name) = (refl, refl)
form-begins (form.Unregister name) = (refl, refl)

pub statement-begins : (has : Kernel → Bool) (g : Settings) (n : ℕ) (f : Form) (ls : List (List ℕ)) → list_all is_word (form_words f) ≡ true → reading_settings has g n (join_with_byte 32 (form_words f) ∷ ls) ≡ with_settings g (reading has 0 start n (join_with_byte 32 (form_words f) ∷ ls))
statement-begins has g n f ls h =
    ap (reads_on has g n (join_with_byte 32 (form_words f)) ls) (front-words g (form_words f) h (form-begins f).0 ∙ ap (front_by g) (form-begins f).1)
