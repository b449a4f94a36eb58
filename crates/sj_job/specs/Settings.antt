-- The lines in front of a job's statements: how they are spelled, what they set and why they are refused.
use Rattle.std.specs.Prelude.{ℕ, Bool, not, Option, Some, None, is_some, option_map, Result, Ok, Err, List, [], ◌∷◌, ◌++◌, codes, if◌then◌else◌}
use Rattle.std.specs.Str.{bytes_eq}
use Rattle.sj_job.specs.declared.form.SettingForm.{SettingForm}
use Rattle.sj_job.specs.declared.form.SettingForm.TheVariants as form
use Rattle.sj_meaning.specs.declared.settings.Settings.{Settings}
use Rattle.sj_job.specs.declared.reason.Reason.{Reason}
use Rattle.sj_job.specs.declared.reason.Reason.TheVariants.{Word, Number, Limit}
use Rattle.sj_job.specs.declared.reason.LimitKind.TheVariants.{Workers, Nodes, NodeBytes}
use Rattle.sj_job.specs.Word.{is_count, count}
use Rattle.sj_job.specs.Form.{alone, policy_word, policy_in}
use Rattle.sj_job.specs.Judge.{first_of}
use Rattle.sj_meaning.specs.Settings.{is_worker_count, is_node_size, has_nodes}

-- ---- how a settings line is spelled

-- the settings line that these words spell
abbrev pub setting_of : List (List ℕ) → Option SettingForm
setting_of [] = None
setting_of (w ∷ ws) =
    if bytes_eq w (codes "workers") then option_map form.Workers (alone ws)
    else if bytes_eq w (codes "node") then option_map form.Node (alone ws)
    else if bytes_eq w (codes "policy") then option_map form.Policy (policy_in ws)
    else None

-- the words of a settings line
abbrev pub setting_written : SettingForm → List (List ℕ)
setting_written (form.Workers n) = codes "workers" ∷ n ∷ []
setting_written (form.Node n) = codes "node" ∷ n ∷ []
setting_written (form.Policy p) = codes "policy" ∷ policy_word p ∷ []

-- ---- what it sets

abbrev pub with_setting : SettingForm → Settings → Settings
with_setting (form.Workers n) g = record g { workers = Some (count n) }
with_setting (form.Node n) g = record g { nodes = g.nodes ++ count n ∷ [] }
with_setting (form.Policy p) g = record g { policy = Some p }

-- the reasons against it, in their order: `workers` and `policy` stand once
abbrev pub setting_reasons : Settings → SettingForm → List (Bool × Reason)
setting_reasons g (form.Workers n) =
    (is_some g.workers, Word)
    ∷ (not (is_count n), Number)
    ∷ (not (is_worker_count (count n)), Limit Workers)
    ∷ []
setting_reasons g (form.Node n) =
    (not (is_count n), Number)
    ∷ (has_nodes g, Limit Nodes)
    ∷ (not (is_node_size (count n)), Limit NodeBytes)
    ∷ []
setting_reasons g (form.Policy p) = (is_some g.policy, Word) ∷ []

-- what is set after the line, or the first reason against it
abbrev pub set_by : Settings → SettingForm → Result Settings Reason
set_by g f = elim (first_of (setting_reasons g f)) [ Some why ↦ Err why | None ↦ Ok (with_setting f g) ]
