-- The canonical text of a job: the header, all settings, and a line for each statement, in its canonical form.
use Rattle.std.specs.Prelude.{◌≡◌, ℕ, ◌<◌, List, [], ◌∷◌, ◌++◌, length, flat_map, codes, decimal}
use Rattle.std.specs.List.{slice_index_or}
use Rattle.sj_meaning.specs.Act.{Act, Statement}
use Rattle.sj_job.specs.Grammar.{form_words}
use Rattle.sj_meaning.specs.Job.{Job}
use Rattle.sj_job.specs.Settings.{setting_written}
use Rattle.sj_meaning.specs.Settings.{nodes_of, policy_set, worker_count}
use Rattle.sj_meaning.specs.Table.{Table, a_root, name_of, undivided}
use Rattle.sj_job.specs.declared.form.SettingForm.TheVariants.{Workers, Node, Policy}
use Rattle.sj_meaning.specs.declared.settings.Settings.{Settings}
use Rattle.sj_plan.specs.declared.parts.Parts.{Parts}
use Rattle.sj_show.specs.Words.{line_of_words}
use Rattle.sj_text.specs.Forms.{Plans, form_of_act, no_plans, plans_after}

-- `starjob 1`
abbrev pub header_line : List ℕ
header_line = line_of_words (codes "starjob" ∷ codes "1" ∷ [])

-- `node BYTES`
abbrev pub node_line : ℕ → List ℕ
node_line n = line_of_words (setting_written (Node (decimal n)))

-- `workers N`, a `node` line for each node, and `policy P`: also what no line of the job sets
abbrev pub settings_lines : Settings → List ℕ
settings_lines g =
    line_of_words (setting_written (Workers (decimal (worker_count g))))
    ++ flat_map node_line (nodes_of g)
    ++ line_of_words (setting_written (Policy (policy_set g)))

-- the line of an act, before which these plans are active
abbrev pub act_line : Plans → Act (List ℕ) → List ℕ
act_line plans act = line_of_words (form_words (form_of_act plans act))

-- the lines of statements, before which these plans are active
abbrev pub statement_lines : Plans → List (Statement (List ℕ)) → List ℕ
statement_lines plans [] = []
statement_lines plans (s ∷ ss) = act_line plans s.act ++ statement_lines (plans_after s.act plans) ss

abbrev pub text_of_job : Job → List ℕ
text_of_job j = header_line ++ settings_lines j.settings ++ statement_lines no_plans j.statements

-- ---- while it is written

-- the plans of the first roots, in the order of their numbers, are those that are active for their names
pub record AreCurrent (T : Table) (parts : List Parts) (plans : Plans) : Type 0 where
  pub active : (n : ℕ) → n < length parts → plans (name_of T (a_root n)) ≡ slice_index_or parts n undivided
