-- The command line as `clap` sees it, and what its matches must hold.
use Rattle.std.specs.Prelude.{◌≡◌, true, List, Some, is_some, codes, if◌then◌else◌}
use Rattle.clap.specs.Words.{App, Rule, new_app, new_rule, with_rule, first_value}
use Rattle.clap.specs.Simple.{on_top}
use Rattle.clap.specs.Matches.{one_text}
use Rattle.clap.specs.declared.builder.action.ArgAction.TheVariants.{Set, SetTrue}
use Rattle.clap.specs.declared.parser.matches.Found.{Found}
use Rattle.sj_words.specs.Spelling.{Text, is_flag, is_option, value_given}

abbrev pub option_rule : Text → Rule
option_rule name = record (new_rule name) { long = Some name; action = Some Set }

abbrev pub flag_rule : Text → Rule
flag_rule name = record (new_rule name) { long = Some name; action = Some SetTrue }

-- without the program's name before the words, and without help and version
abbrev pub bare_app : App
bare_app = on_top (λ s. record s { no_binary_name = true; disable_help_flag = true; disable_version_flag = true }) (new_app (codes "starjob"))

-- with the options of the machine
abbrev pub with_machine : App → App
with_machine a = with_rule (with_rule (with_rule (with_rule (with_rule (with_rule
    a (option_rule (codes "workers"))) (option_rule (codes "sched"))) (option_rule (codes "node"))) (option_rule (codes "nodes")))
    (option_rule (codes "swap"))) (option_rule (codes "swap-size"))

-- with the options of a job that is generated
abbrev pub with_application : App → App
with_application a = with_rule (with_rule (with_rule (with_rule
    a (option_rule (codes "app"))) (option_rule (codes "n"))) (option_rule (codes "tile"))) (option_rule (codes "seed"))

-- with the flags that say what is printed
abbrev pub with_prints : App → App
with_prints a = with_rule (with_rule a (flag_rule (codes "trace"))) (flag_rule (codes "summary"))

abbrev pub the_app : App
the_app = with_prints (with_application (with_machine bare_app))

-- what was found holds the value of each option that is given, and whether each flag stands
pub record HoldsGiven (found : Found) (ps : List (Text × Text)) : Type 0 where
  pub values : (name : Text) → is_option name ≡ true → first_value found name ≡ value_given name ps
  pub flags : (name : Text) → is_flag name ≡ true → one_text found name ≡ Some (if is_some (value_given name ps) then codes "true" else codes "false")
