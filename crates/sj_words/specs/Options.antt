-- What the words of a command line ask for.
use Rattle.std.specs.Prelude.{◌≡◌, ◌≤◌, ℕ, ◌^◌, Bool, ◌&&◌, not, ◌==◌, nat_le, List, Option, Some, None, IfSome, is_some, true, ◌⊎◌, option_map, option_and_then, length, codes, if◌then◌else◌}
use Rattle.std.specs.List.{list_all}
use Rattle.std.specs.Char.{is_ascii_digit}
use Rattle.std.specs.Str.{bytes_eq}
use Rattle.std.specs.Str.Parse.{digits_value}
use Rattle.sj_base.specs.declared.mode.Policy.{Policy}
use Rattle.sj_base.specs.declared.mode.Policy.TheVariants.{Eager, Prio, Ws}
use Rattle.sj_apps.specs.declared.application.Application.{Application}
use Rattle.sj_apps.specs.declared.application.Problem.{Problem}
use Rattle.sj_apps.specs.declared.application.Problem.TheVariants.{Product, Paths}
use Rattle.sj_apps.specs.Application.{IsSized}
use Rattle.sj_apps.specs.Generated.{part_count}
use Rattle.sj_words.specs.Spelling.{Text, names_said, stands_once, value_given}
use Rattle.sj_words.specs.declared.options.Options.{Options}

-- 1 to 19 decimal digits
abbrev pub is_number : Text → Bool
is_number text = not (length text == 0) && (nat_le (length text) 19 && list_all is_ascii_digit text)

-- the number that a text says, where it lies in the range
abbrev pub number_in : ℕ → ℕ → Text → Option ℕ
number_in least greatest text =
    if is_number text && (nat_le least (digits_value 10 text) && nat_le (digits_value 10 text) greatest)
    then Some (digits_value 10 text) else None

abbrev pub policy_named : Text → Option Policy
policy_named text = if bytes_eq text (codes "eager") then Some Eager
    else (if bytes_eq text (codes "prio") then Some Prio else (if bytes_eq text (codes "ws") then Some Ws else None))

-- the value of an option, if it is given, must be read; what isn't given asks for nothing
abbrev pub if_given : {A : Type 0} → (Text → Option A) → Option Text → Option (Option A)
if_given read None = Some None
if_given read (Some text) = option_map Some (read text)

abbrev pub problem_in : Text → Option Problem
problem_in text = if bytes_eq text (codes "product") then Some Product
    else (if bytes_eq text (codes "paths") then Some Paths else None)

-- a problem of this size, where no tile is larger than the matrix, and few tiles make a column
abbrev pub sized_application : Problem → ℕ → ℕ → ℕ → Option Application
sized_application problem n tile seed =
    if nat_le tile n && nat_le (part_count n tile) 48
    then Some (record { problem = problem; n = n; tile = tile; seed = seed }) else None

-- a problem and its numbers stand together, or none of them does
abbrev pub together : Option Problem → Option ℕ → Option ℕ → Option ℕ → Option (Option Application)
together None None None None = Some None
together (Some problem) (Some n) (Some tile) (Some seed) = option_map Some (sized_application problem n tile seed)
together _ _ _ _ = None

-- the application that the settings ask for, or that they ask for none
abbrev pub application_asked : List (Text × Text) → Option (Option Application)
application_asked ps =
    option_and_then (λ problem. option_and_then (λ n. option_and_then (λ tile. option_and_then (λ seed. together problem n tile seed)
    (if_given (number_in 0 999999999) (value_given (codes "seed") ps)))
    (if_given (number_in 1 2048) (value_given (codes "tile") ps)))
    (if_given (number_in 1 2048) (value_given (codes "n") ps)))
    (if_given problem_in (value_given (codes "app") ps))

-- what the settings ask for, where each value is of its kind, and `--nodes` stands only with `--node`
abbrev pub asked_for : List (Text × Text) → Option Options
asked_for ps =
    option_and_then (λ workers. option_and_then (λ policy. option_and_then (λ node. option_and_then (λ nodes. option_and_then (λ swap_size.
    option_and_then (λ application.
    if is_some nodes && not (is_some node) then None
    else Some (record {
      workers = workers;
      policy = policy;
      node = node;
      nodes = nodes;
      swap = value_given (codes "swap") ps;
      swap_size = swap_size;
      trace = is_some (value_given (codes "trace") ps);
      summary = is_some (value_given (codes "summary") ps);
      application = application;
    }))
    (application_asked ps))
    (if_given (number_in 0 (2 ^ 40)) (value_given (codes "swap-size") ps)))
    (if_given (number_in 1 16) (value_given (codes "nodes") ps)))
    (if_given (number_in 8 (2 ^ 40)) (value_given (codes "node") ps)))
    (if_given policy_named (value_given (codes "sched") ps)))
    (if_given (number_in 1 64) (value_given (codes "workers") ps))

-- what the words ask for, or none where they aren't accepted
abbrev pub options : List Text → Option Options
options words = option_and_then (λ ps. if stands_once ps then asked_for ps else None) (names_said words)

-- the ranges of the numbers
pub record OptionsAreInRange (o : Options) : Type 0 where
  pub workers : IfSome o.workers (λ n. (1 ≤ n) × (n ≤ 64))
  pub node : IfSome o.node (λ n. (8 ≤ n) × (n ≤ 2 ^ 40))
  pub nodes : IfSome o.nodes (λ n. (1 ≤ n) × (n ≤ 16))
  pub with_node : is_some o.node ≡ true ⊎ (o.nodes ≡ None)
  pub swap_size : IfSome o.swap_size (λ n. n ≤ 2 ^ 40)
  pub application : IfSome o.application IsSized
