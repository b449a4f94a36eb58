-- The machine and the swap that the words and a job ask for.
use Rattle.std.specs.Prelude.{◌≤◌, ℕ, ◌^◌, List, Option, Some, None, unwrap_or, option_map, replicate, length, All}
use Rattle.sj_base.specs.declared.mode.Policy.{Policy}
use Rattle.sj_base.specs.declared.program.Machine.{Machine}
use Rattle.sj_words.specs.Spelling.{Text}
use Rattle.sj_words.specs.Options.{options}
use Rattle.sj_words.specs.declared.options.Options.{Options}
use Rattle.sj_words.specs.declared.swap.SwapWish.{SwapWish}

-- so many nodes of the bytes that are asked for, or those of the job
abbrev pub nodes_by : Options → List ℕ → List ℕ
nodes_by o nodes = unwrap_or (option_map (λ bytes. replicate (unwrap_or o.nodes 1) bytes) o.node) nodes

-- the words win over the job
abbrev pub machine_by : Options → ℕ → List ℕ → Policy → List ℕ → Machine
machine_by o workers nodes policy disks = record {
  workers = unwrap_or o.workers workers;
  nodes = nodes_by o nodes;
  disks = disks;
  policy = unwrap_or o.policy policy;
}

abbrev pub IsWorkerCount : ℕ → Type 0
IsWorkerCount n = (1 ≤ n) × (n ≤ 64)

pub record HasNodes (nodes : List ℕ) : Type 0 where
  pub some : 1 ≤ length nodes
  pub few : length nodes ≤ 16
  pub bytes : All (λ n. (8 ≤ n) × (n ≤ 2 ^ 40)) nodes

-- 64 MiB of swap in memory, where nothing else is asked for
abbrev pub default_swap : ℕ
default_swap = 67108864

-- the disk that accepted words ask for: its file, if it is to be one, and its bytes
abbrev pub wish_of : Option Options → SwapWish
wish_of None = record { path = None; size = default_swap }
wish_of (Some o) = record { path = o.swap; size = unwrap_or o.swap_size default_swap }

abbrev pub swap_by : List Text → SwapWish
swap_by words = wish_of (options words)
