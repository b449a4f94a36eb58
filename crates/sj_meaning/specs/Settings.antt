-- The settings of a job: what the lines in front of its statements set.
use Rattle.std.specs.Prelude.{ℕ, ◌≤◌, ◌^◌, Bool, ◌&&◌, nat_le, None, unwrap_or, IfSome, List, [], ◌∷◌, length, All}
use Rattle.sj_base.specs.declared.mode.Policy.{Policy}
use Rattle.sj_base.specs.declared.mode.Policy.TheVariants.{Eager}
use Rattle.sj_meaning.specs.declared.settings.Settings.{Settings}

-- nothing is set
abbrev pub unset : Settings
unset = record { workers = None; nodes = []; policy = None }

-- ---- what a line that isn't there stands for

-- one worker
abbrev pub worker_count : Settings → ℕ
worker_count g = unwrap_or g.workers 1

-- one node of 2^28 bytes
abbrev pub default_nodes : List ℕ
default_nodes = 268435456 ∷ []

-- the sizes of the nodes, in the order of their lines
abbrev pub nodes_of : Settings → List ℕ
nodes_of g = elim g.nodes [ [] ↦ default_nodes | n ∷ ns ↦ n ∷ ns ]

-- first in, first out
abbrev pub policy_set : Settings → Policy
policy_set g = unwrap_or g.policy Eager

-- ---- limits

abbrev pub is_worker_count : ℕ → Bool
is_worker_count n = nat_le 1 n && nat_le n 64

-- bytes of a node: from 8 to 2^40
abbrev pub is_node_size : ℕ → Bool
is_node_size n = nat_le 8 n && nat_le n 1099511627776

-- 16 nodes are there already
abbrev pub has_nodes : Settings → Bool
has_nodes g = nat_le 16 (length g.nodes)

-- 1 to 64 workers, and at most 16 nodes of 8 to 2^40 bytes
pub record SettingsAreInRange (g : Settings) : Type 0 where
  pub workers : IfSome g.workers (λ n. (1 ≤ n) × (n ≤ 64))
  pub few_nodes : length g.nodes ≤ 16
  pub nodes : All (λ n. (8 ≤ n) × (n ≤ 2 ^ 40)) g.nodes
