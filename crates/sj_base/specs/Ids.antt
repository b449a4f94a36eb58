-- Ids by their numbers.
use Rattle.std.specs.Prelude.{ℕ, Bool, false, nat_eq}
use Rattle.sj_base.specs.declared.ids.Cell.{Cell}
use Rattle.sj_base.specs.declared.ids.Task.{Task}
use Rattle.sj_base.specs.declared.ids.Worker.{Worker}
use Rattle.sj_base.specs.declared.ids.Place.{Place}
use Rattle.sj_base.specs.declared.ids.Place.TheVariants.{Node as AtNode, Disk as OnDisk}

-- the cell, the task and the worker of a number
abbrev pub cell : ℕ → Cell
cell n = record { 0 = n }

abbrev pub task : ℕ → Task
task n = record { 0 = n }

abbrev pub worker : ℕ → Worker
worker n = record { 0 = n }

abbrev pub same_cell : Cell → Cell → Bool
same_cell c d = nat_eq c.0 d.0

abbrev pub same_place : Place → Place → Bool
same_place (AtNode a) (AtNode b) = nat_eq a.0 b.0
same_place (OnDisk a) (OnDisk b) = nat_eq a.0 b.0
same_place _ _ = false
