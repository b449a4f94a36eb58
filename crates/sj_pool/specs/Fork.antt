-- A fork of a tree of entries, and the queue that it stands for.
use Rattle.std.specs.Prelude.{List, ◌++◌, Option}
use Rattle.std.specs.Global.{Box}
use Rattle.sj_pool.specs.declared.entry.Entry.{Entry}
use Rattle.sj_pool.specs.declared.tree.Fork.{Fork}
use Rattle.sj_pool.specs.Root.{entries_of}

-- the entries of a fork from left to right
abbrev pub in_order : Fork → List Entry
in_order f = f.left ++ f.entries ++ f.right

-- the entries of a root from left to right
abbrev pub entries : Option (Box Fork) → List Entry
entries = entries_of in_order
