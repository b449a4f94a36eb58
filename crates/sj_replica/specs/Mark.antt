-- What a cell is at a node.
use Rattle.std.specs.Prelude.{Bool, true, false, nat_eq}
use Rattle.sj_base.specs.declared.ids.Worker.{Worker}
use Rattle.sj_replica.specs.declared.mark.Mark.{Mark}
use Rattle.sj_replica.specs.declared.mark.Mark.TheVariants.{Coming, Valid, Leaving}

-- there is a copy: one that leaves is still valid
abbrev pub is_valid : Mark → Bool
is_valid Valid = true
is_valid (Leaving w) = true
is_valid _ = false

-- there is a copy that leaves
abbrev pub is_leaving : Mark → Bool
is_leaving (Leaving w) = true
is_leaving _ = false

-- the node has an entry for the cell: there is a copy that stays, or one that comes
abbrev pub is_entry : Mark → Bool
is_entry (Coming w) = true
is_entry Valid = true
is_entry _ = false

abbrev pub same_worker : Worker → Worker → Bool
same_worker v w = nat_eq v.0 w.0

-- a copy leaves by the worker's claim
abbrev pub is_leaving_by : Worker → Mark → Bool
is_leaving_by w (Leaving v) = same_worker v w
is_leaving_by w _ = false

-- a copy comes by the worker's claim
abbrev pub is_coming_by : Worker → Mark → Bool
is_coming_by w (Coming v) = same_worker v w
is_coming_by w _ = false

-- the worker by whose claim a copy is coming or leaving
abbrev pub claimant_of : Mark → Worker
claimant_of (Coming w) = w
claimant_of (Leaving w) = w
claimant_of _ = record { 0 = 0 }
