-- What a mode says of its operand.
use Rattle.std.specs.Prelude.{Bool, true, false, not, ◌&&◌, List, filter}
use Rattle.sj_base.specs.declared.ids.Cell.{Cell}
use Rattle.sj_base.specs.declared.mode.Access.{Access}
use Rattle.sj_base.specs.declared.mode.Mode.{Mode}
use Rattle.sj_base.specs.declared.mode.Mode.TheVariants.{R, W, Scratch, Redux, Commute}

-- the operand is a buffer that lasts for this task alone
abbrev pub is_scratch : Mode → Bool
is_scratch Scratch = true
is_scratch _ = false

-- the operand is an access to data: all but scratch
abbrev pub is_data : Mode → Bool
is_data m = not (is_scratch m)

-- the operand keeps its value
abbrev pub is_read_only : Mode → Bool
is_read_only R = true
is_read_only _ = false

-- the operand gets a new value
abbrev pub is_written : Mode → Bool
is_written R = false
is_written Scratch = false
is_written _ = true

-- the operand's old value is read
abbrev pub reads_value : Mode → Bool
reads_value W = false
reads_value Scratch = false
reads_value _ = true

-- the operand's old value isn't read: the task finds zeros
abbrev pub starts_as_zeros : Mode → Bool
starts_as_zeros m = not (reads_value m)

-- the operand is a contribution to a partial copy
abbrev pub is_redux : Mode → Bool
is_redux Redux = true
is_redux _ = false

-- such accesses by one codelet may change places
abbrev pub is_commute : Mode → Bool
is_commute Commute = true
is_commute _ = false

-- the access stands in the order of tasks: it is neither a contribution nor one that may change places
abbrev pub is_in_order : Mode → Bool
is_in_order m = not (is_redux m) && not (is_commute m)

-- ---- accesses

abbrev pub access : Mode → Cell → Access
access mode c = record { mode = mode; cell = c }

-- the accesses that read an old value
abbrev pub reads_of : List Access → List Access
reads_of accesses = filter (λ a. reads_value a.mode) accesses

-- the accesses that give a new value
abbrev pub writes_of : List Access → List Access
writes_of accesses = filter (λ a. is_written a.mode) accesses
