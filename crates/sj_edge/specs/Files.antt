-- What a disk over a file has.
use Rattle.std.specs.Prelude.{ℕ}
use Rattle.sj_edge.specs.declared.file_disk.FileDisk.{FileDisk}

-- how many bytes
abbrev pub file_size : FileDisk → ℕ
file_size d = d.size

-- how many faults there were
abbrev pub file_faults : FileDisk → ℕ
file_faults d = d.faults

-- how many checks found other bytes than they wanted
abbrev pub file_mismatches : FileDisk → ℕ
file_mismatches d = d.mismatches
