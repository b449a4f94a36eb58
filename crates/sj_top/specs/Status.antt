-- The exit codes.
use Rattle.std.specs.Prelude.{ℕ}
use Rattle.sj_top.specs.declared.status.Status.{Status}
use Rattle.sj_top.specs.declared.status.Status.TheVariants.{Done, Usage, Refused, TooLarge, SwapTooSmall, DiskFault, Damaged, SourceFault, SinkFault, OutOfMemory}

abbrev pub code_of : Status → ℕ
code_of Done = 0
code_of Usage = 2
code_of (Refused line reason) = 3
code_of (TooLarge line bytes) = 4
code_of (SwapTooSmall needed have) = 5
code_of (DiskFault disk) = 6
code_of (Damaged disk want found) = 7
code_of SourceFault = 8
code_of SinkFault = 9
code_of OutOfMemory = 10
