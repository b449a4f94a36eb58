use Rattle.std.proofs.Common.{◌≡◌, take}
use Rattle.std.specs.List.{list_all}
use Rattle.sj_job.specs.Word.{is_allowed}
use Rattle.sj_job.proofs.line.are_allowed.Given as goal

-- the bytes so far are allowed, or one isn't
abbrev pub invariant-loop-byte : goal.invariant-loop-byte
invariant-loop-byte l = l.allowed ≡ list_all is_allowed (take l.byte-index l.line)
