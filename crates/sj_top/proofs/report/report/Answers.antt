use Rattle.std.proofs.Common.{◌≡◌, subst, sym}
use Rattle.sj_top.specs.Device.{Device}
use Rattle.sj_top.specs.Report.{status_line, TakesLine}
use Rattle.sj_top.specs.declared.status.Status.{Status}
use Rattle.sj_top.proofs.report.report.Goals as goal

by_status : (err err' : Device) (s t : Status) → t ≡ s → TakesLine err err' (status_line s) → TakesLine err err' (status_line t)
by_status err err' s t e = subst (λ (x : Status). TakesLine err err' (status_line x)) (sym e)

pub returns-in-Usage : goal.returns-in-Usage
returns-in-Usage g c = by_status _ _ _ _ c.in-Usage.is c.write_line-in-Usage.ensures

pub returns-in-SourceFault : goal.returns-in-SourceFault
returns-in-SourceFault g c = by_status _ _ _ _ c.in-SourceFault.is c.write_line-in-SourceFault.ensures

pub returns-in-SinkFault : goal.returns-in-SinkFault
returns-in-SinkFault g c = by_status _ _ _ _ c.in-SinkFault.is c.write_line-in-SinkFault.ensures

pub returns-in-OutOfMemory : goal.returns-in-OutOfMemory
returns-in-OutOfMemory g c = by_status _ _ _ _ c.in-OutOfMemory.is c.write_line-in-OutOfMemory.ensures

pub returns-in-Refused : goal.returns-in-Refused
returns-in-Refused g c = by_status _ _ _ _ c.in-Refused.is c.report_refusal.ensures

pub returns-in-TooLarge : goal.returns-in-TooLarge
returns-in-TooLarge g c = by_status _ _ _ _ c.in-TooLarge.is c.report_too_large.ensures

pub returns-in-SwapTooSmall : goal.returns-in-SwapTooSmall
returns-in-SwapTooSmall g c = by_status _ _ _ _ c.in-SwapTooSmall.is c.report_swap.ensures

pub returns-in-DiskFault : goal.returns-in-DiskFault
returns-in-DiskFault g c = by_status _ _ _ _ c.in-DiskFault.is c.report_disk.ensures

pub returns-in-Damaged : goal.returns-in-Damaged
returns-in-Damaged g c = by_status _ _ _ _ c.in-Damaged.is c.report_damage.ensures
