-- The reasons' numbers.
use Rattle.std.specs.Prelude.{◌≡◌, ℕ, Result, Err}
use Rattle.sj_job.specs.declared.reason.Reason.{Reason}
use Rattle.sj_job.specs.declared.reason.Objection.{Objection}
use Rattle.sj_job.specs.declared.reason.Objection.TheVariants.{Bad, OutOfMemory}
use Rattle.sj_job.specs.declared.reason.Reason.TheVariants.{Header, Word, Number, UnknownName, TakenName, UnknownCodelet, OperandCount, Shape, Part, Aliased, NoValue, NoReduction, NotLawful, MixedOutputs, Limit, EndedName}

abbrev pub reason_code : Reason → ℕ
reason_code Header = 1
reason_code Word = 2
reason_code Number = 3
reason_code UnknownName = 4
reason_code TakenName = 5
reason_code UnknownCodelet = 6
reason_code OperandCount = 7
reason_code Shape = 8
reason_code Part = 9
reason_code Aliased = 10
reason_code NoValue = 11
reason_code NoReduction = 12
reason_code NotLawful = 13
reason_code MixedOutputs = 14
reason_code (Limit kind) = 15
reason_code EndedName = 16

-- a line that gives this is bad for this reason, or memory ran out
abbrev pub Objects : {A : Type 0} → Objection → Result A Reason → Type 0
Objects OutOfMemory r = Unit {0}
Objects (Bad why) r = r ≡ Err why
