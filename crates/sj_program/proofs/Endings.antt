-- Ends that need no call, and ends of a call on the same devices.
use Rattle.std.proofs.Common.{◌≡◌, ℕ, false, List, [], Option, None, Some, inr, refl, subst, sym, arith, append-nil}
use Rattle.std.specs.Io.KnownBytes.{Appends}
use Rattle.std.specs.declared.process.ExitCode.{ExitCode}
use Rattle.sj_edge.specs.declared.disk.Disk.{Ghosts as DiskOf}
use Rattle.sj_words.specs.Options.{options}
use Rattle.sj_words.specs.Spelling.{Text}
use Rattle.sj_top.specs.declared.status.Status.{Status}
use Rattle.sj_top.specs.declared.status.Status.TheVariants.{OutOfMemory}
use Rattle.sj_top.specs.Device.{Device, Devices, in_use}
use Rattle.sj_top.specs.Report.{TakesLine, status_line}
use Rattle.sj_top.specs.Solving.{TakesAnswer}
use Rattle.sj_top.specs.Work.{asked_of, reads_source}
use Rattle.sj_top.proofs.Tops.{unread-memory}
use Rattle.sj_program.specs.Ending.{EndsByAStatus, EndsWithoutADisk, IsCodeOf, TakesRemark, TakesStatusLine, has_remark}

-- ---- standard error

nothing_more : (bytes : Option (List ℕ)) → Appends bytes bytes []
nothing_more None = tt
nothing_more (Some xs) = sym (append-nil xs)

-- the line alone
pub line_alone : (status : Status) (err err' : Device) → TakesLine err err' (status_line status) → TakesStatusLine status err err'
line_alone status err err' line = record {
  between = err;
  remark = record { text = []; takes = nothing_more err.bytes; count_never_falls = omega arith; none_in_silence = λ silent. refl };
  line_comes_last = line;
}

-- the line behind a remark, of which there is none where the status has none
pub line_behind : (status : Status) (IsNone : Type 0) (err between err' : Device) → (has_remark status ≡ false → IsNone) → TakesRemark IsNone err between → TakesLine between err' (status_line status) → TakesStatusLine status err err'
line_behind status IsNone err between err' none remark line = record {
  between = between;
  remark = record { text = remark.text; takes = remark.takes; count_never_falls = remark.count_never_falls; none_in_silence = λ silent. remark.none_in_silence (none silent) };
  line_comes_last = line;
}

-- ---- ends without a call

-- where memory ran out, there is no disk, wherever it was wished for
pub no_memory : (path : Option (List ℕ)) (err err' : Device) (code : ExitCode) → IsCodeOf OutOfMemory code → TakesLine err err' (status_line OutOfMemory) → EndsWithoutADisk path err err' code
no_memory path err err' code is line = record { status = OutOfMemory; cause = tt; is_its_code = is; err_takes_its_line = line_alone OutOfMemory err err' line }

-- an end without a disk at a path is one at its equal
pub at_the_path : (path path' : Option (List ℕ)) (err err' : Device) (code : ExitCode) → path ≡ path' → EndsWithoutADisk path err err' code → EndsWithoutADisk path' err err' code
at_the_path path path' err err' code same ends = subst (λ (x : Option (List ℕ)). EndsWithoutADisk x err err' code) same ends

-- where memory ran out, devices that no call was made of are a cause
pub without_memory : {D : Type 0} {disk : DiskOf D} (words : List Text) (before : Devices disk) (left err err' : Device) (code : ExitCode) → left ≡ before.out → IsCodeOf OutOfMemory code → TakesLine err err' (status_line OutOfMemory) → EndsByAStatus words before before.source left err err' code
without_memory words before left err err' code same is line =
    let seen = in_use (reads_source (options words)) before in
    subst (λ (x : Device). EndsByAStatus words before before.source x err err' code) (sym same) (record {
      status = OutOfMemory;
      trace = [];
      disks = before.disks;
      is_its_code = is;
      has_its_cause = unread-memory (asked_of words before) seen seen [] refl refl;
      what_is_due_comes = λ due is_due. inr refl;
      prints = λ tell. tt;
      solves = λ tell. elim (options words) as (λ o. TakesAnswer o OutOfMemory before.out before.out []) [ None ↦ tt | Some o ↦ tt ];
      source_stays = λ none. refl;
      out_stays = λ silent. refl;
      err_takes_its_line = line_alone OutOfMemory err err' line;
    })

-- ---- the same devices

-- a source or a sink, each part by itself
abbrev pub device : Option (List ℕ) → ℕ → Device
device bytes faults = record { bytes = bytes; faults = faults }

-- a call that was made of devices was made of their equals, and left their equals
module _ {D : Type 0} (disk : DiskOf D) (words : List Text) (source read err err' : Device) (code : ExitCode) where
  -- the same, with the output as it was and as it is, and the disks
  abbrev Ends : Device → List D → Device → Type 0
  Ends out disks left = EndsByAStatus {disk = disk} words (record { source = source; out = out; disks = disks }) read left err err' code

  pub of_the_same : {bytes bytes' bytes_left bytes_left' : Option (List ℕ)} {faults faults' faults_left faults_left' : ℕ} {disks disks' : List D} → bytes ≡ bytes' → faults ≡ faults' → disks ≡ disks' → bytes_left ≡ bytes_left' → faults_left ≡ faults_left' → Ends (device bytes faults) disks (device bytes_left faults_left) → Ends (device bytes' faults') disks' (device bytes_left' faults_left')
  of_the_same {bytes} {bytes'} {bytes_left} {bytes_left'} {faults} {faults'} {faults_left} {faults_left'} {disks} {disks'} b f d bl fl ends =
      subst (λ (x : ℕ). Ends (device bytes' faults') disks' (device bytes_left' x)) fl
      (subst (λ (x : Option (List ℕ)). Ends (device bytes' faults') disks' (device x faults_left)) bl
      (subst (λ (x : List D). Ends (device bytes' faults') x (device bytes_left faults_left)) d
      (subst (λ (x : ℕ). Ends (device bytes' x) disks (device bytes_left faults_left)) f
      (subst (λ (x : Option (List ℕ)). Ends (device x faults) disks (device bytes_left faults_left)) b ends))))
