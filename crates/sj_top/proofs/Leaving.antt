-- How disks come back.
use Rattle.std.proofs.Common.{◌≡◌, ℕ, List, Option, Some, None, Result, Err, map, get_or, refl, sym, subst, arith}
use Rattle.std.specs.Prelude.{IsSomeAnd, slice_get}
use Rattle.std.proofs.lemmas.List.{length-map}
use Rattle.std.proofs.lemmas.Option.{slice_get_within}
use Rattle.sj_base.specs.declared.ids.DiskNo.{DiskNo}
use Rattle.sj_base.specs.declared.trace.Event.{Event}
use Rattle.sj_base.proofs.Options.{the}
use Rattle.sj_base.proofs.Lists.{get_or-map_at}
use Rattle.sj_disk.specs.declared.header.Header.{Header}
use Rattle.sj_edge.specs.declared.disk.Disk.{Ghosts as DiskOf}
use Rattle.sj_edge.specs.Faults.{Rose}
use Rattle.sj_edge.specs.GivenBack.{AreGivenBack}
use Rattle.sj_edge.proofs.GivenBackLemmas.{all_given_back-untouched, all_untouched-same}
use Rattle.sj_engine.specs.Outcome.{AllDisksTell, IsCausedBy}
use Rattle.sj_board.specs.Cause.{HasRisen}
use Rattle.sj_board.specs.declared.fault.RunFault.{RunFault}
use Rattle.sj_board.specs.declared.fault.RunFault.TheVariants as running
use Rattle.sj_needs.specs.declared.shortage.Shortage.TheVariants as fitting
use Rattle.sj_ready.specs.declared.unready.Unready.{Unready}
use Rattle.sj_ready.specs.declared.unready.Unready.TheVariants as preparing
use Rattle.sj_top.specs.declared.status.Status.{Status}
use Rattle.sj_top.specs.declared.status.Status.TheVariants as status
use Rattle.sj_top.specs.declared.stop.Stop.{Stop}
use Rattle.sj_top.specs.declared.stop.Stop.TheVariants as stops
use Rattle.sj_top.specs.Answers.{IsBehindTheRun, IsDamage, LeavesDisks, WritesText, status_of, status_of_fault, status_of_unready}
use Rattle.sj_top.specs.Device.{Device}
use Rattle.sj_top.specs.Disks.{RoseAt}
use Rattle.sj_top.specs.Top.{ComeBack}
use Rattle.sj_ready.specs.Work.{WorkOrRefusal}

-- ---- a count that rose

pub risen-at : {D : Type 0} (count : D → ℕ) (old new : List D) (d : ℕ) → HasRisen count old new d → RoseAt d (map count old) (map count new)
risen-at {D} count old new d risen = by_old (slice_get old d) refl risen
  where
    by_new : (x : D) → slice_get old d ≡ Some x → (o : Option D) → slice_get new d ≡ o → IsSomeAnd o (λ y. Rose (count x) (count y)) → RoseAt d (map count old) (map count new)
    by_new x ex None e h = absurd h
    by_new x ex (Some y) e h = record {
      is_disk = omega (arith, slice_get_within old d x ex, length-map old count);
      count_rose = subst (λ (n : ℕ). Rose n (get_or (map count new) d 0)) (sym (get_or-map_at count old d x ex)) (subst (Rose (count x)) (sym (get_or-map_at count new d y e)) h);
    }

    by_old : (o : Option D) → slice_get old d ≡ o → IsSomeAnd o (λ x. IsSomeAnd (slice_get new d) (λ y. Rose (count x) (count y))) → RoseAt d (map count old) (map count new)
    by_old None e h = absurd h
    by_old (Some x) e h = by_new x e (slice_get new d) refl h

-- ---- a status that no disk has to do with

-- the run hadn't come to its end, and no disk is named
record IsAside (ended : Status) : Type 0 where
  not_behind : IsBehindTheRun ended → ⊥
  no_fault : (number : DiskNo) → ended ≡ status.DiskFault number → ⊥
  no_damage : (number : DiskNo) (want found : Header) → ended ≡ status.Damaged number want found → ⊥

unready-aside : (why : Unready) → IsAside (status_of_unready why)
unready-aside (preparing.Refused line reason) = record { not_behind = λ h. h; no_fault = λ d e. the ⊥ cc; no_damage = λ d w f e. the ⊥ cc }
unready-aside (preparing.Short (fitting.TooLarge line bytes)) = record { not_behind = λ h. h; no_fault = λ d e. the ⊥ cc; no_damage = λ d w f e. the ⊥ cc }
unready-aside (preparing.Short (fitting.SwapTooSmall needed have)) = record { not_behind = λ h. h; no_fault = λ d e. the ⊥ cc; no_damage = λ d w f e. the ⊥ cc }
unready-aside (preparing.Short fitting.OutOfMemory) = record { not_behind = λ h. h; no_fault = λ d e. the ⊥ cc; no_damage = λ d w f e. the ⊥ cc }
unready-aside preparing.OutOfMemory = record { not_behind = λ h. h; no_fault = λ d e. the ⊥ cc; no_damage = λ d w f e. the ⊥ cc }

memory-aside : IsAside status.OutOfMemory
memory-aside = record { not_behind = λ h. h; no_fault = λ d e. the ⊥ cc; no_damage = λ d w f e. the ⊥ cc }

module _ {D : Type 0} (disk : DiskOf D) where
  -- disks of which no call was made
  pub come-back-same : (ended : Status) (old new : List D) → new ≡ old → ComeBack disk old new ended
  come-back-same ended old new same = subst (λ (ds : List D). ComeBack disk old ds ended) (sym same) (record {
    given_back = all_given_back-untouched disk.size disk.faults disk.mismatches disk.held old old (all_untouched-same disk.size disk.faults disk.mismatches disk.held old);
    untouched = λ before. all_untouched-same disk.size disk.faults disk.mismatches disk.held old;
  })

  -- the same where nothing was run
  leaves-aside : (asked : WorkOrRefusal) (ended : Status) (trace : List Event) (old new : List D) → IsAside ended → new ≡ old → LeavesDisks disk asked ended trace old new
  leaves-aside asked ended trace old new aside same = record {
    come_back = come-back-same ended old new same;
    counts_stay = λ h. absurd (aside.not_behind h);
    blocks = λ h. absurd (aside.not_behind h);
    fault = λ number e. absurd (aside.no_fault number e);
    damage = λ number want found e. absurd (aside.no_damage number want found e);
  }

  pub leaves-unready : {A : Type 0} (asked : WorkOrRefusal) (why : Unready) (text : Result A Stop) (trace : List Event) (old new : List D) → text ≡ Err (stops.Unready why) → new ≡ old → LeavesDisks disk asked (status_of text) trace old new
  leaves-unready {A} asked why text trace old new e same =
      subst (λ (r : Result A Stop). LeavesDisks disk asked (status_of r) trace old new) (sym e) (leaves-aside asked (status_of_unready why) trace old new (unready-aside why) same)

  pub leaves-no-memory : {A : Type 0} (asked : WorkOrRefusal) (text : Result A Stop) (trace : List Event) (old new : List D) → text ≡ Err stops.OutOfMemory → new ≡ old → LeavesDisks disk asked (status_of text) trace old new
  leaves-no-memory {A} asked text trace old new e same =
      subst (λ (r : Result A Stop). LeavesDisks disk asked (status_of r) trace old new) (sym e) (leaves-aside asked status.OutOfMemory trace old new memory-aside same)

  -- of one whose text wasn't made
  pub leaves-untold : (asked : WorkOrRefusal) (trace : List Event) (old new : List D) → AreGivenBack disk.size disk.faults disk.mismatches disk.held old new → LeavesDisks disk asked status.OutOfMemory trace old new
  leaves-untold asked trace old new back = record {
    come_back = record { given_back = back; untouched = λ before. absurd before };
    counts_stay = λ h. absurd h;
    blocks = λ h. absurd h;
    fault = λ number e. absurd (the ⊥ cc);
    damage = λ number want found e. absurd (the ⊥ cc);
  }

  -- the sink's fault changes nothing
  leaves-unwritten : (asked : WorkOrRefusal) (trace : List Event) (old new : List D) → LeavesDisks disk asked status.Done trace old new → LeavesDisks disk asked status.SinkFault trace old new
  leaves-unwritten asked trace old new done = record {
    come_back = record { given_back = done.come_back.given_back; untouched = λ before. absurd before };
    counts_stay = λ h. done.counts_stay tt;
    blocks = λ h. done.blocks tt;
    fault = λ number e. absurd (the ⊥ cc);
    damage = λ number want found e. absurd (the ⊥ cc);
  }

  same-fault : (a b : DiskNo) → status.DiskFault a ≡ status.DiskFault b → a ≡ b
  same-fault a b e = grind (arith, e)

  -- of one that broke off
  pub leaves-broken : (asked : WorkOrRefusal) (fault : RunFault) (trace : List Event) (old new : List D) → AreGivenBack disk.size disk.faults disk.mismatches disk.held old new → IsCausedBy disk.faults disk.mismatches disk.held old new fault → LeavesDisks disk asked (status_of_fault fault) trace old new
  leaves-broken asked (running.DiskFault d) trace old new back cause = record {
    come_back = record { given_back = back; untouched = λ before. absurd before };
    counts_stay = λ h. absurd h;
    blocks = λ h. absurd h;
    fault = λ number e. subst (λ (x : DiskNo). RoseAt x.0 (map disk.faults old) (map disk.faults new)) (same-fault d number e) (risen-at disk.faults old new d.0 cause);
    damage = λ number want found e. absurd (the ⊥ cc);
  }
  leaves-broken asked (running.Damaged d w f) trace old new back cause = record {
    come_back = record { given_back = back; untouched = λ before. absurd before };
    counts_stay = λ h. absurd h;
    blocks = λ h. absurd h;
    fault = λ number e. absurd (the ⊥ cc);
    damage = λ number want found e.
        let is : IsDamage (AllDisksTell disk.held old) d w f (map disk.mismatches old) (map disk.mismatches new) = record { count_rose = risen-at disk.mismatches old new d.0 cause.0; other_header = cause.1; untold = cause.2 } in
        by_parts d w f number want found e is;
  }
    where
      by_parts : (d : DiskNo) (w f : Header) (number : DiskNo) (want found : Header) → status.Damaged d w f ≡ status.Damaged number want found → IsDamage (AllDisksTell disk.held old) d w f (map disk.mismatches old) (map disk.mismatches new) → IsDamage (AllDisksTell disk.held old) number want found (map disk.mismatches old) (map disk.mismatches new)
      by_parts d w f number want found e is = subst (λ (s : Status). elim s as (λ _. Type 0) [ status.Damaged x y z ↦ IsDamage (AllDisksTell disk.held old) x y z (map disk.mismatches old) (map disk.mismatches new) | _ ↦ ⊥ ]) e is
  leaves-broken asked running.OutOfMemory trace old new back cause = leaves-untold asked trace old new back

  -- the text was written, or not
  pub leaves-written : (asked : WorkOrRefusal) (text : List ℕ) (ended : Status) (out out' : Device) (trace : List Event) (old new : List D) → WritesText text ended out out' → LeavesDisks disk asked status.Done trace old new → LeavesDisks disk asked ended trace old new
  leaves-written asked text status.Done out out' trace old new written done = done
  leaves-written asked text status.SinkFault out out' trace old new written done = leaves-unwritten asked trace old new done
  leaves-written asked text status.Usage out out' trace old new written done = absurd written
  leaves-written asked text (status.Refused line reason) out out' trace old new written done = absurd written
  leaves-written asked text (status.TooLarge line bytes) out out' trace old new written done = absurd written
  leaves-written asked text (status.SwapTooSmall needed have) out out' trace old new written done = absurd written
  leaves-written asked text (status.DiskFault number) out out' trace old new written done = absurd written
  leaves-written asked text (status.Damaged number want found) out out' trace old new written done = absurd written
  leaves-written asked text status.SourceFault out out' trace old new written done = absurd written
  leaves-written asked text status.OutOfMemory out out' trace old new written done = absurd written
