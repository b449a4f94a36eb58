-- From a run's outcome to the text of what was asked for.
use Rattle.std.proofs.Common.{◌≡◌, ℕ, Bool, cond, List, [], ◌++◌, length, map, Ok, Err, IsOkAnd, ap, sym, subst, ◌∙◌}
use Rattle.std.specs.List.{range_with_len}
use Rattle.sj_base.specs.declared.ids.Task.{Task}
use Rattle.sj_base.specs.declared.program.Machine.{Machine}
use Rattle.sj_base.specs.declared.program.Program.{Program}
use Rattle.sj_base.specs.declared.trace.Event.{Event}
use Rattle.sj_base.specs.Array.{Array}
use Rattle.sj_codelet.specs.declared.kernel.Kernel.{Kernel}
use Rattle.sj_codelet.specs.Kernel.{out}
use Rattle.sj_core.specs.Legal.{IsFinished, IsLegal}
use Rattle.sj_core.specs.Once.{EachRanOnce}
use Rattle.sj_meaning.specs.Meaning.{printed}
use Rattle.sj_lower.specs.Delivering.{deliveries_for}
use Rattle.sj_engine.specs.Outcome.{WantsLastWritten}
use Rattle.sj_board.specs.declared.fault.RunFault.{RunFault}
use Rattle.sj_board.specs.Delivered.{DeliversEach}
use Rattle.sj_trace.specs.Text.{text_of as text_of_trace}
use Rattle.sj_ready.specs.declared.ready.ReadyJob.{ReadyJob}
use Rattle.sj_ready.proofs.Fitting.{ready-room}
use Rattle.sj_ready.specs.Ready.{IsReady}
use Rattle.sj_top.specs.Answers.{BrokeOff, IsAnswerText}
use Rattle.sj_top.specs.Gathering.{ShowsRun, prints_of, shown}
use Rattle.sj_top.specs.Output.{output}
use Rattle.sj_top.specs.Top.{PrintsNothing, answer_text}
use Rattle.sj_top.specs.Traces.{Began, BeganWork, RanWhole}
use Rattle.sj_ready.specs.Work.{Work, WorkOrRefusal, program_of}
use Rattle.sj_top.proofs.Handing.{same-shown}
use Rattle.sj_top.proofs.Showing.{all-shown, count-prints}

-- what comes behind the arrays
abbrev pub behind : Bool → List Event → List ℕ
behind b trace = cond b (text_of_trace trace) []

module _ (has : Kernel → Bool) (asked : WorkOrRefusal) (r : ReadyJob) (ready : IsReady has asked r) where
  abbrev p : Program
  p = r.program.value

  abbrev w : Work
  w = ready.work

  pub broken-work : (fault : RunFault) (trace : List Event) → IsLegal p r.machine trace → WantsLastWritten p r.machine trace fault → IsOkAnd asked (BrokeOff fault trace)
  broken-work fault trace h last =
      let began : BeganWork trace w = subst (λ (m : Machine). IsLegal (program_of w) m trace) ready.machine_is (subst (λ (q : Program). IsLegal q r.machine trace) ready.program_is h) in
      let wanted : WantsLastWritten (program_of w) w.machine trace fault =
      subst (λ (m : Machine). WantsLastWritten (program_of w) m trace fault) ready.machine_is (subst (λ (q : Program). WantsLastWritten q r.machine trace fault) ready.program_is last) in
      let broke : BrokeOff fault trace w = record { had_room = ready-room has asked r ready; began = began; wanted = wanted } in
      subst (λ (a : WorkOrRefusal). IsOkAnd a (BrokeOff fault trace)) (sym ready.asked_for) broke

  ran-work : (trace : List Event) → IsFinished p r.machine trace → EachRanOnce p trace → RanWhole trace w
  ran-work trace finished once = record {
    finished = subst (λ (m : Machine). IsFinished (program_of w) m trace) ready.machine_is (subst (λ (q : Program). IsFinished q r.machine trace) ready.program_is finished);
    each_once = subst (λ (q : Program). EachRanOnce q trace) ready.program_is once;
  }

  module _ (Tells : Type 0) (pairs : List (Task × Array)) (trace : List Event) (text : List ℕ) (each : DeliversEach out p Tells pairs) (shows : ShowsRun r.shows_summary r.roots p pairs (behind r.shows_trace trace) text) where
    told : Tells → text ≡ answer_text trace w
    told tells =
        let same = same-shown r.roots p pairs shows.shows.arrays shows.shows.among (each.arrays tells) in
        let arrays : shows.arrays_text ≡ output w.shows_summary (printed w.statements) =
        shows.shows.text_is ∙ ap (output r.shows_summary) (same ∙ all-shown r.roots p w.statements ready.prints) ∙ ap (λ (b : Bool). output b (printed w.statements)) ready.summary_is in
        shows.behind ∙ ap (λ (xs : List ℕ). xs ++ behind r.shows_trace trace) arrays
        ∙ ap (λ (b : Bool). output w.shows_summary (printed w.statements) ++ behind b trace) ready.trace_is

    silent : PrintsNothing w → text ≡ []
    silent nothing =
        let none : prints_of p ≡ 0 = count-prints r.roots p w.statements ready.prints ∙ ap length nothing.no_array in
        let arrays : shows.arrays_text ≡ [] = shows.shows.text_is ∙ ap (λ (n : ℕ). output r.shows_summary (map (λ k. shown r.roots shows.shows.arrays (deliveries_for p k)) (range_with_len 0 n))) none in
        shows.behind ∙ ap (λ (xs : List ℕ). xs ++ behind r.shows_trace trace) arrays ∙ ap (λ (b : Bool). behind b trace) (ready.trace_is ∙ nothing.no_trace)

    pub shows-work : IsFinished p r.machine trace → EachRanOnce p trace → IsOkAnd asked (IsAnswerText Tells trace text)
    shows-work finished once =
        subst (λ (a : WorkOrRefusal). IsOkAnd a (IsAnswerText Tells trace text)) (sym ready.asked_for) (record { told = told; had_room = ready-room has asked r ready; ran = ran-work trace finished once; silent = silent })

-- a run of which memory ran out, or that broke off, had begun
pub broke-began : (asked : WorkOrRefusal) (fault : RunFault) (trace : List Event) → IsOkAnd asked (BrokeOff fault trace) → Began trace asked
broke-began (Ok w) fault trace h = h.began
broke-began (Err e) fault trace h = absurd h
