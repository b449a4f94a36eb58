use Rattle.std.proofs.Common.{◌≡◌, ◌∙◌, sym, ap, refl, subst, map, List, Contains}
use Rattle.std.specs.List.Sorted.{IsStrictlyIncreasing}
use Rattle.sj_base.specs.declared.ids.Task.{Task}
use Rattle.sj_deps.specs.Conflict.{Ready}
use Rattle.sj_deps.specs.Progress.{Dependencies, dependencies, after_done, BecomesReady}
use Rattle.sj_deps.proofs.Keeping.{known_task, enough_left, all_free, room_for_done, keeps_after, answer_ready, ready_answer, answers_rise}
use Rattle.sj_deps.proofs.deps.Deps.done.Goals as goal

pub complete-requires-clause-ledger : goal.complete-requires-clause-ledger
complete-requires-clause-ledger c = c.self.invariant.ledger

pub complete-requires-clause-task : goal.complete-requires-clause-task
complete-requires-clause-task c =
    known_task c.self.inside.program.value c.self.inside.counters c.self.invariant c.args.t.0 (subst (λ (v : Dependencies). Ready v.program v.done c.args.t.0) (sym c.self.view_is) c.requires)

pub complete-requires-clause-enough : goal.complete-requires-clause-enough
complete-requires-clause-enough c =
    enough_left c.self.inside.program.value c.self.inside.counters c.self.invariant c.args.t.0 (subst (λ (v : Dependencies). Ready v.program v.done c.args.t.0) (sym c.self.view_is) c.requires)

pub complete-requires-clause-free : goal.complete-requires-clause-free
complete-requires-clause-free c =
    all_free c.self.inside.program.value c.self.inside.counters c.self.invariant c.args.t.0 (subst (λ (v : Dependencies). Ready v.program v.done c.args.t.0) (sym c.self.view_is) c.requires)

pub complete-requires-clause-room_done : goal.complete-requires-clause-room_done
complete-requires-clause-room_done c =
    room_for_done c.self.inside.program.value c.self.inside.counters c.self.invariant c.args.t.0 (subst (λ (v : Dependencies). Ready v.program v.done c.args.t.0) (sym c.self.view_is) c.requires)

pub invariant_of-self : goal.invariant_of-self
invariant_of-self c =
    keeps_after c.self.inside.program.value c.self.inside.counters c.self.invariant c.args.t.0 (subst (λ (v : Dependencies). Ready v.program v.done c.args.t.0) (sym c.self.view_is) c.requires) c.complete.new.self c.complete.ensures

pub returns : goal.returns
returns c =
    let P = c.self.inside.program.value in
    let k = c.self.inside.counters in
    let ready : Ready P k.order.items c.args.t.0 = subst (λ (v : Dependencies). Ready v.program v.done c.args.t.0) (sym c.self.view_is) c.requires in
    let now : dependencies P c.complete.new.self.order.items ≡ after_done c.args.self.now c.args.t.0 = ap (dependencies P) c.complete.ensures.order ∙ ap (λ v. after_done v c.args.t.0) c.self.view_is in (
      (refl, λ _. tt, now),
      record {
        done = tt;
        answers = λ u. (
          λ h.
              let both = answer_ready P k c.self.invariant c.args.t.0 ready c.complete.new.self c.complete.ensures u (subst (λ (xs : List Task). Contains xs u) c.deref.ensures.value h) in
              subst (λ (v : Dependencies). BecomesReady v c.args.t.0 u.0) c.self.view_is (record { now = subst (λ xs. Ready P xs u.0) c.complete.ensures.order both.0; before = both.1 }),
          λ becomes.
              let was : BecomesReady (dependencies P k.order.items) c.args.t.0 u.0 = subst (λ (v : Dependencies). BecomesReady v c.args.t.0 u.0) (sym c.self.view_is) becomes in
              subst (λ (xs : List Task). Contains xs u) (sym c.deref.ensures.value) (ready_answer P k c.self.invariant c.args.t.0 ready c.complete.new.self c.complete.ensures u (subst (λ xs. Ready P xs u.0) (sym c.complete.ensures.order) was.now) was.before),
        );
        by_number = subst (λ (xs : List Task). IsStrictlyIncreasing (map (λ (u : Task). u.0) xs)) (sym c.deref.ensures.value) (answers_rise P k c.self.invariant c.args.t.0 ready c.complete.new.self c.complete.ensures);
      },
    )
