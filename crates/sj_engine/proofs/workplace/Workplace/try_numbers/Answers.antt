use Rattle.std.proofs.Common.{arith, rules, ap, length, ℕ, ◌+◌, ◌<◌, List, refl, subst, sym, take, ◌∷◌, ◌++◌, [], ◌∙◌}
use Rattle.std.proofs.lemmas.List.{length-set, take_more_set}
use Rattle.sj_base.specs.declared.ids.Task.{Task}
use Rattle.sj_board.specs.Board.{BoardState}
use Rattle.sj_engine.specs.Queued.{AccountsForNumbers, IsNotNeeded}
use Rattle.sj_engine.specs.declared.picking.Picked.TheVariants.{Nothing}
use Rattle.sj_engine.proofs.Numbers.{look-begins, look-claims, look-drops, look-takes}
use Rattle.sj_engine.proofs.Sources.{stays-itself, stays-shared, stays-then}
use Rattle.sj_engine.proofs.workplace.Workplace.try_numbers.Goals as goal
use Rattle.sj_engine.proofs.workplace.Workplace.try_numbers.Goals.{In-Some, in-Dropped, in-Kept}

pub returns-in_default-clause-stays : goal.returns-in_default-clause-stays
returns-in_default-clause-stays g c = stays-then c.args.ready.now c.loop-i.ready c.take.new.self c.loop-i.invariant.stays c.take.ensures.stays

pub returns-in_default-clause-shared : goal.returns-in_default-clause-shared
returns-in_default-clause-shared g c = stays-shared c.loop-i.ready c.take.new.self c.take.ensures.stays c.loop-i.invariant.shared

pub returns-in-Claimed-clause-stays : goal.returns-in-Claimed-clause-stays
returns-in-Claimed-clause-stays g c = stays-then c.args.ready.now c.loop-i.ready c.take.new.self c.loop-i.invariant.stays c.take.ensures.stays

pub returns-in-Claimed-clause-shared : goal.returns-in-Claimed-clause-shared
returns-in-Claimed-clause-shared g c = stays-shared c.loop-i.ready c.take.new.self c.take.ensures.stays c.loop-i.invariant.shared

pub returns-in-Failed-clause-stays : goal.returns-in-Failed-clause-stays
returns-in-Failed-clause-stays g c = stays-then c.args.ready.now c.loop-i.ready c.take.new.self c.loop-i.invariant.stays c.take.ensures.stays

pub returns-in-Failed-clause-shared : goal.returns-in-Failed-clause-shared
returns-in-Failed-clause-shared g c = stays-shared c.loop-i.ready c.take.new.self c.take.ensures.stays c.loop-i.invariant.shared

-- the numbers, once the next one was taken
after-taking : (g : _) (c : In-Some g) → AccountsForNumbers c.args.board.now c.args.ready.now (take c.loop-i.kept c.loop-i.held ++ c.in-Some.t ∷ []) Nothing c.take.new.self
after-taking g c = look-takes c.args.board.now c.args.ready.now (take c.loop-i.kept c.loop-i.held) c.loop-i.ready c.in-Some.t c.take.new.self c.loop-i.invariant.numbers c.in-Some.ensures.some

pub loop-i-init : goal.loop-i-init
loop-i-init g c = record {
  same = refl;
  stays = stays-itself c.args.ready.now;
  of = c.requires.of;
  shared = c.requires.shared;
  few = omega arith;
  long = search rules;
  numbers = look-begins c.args.board.now c.args.ready.now c.requires.shared;
}

pub loop-i-preserved : goal.loop-i-preserved
loop-i-preserved g c =
    let b = c.args.board.now in
    let old = c.args.ready.now in
    let kept = take c.loop-i.kept c.loop-i.held in
    let new = c.take.new.self in
    let t = c.in-Some.t in
    let numbers = after-taking g (goal.at.loop-i-preserved g c).In-Some in
    record {
      same = elim c.match-claim_number.branch [
        | in-Dropped w ↦ c.claim_number.ensures.same (λ e. absurd (cc (e, w.in-Dropped.is))) (λ e. absurd (cc (e, w.in-Dropped.is))) ∙ c.loop-i.invariant.same
        | in-Kept w ↦ c.claim_number.ensures.same (λ e. absurd (cc (e, w.in-Kept.is))) (λ e. absurd (cc (e, w.in-Kept.is))) ∙ c.loop-i.invariant.same
      ];
      stays = stays-then old c.loop-i.ready new c.loop-i.invariant.stays c.take.ensures.stays;
      of = c.take.ensures.of;
      shared = stays-shared c.loop-i.ready new c.take.ensures.stays c.loop-i.invariant.shared;
      few = elim c.match-claim_number.branch [ in-Dropped w ↦ omega arith | in-Kept w ↦ omega arith ];
      long = elim c.match-claim_number.branch [
        | in-Dropped w ↦ ap length w.held-is ∙ c.loop-i.invariant.long
        | in-Kept w ↦ ap length w.held-is ∙ length-set c.loop-i.held c.loop-i.kept t ∙ c.loop-i.invariant.long
      ];
      numbers = elim c.match-claim_number.branch [
        | in-Dropped w ↦ (
            let unneeded = subst (λ (k : BoardState g.row.D.Denot). IsNotNeeded k t) c.loop-i.invariant.same (c.claim_number.ensures.dropped w.in-Dropped.is) in
            subst (λ (l : List Task). AccountsForNumbers b old l Nothing new) (sym (ap (λ (k : ℕ). take k c.match-claim_number.held) w.kept-is ∙ ap (take c.loop-i.kept) w.held-is)) (look-drops b old kept new t unneeded numbers)
            )
        | in-Kept w ↦ (
            let inside : c.loop-i.kept < length c.loop-i.held = omega (arith, c.loop-i.invariant.long, c.tries_after-tries.ensures.few) in
            subst (λ (l : List Task). AccountsForNumbers b old l Nothing new)
            (sym (ap (λ (k : ℕ). take k c.match-claim_number.held) w.kept-is ∙ ap (take (c.loop-i.kept + 1)) w.held-is ∙ take_more_set c.loop-i.held c.loop-i.kept t inside)) numbers
            )
      ];
    }

pub returns-in_default-clause-numbers : goal.returns-in_default-clause-numbers
returns-in_default-clause-numbers g c = λ look. subst (AccountsForNumbers c.args.board.now c.args.ready.now (take c.loop-i.kept c.loop-i.held) Nothing) (sym c.in_default.ensures.none) c.loop-i.invariant.numbers

pub returns-in-Claimed-clause-numbers : goal.returns-in-Claimed-clause-numbers
returns-in-Claimed-clause-numbers g c = λ look. look-claims c.args.board.now c.args.ready.now (take c.loop-i.kept c.loop-i.held) c.take.new.self c.in-Some.t (after-taking g (goal.at.returns-in-Claimed-clause-numbers g c).In-Some)
