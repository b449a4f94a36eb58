use Rattle.std.proofs.Common.{rules, None, length, map, subst, sym, ◌≡◌, ◌≤◌, ◌^◌, ◌∙◌, ap}
use Rattle.std.proofs.lemmas.List.{length-replicate}
use Rattle.sj_base.specs.declared.program.Program.{Program}
use Rattle.sj_board.specs.Board.{BoardState}
use Rattle.sj_board.specs.Preparing.{first_hands}
use Rattle.sj_engine.specs.Turn.{IsSharedSound}
use Rattle.sj_engine.specs.declared.noted_board.NotedBoard.{NotedBoard}
use Rattle.sj_engine.specs.Stage.{IsFreeRow}
use Rattle.sj_engine.proofs.Passing.{all-passes}
use Rattle.sj_engine.proofs.Seating.{dealt-free}
use Rattle.sj_engine.proofs.engine.run_over.Goals as goal

pub worked-requires-clause-passes : goal.worked-requires-clause-passes
worked-requires-clause-passes g c κs within =
    let hands : c.in-Ok-make.made.0.opening.board.hands ≡ first_hands c.args.program.now = ap (λ (b : NotedBoard _). b.board.hands) c.in-Ok-make.ensures.opening ∙ search rules in
    let at = dealt-free c.in-Ok-make.made.0 c.args.program.now hands c.in-Ok-make.made.1.items c.in-Ok-make.ensures.seats in
    all-passes c.in-Ok-make.made.0 IsFreeRow c.in-Ok-make.made.1.items at _ _ (search rules) (search rules)

pub worked-requires-clause-free : goal.worked-requires-clause-free
worked-requires-clause-free g c κs within =
    let hands : c.in-Ok-make.made.0.opening.board.hands ≡ first_hands c.args.program.now = ap (λ (b : NotedBoard _). b.board.hands) c.in-Ok-make.ensures.opening ∙ search rules in
    dealt-free c.in-Ok-make.made.0 c.args.program.now hands c.in-Ok-make.made.1.items c.in-Ok-make.ensures.seats

pub dealt-requires-clause-few : goal.dealt-requires-clause-few
dealt-requires-clause-few g c = subst (λ (p : Program). length p.tasks ≤ 2 ^ 22) (sym c.requires.opened.program) c.requires.proper.limits.tasks

pub make-requires-clause-sound : goal.make-requires-clause-sound
make-requires-clause-sound g c =
    let same : c.in-Ok-new-2.board ≡ c.args.board = c.in-Ok-new-2.ensures.ok in
    let places : length c.in-Ok-new.sleepers ≡ c.args.program.now.workers = ap length c.in-Ok-new.ensures ∙ length-replicate c.args.program.now.workers None in
    record {
      board = subst (IsSharedSound g.D.Disk.size g.D.Disk.faults g.D.Disk.mismatches g.D.Disk.held) (sym same) (record {
        board = c.is_sound.ensures;
        taken = c.requires.opened.taken;
        counts = λ e. (ap (map g.D.Disk.faults) c.requires.opened.disks_are, ap (map g.D.Disk.mismatches) c.requires.opened.disks_are);
      });
      staffed = places ∙ sym (ap (λ (b : BoardState g.row.D.Denot). b.run.program.workers) same ∙ ap (λ (p : Program). p.workers) c.requires.opened.program);
    }
