use Rattle.std.proofs.Common.{rules, ℕ, ap, subst, sym, Option, ◌≡◌, ◌∙◌}
use Rattle.sj_steal.specs.Facts.{SharedFacts}
use Rattle.sj_engine.specs.Ready.{IsPassBy}
use Rattle.sj_engine.specs.declared.member.SeatedWorker.{SeatedWorker}
use Rattle.sj_engine.proofs.site.Site.go_on.Goals as goal
use Rattle.sj_engine.proofs.site.Site.go_on.Goals.{then-rests+then-may_rest, else-rests}

pub returns-clause-member : goal.returns-clause-member
returns-clause-member g c =
    let queues = c.args.self.now.queues.now in
    let policy = c.args.self.now.desk.now.opening.board.run.machine.policy in
    let n = c.args.member.now.seat.facts.number in
    let same : c.if-rests.member.pass ≡ c.args.member.now.pass = elim c.if-rests.branch [
      | then-rests+then-may_rest w ↦ ap (λ (m : SeatedWorker g.row.D.Denot). m.pass) w.member-is
      | else-rests w ↦ ap (λ (m : SeatedWorker g.row.D.Denot). m.pass) w.member-is
    ] in
    let taken : c.take.result ≡ c.args.member.now.pass = c.take.ensures.value ∙ same in
    let its = c.new-ready.ensures policy n (subst (IsPassBy queues policy n) (sym taken) c.requires.member.pass) in
    let still = c.work-member.ensures.ready.whose policy n its.1 in
    let out = c.into_pass.ensures policy n still in
    let here = subst (λ (q : Option SharedFacts). IsPassBy q policy n c.into_pass.result) (c.work-member.ensures.ready.queues ∙ its.0) out in
    let number : n ≡ c.work-member.new.seat.facts.number = search rules in
    record {
      known = search rules;
      row = search rules;
      outside = search rules;
      pass = subst (λ (k : ℕ). IsPassBy queues policy k c.into_pass.result) number here;
      heard = search rules;
    }
