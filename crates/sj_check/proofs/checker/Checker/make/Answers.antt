use Rattle.sj_check.proofs.Words.{[], Dependencies, dependencies, List, None, Option, replicate, Rows, rows_at_start, rules, subst, sym, Task, Watches, ◌≡◌}
use Rattle.sj_check.proofs.{BlockDisks.homes-each, Keeping.watches-fresh}
use Rattle.sj_check.proofs.checker.Checker.make.Goals as goal

pub invariant_of-result : goal.invariant_of-result
invariant_of-result c =
    let p = c.args.program.value in
    let m = c.args.machine in
    let homes = c.in_ok-homes.homes.items in
    let tasks = c.in_ok-tasks.tasks.items in
    let deps = c.in_ok-deps.deps in
    let idle : tasks ≡ replicate p.workers None = search rules in
    let fresh : deps ≡ dependencies p [] = search rules in
    let starts : c.in-Ok.rows ≡ rows_at_start p m = search rules in
    subst (λ (r : Rows). Watches r homes tasks deps) (sym starts)
    (subst (λ (ts : List (Option Task)). Watches (rows_at_start p m) homes ts deps) (sym idle)
    (subst (λ (d : Dependencies). Watches (rows_at_start p m) homes (replicate p.workers None) d) (sym fresh)
    (watches-fresh p m homes (homes-each p m homes (search rules)))))
