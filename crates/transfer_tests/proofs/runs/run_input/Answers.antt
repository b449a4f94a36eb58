use Rattle.std.proofs.Common.{ℕ, ◌≤◌, ◌^◌, List, map, ap, ◌∙◌, subst, sym}
use Rattle.std.specs.Prelude.{All}
use Rattle.std.proofs.lemmas.List.Elements.{All-map}
use Rattle.transfer_tests.proofs.runs.run_input.Goals as goal

pub ready_job-requires-clause-small : goal.ready_job-requires-clause-small
ready_job-requires-clause-small g c κs within =
    let sizes = c.in-Ok.ensures ∙ ap (map g.D.Disk.size) c.deref.ensures.value in
    subst (λ (ns : List ℕ). All (λ n. n ≤ 2 ^ 40) ns) (sym sizes) (All-map (λ n. n ≤ 2 ^ 40) g.D.Disk.size c.args.disks.items c.requires.small)
