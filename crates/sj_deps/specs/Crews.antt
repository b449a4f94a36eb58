-- What a `Crew` is seen as.
use Rattle.std.specs.Prelude.{List, [], ◌∷◌}
use Rattle.sj_base.specs.declared.ids.Task.{Task}
use Rattle.sj_deps.specs.declared.crew.Tasks.{Tasks}
use Rattle.sj_deps.specs.declared.crew.Tasks.TheVariants.{Single, Several}

-- the tasks of a party, in order
abbrev pub crew_tasks : Tasks → List Task
crew_tasks (Single t) = t ∷ []
crew_tasks (Several ts) = ts
