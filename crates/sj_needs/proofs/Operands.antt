-- A task of a proper program has at most as many operands as a codelet takes, each of a cell of the program.
use Rattle.std.proofs.Common.{◌≡◌, ◌<◌, ◌≤◌, Bool, ◌&&◌, map, length, arith}
use Rattle.std.specs.Prelude.{nat_eq}
use Rattle.std.proofs.lemmas.Bool.{and_parts, eqb-true}
use Rattle.std.proofs.lemmas.List.{length-map}
use Rattle.std.proofs.lemmas.List.Elements.{All-get_or}
use Rattle.sj_base.specs.declared.ids.Task.{Task}
use Rattle.sj_base.specs.declared.mode.Access.{Access}
use Rattle.sj_base.specs.declared.program.Lowered.{Lowered}
use Rattle.sj_base.specs.declared.program.Program.{Program}
use Rattle.sj_codelet.specs.Kernel.{arguments_fit, dims_fit, formals_of}
use Rattle.sj_codelet.proofs.Table.{few-formals}
use Rattle.sj_core.specs.Program.{dims_of, no_task, task_of}
use Rattle.sj_core.specs.Proper.{FitsCodelet, Proper}

fitting-few : (p : Program) (l : Lowered) → FitsCodelet p l → length l.accesses ≤ 5
fitting-few p l fit =
    let ds = map (λ (a : Access). dims_of p a.cell) l.accesses in
    let counted : Bool = nat_eq (length ds) (length (formals_of fit.kernel)) in
    let both = and_parts (counted && arguments_fit fit.kernel l.args ds) (dims_fit fit.kernel l.args ds) fit.operands in
    let first = and_parts counted (arguments_fit fit.kernel l.args ds) both.0 in
    let same : length ds ≡ length (formals_of fit.kernel) = eqb-true (length ds) (length (formals_of fit.kernel)) first.0 in
    omega (arith, few-formals fit.kernel, length-map l.accesses (λ (a : Access). dims_of p a.cell))

pub few-operands : (p : Program) (t : Task) → Proper p → t.0 < length p.tasks → length (task_of p t).accesses ≤ 5
few-operands p t proper inside = fitting-few p (task_of p t) (All-get_or (FitsCodelet p) p.tasks t.0 no_task inside proper.codelets)
