use Rattle.sj_lower.proofs.Words.{arith, IfSome, Kept, Layout, Option, refl, Some, subst, sym, Table, ℕ, ◌∙◌, ◌≡◌}
use Rattle.std.proofs.lemmas.Bool.{leb-true, leb-false}
use Rattle.sj_lower.proofs.{Coming.few-with, Coming.goes-late, Coming.goes-on, Coming.goes-past, Coming.has-next, Coming.has-pass, Coming.has-room, Coming.IsLaid, Coming.with-tasks, Preparing.is-over, Preparing.none-over}
use Rattle.sj_lower.proofs.lower.LoweringProgress.add_own.Goals as goal

laid : (T : Table) (old new : Layout) (a : Kept) (first : ℕ) (o : Option ℕ) → o ≡ Some first → IfSome o (λ f. IsLaid T old new a f) → IsLaid T old new a first
laid T old new a first o e h = subst (λ o. IfSome o (λ f. IsLaid T old new a f)) e h

pub pass-requires-clause-pass : goal.pass-requires-clause-pass
pass-requires-clause-pass c = has-pass c.args.roots.now c.args.self.now c.args.statement c.requires

pub pass-requires-clause-room : goal.pass-requires-clause-room
pass-requires-clause-room c =
    has-room c.args.roots.now c.args.self.now c.lay.new.self c.args.statement c.in-Some.first c.requires
    (laid c.args.roots.now c.args.self.now.layout c.lay.new.self c.args.statement.act c.in-Some.first c.in_ok-first.field-0 c.in-Some.is c.in_ok-first.ensures.laid)
    c.in_ok-first.ensures.few

pub returns-then-is_some-clause-goes : goal.returns-then-is_some-clause-goes
returns-then-is_some-clause-goes c =
    let g = c.args.self.now in
    goes-past c.args.roots.now g _ c.args.statement c.in-Some.first (is-over g.over c.is_some.result c.is_some.ensures c.if-is_some.true) refl
    (laid c.args.roots.now g.layout c.lay.new.self c.args.statement.act c.in-Some.first c.in_ok-first.field-0 c.in-Some.is c.in_ok-first.ensures.laid)
    c.in_ok-first.ensures.few c.in_ok-pass.ensures.passes c.in_ok-pass.ensures.prints c.in_ok-pass.ensures.tasks refl

pub count-requires : goal.count-requires
count-requires c = has-next c.args.roots.now c.args.self.now c.args.statement (none-over c.args.self.now.over c.is_some.result c.is_some.ensures c.if-is_some.false) c.requires

pub pass-requires-then-not-has_room-clause-pass : goal.pass-requires-then-not-has_room-clause-pass
pass-requires-then-not-has_room-clause-pass c = has-pass c.args.roots.now c.args.self.now c.args.statement c.requires

pub pass-requires-then-not-has_room-clause-room : goal.pass-requires-then-not-has_room-clause-room
pass-requires-then-not-has_room-clause-room c =
    has-room c.args.roots.now c.args.self.now c.lay.new.self c.args.statement c.in-Some.first c.requires
    (laid c.args.roots.now c.args.self.now.layout c.lay.new.self c.args.statement.act c.in-Some.first c.in_ok-first.field-0 c.in-Some.is c.in_ok-first.ensures.laid)
    c.in_ok-first.ensures.few

pub returns-then-not-has_room-clause-goes : goal.returns-then-not-has_room-clause-goes
returns-then-not-has_room-clause-goes c =
    let T = c.args.roots.now in
    let g = c.args.self.now in
    let s = c.args.statement in
    let e = none-over g.over c.is_some.result c.is_some.ensures c.if-is_some.false in
    let many = leb-false _ _ (sym c.has_room.ensures ∙ c.if-not-has_room.true) in
    goes-late T g _ s c.in-Some.first e refl
    (laid T g.layout c.lay.new.self s.act c.in-Some.first c.in_ok-first.field-0 c.in-Some.is c.in_ok-first.ensures.laid)
    c.in_ok-first.ensures.few c.in_ok-pass-2.ensures.passes c.in_ok-pass-2.ensures.prints c.in_ok-pass-2.ensures.tasks refl
    (λ S L h. omega (arith, with-tasks T g s S L c.count.result e h c.count.ensures, many))

pub add-requires-clause-next : goal.add-requires-clause-next
add-requires-clause-next c = has-next c.args.roots.now c.args.self.now c.args.statement (none-over c.args.self.now.over c.is_some.result c.is_some.ensures c.if-is_some.false) c.requires

pub add-requires-clause-room : goal.add-requires-clause-room
add-requires-clause-room c =
    has-room c.args.roots.now c.args.self.now c.lay.new.self c.args.statement c.in-Some.first c.requires
    (laid c.args.roots.now c.args.self.now.layout c.lay.new.self c.args.statement.act c.in-Some.first c.in_ok-first.field-0 c.in-Some.is c.in_ok-first.ensures.laid)
    c.in_ok-first.ensures.few

pub add-requires-clause-few : goal.add-requires-clause-few
add-requires-clause-few c =
    let few = leb-true _ _ (sym c.has_room.ensures ∙ c.if-not-has_room.false) in
    few-with c.args.roots.now c.args.self.now c.args.statement c.count.result (none-over c.args.self.now.over c.is_some.result c.is_some.ensures c.if-is_some.false) c.requires c.count.ensures few

pub returns-clause-goes : goal.returns-clause-goes
returns-clause-goes c =
    let T = c.args.roots.now in
    let g = c.args.self.now in
    let s = c.args.statement in
    let e = none-over g.over c.is_some.result c.is_some.ensures c.if-is_some.false in
    let few = leb-true _ _ (sym c.has_room.ensures ∙ c.if-not-has_room.false) in
    goes-on T g _ s c.in-Some.first e e c.in_ok-add.ensures.does c.in_ok-add.ensures.prints
    (laid T g.layout c.lay.new.self s.act c.in-Some.first c.in_ok-first.field-0 c.in-Some.is c.in_ok-first.ensures.laid)
    c.in_ok-first.ensures.few refl
    (λ S L h. omega (arith, with-tasks T g s S L c.count.result e h c.count.ensures, few))
