use Rattle.std.proofs.Common.{◌≡◌, ◌∙◌, ◌++◌, ◌∷◌, [], ℕ, List, ap, map, sym, subst, position, None, bytes_eq}
use Rattle.sj_meaning.specs.declared.job.RootInfo.{RootInfo}
use Rattle.sj_meaning.specs.Table.{Table, table_of, with_root, IsTable}
use Rattle.sj_meaning.proofs.Adding.{key-added, table-pushed, no-place}
use Rattle.sj_meaning.proofs.roots.Roots.add.Goals as goal

-- the table after the two lists were pushed to
pushed : goal.returns-clause-added
pushed c =
    let T = c.args.self.now in
    let text = c.in_ok-from_slice.ensures.items in
    let fresh : position (bytes_eq c.in_ok-from_slice.field-0.items) (map (λ k. k.items) c.self.inside.names.keys) ≡ None =
    ap (λ (q : List ℕ). position (bytes_eq q) (map (λ k. k.items) c.self.inside.names.keys)) text
    ∙ ap (λ (U : Table). position (bytes_eq c.args.name.now) U.names) c.self.view_is ∙ no-place T c.args.name.now c.requires.fresh in
    let names = ap (map (λ k. k.items)) c.in_ok-insert.ensures.keys ∙ key-added (λ k. k.items) c.self.inside.names.keys c.in_ok-from_slice.field-0 fresh in
    let infos = c.in_ok-push.ensures.items in
    (λ i. table_of (names i) (infos i))
    ∙ ap (λ (q : List ℕ). table_of (map (λ k. k.items) c.self.inside.names.keys ++ q ∷ []) (c.reserve.new.self.items ++ c.args.info ∷ [])) text
    ∙ ap (λ (l : List RootInfo). table_of (map (λ k. k.items) c.self.inside.names.keys ++ c.args.name.now ∷ []) (l ++ c.args.info ∷ [])) c.in_ok-reserve.ensures.items
    ∙ ap (with_root c.args.name.now c.args.info) c.self.view_is

pub returns-clause-added : goal.returns-clause-added
returns-clause-added c = pushed c

pub invariant_of-self-2 : goal.invariant_of-self-2
invariant_of-self-2 c =
    subst IsTable (sym (pushed c))
    (table-pushed c.args.self.now c.args.name.now c.args.info (subst IsTable c.self.view_is c.self.invariant) c.requires.few c.requires.fresh)
