use Rattle.std.proofs.Common.{◌∙◌, ap, sym, option_map, bytes_eq}
use Rattle.sj_meaning.specs.Table.{Table, a_root, root_in}
use Rattle.sj_meaning.proofs.Finding.{position-map}
use Rattle.sj_meaning.proofs.roots.Roots.find.Goals as goal

pub returns-in-None : goal.returns-in-None
returns-in-None c =
    ap (option_map a_root) (c.in-None.ensures.index ∙ sym (position-map (bytes_eq c.args.name.now) (λ k. k.items) c.self.inside.names.keys))
    ∙ ap (λ (T : Table). root_in T c.args.name.now) c.self.view_is

pub returns-in-Some : goal.returns-in-Some
returns-in-Some c =
    ap (option_map a_root) (c.in-Some.ensures.index ∙ sym (position-map (bytes_eq c.args.name.now) (λ k. k.items) c.self.inside.names.keys))
    ∙ ap (λ (T : Table). root_in T c.args.name.now) c.self.view_is
