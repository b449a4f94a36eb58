use Rattle.sj_lower.proofs.Words.{[], a_root, ap, arith, cells_from, even, HasRoomFor, info_of, length, length-append, load_rows, None, refl, subst, vec_len, ℕ, ◌++◌, ◌∙◌, ◌∷◌, ◌≡◌}
use Rattle.sj_meaning.specs.declared.job.Act.TheVariants as kept
use Rattle.sj_lower.proofs.Following.{does-register}
use Rattle.sj_lower.proofs.lowerer.Lowerer.register.Goals as goal

pub returns-clause-does : goal.returns-clause-does
returns-clause-does c =
    let T = c.args.roots.now in
    let l = c.args.self.now in
    let counted : vec_len l.actives ≡ length l.actives.items = omega (arith, l.actives.ok) in
    let number : c.len.result ≡ length l.actives.items = omega (arith, c.len.ensures, l.actives.ok) in
    let info : c.info-info.result ≡ info_of T (a_root (length l.actives.items)) = c.info-info.ensures ∙ ap (λ (n : ℕ). info_of T (a_root n)) number in
    does-register T l _ c.args.init c.args.first c.args.line (subst (λ (n : ℕ). HasRoomFor T n (kept.Register c.args.init) c.args.first) counted c.requires.room)
    (c.in_ok-valued.ensures.tasks ∙ (λ k. l.tasks.items ++ load_rows c.args.init (info k).dims (info k).parts (cells_from c.args.first (info k).parts) c.args.line)) refl refl refl
    (c.in_ok-push.ensures.items
    ∙ ap (λ t. l.actives.items ++ record { tracked = t; first = c.args.first; reduction = None } ∷ []) (c.even.ensures ∙ (λ k. even (info k).parts (c.in_ok-valued.ensures.valued k))))

pub returns-clause-prints : goal.returns-clause-prints
returns-clause-prints c =
    let info = c.info-info.result in
    omega (arith, c.requires.prints, c.args.self.now.tasks.ok, c.push_first.new.tasks.ok, ap length c.in_ok-valued.ensures.tasks, length-append c.args.self.now.tasks.items (load_rows c.args.init info.dims info.parts (cells_from c.args.first info.parts) c.args.line))
