use Rattle.std.proofs.Common.{◌≡◌, ◌≢◌, List, ℕ, ◌++◌, Bor, Option, Some, None, MatchOption, sym}
use Rattle.std.proofs.lemmas.Slice.Eq.{strip_prefix_is}
use Rattle.std.proofs.lemmas.Bool.Decides.{Decides-eqb}
use Rattle.sj_trace.proofs.line.behind.Goals as goal

turned : (front text : List ℕ) (r : Option (Bor (List ℕ))) → MatchOption r ((rest : List ℕ) → text ≢ front ++ rest) (λ rest. text ≡ front ++ rest.now) → MatchOption r ((rest : List ℕ) → front ++ rest ≢ text) (λ rest. front ++ rest.now ≡ text)
turned front text None none = λ rest e. none rest (sym e)
turned front text (Some rest) is = sym is

pub returns : goal.returns
returns c = turned c.args.front.now c.args.text.now c.strip_prefix.result (strip_prefix_is Decides-eqb c.args.text.now c.args.front.now c.strip_prefix.result c.strip_prefix.ensures.cases)
