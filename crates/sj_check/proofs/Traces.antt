-- Fronts of legal traces, and the first event with which a trace isn't legal.
use Rattle.sj_check.proofs.Words.{[], after, ap, CanFollow, Event, HappensLegally, has_happened, IsFirstBad, IsLegal, IsRefused, length, List, Machine, MayHappen, opening, Program, Rows, slice_get, Some, State, state_of, subst, suc, sym, take, TracesGoOn, zero, ℕ, ◌++◌, ◌+◌, ◌<◌, ◌∙◌, ◌∷◌, ◌≡◌, ◌≤◌}
use Rattle.std.proofs.lemmas.{List.take_all, List.take_more, List.Sums.fold-append, Option.get_or_from_slice_get, Option.slice_get_within}

-- one more event of a trace
take-next : (trace : List Event) (i : ℕ) (e : Event) → slice_get trace i ≡ Some e → take (i + 1) trace ≡ take i trace ++ e ∷ []
take-next trace i e got = take_more trace i e (slice_get_within trace i e got) ∙ ap (λ (x : Event). take i trace ++ x ∷ []) (get_or_from_slice_get trace i e e got)

follow : (p : Program) (m : Machine) (s : State) (trace : List Event) → CanFollow p m s trace → (n : ℕ) → CanFollow p m s (take n trace)
follow p m s [] legal zero = tt
follow p m s [] legal (suc n) = tt
follow p m s (e ∷ trace) legal zero = tt
follow p m s (e ∷ trace) legal (suc n) = (legal.0, follow p m (after p m s e) trace legal.1 n)

-- each front of a legal trace is legal
pub fronts-legal : (p : Program) (m : Machine) (trace : List Event) → IsLegal p m trace → (n : ℕ) → IsLegal p m (take n trace)
fronts-legal p m trace legal n = follow p m (opening p m) trace legal n

-- ---- a checker that has seen so many events of a trace

-- they are legal, and the rows are as they leave them
pub record LegalTo (start : Rows) (trace : List Event) (i : ℕ) (now : Rows) : Type 0 where
  pub legal : IsLegal start.program start.machine (take i trace)
  pub rows : now ≡ record start { state = state_of start.program start.machine (take i trace) }

module _ (start : Rows) (trace : List Event) (i : ℕ) (now : Rows) (so_far : LegalTo start trace i now) where
  abbrev p : Program
  p = start.program

  abbrev m : Machine
  m = start.machine

  module _ (go_on : TracesGoOn) (e : Event) (got : slice_get trace i ≡ Some e) where
    -- the next event happens
    pub one-more : (new : Rows) → HappensLegally now e new → LegalTo start trace (i + 1) new
    one-more new happens =
        let may = subst (λ (r : Rows). MayHappen r e) so_far.rows happens.legal in
        record {
          legal = subst (IsLegal p m) (sym (take-next trace i e got)) ((go_on p m (take i trace) e).both_suffice so_far.legal may);
          rows = happens.happens ∙ ap (λ (r : Rows). has_happened r e) so_far.rows ∙ ap (λ (s : State). record start { state = s }) (sym (ap (state_of p m) (take-next trace i e got) ∙ fold-append (after p m) (opening p m) (take i trace) (e ∷ [])));
        }

    -- or isn't legal
    pub first-bad : (new : Rows) → i < length trace → IsRefused now e new → IsFirstBad p m trace i
    first-bad new inside refused = record {
      inside = inside;
      before = so_far.legal;
      bad = λ all. subst (λ (r : Rows). ¬ MayHappen r e) so_far.rows refused.illegal ((go_on p m (take i trace) e).event_may_happen (subst (IsLegal p m) (take-next trace i e got) all));
    }

  -- no event is left
  pub all-seen : length trace ≤ i → IsLegal p m trace × (now.state ≡ state_of p m trace)
  all-seen past = (
    subst (IsLegal p m) (take_all i trace past) so_far.legal,
    ap (λ (r : Rows). r.state) so_far.rows ∙ ap (state_of p m) (take_all i trace past),
  )
