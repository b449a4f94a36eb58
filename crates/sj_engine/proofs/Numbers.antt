-- Numbers that a worker takes from shared queues: what becomes of each.
use Rattle.std.proofs.Common.{◌≡◌, ◌∙◌, ◌+◌, ◌++◌, ◌∷◌, [], List, true, ap, arith, inl, inr, subst, sym, ◌⊎◌}
use Rattle.std.proofs.lemmas.List.{append-nil, append_assoc}
use Rattle.std.proofs.lemmas.List.Elements.{All-cons, All-nil}
use Rattle.sj_base.specs.declared.ids.Task.{Task as TaskNumber}
use Rattle.sj_base.specs.declared.ids.Worker.{Worker}
use Rattle.sj_desk.specs.Seats.{SeatFacts}
use Rattle.sj_steal.specs.Account.{times}
use Rattle.sj_steal.specs.Facts.{PassFacts}
use Rattle.sj_steal.proofs.Accounts.{times_append}
use Rattle.sj_board.specs.Board.{BoardState}
use Rattle.sj_engine.specs.Queued.{AccountsForNumbers, HasReleased, IsNotNeeded, LeavesFault, ListsReleased, PutsReleased, claimed_by}
use Rattle.sj_engine.specs.Ready.{LosesNone, PutsAll, PutsNumber, TakesNumber, is_shared}
use Rattle.sj_engine.specs.declared.noted_board.NotedBoard.{NotedBoard}
use Rattle.sj_engine.specs.declared.picking.Picked.{Picked}
use Rattle.sj_engine.specs.declared.picking.Picked.TheVariants.{Task, Nothing}
use Rattle.sj_engine.specs.declared.ready.ReadyFrom.{ReadyFrom}
use Rattle.sj_engine.specs.declared.ready.ReadyFrom.TheVariants.{Board, Shared}

-- ---- puts

pub puts-none : (a : ReadyFrom) → is_shared a ≡ true → PutsAll a [] a
puts-none Board shared = absurd (cc)
puts-none (Shared queues pass) shared = ap (λ (l : List TaskNumber). let p : PassFacts = record { shared = pass.shared; number = pass.number; put = l; taken = pass.taken } in p) (sym (append-nil pass.put))

pub puts-more : (a b c : ReadyFrom) (ts : List TaskNumber) (t : TaskNumber) → PutsAll a ts b → PutsNumber b t c → PutsAll a (ts ++ t ∷ []) c
puts-more Board b c ts t before more = absurd before
puts-more (Shared queues p) Board c ts t before more = absurd before
puts-more (Shared queues p) (Shared queues' q) Board ts t before more = absurd more
puts-more (Shared queues p) (Shared queues' q) (Shared queues'' r) ts t before more =
    more ∙ ap (λ (x : PassFacts). let y : PassFacts = record { shared = x.shared; number = x.number; put = x.put ++ t ∷ []; taken = x.taken } in y) before
    ∙ ap (λ (l : List TaskNumber). let y : PassFacts = record { shared = p.shared; number = p.number; put = l; taken = p.taken } in y) (append_assoc p.put ts (t ∷ []))

-- ---- balances

-- where as many are gone
loses-as : (x y : List TaskNumber) (a b : ReadyFrom) → ((u : TaskNumber) → times u y ≡ times u x) → LosesNone a x b → LosesNone a y b
loses-as x y Board b even loses = absurd loses
loses-as x y (Shared queues p) Board even loses = absurd loses
loses-as x y (Shared queues p) (Shared queues' q) even loses = λ u. omega (arith, even u, loses u)

-- one more is taken
loses-more : (x y : List TaskNumber) (t : TaskNumber) (a b c : ReadyFrom) → ((u : TaskNumber) → times u y ≡ times u x + times u (t ∷ [])) → LosesNone a x b → TakesNumber b t c → LosesNone a y c
loses-more x y t Board b c even loses takes = absurd loses
loses-more x y t (Shared queues p) Board c even loses takes = absurd loses
loses-more x y t (Shared queues p) (Shared queues' q) Board even loses takes = absurd takes
loses-more x y t (Shared queues p) (Shared queues' q) (Shared queues'' r) even loses takes = λ u. omega (arith, even u, loses u, takes.taken u, ap (times u) takes.put)

-- some are put
loses-less : (x y ts : List TaskNumber) (a b c : ReadyFrom) → ((u : TaskNumber) → times u x ≡ times u ts + times u y) → LosesNone a x b → PutsAll b ts c → LosesNone a y c
loses-less x y ts Board b c even loses puts = absurd loses
loses-less x y ts (Shared queues p) Board c even loses puts = absurd loses
loses-less x y ts (Shared queues p) (Shared queues' q) Board even loses puts = absurd puts
loses-less x y ts (Shared queues p) (Shared queues' q) (Shared queues'' r) even loses puts = λ u. omega (
  arith,
  even u,
  loses u,
  times_append u q.put ts,
  ap (λ (k : PassFacts). times u k.put) puts,
  ap (λ (k : PassFacts). times u k.taken) puts,
)

loses-still : (a : ReadyFrom) → is_shared a ≡ true → LosesNone a [] a
loses-still Board shared = absurd (cc)
loses-still (Shared queues p) shared = λ u. omega arith

-- ---- a look

module _ {D : Type 0} (b : BoardState D) (old : ReadyFrom) where
  pub look-begins : is_shared old ≡ true → AccountsForNumbers b old [] Nothing old
  look-begins shared = record { dropped = []; not_needed = All-nil (IsNotNeeded b); balance = loses-still old shared }

  module _ (kept : List TaskNumber) (new : ReadyFrom) where
    -- a number is taken
    pub look-takes : (t : TaskNumber) (new' : ReadyFrom) → AccountsForNumbers b old kept Nothing new → TakesNumber new t new' → AccountsForNumbers b old (kept ++ t ∷ []) Nothing new'
    look-takes t new' so takes = record {
      dropped = so.dropped;
      not_needed = so.not_needed;
      balance = loses-more ((kept ++ so.dropped) ++ []) (((kept ++ t ∷ []) ++ so.dropped) ++ []) t old new new' (λ u. omega (
        arith,
        times_append u (kept ++ so.dropped) [],
        times_append u kept so.dropped,
        times_append u ((kept ++ t ∷ []) ++ so.dropped) [],
        times_append u (kept ++ t ∷ []) so.dropped,
        times_append u kept (t ∷ []),
      )) so.balance takes;
    }

    -- it isn't needed
    pub look-drops : (t : TaskNumber) → IsNotNeeded b t → AccountsForNumbers b old (kept ++ t ∷ []) Nothing new → AccountsForNumbers b old kept Nothing new
    look-drops t unneeded so = record {
      dropped = t ∷ so.dropped;
      not_needed = All-cons (IsNotNeeded b) t so.dropped unneeded so.not_needed;
      balance = loses-as (((kept ++ t ∷ []) ++ so.dropped) ++ []) ((kept ++ t ∷ so.dropped) ++ []) old new (λ u. omega (
        arith,
        times_append u ((kept ++ t ∷ []) ++ so.dropped) [],
        times_append u (kept ++ t ∷ []) so.dropped,
        times_append u kept (t ∷ []),
        times_append u (kept ++ t ∷ so.dropped) [],
        times_append u kept (t ∷ so.dropped),
        times_append u (t ∷ []) so.dropped,
      )) so.balance;
    }

    -- it is claimed
    pub look-claims : (t : TaskNumber) → AccountsForNumbers b old (kept ++ t ∷ []) Nothing new → AccountsForNumbers b old kept (Task t) new
    look-claims t so = record {
      dropped = so.dropped;
      not_needed = so.not_needed;
      balance = loses-as (((kept ++ t ∷ []) ++ so.dropped) ++ []) ((kept ++ so.dropped) ++ t ∷ []) old new (λ u. omega (
        arith,
        times_append u ((kept ++ t ∷ []) ++ so.dropped) [],
        times_append u (kept ++ t ∷ []) so.dropped,
        times_append u kept (t ∷ []),
        times_append u (kept ++ so.dropped) (t ∷ []),
        times_append u kept so.dropped,
      )) so.balance;
    }

    -- those that are kept are put back
    pub look-ends : (picked : Picked) (new' : ReadyFrom) → AccountsForNumbers b old kept picked new → PutsAll new kept new' → AccountsForNumbers b old [] picked new'
    look-ends picked new' so puts = record {
      dropped = so.dropped;
      not_needed = so.not_needed;
      balance = loses-less ((kept ++ so.dropped) ++ claimed_by picked) (so.dropped ++ claimed_by picked) kept old new new' (λ u. omega (
        arith,
        times_append u (kept ++ so.dropped) (claimed_by picked),
        times_append u kept so.dropped,
        times_append u so.dropped (claimed_by picked),
      )) so.balance puts;
    }

-- ---- the end of a task

-- what it released is listed, and then put
pub puts-released : {D : Type 0} (t : TaskNumber) (w : Worker) (s s' s'' : SeatFacts (NotedBoard D)) (old new : ReadyFrom) (before after given : List TaskNumber)
    → before ≡ [] → given ≡ after → ListsReleased t w before after s s' → (LeavesFault s' → LeavesFault s'') → LeavesFault s'' ⊎ PutsAll old given new → PutsReleased t w s s'' old new
puts-released {D} t w s s' s'' old new before after given empty same lists keeps dealt = record { found = lists.found; own_row = lists.own_row; released = both lists.released dealt }
  where
    both : LeavesFault s' ⊎ HasReleased lists.found.board t w before after → LeavesFault s'' ⊎ PutsAll old given new → LeavesFault s'' ⊎ ((ts : List TaskNumber) × HasReleased lists.found.board t w [] ts × PutsAll old ts new)
    both (inl fault) any = inl (keeps fault)
    both (inr released) (inl fault) = inl fault
    both (inr released) (inr puts) = inr (after, subst (λ (l : List TaskNumber). HasReleased lists.found.board t w l after) empty released, subst (λ (l : List TaskNumber). PutsAll old l new) same puts)
