-- Each step keeps coherence whole, and arrays what the tasks leave, and so does each legal trace; a complete one leaves what all
-- tasks leave in submission order.
use Rattle.sj_core.proofs.Words.{[], after, Arrays, arrays_after, arrays_of, AtNode, Bool, CanFollow, Cell, Claim, Coherent, dims_of, Drop, End, Equations, Event, fold, HoldsContent, HoldsFinal, IsFinished, IsLawful, IsLegal, IsMachineFor, IsSound, Kernel, List, Machine, May, Move, Moved, mover_of, OnDisk, opening, Place, Program, Proper, refl, Run, State, state_of, sym, zeros, ◌∙◌, ◌∷◌}
use Rattle.std.proofs.lemmas.Bool.{false≢true}
use Rattle.sj_core.proofs.{Changing.copies-left, Changing.left_alone, Claiming.Claims-content, Coherence.Claims-keeps_coherence, Coherence.Ends-keep_coherence, Coherence.Runs-keeps_coherence, Ending.Ends-content, Eviction.evicted-after, Finding.HoldsContent-kept, Given.complete-final, Moving.Drops-content, Moving.Drops-keeps_coherence, Moving.Ended_moves-content, Moving.Ended_moves-keep_coherence, Moving.Moves_in-keep_coherence, Moving.Moves_out-keep_coherence, Opening.opening-coherent, Opening.opening-content, Running.Runs-content}

pub sound : (p : Program) (m : Machine) → Proper p → IsMachineFor p m → (s : State) → Coherent p m s → IsSound p m s
sound p m proper machine s c = record { proper = proper; machine = machine; coherent = c }

module _ (p : Program) (m : Machine) (proper : Proper p) (machine : IsMachineFor p m) where
  -- each legal step keeps coherence whole
  pub Step-keeps_coherence : (s : State) (e : Event) → Coherent p m s → May p m s e → Coherent p m (after p m s e)
  Step-keeps_coherence s (Claim t w) c may = Claims-keeps_coherence p m s t w (sound p m proper machine s c) may
  Step-keeps_coherence s (Move x from (AtNode n)) c may = Moves_in-keep_coherence p m s (sound p m proper machine s c) x from n (mover_of s x from (AtNode n)) may
  Step-keeps_coherence s (Move x (AtNode k) (OnDisk d)) c may = Moves_out-keep_coherence p m s (sound p m proper machine s c) x k d (mover_of s x (AtNode k) (OnDisk d)) may
  Step-keeps_coherence s (Move x (OnDisk e) (OnDisk d)) c may = absurd (false≢true may)
  Step-keeps_coherence s (Moved x from to) c may = Ended_moves-keep_coherence p m s (sound p m proper machine s c) x from to (mover_of s x from to) may
  Step-keeps_coherence s (Drop x n) c may = Drops-keeps_coherence p m s (sound p m proper machine s c) x n may
  Step-keeps_coherence s (Run t w) c may = Runs-keeps_coherence p m s t w (sound p m proper machine s c) may
  Step-keeps_coherence s (End t w) c may = Ends-keep_coherence p m s t w (sound p m proper machine s c) may

  following-coherent : (trace : List Event) (s : State) → Coherent p m s → CanFollow p m s trace → Coherent p m (fold (after p m) s trace)
  following-coherent [] s c follows = c
  following-coherent (e ∷ trace) s c (may, rest) = following-coherent trace (after p m s e) (Step-keeps_coherence s e c may) rest

  -- and so does each legal trace
  pub legal-coherent : (trace : List Event) → IsLegal p m trace → Coherent p m (state_of p m trace)
  legal-coherent trace legal = following-coherent trace (opening p m) (opening-coherent p m) legal

  -- ---- arrays, by the laws of the program's set

  -- a move that begins changes no row and no array
  move-content : (eq : Equations) (s : State) (A : Arrays) (x : Cell) (from to : Place) → HoldsContent eq p m s A → HoldsContent eq p m (after p m s (Move x from to)) (arrays_after eq p m A (Move x from to))
  move-content eq s A x from to = HoldsContent-kept eq p m s (after p m s (Move x from to)) A (arrays_after eq p m A (Move x from to)) (λ y q. refl) (λ t w runs. runs) (λ y. refl) (λ y. refl) (λ y resting. resting) (λ y q copy. sym (copies-left p m s (after p m s (Move x from to)) y (left_alone s (after p m s (Move x from to)) y refl) q) ∙ copy)

  module _ (eq : Equations) (has : Kernel → Bool) (lawful : IsLawful eq has p) where
    pub Step-keeps_content : (s : State) (A : Arrays) (e : Event) → Coherent p m s → HoldsContent eq p m s A → May p m s e → HoldsContent eq p m (after p m s e) (arrays_after eq p m A e)
    Step-keeps_content s A (Claim t w) c holds may = Claims-content p m s (sound p m proper machine s c) t w (after p m s (Claim t w)) may (evicted-after p m s t w) eq A (arrays_after eq p m A (Claim t w)) (λ x q. refl) holds
    Step-keeps_content s A (Move x from (AtNode n)) c holds may = move-content eq s A x from (AtNode n) holds
    Step-keeps_content s A (Move x (AtNode k) (OnDisk d)) c holds may = move-content eq s A x (AtNode k) (OnDisk d) holds
    Step-keeps_content s A (Move x (OnDisk e) (OnDisk d)) c holds may = absurd (false≢true may)
    Step-keeps_content s A (Moved x from to) c holds may = Ended_moves-content p m s (sound p m proper machine s c) x from to (mover_of s x from to) may eq A holds
    Step-keeps_content s A (Drop x n) c holds may = Drops-content p m s (sound p m proper machine s c) x n may eq A (arrays_after eq p m A (Drop x n)) (λ y q. refl) holds
    Step-keeps_content s A (Run t w) c holds may = Runs-content p m s (sound p m proper machine s c) t w (after p m s (Run t w)) may refl eq A holds
    Step-keeps_content s A (End t w) c holds may = Ends-content p m s (sound p m proper machine s c) t w (after p m s (End t w)) may refl eq has lawful A holds

    following-content : (trace : List Event) (s : State) (A : Arrays) → Coherent p m s → HoldsContent eq p m s A → CanFollow p m s trace → HoldsContent eq p m (fold (after p m) s trace) (fold (arrays_after eq p m) A trace)
    following-content [] s A c holds follows = holds
    following-content (e ∷ trace) s A c holds (may, rest) = following-content trace (after p m s e) (arrays_after eq p m A e) (Step-keeps_coherence s e c may) (Step-keeps_content s A e c holds may) rest

    -- each legal trace leaves what the tasks leave
    pub legal-content : (trace : List Event) → IsLegal p m trace → HoldsContent eq p m (state_of p m trace) (arrays_of eq p m trace)
    legal-content trace legal = following-content trace (opening p m) (λ c q. zeros (dims_of p c)) (opening-coherent p m) (opening-content p m eq) legal

    -- where it is complete, the cells hold what all tasks leave in submission order
    pub finished-final : (trace : List Event) → IsFinished p m trace → HoldsFinal eq p m (state_of p m trace) (arrays_of eq p m trace)
    finished-final trace finished = complete-final p m (state_of p m trace) (sound p m proper machine (state_of p m trace) (legal-coherent trace finished.legal)) finished.complete eq (arrays_of eq p m trace) (legal-content trace finished.legal) has lawful
