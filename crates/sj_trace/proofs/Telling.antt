-- Which events no text begins with, by the verb that stands first.
use Rattle.std.proofs.Common.{◌≡◌, ℕ, List, ◌++◌, codes, ap, sym, ◌∙◌, arith, drop, get_or}
use Rattle.sj_base.specs.declared.trace.Event.TheVariants.{Claim, Move, Moved, Drop, Run, End}
use Rattle.sj_trace.specs.Text.{line_of}
use Rattle.sj_trace.specs.Reading.{EventFits, TaskFits, DropFits, TransferFits, task_line, transfer_line, drop_line}
use Rattle.sj_trace.proofs.Taking.{NoneFirst}

pub no-claim : (words text : List ℕ) → codes "claim " ++ words ≡ text → NoneFirst TaskFits task_line words → NoneFirst EventFits line_of text
no-claim words text is none (Claim t w) s fits h = none (t, w) s fits (ap (drop 6) (h ∙ sym is))
no-claim words text is none e s fits h = absurd (omega (arith, ap (λ l. get_or l 0 0) (h ∙ sym is)))

pub no-run : (words text : List ℕ) → codes "run " ++ words ≡ text → NoneFirst TaskFits task_line words → NoneFirst EventFits line_of text
no-run words text is none (Run t w) s fits h = none (t, w) s fits (ap (drop 4) (h ∙ sym is))
no-run words text is none e s fits h = absurd (omega (arith, ap (λ l. get_or l 0 0) (h ∙ sym is)))

pub no-end : (words text : List ℕ) → codes "end " ++ words ≡ text → NoneFirst TaskFits task_line words → NoneFirst EventFits line_of text
no-end words text is none (End t w) s fits h = none (t, w) s fits (ap (drop 4) (h ∙ sym is))
no-end words text is none e s fits h = absurd (omega (arith, ap (λ l. get_or l 0 0) (h ∙ sym is)))

pub no-move : (words text : List ℕ) → codes "move " ++ words ≡ text → NoneFirst TransferFits transfer_line words → NoneFirst EventFits line_of text
no-move words text is none (Move c from to) s fits h = none (c, from, to) s fits (ap (drop 5) (h ∙ sym is))
no-move words text is none e s fits h = absurd (omega (arith, ap (λ l. get_or l 0 0) (h ∙ sym is), ap (λ l. get_or l 4 0) (h ∙ sym is)))

pub no-moved : (words text : List ℕ) → codes "moved " ++ words ≡ text → NoneFirst TransferFits transfer_line words → NoneFirst EventFits line_of text
no-moved words text is none (Moved c from to) s fits h = none (c, from, to) s fits (ap (drop 6) (h ∙ sym is))
no-moved words text is none e s fits h = absurd (omega (arith, ap (λ l. get_or l 0 0) (h ∙ sym is), ap (λ l. get_or l 4 0) (h ∙ sym is)))

pub no-drop : (words text : List ℕ) → codes "drop " ++ words ≡ text → NoneFirst DropFits drop_line words → NoneFirst EventFits line_of text
no-drop words text is none (Drop c n) s fits h = none (c, n) s fits (ap (drop 5) (h ∙ sym is))
no-drop words text is none e s fits h = absurd (omega (arith, ap (λ l. get_or l 0 0) (h ∙ sym is)))
