-- Bytes that go piece by piece.
use Rattle.std.proofs.Common.{◌≡◌, ℕ, List, ◌++◌, refl, ap, ◌∙◌, sym, append_assoc, Option, Some, None, ◌+◌, ◌-◌, ◌≤◌, length, take, drop, arith, subst, Result, Ok, Err, OnOk, OnErr, IsErr, codes, decimal}
use Rattle.std.proofs.lemmas.List.{take_all, length-take, length-drop, length-append}
use Rattle.std.proofs.Math.Seq.{take-add, take-append-add}
use Rattle.sj_edge.specs.Faults.{Counts}
use Rattle.sj_top.specs.Device.{Device}
use Rattle.sj_top.specs.Streams.{TakesPrefix}
use Rattle.sj_top.specs.Report.{TakesLine, status_line, reason_word, limit_word}
use Rattle.sj_top.specs.declared.status.Status.TheVariants.{Refused}
use Rattle.sj_base.specs.declared.ids.Line.{Line}
use Rattle.sj_job.specs.declared.reason.Reason.{Reason}
use Rattle.std.specs.Io.KnownBytes.{Appends}

pub appends-then : (a b c : Option (List ℕ)) (xs ys : List ℕ) → Appends a b xs → Appends b c ys → Appends a c (xs ++ ys)
appends-then None b c xs ys h k = tt
appends-then (Some zs) None c xs ys h k = absurd h
appends-then (Some zs) (Some bs) None xs ys h k = absurd k
appends-then (Some zs) (Some bs) (Some cs) xs ys h k = k ∙ ap (λ l. l ++ ys) h ∙ append_assoc zs xs ys

-- a front of what follows a front makes a longer front
pub wrote-bound : (text : List ℕ) (at n : ℕ) → at ≤ length text → n ≤ length (take (length text - at) (drop at text)) → at + n ≤ length text
wrote-bound text at n le h = omega (arith, length-drop at text, length-take (length text - at) (drop at text))

pub wrote : (a b c : Option (List ℕ)) (text : List ℕ) (at n : ℕ) → at ≤ length text → n ≤ length (take (length text - at) (drop at text)) → Appends a b (take at text) → Appends b c (take n (take (length text - at) (drop at text))) → Appends a c (take (at + n) text)
wrote a b c text at n le h k l =
    let all : take (length text - at) (drop at text) ≡ drop at text = take_all (length text - at) (drop at text) (omega (arith, length-drop at text)) in
    subst (λ xs. Appends a c xs) (ap (λ ys. take at text ++ take n ys) all ∙ sym (take-add at n text)) (appends-then a b c (take at text) (take n (take (length text - at) (drop at text))) k l)

pub prefix-then : (a b c : Option (List ℕ)) (xs ys : List ℕ) → Appends a b xs → TakesPrefix b c ys → TakesPrefix a c (xs ++ ys)
prefix-then a b c xs ys h t =
    (length xs + t.0, omega (arith, t.1, length-append xs ys), subst (λ l. Appends a c l) (sym (take-append-add xs ys t.0)) (appends-then a b c xs (take t.0 ys) h t.2))

-- what a call that writes a line leaves, by what it answered
pub line_from : {T E : Type 0} (r : Result T E) (a b : Device) (line : List ℕ) → OnOk r (Appends a.bytes b.bytes line) → OnErr r (TakesPrefix a.bytes b.bytes line) → Counts a.faults b.faults (IsErr r) → TakesLine a b line
line_from (Ok x) a b line ok err counts = record {
  front = (length line, omega arith, subst (λ l. Appends a.bytes b.bytes l) (sym (take_all (length line) line (omega arith))) ok);
  whole = λ none. ok;
  count_never_falls = counts.never_falls;
}
line_from (Err e) a b line ok err counts = record {
  front = err;
  whole = λ none. absurd (none (counts.only_where_it_rose refl));
  count_never_falls = counts.never_falls;
}

pub then-prefix : {T E : Type 0} (r : Result T E) (a b c : Option (List ℕ)) (xs ys : List ℕ) → Appends a b xs → OnErr r (TakesPrefix b c ys) → OnErr r (TakesPrefix a c (xs ++ ys))
then-prefix (Ok x) a b c xs ys h t = tt
then-prefix (Err e) a b c xs ys h t = prefix-then a b c xs ys h t

-- six pieces in a row
six : (a b c d e f : List ℕ) → a ++ (b ++ (c ++ (d ++ (e ++ f)))) ≡ a ++ b ++ c ++ d ++ e ++ f
six a b c d e f = simp append_assoc

-- the pieces of the line for a refusal
pub refusal_line : (line : Line) (reason : Reason) (number word limit : List ℕ) → number ≡ decimal line.0 → word ≡ reason_word reason → limit ≡ limit_word reason → codes "starjob: line " ++ (number ++ (codes ": " ++ (word ++ (limit ++ codes "\n")))) ≡ status_line (Refused line reason)
refusal_line line reason number word limit n w l =
    six (codes "starjob: line ") number (codes ": ") word limit (codes "\n")
    ∙ ap (λ x. codes "starjob: line " ++ x ++ codes ": " ++ word ++ limit ++ codes "\n") n
    ∙ ap (λ x. codes "starjob: line " ++ decimal line.0 ++ codes ": " ++ x ++ limit ++ codes "\n") w
    ∙ ap (λ x. codes "starjob: line " ++ decimal line.0 ++ codes ": " ++ reason_word reason ++ x ++ codes "\n") l
