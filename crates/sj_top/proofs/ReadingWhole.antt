-- What was read of a source says what the source says.
use Rattle.std.proofs.Common.{◌≡◌, ℕ, ◌≤◌, ◌<◌, Bool, true, false, List, [], ◌++◌, length, refl, ap, ◌∙◌, sym, arith, Option, Some, None, Result, Ok, Err, IfSome, cond, nat_lt, length-append, IsOk, IfOk, ◌+◌, drop, Vec, Global}
use Rattle.std.proofs.lemmas.List.{drop_all}
use Rattle.std.proofs.Math.Seq.{drop-append_seam}
use Rattle.std.proofs.lemmas.Bool.Decides.{nat_tests}
use Rattle.std.specs.Io.KnownBytes.{Consumes, IsAtEnd}
use Rattle.sj_codelet.specs.declared.kernel.Kernel.{Kernel}
use Rattle.sj_edge.specs.Faults.{counted}
use Rattle.sj_meaning.specs.Job.{Job}
use Rattle.sj_job.specs.declared.reason.Reason.TheVariants.{Limit}
use Rattle.sj_job.specs.declared.reason.LimitKind.TheVariants.{Text}
use Rattle.sj_job.specs.Word.{lines}
use Rattle.sj_job.specs.Reading.{Refusal, refusal, reading_header, job_of, text_limit}
use Rattle.sj_top.specs.declared.source_text.Unread.{Unread}
use Rattle.sj_top.specs.Device.{Device}
use Rattle.sj_top.specs.Streams.{IsRead, is_source_fault}

too_long : (has : Kernel → Bool) (text : List ℕ) → text_limit < length text → job_of has text ≡ Err (refusal 0 (Limit Text))
too_long has text lt =
    let e : nat_lt text_limit (length text) ≡ true = grind (arith, nat_tests) in
    ap (λ (b : Bool). cond b (Err (refusal 0 (Limit Text))) (reading_header has 1 (lines text))) e

refused_ok : (job : Result Job Refusal) (e : Refusal) → job ≡ Err e → IsOk job → ⊥
refused_ok (Ok j) e h o = cc
refused_ok (Err f) e h o = cc

-- a text that isn't refused isn't too long
pub short : (has : Kernel → Bool) (text : List ℕ) → IsOk (job_of has text) → length text ≤ text_limit
short has text ok = by_length (nat_lt text_limit (length text)) refl
  where
    by_length : (b : Bool) → nat_lt text_limit (length text) ≡ b → length text ≤ text_limit
    by_length true e =
        let lt : text_limit < length text = grind (arith, nat_tests) in
        absurd (refused_ok (job_of has text) _ (too_long has text lt) ok)
    by_length false e = grind (arith, nat_tests)

-- what was read of a source, to its end or to one byte more than the longest text
pub read-by : (r : Result (Vec ℕ Global) Unread) (source source' : Device) → IfOk r (λ text. length text.items ≤ text_limit + 1) → IfOk r (λ text. Consumes source.bytes source'.bytes text.items) → IfOk r (λ text. length text.items ≤ text_limit → IsAtEnd source'.bytes) → source'.faults ≡ counted source.faults (is_source_fault r) → IfOk r (λ _. IsRead source source')
read-by (Err e) source source' bound taken end same = tt
read-by (Ok text) source source' bound taken end same = record { taken = by_bytes source.bytes source'.bytes taken end; never_failed = same }
  where
    by_bytes : (old new : Option (List ℕ)) → Consumes old new text.items → (length text.items ≤ text_limit → IsAtEnd new) → IfSome old (λ whole. new ≡ Some (drop (text_limit + 1) whole))
    by_bytes None new h e = tt
    by_bytes (Some whole) None h e = absurd h
    by_bytes (Some whole) (Some rest) h e = ap Some (sym (ap (drop (text_limit + 1)) h ∙ by_length (nat_lt text_limit (length text.items)) refl))
      where
        by_length : (b : Bool) → nat_lt text_limit (length text.items) ≡ b → drop (text_limit + 1) (text.items ++ rest) ≡ rest
        by_length true long =
            let n : length text.items ≡ text_limit + 1 = grind (arith, nat_tests) in
            ap (λ k. drop k (text.items ++ rest)) (sym n) ∙ drop-append_seam text.items rest
        by_length false fits =
            let le : length text.items ≤ text_limit = grind (arith, nat_tests) in
            ap (λ l. drop (text_limit + 1) (text.items ++ l)) (e le) ∙ drop_all (text_limit + 1) (text.items ++ []) (omega (arith, length-append text.items [])) ∙ sym (e le)
