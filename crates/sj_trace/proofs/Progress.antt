-- The text of a trace, an event after another; and the events read so far, with what stands behind their lines.
use Rattle.std.proofs.Common.{◌≡◌, ℕ, ◌+◌, ◌<◌, List, [], ◌∷◌, ◌++◌, length, map, nat_eq, true, false, ap, ◌∙◌, sym, arith, append-nil, append_assoc, length-append, drop, get_or}
use Rattle.std.specs.List.{All}
use Rattle.std.proofs.lemmas.List.{length-map}
use Rattle.std.proofs.lemmas.List.Concat.{flat_map-append}
use Rattle.std.proofs.lemmas.List.Elements.{All-push, All-head, All-tail}
use Rattle.std.proofs.lemmas.Bool.Decides.{nat_tests}
use Rattle.sj_base.specs.declared.trace.Event.{Event}
use Rattle.sj_trace.specs.Text.{line_of, text_of, whole_lines}
use Rattle.sj_trace.specs.Reading.{EventFits, IsTextOf}
use Rattle.sj_trace.proofs.Differing.{lines-same}
use Rattle.sj_trace.proofs.Joining.{FirstLine, first_line, lines-text}
use Rattle.sj_trace.proofs.Taking.{NoneFirst}

pub text-more : (text : List ℕ) (events : List Event) (e : Event) → IsTextOf text events → EventFits e → IsTextOf (text ++ line_of e) (events ++ e ∷ [])
text-more text events e is fits = record {
  fit = All-push EventFits events e is.fit fits;
  written = flat_map-append line_of events (e ∷ []) ∙ ap (λ l. l ++ text_of (e ∷ [])) is.written ∙ ap (λ l. text ++ l) (append-nil (line_of e));
}

-- a text of events has their lines
lines-of : (text : List ℕ) (events : List Event) → IsTextOf text events → whole_lines text ≡ map line_of events
lines-of text events is =
    ap whole_lines (sym is.written ∙ sym (append-nil (text_of events))) ∙ lines-text events [] is.fit ∙ append-nil (map line_of events)

pub line-each : (text : List ℕ) (events : List Event) → IsTextOf text events → length (whole_lines text) ≡ length events
line-each text events is = ap length (lines-of text events is) ∙ length-map events line_of

pub record AreRead (text : List ℕ) (events : List Event) (rest : List ℕ) : Type 0 where
  pub fit : All EventFits events
  pub written : text_of events ++ rest ≡ text

pub one-more : (text rest behind : List ℕ) (events : List Event) (e : Event) → AreRead text events rest → EventFits e × (line_of e ++ behind ≡ rest) → AreRead text (events ++ e ∷ []) behind
one-more text rest behind events e read says = record {
  fit = All-push EventFits events e read.fit says.0;
  written = ap (λ l. l ++ behind) (flat_map-append line_of events (e ∷ []) ∙ ap (λ l. text_of events ++ l) (append-nil (line_of e)))
      ∙ append_assoc (text_of events) (line_of e) behind ∙ ap (λ l. text_of events ++ l) says.1 ∙ read.written;
}

-- what stands behind the events read has the other lines
pub lines-behind : (text rest : List ℕ) (events : List Event) → AreRead text events rest → whole_lines text ≡ map line_of events ++ whole_lines rest
lines-behind text rest events read = ap whole_lines (sym read.written) ∙ lines-text events rest read.fit

pub some_line : (rest : List ℕ) → nat_eq (length rest) 0 ≡ false → FirstLine rest
some_line [] some = absurd (cc)
some_line (b ∷ bs) some = first_line b bs

-- there are fewer events than lines as long as some text is left
pub fewer : (text rest : List ℕ) (events : List Event) → AreRead text events rest → FirstLine rest → length events < length (whole_lines text)
fewer text rest events read l =
    let size : length (whole_lines text) ≡ length (map line_of events) + length (l.line ∷ whole_lines l.behind) =
    ap length (lines-behind text rest events read ∙ ap (λ ls. map line_of events ++ ls) l.divides) ∙ length-append (map line_of events) (l.line ∷ whole_lines l.behind) in
    omega (arith, size, length-map events line_of)

-- where no event's line stands first, the first line is no event's
pub bad-line : (rest : List ℕ) (l : FirstLine rest) → NoneFirst EventFits line_of rest → (e : Event) → EventFits e → line_of e ≡ l.line → ⊥
bad-line rest l none e fits h = none e l.behind fits (ap (λ line. line ++ l.behind) h ∙ l.whole)

bad-among : (es before : List Event) (line : List ℕ) (behind : List (List ℕ)) → All EventFits es → ((e : Event) → EventFits e → line_of e ≡ line → ⊥) → map line_of es ≡ map line_of before ++ line ∷ behind → ⊥
bad-among [] [] line behind fit bad h = absurd (cc)
bad-among [] (b ∷ bs) line behind fit bad h = absurd (cc)
bad-among (e ∷ es) [] line behind fit bad h = bad e (All-head EventFits e es fit) (ap (λ ls. get_or ls 0 []) h)
bad-among (e ∷ es) (b ∷ bs) line behind fit bad h = bad-among es bs line behind (All-tail EventFits e es fit) bad (ap (drop 1) h)

-- a text of events has no bad line
pub none-bad : (text line : List ℕ) (es before : List Event) (behind : List (List ℕ)) → IsTextOf text es → whole_lines text ≡ map line_of before ++ line ∷ behind → ((e : Event) → EventFits e → line_of e ≡ line → ⊥) → ⊥
none-bad text line es before behind is divides bad = bad-among es before line behind is.fit bad (sym (lines-of text es is) ∙ divides)

-- a text whose events have been read is of no others
pub no-others : (text rest : List ℕ) (events others : List Event) → AreRead text events rest → nat_eq (length rest) 0 ≡ true → IsTextOf text others → events ≡ others
no-others text [] events others read end is =
    lines-same events others read.fit is.fit (sym (append-nil (map line_of events)) ∙ sym (lines-behind text [] events read) ∙ lines-of text others is)
no-others text (b ∷ bs) events others read end is = absurd (grind (arith, nat_tests))
