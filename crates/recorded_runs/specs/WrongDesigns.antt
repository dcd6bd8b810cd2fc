-- Known answers: designs of an outside that are refused, each by what it does inside.
use Rattle.std.proofs.Common.{◌≡◌, ℕ, true, false, List, [], ◌∷◌, ◌++◌, drop, refl, sym, ap, ◌∙◌, true≢false}
use Rattle.link_trait.specs.declared.wires.WriteAnswer.TheVariants as write_answer
use Rattle.outside.specs.Acts.{Sent, Closed, Act, Wrote, Called}
use Rattle.er_base.specs.LineTexts.{line_end, line_text}
use Rattle.trace_model.specs.Printed.{outcomes_text}
use Rattle.er_trace.specs.Texts.{entry_words}
use Rattle.loop_model.specs.Journals.{JournalEntry, entry_text, text}
use Rattle.loop_model.specs.Laws.{octets_of_entries}
use Rattle.loop_model.specs.Parts.{of}
use Rattle.recorded.specs.Recordings.{octets_written_in, IsBeginningOf, IsStill}
use Rattle.readiness_loop.specs.Recorded.{pieces_in, given_to_connection}
use Rattle.recorded_runs.specs.Inside.{IsGivenBehind, IsClosedBehind, GoesBehindRecording, octets_of_run}

-- ---- lists

rest_alike : (xs ys zs : List ℕ) → xs ++ ys ≡ xs ++ zs → ys ≡ zs
rest_alike [] ys zs p = p
rest_alike (x ∷ xs) ys zs p = rest_alike xs ys zs (ap (λ (os : List ℕ). drop 1 os) p)

some_line_end : (words : List (List ℕ)) → line_end words ≡ [] → ⊥
unfolding line_end
some_line_end [] p = cc p
some_line_end (word ∷ words) p = cc p

end_is_none : (xs ys : List ℕ) → xs ++ ys ≡ [] → ys ≡ []
end_is_none [] ys p = p
end_is_none (x ∷ xs) ys p = absurd (cc p)

begin_is_none : (xs ys : List ℕ) → xs ++ ys ≡ [] → xs ≡ []
begin_is_none [] ys p = refl
begin_is_none (x ∷ xs) ys p = absurd (cc p)

some_line : (words : List (List ℕ)) → line_text words ≡ [] → ⊥
unfolding line_text
some_line [] p = cc p
some_line (word ∷ words) p = some_line_end words (end_is_none word (line_end words) p)

-- the lines of no event are none
no_events : (events : List JournalEntry) → text events ≡ [] → events ≡ []
unfolding entry_text
no_events [] p = refl
no_events (x ∷ xs) p =
    let first : line_text (entry_words x.moment x.conn x.event) ≡ [] =
    begin_is_none (line_text (entry_words x.moment x.conn x.event)) (outcomes_text x.conn x.outcomes) (begin_is_none (entry_text x) (text xs) p) in
    absurd (some_line (entry_words x.moment x.conn x.event) first)

-- ---- it writes behind its send

-- a header is written, an octet goes, and only then the line that tells of it is written
abbrev pub late_recording : (header line : List ℕ) → List Act
late_recording header line = Wrote header true ∷ Called (Sent 1 (7 ∷ []) (write_answer.Some 1)) ∷ Wrote line true ∷ []

late_recording_is_refused : (header line : List ℕ) (loop : List Act) → GoesBehindRecording header loop (late_recording header line) → ⊥
unfolding octets_written_in given_to_connection octets_of_entries of
late_recording_is_refused header line loop g =
    let r : IsGivenBehind header 1 (Wrote header true ∷ []) (7 ∷ []) =
    g.given 1 (7 ∷ []) (write_answer.Some 1) (Wrote header true ∷ []) (Wrote line true ∷ []) refl in
    let none : r.events ≡ [] = no_events r.events (sym (rest_alike header [] (text r.events) r.written.written)) in
    let told : (7 ∷ []) ++ r.told.rest ≡ [] = r.told.is ∙ ap (λ (events : List JournalEntry). octets_of_entries (of 1 events)) none in
    cc told

-- ---- it lets go of what waits at a close

-- the loop wrote a header and a line before it closed a connection; inside the line isn't written
abbrev pub closing_loop : (header line : List ℕ) → List Act
closing_loop header line = Wrote header true ∷ Wrote line true ∷ Called (Closed 1) ∷ []

abbrev pub dropped_line : List ℕ → List Act
dropped_line header = Wrote header true ∷ Called (Closed 1) ∷ []

-- the only close of that loop stands behind both
before_close : (header line : List ℕ) (before behind : List Act) → closing_loop header line ≡ before ++ Called (Closed 1) ∷ behind
    → before ≡ Wrote header true ∷ Wrote line true ∷ []
before_close header line [] behind p = absurd (cc p)
before_close header line (x ∷ []) behind p = absurd (cc p)
before_close header line (x ∷ y ∷ []) behind p = cc p
before_close header line (x ∷ y ∷ z ∷ []) behind p = absurd (cc p)
before_close header line (x ∷ y ∷ z ∷ w ∷ more) behind p = absurd (cc p)

dropped_line_is_refused : (header : List ℕ) (octet : ℕ) (octets : List ℕ)
    → GoesBehindRecording header (closing_loop header (octet ∷ octets)) (dropped_line header) → ⊥
unfolding octets_written_in pieces_in
dropped_line_is_refused header octet octets g =
    let r : IsClosedBehind header 1 (closing_loop header (octet ∷ octets)) (Wrote header true ∷ []) [] = g.closed 1 (Wrote header true ∷ []) [] refl in
    let same : header ++ [] ≡ header ++ ((octet ∷ octets) ++ []) =
    r.written.written ∙ ap pieces_in (before_close header (octet ∷ octets) r.before r.behind r.did) in
    cc (rest_alike header [] ((octet ∷ octets) ++ []) same)

-- ---- it goes on at a connection that it closed, or behind a write that failed

late_piece_is_refused : (header piece : List ℕ) (loop : List Act)
    → GoesBehindRecording header loop (Called (Closed 1) ∷ Called (Sent 1 piece write_answer.NotNow) ∷ []) → ⊥
late_piece_is_refused header piece loop g =
    let later : List Act = Called (Sent 1 piece write_answer.NotNow) ∷ [] in
    let r : IsClosedBehind header 1 loop [] later = g.closed 1 [] later refl in
    cc r.untouched

close_behind_fault_is_refused : (header piece : List ℕ) (loop : List Act) → GoesBehindRecording header loop (Wrote piece false ∷ Called (Closed 1) ∷ []) → ⊥
close_behind_fault_is_refused header piece loop g =
    let r : IsStill (Called (Closed 1) ∷ []) = g.failed piece [] (Called (Closed 1) ∷ []) refl in
    true≢false r.outward

-- ---- it writes twice, or in another order

abbrev pub two_lines : List Act
two_lines = Wrote (1 ∷ []) true ∷ Wrote (2 ∷ []) true ∷ []

twice_is_refused : IsBeginningOf (1 ∷ 1 ∷ []) (octets_of_run two_lines []) → ⊥
unfolding pieces_in
twice_is_refused b = cc b.are

other_order_is_refused : IsBeginningOf (2 ∷ 1 ∷ []) (octets_of_run two_lines []) → ⊥
unfolding pieces_in
other_order_is_refused b = cc b.are
