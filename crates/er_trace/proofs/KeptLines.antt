-- A line says the same by its first ten words as by all of them: no line of a trace has more than seven.
use Rattle.std.proofs.Common.{arith, ◌≡◌, ℕ, ◌<◌, ◌≤◌, List, [], ◌∷◌, length, take, Option, Some, None, Result, Err, refl, ap, sym, ◌∙◌, inl, inr}
use Rattle.std.proofs.lemmas.Bool.{cases_lt, ne_eqb, le-ltb}
use Rattle.std.proofs.lemmas.List.{take_all, length-take}
use Rattle.er_base.specs.declared.why.Why.{Why}
use Rattle.er_base.specs.declared.why.Why.TheVariants.{Word, Count}
use Rattle.er_base.specs.declared.line_fault.LineFault.{LineFault}
use Rattle.er_base.specs.declared.line_fault.LineFault.TheVariants as line
use Rattle.er_base.specs.LineFaults.{Table, line_read}
use Rattle.er_base.specs.Lines.{Row, lines_of, rows_of}
use Rattle.er_base.specs.Rows.{Refuses}
use Rattle.er_settings.specs.Values.{Settings}
use Rattle.er_trace.specs.declared.said.Said.{Said}
use Rattle.er_trace.specs.declared.event_name.EventName.{EventName}
use Rattle.er_trace.specs.declared.event_name.EventName.TheVariants.{Call, Answer, Octets, Send, Take, Release, Tick, Ended, Fault, Stalled, Full, Unserved}
use Rattle.er_trace.specs.declared.outcome_name.OutcomeName.{OutcomeName}
use Rattle.er_trace.specs.declared.outcome_name.OutcomeName.TheVariants as outcome
use Rattle.er_trace.specs.declared.refusal_name.RefusalName.{RefusalName}
use Rattle.er_trace.specs.declared.refusal_name.RefusalName.TheVariants as refusal
use Rattle.er_trace.specs.Files.{event_line_kinds, event_table, outcome_table, refusal_table, event_line, refusal_line, outcome_line_check, line_says, behind_header, trace_of}
use Rattle.er_trace.specs.Headers.{settings_spelled, header_settings}

module _ {Line Kind : Type 0} {Value : Kind → Type 0} (table : Table Line Kind Value) where
  -- words of another number than the line has are a fault
  other_count : (name : List ℕ) (words : List (List ℕ)) (line : Line) → table.line_named name ≡ Some line
      → (length words ≡ length (table.kinds_of line) → ⊥) → line_read table name words ≡ Err Count
  other_count name words line named other = rw (named, ne_eqb (length words) (length (table.kinds_of line)) other) refl

  unknown : (name : List ℕ) (words : List (List ℕ)) → table.line_named name ≡ None → line_read table name words ≡ Err Word
  unknown name words none = rw none refl

  -- six words or more, as many as are kept or more
  kept_as : (few : (line : Line) → length (table.kinds_of line) < 6) (name : List ℕ) (kept words : List (List ℕ)) (found : Option Line)
      → 6 ≤ length kept → 6 ≤ length words → table.line_named name ≡ found → line_read table name kept ≡ line_read table name words
  kept_as few name kept words None h k e = unknown name kept e ∙ sym (unknown name words e)
  kept_as few name kept words (Some line) h k e =
      let fewer = few line in
      other_count name kept line e (omega (arith, fewer, h)) ∙ sym (other_count name words line e (omega (arith, fewer, k)))

  -- behind one word, and behind two
  pub seven_tell : ((line : Line) → length (table.kinds_of line) < 6) → (name a : List ℕ) (words : List (List ℕ))
      → line_read table name (a ∷ take 7 words) ≡ line_read table name (a ∷ words)
  seven_tell few name a words =
      let long = length-take 7 words in
      elim (cases_lt (length words) 7) [
        | inl less ↦ ap (λ (l : List (List ℕ)). line_read table name (a ∷ l)) (take_all 7 words (omega (arith, less)))
        | inr many ↦ kept_as few name (a ∷ take 7 words) (a ∷ words) (table.line_named name) (omega (arith, many, long)) (omega (arith, many)) refl
      ]

  pub six_tell : ((line : Line) → length (table.kinds_of line) < 6) → (name a : List ℕ) (words : List (List ℕ))
      → line_read table name (a ∷ take 6 words) ≡ line_read table name (a ∷ words)
  six_tell few name a words =
      let long = length-take 6 words in
      elim (cases_lt (length words) 6) [
        | inl less ↦ ap (λ (l : List (List ℕ)). line_read table name (a ∷ l)) (take_all 6 words (omega (arith, less)))
        | inr many ↦ kept_as few name (a ∷ take 6 words) (a ∷ words) (table.line_named name) (omega (arith, many, long)) (omega (arith, many)) refl
      ]

  pub six_tell_behind_two : ((line : Line) → length (table.kinds_of line) < 6) → (name a b : List ℕ) (words : List (List ℕ))
      → line_read table name (a ∷ b ∷ take 6 words) ≡ line_read table name (a ∷ b ∷ words)
  six_tell_behind_two few name a b words =
      let long = length-take 6 words in
      elim (cases_lt (length words) 6) [
        | inl less ↦ ap (λ (l : List (List ℕ)). line_read table name (a ∷ b ∷ l)) (take_all 6 words (omega (arith, less)))
        | inr many ↦ kept_as few name (a ∷ b ∷ take 6 words) (a ∷ b ∷ words) (table.line_named name) (omega (arith, many, long)) (omega (arith, many)) refl
      ]

few_events : (name : EventName) → length (event_line_kinds name) < 6
few_events Call = omega arith
few_events Answer = omega arith
few_events Octets = omega arith
few_events Send = omega arith
few_events Take = omega arith
few_events Release = omega arith
few_events Tick = omega arith
few_events Ended = omega arith
few_events Fault = omega arith
few_events Stalled = omega arith
few_events Full = omega arith
few_events Unserved = omega arith

few_outcomes : (name : OutcomeName) → length (outcome_table.kinds_of name) < 6
few_outcomes outcome.Connected = omega arith
few_outcomes outcome.Accepted = omega arith
few_outcomes outcome.Taken = omega arith
few_outcomes outcome.Empty = omega arith
few_outcomes outcome.Released = omega arith
few_outcomes outcome.Octets = omega arith

few_refusals : (name : RefusalName) → length (refusal_table.kinds_of name) < 6
few_refusals refusal.Released = omega arith
few_refusals refusal.NotConnected = omega arith
few_refusals refusal.Length = omega arith
few_refusals refusal.Full = omega arith

kept_event : (words : List (List ℕ)) → event_line (take 9 words) ≡ event_line words
unfolding event_line
kept_event [] = refl
kept_event (a ∷ []) = refl
kept_event (a ∷ b ∷ []) = refl
kept_event (a ∷ b ∷ name ∷ words) = rw (six_tell_behind_two event_table few_events name a b words) refl

kept_refusal : (conn : List ℕ) (words : List (List ℕ)) → refusal_line conn (take 7 words) ≡ refusal_line conn words
unfolding refusal_line
kept_refusal conn [] = refl
kept_refusal conn (name ∷ words) = rw (six_tell refusal_table few_refusals name conn words) refl

kept_outcome : (words : List (List ℕ)) → outcome_line_check (take 9 words) ≡ outcome_line_check words
unfolding outcome_line_check
kept_outcome [] = refl
kept_outcome (a ∷ []) = refl
kept_outcome (a ∷ name ∷ words) = rw (kept_refusal a words, seven_tell outcome_table few_outcomes name a words) refl

pub kept_line : (words : List (List ℕ)) → line_says (take 10 words) ≡ line_says words
unfolding line_says
kept_line [] = refl
kept_line (mark ∷ words) = rw (kept_event words, kept_outcome words) refl

-- what a line says by the words that are kept, it says by all of them
pub said_by_kept : (kept words : List (List ℕ)) (said : Result Said Why) → kept ≡ take 10 words → line_says kept ≡ said → line_says words ≡ said
said_by_kept kept words said first e = sym (kept_line words) ∙ ap line_says (sym first) ∙ e

pub refused_by_kept : (kept words : List (List ℕ)) (fault : LineFault) → kept ≡ take 10 words → Refuses fault (line_says kept)
    → Refuses fault (line_says words)
refused_by_kept kept words (line.Refused why) first e = said_by_kept kept words (Err why) first e
refused_by_kept kept words (line.NoMemory want) first e = tt

kept_values : (words : List (List ℕ)) → settings_spelled (take 8 words) ≡ settings_spelled words
unfolding settings_spelled
kept_values [] = refl
kept_values (a ∷ []) = refl
kept_values (a ∷ b ∷ []) = refl
kept_values (a ∷ b ∷ c ∷ []) = refl
kept_values (a ∷ b ∷ c ∷ d ∷ []) = refl
kept_values (a ∷ b ∷ c ∷ d ∷ e ∷ []) = refl
kept_values (a ∷ b ∷ c ∷ d ∷ e ∷ f ∷ []) = refl
kept_values (a ∷ b ∷ c ∷ d ∷ e ∷ f ∷ g ∷ words) = refl

pub kept_header : (words : List (List ℕ)) → header_settings (take 10 words) ≡ header_settings words
unfolding header_settings
kept_header [] = refl
kept_header (a ∷ []) = refl
kept_header (a ∷ b ∷ values) = rw (kept_values values) refl

-- a text that isn't too long, behind its header
pub trace_behind : (text : List ℕ) (row : Row) (rows : List Row) (kept : List (List ℕ)) (found : Option Settings) → length text ≤ 16777216
    → rows_of 0 (lines_of text) ≡ row ∷ rows → kept ≡ take 10 row.words → header_settings kept ≡ found
    → trace_of text ≡ behind_header row.number found rows
unfolding trace_of
trace_behind text row rows kept found short all first read =
    let named : header_settings row.words ≡ found = sym (kept_header row.words) ∙ ap header_settings (sym first) ∙ read in
    rw (le-ltb 16777216 (length text) short, all, named) refl
