-- Representation: what is kept of what a stream came to, and what is told of it in the end; no claim rests on it.
use Rattle.std.specs.Prelude.{ℕ, ◌+◌, min, Bool, true, false, if◌then◌else◌, List, [], ◌∷◌, length, Option, Some, None, codes}
use Rattle.std.specs.Fmt.{decimal}
use Rattle.er_base.specs.declared.side.Side.{Side}
use Rattle.er_base.specs.Sides.{side_word}
use Rattle.hdlc_frames.specs.Framing.{Verdict, Frame, BadFcs, TooShort, TooLong, Aborted, frames_of}
use Rattle.tap_model.specs.declared.end_cause.EndCause.{EndCause}
use Rattle.tap_model.specs.declared.end_cause.EndCause.TheVariants.{Unopened, Open, Gap, Dr}
use Rattle.tap_model.specs.EndWords.{end_word}
use Rattle.tap_model.specs.Hearing.{frames_read, heard, items}
use Rattle.tap_model.specs.Ears.{Ear, hearing_of_frames}
use Rattle.tap_model.specs.Ends.{ReceiverState, StreamEnd, frames_among, end_from, stream_end}
use Rattle.link_audit.specs.declared.frame_outcome.FrameOutcome.{FrameOutcome}
use Rattle.link_audit.specs.declared.frame_outcome.FrameOutcome.TheVariants as it
use Rattle.link_audit.specs.declared.frame_outcome.TextOutcome.TheVariants as said
use Rattle.link_audit.specs.declared.told.Told.{Told}
use Rattle.link_audit.specs.Turns.{KEar, new_receiver, FrameTurn, PassesOver, Counts, CountsText, CountsLastText, CountsLast, EndsLink}

-- ---- counts

-- a count stays at 2^64 - 1
abbrev pub kept_count : ℕ → ℕ
kept_count n = min n 18446744073709551615

-- an end behind so many frames that counted, its counts kept
abbrev pub counted_end : (heard : ℕ) → StreamEnd → StreamEnd
counted_end heard e = record { heard = kept_count (heard + e.heard); left = kept_count e.left; why = e.why }

abbrev pub told_with : (frames count : ℕ) → StreamEnd → Told
told_with frames count e = record { frames = kept_count frames; heard = e.heard; items = kept_count count; left = e.left; why = e.why }

-- of a whole stream
abbrev pub told_of_stream : Side → List ℕ → Told
told_of_stream side stream =
    told_with (frames_among (frames_of stream)) (length (items (heard side stream))) (counted_end 0 (stream_end side (frames_of stream)))

abbrev pub told_words : (n : ℕ) → Side → Told → List (List ℕ)
told_words n side t =
    decimal n ∷ side_word side ∷ codes "end" ∷ decimal t.frames ∷ decimal t.heard ∷ decimal t.items ∷ decimal t.left ∷ end_word t.why ∷ []

-- ---- what is kept

-- an ear, why it hears no more, and counts: intact frames, those that counted, texts, and the frames behind the end
pub record KCountedEar : Type 0 where
  pub ear : KEar
  pub over : Option EndCause
  pub frames : ℕ
  pub counted : ℕ
  pub texts : ℕ
  pub left : ℕ

abbrev pub new_counted_ear : Side → KCountedEar
new_counted_ear side = record { ear = new_receiver side; over = None; frames = 0; counted = 0; texts = 0; left = 0 }

-- ---- of the verdicts that are left

abbrev pub receiver_state_of : Ear → (gap : Bool) → ReceiverState
receiver_state_of k gap = record { vr = k.count; held = k.held; number = k.dts; begun = length k.begun; gap = gap }

abbrev pub end_where : (opened : Bool) → Side → ReceiverState → List Verdict → StreamEnd
end_where true side r verdicts = end_from side r verdicts
end_where false side r verdicts = stream_end side verdicts

abbrev pub items_heard_of : Side → Ear → List Verdict → List (List ℕ)
items_heard_of side k verdicts = items (hearing_of_frames side k (frames_read verdicts))

-- how the stream ends, and what is heard yet
abbrev pub end_of_rest : Option EndCause → (left : ℕ) → KEar → List Verdict → StreamEnd
end_of_rest (Some why) left k verdicts = record { heard = 0; left = left + frames_among verdicts; why = why }
end_of_rest None left k verdicts = end_where k.ear.opened k.side (receiver_state_of k.ear k.gap) verdicts

abbrev pub items_of_rest : Option EndCause → KEar → List Verdict → List (List ℕ)
items_of_rest (Some why) k verdicts = []
items_of_rest None k verdicts = items_heard_of k.side k.ear verdicts

abbrev pub counted_end_of_rest : KCountedEar → List Verdict → StreamEnd
counted_end_of_rest k verdicts = counted_end k.counted (end_of_rest k.over k.left k.ear verdicts)

unfoldable pub items_behind : KCountedEar → List Verdict → List (List ℕ)
items_behind k verdicts = items_of_rest k.over k.ear verdicts

unfoldable pub told_behind : KCountedEar → List Verdict → Told
told_behind k verdicts = told_with (k.frames + frames_among verdicts) (k.texts + length (items_behind k verdicts)) (counted_end_of_rest k verdicts)

-- where none is left
abbrev pub why_told : Option EndCause → (opened gap : Bool) → EndCause
why_told (Some why) opened gap = why
why_told None true gap = if gap then Gap else Open
why_told None false gap = Unopened

abbrev pub left_told : Option EndCause → ℕ → ℕ
left_told (Some why) left = left
left_told None left = 0

-- ---- one frame

-- whether a frame brought a text, and that text before those that are left
abbrev pub brings_text : FrameOutcome → Bool
brings_text it.PassedOver = false
brings_text (it.Counted said.NoText) = false
brings_text (it.Counted said.Text) = true
brings_text (it.Counted said.LastText) = true
brings_text (it.Counted (said.Ended why)) = false
brings_text (it.LinkEnded why) = false

abbrev pub with_brought : Bool → (text : List ℕ) → List (List ℕ) → List (List ℕ)
with_brought true text rest = text ∷ rest
with_brought false text rest = rest

abbrev pub count_brought : Bool → ℕ → ℕ
count_brought true n = kept_count (n + 1)
count_brought false n = n

-- what is kept behind a frame that came to this
abbrev pub ear_behind : FrameOutcome → KCountedEar → KCountedEar
ear_behind it.PassedOver k = k
ear_behind (it.Counted said.NoText) k = record k { counted = kept_count (k.counted + 1) }
ear_behind (it.Counted said.Text) k = record k { counted = kept_count (k.counted + 1); texts = kept_count (k.texts + 1) }
ear_behind (it.Counted said.LastText) k = record k { counted = kept_count (k.counted + 1); texts = kept_count (k.texts + 1); over = Some Dr; left = 0 }
ear_behind (it.Counted (said.Ended why)) k = record k { counted = kept_count (k.counted + 1); over = Some why; left = 0 }
ear_behind (it.LinkEnded why) k = record k { over = Some why; left = 0 }

-- what is heard from a frame on, and how the stream ends
abbrev pub items_at_turn : Side → FrameTurn → List Verdict → List (List ℕ)
items_at_turn side (PassesOver next gap) verdicts = items_heard_of side next verdicts
items_at_turn side (Counts next gap) verdicts = items_heard_of side next verdicts
items_at_turn side (CountsText text next gap) verdicts = text ∷ items_heard_of side next verdicts
items_at_turn side (CountsLastText text) verdicts = text ∷ []
items_at_turn side (CountsLast why) verdicts = []
items_at_turn side (EndsLink why) verdicts = []

abbrev pub end_one_more : StreamEnd → StreamEnd
end_one_more e = record e { heard = e.heard + 1 }

abbrev pub end_at_turn : Side → FrameTurn → List Verdict → StreamEnd
end_at_turn side (PassesOver next gap) verdicts = end_where next.opened side (receiver_state_of next gap) verdicts
end_at_turn side (Counts next gap) verdicts = end_one_more (end_where next.opened side (receiver_state_of next gap) verdicts)
end_at_turn side (CountsText text next gap) verdicts = end_one_more (end_where next.opened side (receiver_state_of next gap) verdicts)
end_at_turn side (CountsLastText text) verdicts = record { heard = 1; left = frames_among verdicts; why = Dr }
end_at_turn side (CountsLast why) verdicts = record { heard = 1; left = frames_among verdicts; why = why }
end_at_turn side (EndsLink why) verdicts = record { heard = 0; left = frames_among verdicts; why = why }

-- ---- where a deframer found this: what is no frame passes

abbrev pub items_where_found : KCountedEar → Option Verdict → List Verdict → List (List ℕ)
items_where_found k None verdicts = items_behind k verdicts
items_where_found k (Some (Frame address body)) verdicts = items_behind k (Frame address body ∷ verdicts)
items_where_found k (Some BadFcs) verdicts = items_behind k verdicts
items_where_found k (Some TooShort) verdicts = items_behind k verdicts
items_where_found k (Some TooLong) verdicts = items_behind k verdicts
items_where_found k (Some Aborted) verdicts = items_behind k verdicts

abbrev pub told_where_found : KCountedEar → Option Verdict → List Verdict → Told
told_where_found k None verdicts = told_behind k verdicts
told_where_found k (Some (Frame address body)) verdicts = told_behind k (Frame address body ∷ verdicts)
told_where_found k (Some BadFcs) verdicts = told_behind k verdicts
told_where_found k (Some TooShort) verdicts = told_behind k verdicts
told_where_found k (Some TooLong) verdicts = told_behind k verdicts
told_where_found k (Some Aborted) verdicts = told_behind k verdicts
