-- Contract: calls at an end as whoever embeds it makes them, one after the other: what each answers is what it tells, and what
-- many tell is what each tells, in turn.
use Rattle.std.specs.Prelude.{ℕ, ◌≡◌, List, [], ◌++◌, slice_get, None}
use Rattle.std.specs.List.{flat_map}
use Rattle.std.specs.Option.{option_to_list}
use Rattle.er_end_model.specs.Outcomes.{Outcome}
use Rattle.er_end_model.specs.Ends.{Event, Start, Come, Send, Take, Leave, Tick, Ended, Fault, Stalled, Moment}
use Rattle.er_end.specs.Inboxes.{newest_of}
use Rattle.er_end.specs.KeptEnds.{KEnd, kept_end_behind_event, refusal_of_send, tells, waiting_in}
use Rattle.er_end.specs.Keeping.{accepted_in}
use Rattle.er_end.specs.Standing.{events_of, kept_run, kept_outcomes}
use Rattle.er_end_model.specs.Origins.{octets_brought_by_event}
use Rattle.er_end_promises.specs.Told.{messages_taken, octets_for_line}

-- ---- one call

-- a send that isn't refused, and each other event
abbrev pub IsEventDone : Event → KEnd → Type 0
IsEventDone Start k = Unit {0}
IsEventDone (Come finds octets) k = Unit {0}
IsEventDone (Send user) k = refusal_of_send user k ≡ None
IsEventDone Take k = Unit {0}
IsEventDone (Leave sub) k = Unit {0}
IsEventDone Tick k = Unit {0}
IsEventDone Ended k = Unit {0}
IsEventDone Fault k = Unit {0}
IsEventDone Stalled k = Unit {0}

-- what an event took: where it is a take the oldest message that waits, where one does
abbrev pub taken_at_event : Event → (waits : List (List ℕ)) → List (List ℕ)
taken_at_event Start waits = []
taken_at_event (Come finds octets) waits = []
taken_at_event (Send user) waits = []
taken_at_event Take waits = option_to_list (slice_get waits 0)
taken_at_event (Leave sub) waits = []
taken_at_event Tick waits = []
taken_at_event Ended waits = []
taken_at_event Fault waits = []
taken_at_event Stalled waits = []

-- the octets that an end lends behind a call are those that the call told for the line, and the message that it lends is the one that the call accepted
pub record TellsWhatItLends (now : ℕ) (event : Event) (k : KEnd) : Type 0 where
  pub line : octets_for_line (tells now event k) ≡ (kept_end_behind_event now event k).core.line.out
  pub accepted : accepted_in (tells now event k) ≡ option_to_list (newest_of (kept_end_behind_event now event k).core.upper.inbox)

-- of each call; a send that is refused tells no octets for the line, nor does a take that found none
pub record CallsTellDeeds : Type 0 where
  pub done : (now : ℕ) (event : Event) (k : KEnd) → IsEventDone event k → TellsWhatItLends now event k
  pub taken : (now : ℕ) (event : Event) (k : KEnd) → messages_taken (tells now event k) ≡ taken_at_event event (waiting_in k)
  pub refused : (now : ℕ) (user : List ℕ) (k : KEnd) → (refusal_of_send user k ≡ None → ⊥) → octets_for_line (tells now (Send user) k) ≡ []
  pub nothing : (now : ℕ) (k : KEnd) → waiting_in k ≡ [] → octets_for_line (tells now Take k) ≡ []

-- ---- many calls

-- the octets of the line that calls used, of those that they were given
abbrev pub octets_used : List Moment → KEnd → List ℕ
octets_used calls k = flat_map (λ e. octets_brought_by_event e.event) (events_of calls k)

-- calls behind others begin where those led, and what all tell and use is what the former tell and use, then what the latter do
pub record CallsInTurn : Type 0 where
  pub end : (calls later : List Moment) (k : KEnd) → kept_run (calls ++ later) k ≡ kept_run later (kept_run calls k)
  pub told : (calls later : List Moment) (k : KEnd) → kept_outcomes (calls ++ later) k ≡ kept_outcomes calls k ++ kept_outcomes later (kept_run calls k)
  pub used : (calls later : List Moment) (k : KEnd) → octets_used (calls ++ later) k ≡ octets_used calls k ++ octets_used later (kept_run calls k)
  pub line : (told later : List Outcome) → octets_for_line (told ++ later) ≡ octets_for_line told ++ octets_for_line later
  pub taken : (told later : List Outcome) → messages_taken (told ++ later) ≡ messages_taken told ++ messages_taken later
