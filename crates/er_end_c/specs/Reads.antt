-- Contract: what the calls that read a handle answer, by what it holds.
use Rattle.std.specs.Prelude.{ℕ, ℤ, List, [], ◌++◌, length, take, drop, Option, Some, None}
use Rattle.er_end.specs.Inboxes.{newest_of}
use Rattle.er_end.specs.KeptLayers.{kept}
use Rattle.er_end.specs.KeptEnds.{KEnd, waiting_in, deadline_of}
use Rattle.er_end_c.specs.declared.held.Held.{Held}
use Rattle.er_end_c.specs.declared.face.CDeeds.{CDeeds}
use Rattle.er_end_c.specs.declared.face.CCounts.{CCounts}
use Rattle.er_end_c.specs.Deeds.{no_deeds, release_deeds, counts_shown}
use Rattle.er_end_c.specs.Statuses.{ok, none, closed_handle}

-- ---- texts, of which as much is copied as fits

abbrev pub text_or_empty : Option (List ℕ) → List ℕ
text_or_empty None = []
text_or_empty (Some text) = text

-- the octets that the last event sent, the message that it accepted, the message that it took
abbrev pub out_of : KEnd → List ℕ
out_of k = k.core.line.out

abbrev pub newest_accepted_message : KEnd → List ℕ
newest_accepted_message k = text_or_empty (newest_of k.core.upper.inbox)

abbrev pub message_last_taken : KEnd → List ℕ
message_last_taken k = k.core.upper.inbox.last

-- such a text of what is held; no octets where nothing is
abbrev pub text_of_held_end : (KEnd → List ℕ) → Option Held → List ℕ
text_of_held_end text None = []
text_of_held_end text (Some h) = text h.end

-- the part of a text from an index on that fits into so much room
abbrev pub copied : (text : List ℕ) → (from room : ℕ) → List ℕ
copied text from room = take room (drop from text)

-- octets in the place of as many others
abbrev pub octets_written_over : (octets into : List ℕ) → List ℕ
octets_written_over octets into = octets ++ drop (length octets) into

-- ---- numbers

abbrev pub count_waiting_at_handle : Option Held → ℕ
count_waiting_at_handle None = 0
count_waiting_at_handle (Some h) = length (waiting_in h.end)

-- the messages of the user whose last segment wasn't handed down yet
abbrev pub count_unsent_at_handle : Option Held → ℕ
count_unsent_at_handle None = 0
count_unsent_at_handle (Some h) = kept.waiting h.end.core.upper

abbrev pub none_or : {A : Type 0} → Option A → ℤ
none_or None = none
none_or (Some x) = ok

abbrev pub else_ : ℕ → Option ℕ → ℕ
else_ other None = other
else_ other (Some n) = n

abbrev pub deadline_status : Option Held → ℤ
deadline_status None = closed_handle
deadline_status (Some h) = none_or (deadline_of h.end)

-- the moment changes where a tick is wanted alone
abbrev pub shown_deadline : (moment : ℕ) → Option Held → ℕ
shown_deadline moment None = moment
shown_deadline moment (Some h) = else_ moment (deadline_of h.end)

abbrev pub shown_release_status : Option Held → ℤ
shown_release_status None = closed_handle
shown_release_status (Some h) = none_or h.end.core.released

abbrev pub shown_release : Option Held → CDeeds
shown_release None = no_deeds
shown_release (Some h) = release_deeds h.end.core.released

-- with whom the safe connection stands: with the last peer that it came to stand with, until the end is released
abbrev pub peer_unless_released : {A : Type 0} → Option A → Option ℕ → Option ℕ
peer_unless_released None peer = peer
peer_unless_released (Some why) peer = None

abbrev pub peer_of_held_end : Held → Option ℕ
peer_of_held_end h = peer_unless_released h.end.core.released h.peer

abbrev pub connection_status : Option Held → ℤ
connection_status None = closed_handle
connection_status (Some h) = none_or (peer_of_held_end h)

-- the number changes where it stands alone
abbrev pub shown_peer : (peer : ℕ) → Option Held → ℕ
shown_peer peer None = peer
shown_peer peer (Some h) = else_ peer (peer_of_held_end h)

abbrev pub found_status : Option Held → ℤ
found_status None = closed_handle
found_status (Some h) = ok

abbrev pub shown_counts : Option Held → CCounts
shown_counts None = record { bad_fcs = 0; too_short = 0; too_long = 0; aborted = 0; stray = 0 }
shown_counts (Some h) = counts_shown h.end.core.line.station.counts
