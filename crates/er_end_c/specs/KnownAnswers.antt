-- Known answers, worked out by hand from the comments of the header for C: each deed, each status, what stands against making an end or starting it,
-- KMACs of octets and faults of key files.
use Rattle.std.specs.Prelude.{ℕ, ℤ, pos, negsuc, ◌≡◌, Bool, true, false, List, [], ◌∷◌, Some, None, Ok, Err, refl}
use Rattle.std.proofs.Common.{inl, inr}
use Rattle.er_base.specs.declared.release.Release.{Release}
use Rattle.hdlc_station_model.specs.declared.counts.Counts.{Counts}
use Rattle.er_end_model.specs.Outcomes.{Outcome, ConnectedTo, Accepted, Taken, NothingToTake, Refused, WasReleased, Octets, RefusedReleased}
use Rattle.er_end_model.specs.Outcomes.{RefusedNotConnected, RefusedLength, RefusedFull}
use Rattle.er_settings.specs.Values.{Settings}
use Rattle.des_block.specs.declared.triple_key.TripleKey.{TripleKey}
use Rattle.er_base.specs.Octets.{number_in}
use Rattle.key_store.specs.KeyFiles.{three_keys}
use Rattle.key_store.specs.declared.field_name.FieldName.TheVariants as field
use Rattle.key_store.specs.declared.key_file_fault.KeyFileFault.TheVariants as key_file
use Rattle.er_end_model.specs.Ends as event
use Rattle.er_end_model.specs.Steps.{Finds}
use Rattle.er_end_c.specs.declared.face.CDeeds.{CDeeds}
use Rattle.er_end_c.specs.declared.face.CSettings.{CSettings}
use Rattle.er_end_c.specs.declared.face.CKeyFault.{CKeyFault}
use Rattle.er_end_c.specs.declared.fault.Fault.TheVariants as fault
use Rattle.er_end_c.specs.declared.handle.CEnd.{CEnd}
use Rattle.er_end_c.specs.declared.held.Held.{Held}
use Rattle.er_end_c.specs.Deeds.{deeds_told, deeds_by_outcome_kind, release_deeds, status_told, counts_shown}
use Rattle.er_end_c.specs.Handles.{is_handle_open}
use Rattle.er_end_c.specs.Calls.{HandleCall, Start, Octets as OctetsCall, Send, Take, Release as ReleaseCall, Tick, Ended, Fault, Stalled, is_moment_too_late}
use Rattle.er_end_c.specs.Calls.{is_back, last_moment_behind, is_start_misused, start_awaited_behind, event_of, deeds_with_back, peer_noted, held_after}
use Rattle.er_end_c.specs.Calls.{status_after, deeds_after}
use Rattle.er_end_c.specs.Makings.{are_allowed, is_number, fault_of_handle_making, held_made, entry_shown, fault_status}
use Rattle.er_end_c.specs.Reads.{none_or, deadline_status, shown_deadline, shown_release_status, shown_release, connection_status, shown_peer, found_status}
use Rattle.er_end_c.specs.Kmacs.{kmac_status, kmac_written}
use Rattle.er_end_c.specs.KeyFaults.{field_number, key_fault_shown, JudgesKeyFile}
use Rattle.er_end_c.specs.Runs.{IsEvent, IsLate, IsMisused, reception_of, is_start_due_at, is_due_after}

-- ---- deeds

-- all of them 0
abbrev nothing : CDeeds
nothing = record { out = 0; used = 0; message = 0; connected = 0; peer = 0; released = 0; reason = 0; sub = 0; by_peer = 0; back = 0 }

-- the peer released for reason 4, sub-reason 6; the end for reason 0, sub-reason 7
abbrev by_peer : Release
by_peer = record { reason = 4; sub = 6; by_peer = true }

abbrev by_end : Release
by_end = record { reason = 0; sub = 7; by_peer = false }

abbrev three_octets : List ℕ
three_octets = 0x61 ∷ 0x62 ∷ 0x63 ∷ []

abbrev two_octets : List ℕ
two_octets = 0x7e ∷ 0x7e ∷ []

pub of_one_outcome :
    (deeds_told [] ≡ nothing)
    × (deeds_told (ConnectedTo 9 ∷ []) ≡ record nothing { connected = 1; peer = 9 })
    × (deeds_told (Accepted three_octets ∷ []) ≡ record nothing { message = 3 })
    × (deeds_told (Taken three_octets ∷ []) ≡ record nothing { message = 3 })
    × (deeds_told (NothingToTake ∷ []) ≡ nothing)
    × (deeds_told (Refused (RefusedReleased by_peer) ∷ []) ≡ nothing)
    × (deeds_told (Octets two_octets ∷ []) ≡ record nothing { out = 2 })
of_one_outcome = (refl, refl, refl, refl, refl, refl, refl)

-- the reason is no sub-reason, and the peer's release is no own one: of an event, and of the call that asks why an end is released
pub of_releases :
    (deeds_told (WasReleased by_peer ∷ []) ≡ record nothing { released = 1; reason = 4; sub = 6; by_peer = 1 })
    × (deeds_told (WasReleased by_end ∷ []) ≡ record nothing { released = 1; reason = 0; sub = 7; by_peer = 0 })
    × (release_deeds (Some by_peer) ≡ record nothing { released = 1; reason = 4; sub = 6; by_peer = 1 })
    × (release_deeds (Some by_end) ≡ record nothing { released = 1; reason = 0; sub = 7; by_peer = 0 })
    × (release_deeds None ≡ nothing)
    × (shown_release None ≡ nothing)
of_releases = (refl, refl, refl, refl, refl, refl)

-- all that one event can tell, and that of five octets it used
pub of_several_outcomes :
    (deeds_told (ConnectedTo 9 ∷ Accepted three_octets ∷ WasReleased by_peer ∷ Octets two_octets ∷ [])
    ≡ record nothing { out = 2; message = 3; connected = 1; peer = 9; released = 1; reason = 4; sub = 6; by_peer = 1 })
    × (deeds_by_outcome_kind 5 (Some 9) (Some three_octets) (Some by_peer) two_octets
    ≡ record nothing { out = 2; used = 5; message = 3; connected = 1; peer = 9; released = 1; reason = 4; sub = 6; by_peer = 1 })
of_several_outcomes = (refl, refl)

-- ---- statuses of calls that are events

pub of_sends :
    (status_told (Octets two_octets ∷ []) ≡ pos 0)
    × (status_told (Refused (RefusedReleased by_peer) ∷ []) ≡ pos 1)
    × (status_told (Refused RefusedNotConnected ∷ []) ≡ pos 2)
    × (status_told (Refused (RefusedLength 1024) ∷ []) ≡ pos 3)
    × (status_told (Refused (RefusedFull 16) ∷ []) ≡ pos 4)
of_sends = (refl, refl, refl, refl, refl)

-- of a take with and without a message, and of other events: an end that is released is no refusal
pub of_other_events :
    (status_told (Taken three_octets ∷ Octets two_octets ∷ []) ≡ pos 0)
    × (status_told (NothingToTake ∷ []) ≡ pos 5)
    × (status_told [] ≡ pos 0)
    × (status_told (ConnectedTo 9 ∷ Accepted three_octets ∷ WasReleased by_peer ∷ Octets two_octets ∷ []) ≡ pos 0)
of_other_events = (refl, refl, refl, refl)

abbrev is_fault : ℤ → Bool
is_fault (pos n) = false
is_fault (negsuc n) = true

-- whatever an event tells, its status is no fault's: so -1, -3 and -8 are answered where they are due alone
pub of_all_events : (told : List Outcome) → is_fault (status_told told) ≡ false
of_all_events [] = refl
of_all_events (ConnectedTo peer ∷ outcomes) = of_all_events outcomes
of_all_events (Accepted message ∷ outcomes) = of_all_events outcomes
of_all_events (Taken message ∷ outcomes) = of_all_events outcomes
of_all_events (NothingToTake ∷ outcomes) = refl
of_all_events (Refused (RefusedReleased why) ∷ outcomes) = refl
of_all_events (Refused RefusedNotConnected ∷ outcomes) = refl
of_all_events (Refused (RefusedLength found) ∷ outcomes) = refl
of_all_events (Refused (RefusedFull waiting) ∷ outcomes) = refl
of_all_events (WasReleased why ∷ outcomes) = of_all_events outcomes
of_all_events (Octets octets ∷ outcomes) = of_all_events outcomes

-- at a handle that holds no end
pub of_closed_handles :
    ((call : HandleCall) → status_after call None ≡ negsuc 0)
    × ((call : HandleCall) → deeds_after call None ≡ nothing)
    × (deadline_status None ≡ negsuc 0)
    × (shown_release_status None ≡ negsuc 0)
    × (found_status None ≡ negsuc 0)
of_closed_handles = ((λ call. refl), (λ call. refl), refl, refl, refl)

-- 10 ^ 15 is the last moment; a call that has none is never late
pub of_moments :
    (is_moment_too_late 1000000000000000 ≡ false)
    × ((held : Held) → status_after (Tick 1000000000000001) (Some held) ≡ negsuc 2)
    × ((held : Held) → deeds_after (Tick 1000000000000001) (Some held) ≡ nothing)
    × ((held : Held) → status_after (ReleaseCall 1000000000000001 7) (Some held) ≡ negsuc 2)
of_moments = (refl, (λ held. refl), (λ held. refl), (λ held. refl))

-- ---- moments that go back

-- below the greatest that was passed, and not at it; a call that has no moment doesn't go back
pub of_moments_back :
    (is_back (Tick 40) 41 ≡ true)
    × (is_back (Tick 41) 41 ≡ false)
    × (is_back (Start 40) 41 ≡ true)
    × (is_back (OctetsCall 40 two_octets) 41 ≡ true)
    × (is_back (Send 40 three_octets) 41 ≡ true)
    × (is_back (Take 40) 41 ≡ true)
    × (is_back (ReleaseCall 40 7) 41 ≡ true)
    × (is_back Ended 41 ≡ false)
    × (is_back Fault 41 ≡ false)
    × (is_back Stalled 41 ≡ false)
of_moments_back = (refl, refl, refl, refl, refl, refl, refl, refl, refl, refl)

-- a moment that goes back leaves the greatest what it is
pub of_greatest_moments :
    (last_moment_behind (Tick 40) 41 ≡ 41)
    × (last_moment_behind (Tick 42) 41 ≡ 42)
    × (last_moment_behind (ReleaseCall 40 50) 41 ≡ 41)
    × (last_moment_behind Ended 41 ≡ 41)
of_greatest_moments = (refl, refl, refl, refl)

pub of_back :
    (deeds_with_back true (record nothing { out = 2 }) ≡ record nothing { out = 2; back = 1 })
    × (deeds_with_back false (record nothing { out = 2 }) ≡ record nothing { out = 2 })
of_back = (refl, refl)

-- ---- starts that are misused

abbrev kmac : TripleKey
kmac = record { first = 0x11; second = 0x22; third = 0x33 }

-- an end that calls awaits one start, which a call of another kind doesn't take; an end that answers awaits none
pub of_awaited_starts :
    ((settings : Settings) → (held_made (event.Call settings 5 9 kmac 77 40) None).awaits_start ≡ true)
    × ((settings : Settings) → (held_made (event.Answer settings 9 77 40) (Some [])).awaits_start ≡ false)
    × (is_start_misused (Start 40) true ≡ false)
    × (start_awaited_behind (Start 40) true ≡ false)
    × (start_awaited_behind (Tick 40) true ≡ true)
    × (start_awaited_behind Ended true ≡ true)
of_awaited_starts = ((λ settings. refl), (λ settings. refl), refl, refl, refl, refl)

-- where none is awaited: -8, no deed, and the end is what it was; at a late moment the moment is what is told. No other call is misused so
pub of_misused_starts :
    ((h : Held) → h.awaits_start ≡ false → status_after (Start 40) (Some h) ≡ negsuc 7)
    × ((h : Held) → h.awaits_start ≡ false → deeds_after (Start 40) (Some h) ≡ nothing)
    × ((h : Held) → h.awaits_start ≡ false → held_after (Start 40) (Some h) ≡ Some h)
    × ((h : Held) → h.awaits_start ≡ false → status_after (Start 1000000000000001) (Some h) ≡ negsuc 2)
    × (is_start_misused (Tick 40) false ≡ false)
    × (is_start_misused (OctetsCall 40 two_octets) false ≡ false)
of_misused_starts = ((λ h e. rw e refl), (λ h e. rw e refl), (λ h e. rw e refl), (λ h e. refl), refl, refl)

-- in the words of the law: of two starts the second is no event, nor is the first of an end that answers; a start at a late moment stays due
pub of_receptions :
    ((settings : Settings) → is_start_due_at (event.Call settings 5 9 kmac 77 40) ≡ true)
    × ((settings : Settings) → is_start_due_at (event.Answer settings 9 77 40) ≡ false)
    × (reception_of (Start 40) true ≡ IsEvent)
    × (reception_of (Start 40) false ≡ IsMisused)
    × (reception_of (Start 1000000000000001) false ≡ IsLate)
    × (reception_of (Tick 40) false ≡ IsEvent)
    × (is_due_after (Start 40) true ≡ false)
    × (is_due_after (Start 1000000000000001) true ≡ true)
    × (is_due_after (Tick 40) true ≡ true)
of_receptions = ((λ settings. refl), (λ settings. refl), refl, refl, refl, refl, refl, refl, refl)

-- a release's number is its sub-reason and not its moment
pub of_release_calls : (finds : Finds) → event_of finds (ReleaseCall 40 7) ≡ event.Leave 7
of_release_calls finds = refl

-- ---- statuses and numbers of calls that read

pub of_reads :
    (none_or {A = ℕ} (Some 40) ≡ pos 0)
    × (none_or {A = ℕ} None ≡ pos 5)
    × ((held : Held) → found_status (Some held) ≡ pos 0)
    × (shown_deadline 40 None ≡ 40)
of_reads = (refl, refl, (λ held. refl), refl)

-- with whom the safe connection stands: the peer that an event told last is kept by events that tell none
pub of_noted_peers :
    (peer_noted (record nothing { connected = 1; peer = 9 }) None ≡ Some 9)
    × (peer_noted (record nothing { connected = 1; peer = 9 }) (Some 5) ≡ Some 9)
    × (peer_noted (record nothing { out = 2; message = 3 }) (Some 9) ≡ Some 9)
    × (peer_noted nothing None ≡ None)
of_noted_peers = (refl, refl, refl, refl)

-- it is told while the end isn't released; else the number stays
pub of_connections :
    ((h : Held) → h.end.core.released ≡ None → h.peer ≡ Some 9 → (connection_status (Some h) ≡ pos 0) × (shown_peer 77 (Some h) ≡ 9))
    × ((h : Held) → h.end.core.released ≡ None → h.peer ≡ None → (connection_status (Some h) ≡ pos 5) × (shown_peer 77 (Some h) ≡ 77))
    × ((h : Held) → h.end.core.released ≡ Some by_peer → h.peer ≡ Some 9 → (connection_status (Some h) ≡ pos 5) × (shown_peer 77 (Some h) ≡ 77))
    × (connection_status None ≡ negsuc 0)
    × (shown_peer 77 None ≡ 77)
of_connections = ((λ h r p. rw (r, p) (refl, refl)), (λ h r p. rw (r, p) (refl, refl)), (λ h r p. rw r (refl, refl)), refl, refl)

abbrev counts : Counts
counts = record { bad_fcs = 1; short = 2; long = 3; aborted = 4; stray = 5 }

pub of_counts : counts_shown counts ≡ record { bad_fcs = 1; too_short = 2; too_long = 3; aborted = 4; stray = 5 }
of_counts = refl

-- ---- makers

-- the usual settings, at either modulo
abbrev usual : CSettings
usual = record { window = 7; credit = 15; size = 128; t1 = 1000; n2 = 5; setup = 40000; modulo = 8 }

-- each setting just inside its range, and each just outside
pub of_settings :
    (are_allowed usual ≡ true)
    × (are_allowed (record usual { window = 31; modulo = 128 }) ≡ true)
    × (are_allowed (record usual { window = 8 }) ≡ false)
    × (are_allowed (record usual { credit = 16 }) ≡ false)
    × (are_allowed (record usual { size = 129 }) ≡ false)
    × (are_allowed (record usual { t1 = 99 }) ≡ false)
    × (are_allowed (record usual { n2 = 11 }) ≡ false)
    × (are_allowed (record usual { setup = 999 }) ≡ false)
    × (are_allowed (record usual { modulo = 16 }) ≡ false)
of_settings = (refl, refl, refl, refl, refl, refl, refl, refl, refl)

-- 2 ^ 24 is no ETCS number
pub of_numbers : (is_number 16777215 ≡ true) × (is_number 16777216 ≡ false)
of_numbers = (refl, refl)

-- at a handle that holds an end already
pub of_making_at_open_handles :
    (end : CEnd) (now : ℕ) (numbers : Bool) (settings : CSettings) → is_handle_open end ≡ true
    → fault_of_handle_making end now numbers settings ≡ Some (negsuc 1)
of_making_at_open_handles end now numbers settings is_open = rw is_open refl

-- at one that holds none: each fault where those before it aren't there, and none at all
pub of_makings :
    (end : CEnd) → is_handle_open end ≡ false
    → (fault_of_handle_making end 1000000000000001 false (record usual { window = 8 }) ≡ Some (negsuc 2))
    × (fault_of_handle_making end 40 false (record usual { window = 8 }) ≡ Some (negsuc 3))
    × (fault_of_handle_making end 40 true (record usual { window = 8 }) ≡ Some (negsuc 4))
    × (fault_of_handle_making end 40 true usual ≡ None)
of_makings end is_closed = rw is_closed (refl, refl, refl, refl)

pub of_faults :
    (fault_status fault.Open ≡ negsuc 1)
    × (fault_status fault.Moment ≡ negsuc 2)
    × (fault_status fault.Number ≡ negsuc 3)
    × (fault_status fault.Setting ≡ negsuc 4)
    × (fault_status fault.Keys ≡ negsuc 5)
    × (fault_status fault.Memory ≡ negsuc 6)
of_faults = (refl, refl, refl, refl, refl, refl)

-- a key of an array: the engine is no radio block centre, the first moment no last one, the three DES keys stand in their order, and a last moment above
-- 10 ^ 15 counts as 10 ^ 15
pub of_keys :
    entry_shown (record { engine = 5; rbc = 9; from = 40; to = 1000000000000001; kmac = 0x11 ∷ 0x22 ∷ 0x33 ∷ [] })
    ≡ record { engine = 5; rbc = 9; kmac = record { first = 0x11; second = 0x22; third = 0x33 }; first = 40; last = 1000000000000000 }
of_keys = refl

-- ---- KMACs of octets

-- 00 01 02 and so on to 17
abbrev counting : List ℕ
counting =
    0x00 ∷ 0x01 ∷ 0x02 ∷ 0x03 ∷ 0x04 ∷ 0x05 ∷ 0x06 ∷ 0x07 ∷ 0x08 ∷ 0x09 ∷ 0x0a ∷ 0x0b ∷ 0x0c ∷ 0x0d ∷ 0x0e ∷ 0x0f
    ∷ 0x10 ∷ 0x11 ∷ 0x12 ∷ 0x13 ∷ 0x14 ∷ 0x15 ∷ 0x16 ∷ 0x17 ∷ []

-- 24 octets, of which all but the last are zero
abbrev zeros_but : ℕ → List ℕ
zeros_but last = 0 ∷ 0 ∷ 0 ∷ 0 ∷ 0 ∷ 0 ∷ 0 ∷ 0 ∷ 0 ∷ 0 ∷ 0 ∷ 0 ∷ 0 ∷ 0 ∷ 0 ∷ 0 ∷ 0 ∷ 0 ∷ 0 ∷ 0 ∷ 0 ∷ 0 ∷ 0 ∷ last ∷ []

abbrev before_it : List ℕ
before_it = 1 ∷ 2 ∷ 3 ∷ []

-- of each eight octets the first is the most significant; only where all are zero they are refused, and nothing is written
pub of_kmacs :
    (kmac_status counting ≡ pos 0)
    × (kmac_written counting before_it ≡ 0x0001020304050607 ∷ 0x08090a0b0c0d0e0f ∷ 0x1011121314151617 ∷ [])
    × (kmac_status (zeros_but 0) ≡ negsuc 5)
    × (kmac_written (zeros_but 0) before_it ≡ before_it)
    × (kmac_status (zeros_but 1) ≡ pos 0)
    × (kmac_written (zeros_but 1) before_it ≡ 0 ∷ 0 ∷ 1 ∷ [])
unfolding three_keys number_in
of_kmacs = (refl, refl, refl, refl, refl, refl)

-- ---- faults of key files

abbrev no_fault : CKeyFault
no_fault = record { kind = 0; field = 0; entry = 0; other = 0 }

-- each kind; of two entries that have a moment in common the second is the one at fault, and a version that is said isn't told
pub of_key_faults :
    (key_fault_shown key_file.Document ≡ record no_fault { kind = 1 })
    × (key_fault_shown (key_file.Version (pos 7)) ≡ record no_fault { kind = 2 })
    × (key_fault_shown (key_file.Field 3 field.Rbc) ≡ record no_fault { kind = 3; field = 4; entry = 3 })
    × (key_fault_shown (key_file.Field 0 field.Version) ≡ record no_fault { kind = 3; field = 1 })
    × (key_fault_shown (key_file.Hex 2) ≡ record no_fault { kind = 4; entry = 2 })
    × (key_fault_shown (key_file.Number 2) ≡ record no_fault { kind = 5; entry = 2 })
    × (key_fault_shown (key_file.Range 2) ≡ record no_fault { kind = 6; entry = 2 })
    × (key_fault_shown (key_file.Twice 1 3) ≡ record no_fault { kind = 7; entry = 3; other = 1 })
of_key_faults = (refl, refl, refl, refl, refl, refl, refl, refl)

pub of_key_fields :
    (field_number field.Version ≡ 1)
    × (field_number field.Key ≡ 2)
    × (field_number field.Engine ≡ 3)
    × (field_number field.Rbc ≡ 4)
    × (field_number field.Kmac ≡ 5)
    × (field_number field.From ≡ 6)
    × (field_number field.To ≡ 7)
of_key_fields = (refl, refl, refl, refl, refl, refl, refl)

-- a text whose second entry has a KMAC of other digits: KEYS with that entry, or want of memory without; a text that is a key file: OK without a fault
pub of_judgements :
    JudgesKeyFile (Err (key_file.Hex 2)) (negsuc 5) (record no_fault { kind = 4; entry = 2 })
    × JudgesKeyFile (Err (key_file.Hex 2)) (negsuc 6) no_fault
    × JudgesKeyFile (Ok []) (pos 0) no_fault
of_judgements = (inl (refl, refl), inr (refl, refl), (inl refl, refl))
