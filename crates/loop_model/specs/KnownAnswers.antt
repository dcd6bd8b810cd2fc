-- Known answers, worked out by hand: each word that the loop's definition and its laws share at a row that matters, and one whole loop.
use Rattle.std.specs.Prelude.{◌≡◌, ℕ, true, false, List, [], ◌∷◌, replicate, Some, None, refl}
use Rattle.bit_lists.specs.LowestFirst.{low_bits, low_number}
use Rattle.rand_core.specs.Stream.{Stream, next_u64}
use Rattle.hdlc_fcs.specs.FrameCheck.{fcs_of, fcs_bits, dividend, remainder, divided_once, add_front, sent_bits}
use Rattle.hdlc_fcs.specs.Contents.{content_of, checked_part, check_number}
use Rattle.hdlc_frames.specs.Framing.{unescaped, ends_in_escape, verdict_on_content, verdict_on, cut, all_but_last, between_flags, frames_of}
use Rattle.hdlc_frames.specs.Spelling.{escaped_octet, escaped, spelling}
use Rattle.hdlc_frames.specs.ControlOctets.{control_of}
use Rattle.er_base.specs.Octets.{eight}
use Rattle.er_settings.specs.Making.{usual_settings}
use Rattle.er_end_model.specs.Outcomes.{Outcome, RefusedFull, ConnectedTo, Accepted, Taken, Refused, WasReleased, Octets}
use Rattle.er_end_model.specs.Steps.{hand_waiting_tpdus}
use Rattle.er_trace.specs.declared.event.Event.{Event}
use Rattle.er_trace.specs.declared.event.Event.TheVariants as event
use Rattle.er_users.specs.Users.{Mind, mind_of, Echo, Lister, Silent, Connected, Message, said}
use Rattle.er_users.specs.Users as user
use Rattle.link_trait.specs.Wires.{Call, Dials, Turns, Reads, Writes, Closes, Gave, End, taken_of, given_of}
use Rattle.link_trait.specs.declared.wires.Happening.{Happening}
use Rattle.link_trait.specs.declared.wires.Happening.TheVariants as happening
use Rattle.link_trait.specs.declared.wires.WriteAnswer.TheVariants as write
use Rattle.loop_model.specs.Ends.{ModelEnd, model_ends, used_behind}
use Rattle.loop_model.specs.Journals.{JournalEntry}
use Rattle.loop_model.specs.Deeds.{Printing, Calling}
use Rattle.loop_model.specs.Outs.{Out, part_for_each_answer, acts, exactly}
use Rattle.loop_model.specs.Sessions.{Sends, Leaves, replies, most_output, octets_in, heard_by_user, refused_in, refusal_heard, noted, nothing_said, end_after}
use Rattle.loop_model.specs.Sessions.{outcomes_of_given_event, joined, fed, dealt, takes_all, handled, poured, pours}
use Rattle.loop_model.specs.Visits.{most_read, is_due, Met, nothing_met, writes_once, writes, session_behind_writing, session_kept_or_closed, rests, read_once}
use Rattle.loop_model.specs.Visits.{served, visited}
use Rattle.loop_model.specs.Loops.{Plan, Loop, next_user, other_users, begun, visit_at, swept, Course, Turn, beginning, before, until, accepted, happened}
use Rattle.loop_model.specs.Loops.{readied, went, run}
use Rattle.loop_model.specs.Parts.{session_of_connection, of, calls_at, opened_in}
use Rattle.loop_model.specs.Points.{user_of}
use Rattle.loop_model.specs.Alone.{own_happening, own_ticks, own_turns, own_users, own_words, deeds_on}
use Rattle.loop_model.specs.Turnings.{random_words_of_entries}

-- ---- the words

abbrev by_peer : Outcome
by_peer = WasReleased (record { reason = 4; sub = 1; by_peer = true })

-- the octets of a release are for the line like all others, in their order
pub of_octets : octets_in (ConnectedTo 9 ∷ Octets (1 ∷ 2 ∷ []) ∷ Accepted (5 ∷ []) ∷ by_peer ∷ Octets (3 ∷ []) ∷ []) ≡ 1 ∷ 2 ∷ 3 ∷ []
of_octets = refl

-- a message of so many octets
abbrev repeated : ℕ → List ℕ
repeated n = replicate n 0x41

-- a user hears of the connection, and of a message of any length that one may have; of what was accepted only once it is taken
pub of_hearing :
    (heard_by_user (Octets (1 ∷ []) ∷ ConnectedTo 9 ∷ []) ≡ Some (Connected 9))
    × (heard_by_user (Taken (0x41 ∷ []) ∷ Octets (1 ∷ []) ∷ []) ≡ Some (Message (0x41 ∷ [])))
    × (heard_by_user (Taken (repeated 1023) ∷ []) ≡ Some (Message (repeated 1023)))
    × (heard_by_user (Accepted (0x41 ∷ []) ∷ by_peer ∷ []) ≡ None)
of_hearing = (refl, refl, refl, refl)

-- a text that was refused is heard of with its reason; a mind that tells adds what was heard, one that doesn't stays
abbrev telling : List user.Heard → Mind
telling heard = record { kind = Silent; count = 0; texts = []; told = Some heard }

pub of_refusals :
    (refused_in (Octets (1 ∷ []) ∷ Refused (RefusedFull 16) ∷ []) ≡ Some (RefusedFull 16))
    × (refused_in (by_peer ∷ Octets (1 ∷ []) ∷ []) ≡ None)
    × (refusal_heard (7 ∷ []) (Some (RefusedFull 16)) ≡ Some (user.Refused (7 ∷ []) (RefusedFull 16)))
    × (noted (Some (Message (8 ∷ []))) (telling (Connected 9 ∷ [])) ≡ telling (Connected 9 ∷ Message (8 ∷ []) ∷ []))
    × (noted (Some (Message (8 ∷ []))) (mind_of Echo []) ≡ mind_of Echo [])
of_refusals = (refl, refl, refl, refl, refl)

-- a moment that has come is due, one that comes isn't, and where none is set none is
pub of_moments : (is_due 5 (Some 5) ≡ true) × (is_due 5 (Some 4) ≡ true) × (is_due 5 (Some 6) ≡ false) × (is_due 5 None ≡ false)
of_moments = (refl, refl, refl, refl)

-- a read asks for 4,096 octets; 262,144 may wait for the line
pub of_sizes : (most_read ≡ 4096) × (most_output ≡ 262144)
of_sizes = (refl, refl)

abbrev listing : ℕ → Mind
listing n = mind_of Lister ((n ∷ []) ∷ [])

-- the last of the users is the next
pub of_users :
    (next_user (listing 1 ∷ listing 2 ∷ listing 3 ∷ []) ≡ Some (listing 3))
    × (other_users (listing 1 ∷ listing 2 ∷ listing 3 ∷ []) ≡ listing 1 ∷ listing 2 ∷ [])
    × (next_user [] ≡ None)
of_users = (refl, refl, refl)

abbrev ticked : (moment conn : ℕ) → JournalEntry
ticked moment conn = record { moment = moment; conn = conn; event = event.Tick; outcomes = [] }

-- the events of a connection are all that name it, in their order
pub of_parts : of 2 (ticked 1 2 ∷ ticked 2 1 ∷ ticked 3 22 ∷ ticked 4 2 ∷ []) ≡ ticked 1 2 ∷ ticked 4 2 ∷ []
unfolding of
of_parts = refl

-- what a write took is given, what it left isn't; what a read gave is taken
abbrev some_calls : List Call
some_calls =
    Writes 1 (1 ∷ 2 ∷ 3 ∷ []) (write.Some 2) ∷ Reads 1 4096 2 (Gave (7 ∷ 8 ∷ [])) ∷ Writes 2 (9 ∷ []) (write.Some 1) ∷ Writes 1 (3 ∷ []) write.NotNow
    ∷ Writes 1 (3 ∷ []) write.Failed ∷ Reads 1 4096 0 End ∷ Writes 1 (3 ∷ []) (write.Some 1) ∷ Closes 1 ∷ []

pub of_calls :
    (given_of 1 some_calls ≡ 1 ∷ 2 ∷ 3 ∷ []) × (taken_of 1 some_calls ≡ 7 ∷ 8 ∷ []) × (given_of 2 some_calls ≡ 9 ∷ [])
    × (calls_at 2 some_calls ≡ Writes 2 (9 ∷ []) (write.Some 1) ∷ [])
unfolding given_of taken_of calls_at
of_calls = (refl, refl, refl, refl)

-- a dial and an accept open a connection, other turns don't
pub of_openings :
    opened_in (Dials [] (Some 4) ∷ Turns None (happening.Accepted (record { 0 = 5 })) ∷ Turns None (happening.Readable (record { 0 = 5 })) ∷ Closes 5 ∷ [])
    ≡ 4 ∷ 5 ∷ []
unfolding opened_in
of_openings = refl

-- the session of a connection is the one with its number
pub of_sessions : {E : Type 0} (one other : E)
    → (session_of_connection 2 (begun 1 one (listing 1) ∷ begun 2 other (listing 2) ∷ []) ≡ Some (begun 2 other (listing 2)))
    × (session_of_connection 3 (begun 1 one (listing 1) ∷ begun 2 other (listing 2) ∷ []) ≡ None)
unfolding session_of_connection
of_sessions one other = (refl, refl)

-- a user's texts are sent in their order, and then it leaves
pub of_replies : replies (record { mind = listing 1; texts = (1 ∷ []) ∷ (2 ∷ []) ∷ []; leave = Some 3 }) ≡ Sends (1 ∷ []) ∷ Sends (2 ∷ []) ∷ Leaves 3 ∷ []
of_replies = refl

-- what is the second connection's own: what happens at it and at no connection, what is met at it, the user and the word that it finds
abbrev opened : (conn word : ℕ) → JournalEntry
opened conn word = record { moment = 0; conn = conn; event = event.Answer 9 word; outcomes = [] }

abbrev declined : (conn live : ℕ) → JournalEntry
declined conn live = record { moment = 0; conn = conn; event = event.Full live; outcomes = [] }

pub of_own :
    (own_happening 2 (happening.Readable (record { 0 = 2 })) ≡ happening.Readable (record { 0 = 2 }))
    × (own_happening 2 (happening.Writable (record { 0 = 1 })) ≡ happening.Quiet)
    × (own_happening 2 (happening.Accepted (record { 0 = 3 })) ≡ happening.Quiet)
    × (own_happening 2 happening.Ended ≡ happening.Ended)
    × (own_ticks 2 (nothing_met ∷ record nothing_met { waits = 5 } ∷ []) (1 ∷ 2 ∷ 3 ∷ []) ≡ record nothing_met { waits = 5 } ∷ [])
    × (own_users (user_of 2 (opened 1 7 ∷ declined 3 1 ∷ opened 2 8 ∷ []) (listing 1 ∷ listing 2 ∷ listing 3 ∷ [])) ≡ listing 2 ∷ [])
    × ((words : Stream) → own_words 2 (opened 1 7 ∷ declined 3 256 ∷ opened 2 8 ∷ opened 4 9 ∷ []) words ≡ (next_u64 words).1)
    × ((words : Stream) → own_words 2 (opened 1 7 ∷ declined 3 1 ∷ opened 2 8 ∷ []) words ≡ (next_u64 (next_u64 words).1).1)
unfolding own_ticks own_words user_of
of_own = (refl, refl, refl, refl, refl, refl, λ words. refl, λ words. refl)

-- its lines and the calls at it stand in their one order
pub of_deeds :
    deeds_on 2 (Calling (Turns None happening.Quiet) ∷ Printing (ticked 1 2) ∷ Calling (Closes 1) ∷ Printing (ticked 1 1) ∷ Calling (Closes 2) ∷ [])
    ≡ Printing (ticked 1 2) ∷ Calling (Closes 2) ∷ []
unfolding deeds_on
of_deeds = refl

-- ---- one whole loop

-- SABM of a train, UA and DISC of the radio block centre
abbrev sabm : List ℕ
sabm = 0x7e ∷ 0x01 ∷ 0x3f ∷ 0xeb ∷ 0xdf ∷ 0x7e ∷ []

abbrev ua : List ℕ
ua = 0x7e ∷ 0x01 ∷ 0x73 ∷ 0x83 ∷ 0x57 ∷ 0x7e ∷ []

abbrev disc : List ℕ
disc = 0x7e ∷ 0x03 ∷ 0x53 ∷ 0x31 ∷ 0x45 ∷ 0x7e ∷ []

abbrev plan : Plan
plan = record { settings = usual_settings; keys = []; rbc = 9; handed = 2; turns = 5; dials = false }

-- a turn before and behind which the clock says the same
abbrev turn_at : ℕ → Happening → Met → Turn
turn_at m what met = record { first = m; sweeps = record { ticks = []; closings = [] }; happening = what; second = m; met = met }

-- six octets are written at once
abbrev writing : Met
writing = record nothing_met { wrote = record { answers = write.Some 6 ∷ []; says = nothing_said } }

-- two connections are accepted; the first asks for a link and then says nothing; the line of the second ends; the set-up time of the first is spent
abbrev turns : List Turn
turns =
    turn_at 0 (happening.Accepted (record { 0 = 1 })) nothing_met ∷ turn_at 1 (happening.Accepted (record { 0 = 2 })) nothing_met
    ∷ turn_at 2 (happening.Readable (record { 0 = 1 })) (record writing { waits = 6; reading = Gave sabm })
    ∷ turn_at 3 (happening.Readable (record { 0 = 2 })) (record nothing_met { reading = End })
    ∷ record (turn_at 40000 happening.Quiet nothing_met) { sweeps = record { ticks = writing ∷ []; closings = [] } } ∷ []

abbrev served_so : Stream → Out (Course ModelEnd)
served_so words = run model_ends plan (beginning (mind_of Echo [] ∷ mind_of Echo [] ∷ []) words) turns

abbrev released : (reason sub : ℕ) → Outcome
released reason sub = WasReleased (record { reason = reason; sub = sub; by_peer = false })

abbrev at : (moment conn : ℕ) → Event → List Outcome → JournalEntry
at moment conn what outcomes = record { moment = moment; conn = conn; event = what; outcomes = outcomes }

pub of_loop : (words : Stream)
    → ((served_so words).entries
    ≡ at 0 1 (event.Answer 9 (next_u64 words).0) [] ∷ at 1 2 (event.Answer 9 (next_u64 (next_u64 words).1).0) []
    ∷ at 2 1 (event.Octets sabm) (Octets ua ∷ []) ∷ at 3 2 event.Ended (released 1 5 ∷ [])
    ∷ at 40000 1 event.Tick (released 6 1 ∷ Octets disc ∷ []) ∷ [])
    × ((served_so words).calls
    ≡ Turns None (happening.Accepted (record { 0 = 1 })) ∷ Turns (Some 40000) (happening.Accepted (record { 0 = 2 }))
    ∷ Turns (Some 40000) (happening.Readable (record { 0 = 1 })) ∷ Reads 1 4096 6 (Gave sabm) ∷ Writes 1 ua (write.Some 6)
    ∷ Turns (Some 40000) (happening.Readable (record { 0 = 2 })) ∷ Reads 2 4096 0 End ∷ Closes 2
    ∷ Writes 1 disc (write.Some 6) ∷ Closes 1 ∷ Turns None happening.Quiet ∷ [])
    × ((served_so words).state.loop.sessions ≡ [])
unfolding run went readied happened accepted before until swept visit_at visited served read_once rests session_kept_or_closed session_behind_writing writes
    writes_once acts exactly pours poured handled takes_all dealt fed joined end_after outcomes_of_given_event part_for_each_answer used_behind said
    hand_waiting_tpdus eight frames_of between_flags all_but_last cut verdict_on verdict_on_content checked_part check_number unescaped ends_in_escape
    spelling escaped escaped_octet content_of control_of fcs_of fcs_bits dividend remainder divided_once add_front sent_bits low_bits low_number
of_loop words = (refl, refl, refl)

-- a connection that finds a user and no memory takes a random word and leaves the user
pub of_want : (words : Stream)
    → let l : Loop ModelEnd = (beginning (mind_of Echo [] ∷ []) words).loop in
    ((accepted model_ends plan l 1 false).entries ≡ at 0 1 (event.Full 0) [] ∷ [])
    × ((accepted model_ends plan l 1 false).calls ≡ Closes 1 ∷ [])
    × ((accepted model_ends plan l 1 false).state ≡ record l { words = (next_u64 words).1 })
    × (random_words_of_entries (declined 1 0 ∷ declined 2 256 ∷ opened 3 7 ∷ []) ≡ None ∷ Some 7 ∷ [])
unfolding accepted random_words_of_entries
of_want words = (refl, refl, refl, refl)

-- what of it comes to a loop with the first connection alone, and with the second
pub of_own_turns : (words : Stream)
    → let c = beginning (mind_of Echo [] ∷ mind_of Echo [] ∷ []) words in
    (own_turns 1 plan c turns
    ≡ turn_at 0 (happening.Accepted (record { 0 = 1 })) nothing_met ∷ turn_at 1 happening.Quiet nothing_met
    ∷ turn_at 2 (happening.Readable (record { 0 = 1 })) (record writing { waits = 6; reading = Gave sabm }) ∷ turn_at 3 happening.Quiet nothing_met
    ∷ record (turn_at 40000 happening.Quiet nothing_met) { sweeps = record { ticks = writing ∷ []; closings = [] } } ∷ [])
    × (own_turns 2 plan c turns
    ≡ turn_at 0 happening.Quiet nothing_met ∷ turn_at 1 (happening.Accepted (record { 0 = 2 })) nothing_met ∷ turn_at 2 happening.Quiet nothing_met
    ∷ turn_at 3 (happening.Readable (record { 0 = 2 })) (record nothing_met { reading = End }) ∷ turn_at 40000 happening.Quiet nothing_met ∷ [])
unfolding run went readied happened accepted before until swept visit_at visited served read_once rests session_kept_or_closed session_behind_writing writes
    writes_once acts exactly pours poured handled takes_all dealt fed joined end_after outcomes_of_given_event part_for_each_answer used_behind said
    hand_waiting_tpdus eight frames_of between_flags all_but_last cut verdict_on verdict_on_content checked_part check_number unescaped ends_in_escape
    spelling escaped escaped_octet content_of control_of fcs_of fcs_bits dividend remainder divided_once add_front sent_bits low_bits low_number own_turns
    own_ticks
of_own_turns words = (refl, refl)
