-- A call is a step of the end model, and so is a run of calls.
use Rattle.std.proofs.Common.{◌≡◌, ℕ, Bool, true, false, List, [], ◌∷◌, ◌++◌, take, refl, sym, ap, ◌∙◌, subst}
use Rattle.std.specs.Prelude.{ℤ, Option, Some, None, if◌then◌else◌, slice_get}
use Rattle.er_base.specs.declared.release.Release.{Release as Why}
use Rattle.safety_automaton.specs.Keys.{KmacEntry, key_at}
use Rattle.er_end_model.specs.Outcomes.{Outcome, SendRefusal, ConnectedTo, Accepted, Taken, NothingToTake, Refused, WasReleased, Octets as Sent}
use Rattle.er_end_model.specs.Steps.{if_connected, if_accepted, if_released, if_octets, if_taken}
use Rattle.er_end_model.specs.Ends.{Opening, Call, Answer, Event, End, opened, step_event, refusal_or_outcomes}
use Rattle.er_end_model.specs.Ends as event
use Rattle.er_end.specs.Inboxes.{newest_of, first_in}
use Rattle.er_end.specs.KeptEnds.{KEnd, kept_end_behind_event, told_by, used_of, refusal_of_send, after_send, waiting_in}
use Rattle.x224_class2.specs.Standing.{CountsStand}
use Rattle.er_end.specs.Standing.{EndStands, MadeStands, StepsAlike, ShowsAlike}
use Rattle.er_end.specs.Standing as standing
use Rattle.er_end_c.specs.declared.handle.CEnd.{CEnd}
use Rattle.er_end_c.specs.declared.held.Held.{Held}
use Rattle.er_end_c.specs.declared.face.CDeeds.{CDeeds}
use Rattle.er_end_c.specs.Statuses.{late_moment, misused_start}
use Rattle.er_end_c.specs.Deeds.{no_deeds, deed_flag, deeds_told, status_told, release_deeds, counts_shown}
use Rattle.er_end_c.specs.Handles.{optional_key_entries, key_entries_of_handle, end_held_in_handle}
use Rattle.er_end_c.specs.Makings.{held_made, is_start_awaited_at, moment_of_opening}
use Rattle.er_end_c.specs.Reads.{text_of_held_end, text_or_empty, out_of, newest_accepted_message, message_last_taken, none_or, else_, deadline_status, shown_deadline, shown_release_status, shown_release, count_waiting_at_handle, count_unsent_at_handle, shown_counts, peer_unless_released, connection_status, shown_peer}
use Rattle.er_end_c.specs.Calls.{HandleCall, Start, Octets, Send, Take, Release, Tick, Ended, Fault, Stalled, is_moment_too_late, moment_of, event_of, octet_count_of_call, finds_in, handle_end_behind_call, told_at, deeds_at, deeds_with_back, is_back, is_start_misused, start_awaited_behind, last_moment_behind, peer_noted, held_behind_call, held_after, status_after, deeds_after, DoesHandleCall}
use Rattle.er_end_c.proofs.Taking.{last_taken}
use Rattle.er_end_c.proofs.Using.{uses_octets}
use Rattle.er_end_c.specs.Used.{UsesOctets}
use Rattle.hdlc_frames.specs.Laws.{KeptStandsForStream}
use Rattle.er_end_c.specs.Runs.{Answered, HasTexts, LeadsToHandle, Reception, IsEvent, IsLate, IsMisused, reception_on_time, reception_of, left_by, is_start_due_at, is_due_behind, is_due_after, event_used, stepped, model_after, model_run, is_send_refused, octets_told, accepted_told, taken_told, is_take, IsAnsweredAs, AreAnswered, greatest_passed, back_told, TellBack, peer_told, peer_after, peer_behind_calls, TellsPeer, ReadsAs, RunsAsModel}

-- ---- texts

octets_all : (c : Option ℕ) (n : Option (List ℕ)) (l : Option Why) (os : List ℕ) → octets_told (if_connected c ++ if_accepted n ++ if_released l ++ if_octets os) ≡ os
octets_all None None None [] = refl
octets_all None None None (o ∷ os) = refl
octets_all None None (Some why) [] = refl
octets_all None None (Some why) (o ∷ os) = refl
octets_all None (Some m) None [] = refl
octets_all None (Some m) None (o ∷ os) = refl
octets_all None (Some m) (Some why) [] = refl
octets_all None (Some m) (Some why) (o ∷ os) = refl
octets_all (Some peer) None None [] = refl
octets_all (Some peer) None None (o ∷ os) = refl
octets_all (Some peer) None (Some why) [] = refl
octets_all (Some peer) None (Some why) (o ∷ os) = refl
octets_all (Some peer) (Some m) None [] = refl
octets_all (Some peer) (Some m) None (o ∷ os) = refl
octets_all (Some peer) (Some m) (Some why) [] = refl
octets_all (Some peer) (Some m) (Some why) (o ∷ os) = refl

octets_by : (k : KEnd) → octets_told (told_by k) ≡ out_of k
octets_by k = octets_all k.core.connected (newest_of k.core.upper.inbox) k.core.leaves k.core.line.out

octets_taken : (o : Option (List ℕ)) (xs : List Outcome) → octets_told (if_taken o ++ xs) ≡ octets_told xs
octets_taken None xs = refl
octets_taken (Some m) xs = refl

accepted_all : (c : Option ℕ) (n : Option (List ℕ)) (l : Option Why) (os : List ℕ) → accepted_told (if_connected c ++ if_accepted n ++ if_released l ++ if_octets os) ≡ text_or_empty n
accepted_all None None None [] = refl
accepted_all None None None (o ∷ os) = refl
accepted_all None None (Some why) [] = refl
accepted_all None None (Some why) (o ∷ os) = refl
accepted_all None (Some m) None [] = refl
accepted_all None (Some m) None (o ∷ os) = refl
accepted_all None (Some m) (Some why) [] = refl
accepted_all None (Some m) (Some why) (o ∷ os) = refl
accepted_all (Some peer) None None [] = refl
accepted_all (Some peer) None None (o ∷ os) = refl
accepted_all (Some peer) None (Some why) [] = refl
accepted_all (Some peer) None (Some why) (o ∷ os) = refl
accepted_all (Some peer) (Some m) None [] = refl
accepted_all (Some peer) (Some m) None (o ∷ os) = refl
accepted_all (Some peer) (Some m) (Some why) [] = refl
accepted_all (Some peer) (Some m) (Some why) (o ∷ os) = refl

accepted_by : (k : KEnd) → accepted_told (told_by k) ≡ newest_accepted_message k
accepted_by k = accepted_all k.core.connected (newest_of k.core.upper.inbox) k.core.leaves k.core.line.out

accepted_taken : (o : Option (List ℕ)) (xs : List Outcome) → accepted_told (if_taken o ++ xs) ≡ accepted_told xs
accepted_taken None xs = refl
accepted_taken (Some m) xs = refl

-- a send
sent_by : (f : List Outcome → List ℕ) (r : Option SendRefusal) (xs : List Outcome) (out : List ℕ) → f xs ≡ out → is_send_refused (refusal_or_outcomes r xs) ≡ false → f (refusal_or_outcomes r xs) ≡ out
sent_by f None xs out e n = e
sent_by f (Some refusal_of_send) xs out e n = absurd (cc n)

octets_at : (call : HandleCall) (h : Held) → is_send_refused (told_at call h) ≡ false → octets_told (told_at call h) ≡ out_of (handle_end_behind_call call h)
octets_at (Start now) h n = octets_by (handle_end_behind_call (Start now) h)
octets_at (Octets now piece) h n = octets_by (handle_end_behind_call (Octets now piece) h)
octets_at (Send now text) h n = sent_by octets_told (refusal_of_send text h.end) (told_by (after_send now text h.end)) (out_of (after_send now text h.end)) (octets_by (after_send now text h.end)) n
octets_at (Take now) h n = octets_taken (slice_get h.end.core.upper.inbox.waits 0) (told_by (handle_end_behind_call (Take now) h)) ∙ octets_by (handle_end_behind_call (Take now) h)
octets_at (Release now sub) h n = octets_by (handle_end_behind_call (Release now sub) h)
octets_at (Tick now) h n = octets_by (handle_end_behind_call (Tick now) h)
octets_at Ended h n = octets_by (handle_end_behind_call Ended h)
octets_at Fault h n = octets_by (handle_end_behind_call Fault h)
octets_at Stalled h n = octets_by (handle_end_behind_call Stalled h)

accepted_at : (call : HandleCall) (h : Held) → is_send_refused (told_at call h) ≡ false → accepted_told (told_at call h) ≡ newest_accepted_message (handle_end_behind_call call h)
accepted_at (Start now) h n = accepted_by (handle_end_behind_call (Start now) h)
accepted_at (Octets now piece) h n = accepted_by (handle_end_behind_call (Octets now piece) h)
accepted_at (Send now text) h n = sent_by accepted_told (refusal_of_send text h.end) (told_by (after_send now text h.end)) (newest_accepted_message (after_send now text h.end)) (accepted_by (after_send now text h.end)) n
accepted_at (Take now) h n = accepted_taken (slice_get h.end.core.upper.inbox.waits 0) (told_by (handle_end_behind_call (Take now) h)) ∙ accepted_by (handle_end_behind_call (Take now) h)
accepted_at (Release now sub) h n = accepted_by (handle_end_behind_call (Release now sub) h)
accepted_at (Tick now) h n = accepted_by (handle_end_behind_call (Tick now) h)
accepted_at Ended h n = accepted_by (handle_end_behind_call Ended h)
accepted_at Fault h n = accepted_by (handle_end_behind_call Fault h)
accepted_at Stalled h n = accepted_by (handle_end_behind_call Stalled h)

taken_first : (ms : List (List ℕ)) (xs : List Outcome) → taken_told (if_taken (slice_get ms 0) ++ xs) ≡ first_in ms
taken_first [] xs = refl
taken_first (m ∷ ms) xs = refl

taken_at : (call : HandleCall) (h : Held) → is_take call ≡ true → taken_told (told_at call h) ≡ message_last_taken (handle_end_behind_call call h)
taken_at (Start now) h t = absurd (cc t)
taken_at (Octets now piece) h t = absurd (cc t)
taken_at (Send now text) h t = absurd (cc t)
taken_at (Take now) h t = taken_first (waiting_in h.end) (told_by (handle_end_behind_call (Take now) h)) ∙ sym (last_taken now h.end)
taken_at (Release now sub) h t = absurd (cc t)
taken_at (Tick now) h t = absurd (cc t)
taken_at Ended h t = absurd (cc t)
taken_at Fault h t = absurd (cc t)
taken_at Stalled h t = absurd (cc t)

-- ---- one call

-- a handle holds an end that stands for this one, with these keys and this peer, behind this moment, at which a start is due or isn't
record Holds (end : CEnd) (entries : List KmacEntry) (m : End) (peer : Option ℕ) (last : ℕ) (is_due : Bool) : Type 0 where
  found : Held
  there : end_held_in_handle end ≡ Some found
  keyed : key_entries_of_handle found ≡ entries
  tied : EndStands found.end m
  named : found.peer ≡ peer
  passed : found.last ≡ last
  due : found.awaits_start ≡ is_due

-- the peer that deeds name is the one that their outcomes tell
noted : (outcomes : List Outcome) (used : ℕ) (before : Option ℕ) → peer_noted (record (deeds_told outcomes) { used = used }) before ≡ peer_told outcomes before
noted [] used before = refl
noted (ConnectedTo peer ∷ outcomes) used before = refl
noted (Accepted message ∷ outcomes) used before = noted outcomes used before
noted (Taken message ∷ outcomes) used before = noted outcomes used before
noted (NothingToTake ∷ outcomes) used before = noted outcomes used before
noted (Refused refusal ∷ outcomes) used before = noted outcomes used before
noted (WasReleased why ∷ outcomes) used before = noted outcomes used before
noted (Sent octets ∷ outcomes) used before = noted outcomes used before

event_same : (call : HandleCall) (entries : List KmacEntry) (h : Held) (used : ℕ) → key_entries_of_handle h ≡ entries → used ≡ octet_count_of_call call h.end
    → standing.event_of h.end (event_of (finds_in h) call) ≡ event_used (key_at entries) call used
event_same (Start now) entries h used e u = refl
event_same (Octets now piece) entries h used e u =
    ap (λ (es : List KmacEntry). event.Come (key_at es) (take (used_of h.end piece) piece)) e ∙ ap (λ n. event.Come (key_at entries) (take n piece)) (sym u)
event_same (Send now text) entries h used e u = refl
event_same (Take now) entries h used e u = refl
event_same (Release now sub) entries h used e u = refl
event_same (Tick now) entries h used e u = refl
event_same Ended entries h used e u = refl
event_same Fault entries h used e u = refl
event_same Stalled entries h used e u = refl

-- moments that were passed, in the words of the law
greatest_same : (call : HandleCall) (n : ℕ) → last_moment_behind call n ≡ greatest_passed call n
greatest_same (Start now) n = refl
greatest_same (Octets now piece) n = refl
greatest_same (Send now text) n = refl
greatest_same (Take now) n = refl
greatest_same (Release now sub) n = refl
greatest_same (Tick now) n = refl
greatest_same Ended n = refl
greatest_same Fault n = refl
greatest_same Stalled n = refl

back_same : (call : HandleCall) (n : ℕ) → deed_flag (is_back call n) ≡ back_told call n
back_same (Start now) n = refl
back_same (Octets now piece) n = refl
back_same (Send now text) n = refl
back_same (Take now) n = refl
back_same (Release now sub) n = refl
back_same (Tick now) n = refl
back_same Ended n = refl
back_same Fault n = refl
back_same Stalled n = refl

-- starts, in the words of the law
due_same : (call : HandleCall) (b : Bool) → start_awaited_behind call b ≡ is_due_behind call b
due_same (Start now) b = refl
due_same (Octets now piece) b = refl
due_same (Send now text) b = refl
due_same (Take now) b = refl
due_same (Release now sub) b = refl
due_same (Tick now) b = refl
due_same Ended b = refl
due_same Fault b = refl
due_same Stalled b = refl

due_at : (opening : Opening) → is_start_awaited_at opening ≡ is_start_due_at opening
due_at (Call settings me peer kmac rb now) = refl
due_at (Answer settings me ra now) = refl

-- what a call is received as, where its faults are tried one by one
left_on_time : {A : Type 0} → (call : HandleCall) (b : Bool) (behind before : A)
    → (if is_start_misused call b then before else behind) ≡ left_by (reception_on_time call b) behind before
left_on_time (Start now) true behind before = refl
left_on_time (Start now) false behind before = refl
left_on_time (Octets now piece) b behind before = refl
left_on_time (Send now text) b behind before = refl
left_on_time (Take now) b behind before = refl
left_on_time (Release now sub) b behind before = refl
left_on_time (Tick now) b behind before = refl
left_on_time Ended b behind before = refl
left_on_time Fault b behind before = refl
left_on_time Stalled b behind before = refl

left : {A : Type 0} → (late : Bool) (call : HandleCall) (b : Bool) (behind before : A)
    → (if late then before else if is_start_misused call b then before else behind) ≡ left_by (if late then IsLate else reception_on_time call b) behind before
left true call b behind before = refl
left false call b behind before = left_on_time call b behind before

abbrev status_as : Reception → ℤ → ℤ
status_as IsEvent s = s
status_as IsLate s = late_moment
status_as IsMisused s = misused_start

status_on_time : (call : HandleCall) (b : Bool) (s : ℤ) → (if is_start_misused call b then misused_start else s) ≡ status_as (reception_on_time call b) s
status_on_time (Start now) true s = refl
status_on_time (Start now) false s = refl
status_on_time (Octets now piece) b s = refl
status_on_time (Send now text) b s = refl
status_on_time (Take now) b s = refl
status_on_time (Release now sub) b s = refl
status_on_time (Tick now) b s = refl
status_on_time Ended b s = refl
status_on_time Fault b s = refl
status_on_time Stalled b s = refl

status_left : (late : Bool) (call : HandleCall) (b : Bool) (s : ℤ)
    → (if late then late_moment else if is_start_misused call b then misused_start else s) ≡ status_as (if late then IsLate else reception_on_time call b) s
status_left true call b s = refl
status_left false call b s = status_on_time call b s

one_at : StepsAlike → KeptStandsForStream → (r : Reception) (entries : List KmacEntry) (a : Answered) (next : CEnd) (m : End) (peer : Option ℕ) (last : ℕ) (is_due : Bool) (h : Held) → key_entries_of_handle h ≡ entries → EndStands h.end m
    → h.peer ≡ peer → h.last ≡ last → h.awaits_start ≡ is_due
    → end_held_in_handle next ≡ left_by r (Some (held_behind_call a.call h)) (Some h)
    → a.status ≡ status_as r (status_told (told_at a.call h))
    → a.deeds ≡ left_by r (deeds_with_back (is_back a.call h.last) (deeds_at a.call h)) no_deeds
    → HasTexts next a
    → IsAnsweredAs r (key_at entries) a m × (a.deeds.back ≡ left_by r (back_told a.call last) 0)
    × Holds next entries (left_by r (stepped (key_at entries) a m).0 m) (left_by r (peer_told (stepped (key_at entries) a m).1 peer) peer)
    (left_by r (greatest_passed a.call last) last) (left_by r (is_due_behind a.call is_due) is_due)
one_at steps keeps IsLate entries a next m peer last is_due h e tied named passed due there s d t =
    ((s, d), ap (λ (x : CDeeds). x.back) d, record { found = h; there = there; keyed = e; tied = tied; named = named; passed = passed; due = due })
one_at steps keeps IsMisused entries a next m peer last is_due h e tied named passed due there s d t =
    ((s, d), ap (λ (x : CDeeds). x.back) d, record { found = h; there = there; keyed = e; tied = tied; named = named; passed = passed; due = due })
one_at steps keeps IsEvent entries a next m peer last is_due h e tied named passed due there s d t =
    let k : KEnd = h.end in let now : ℕ = moment_of a.call in let ev : Event = event_of (finds_in h) a.call in
    let u : a.deeds.used ≡ octet_count_of_call a.call k = ap (λ (x : CDeeds). x.used) d in
    let back : ℕ = deed_flag (is_back a.call h.last) in
    let w : a.deeds.back ≡ back = ap (λ (x : CDeeds). x.back) d in
    let same = event_same a.call entries h a.deeds.used e u in
    let p = steps now ev k m tied in
    let told : told_at a.call h ≡ (stepped (key_at entries) a m).1 = p.1 ∙ ap (λ (x : Event). (step_event now x m).1) same in
    let unrefused : is_send_refused (stepped (key_at entries) a m).1 ≡ false → is_send_refused (told_at a.call h) ≡ false = λ n. ap is_send_refused told ∙ n in (
      (
        record {
          answer = s ∙ ap status_told told;
          tells = d ∙ ap (λ (x : List Outcome). record (deeds_told x) { used = octet_count_of_call a.call k; back = back }) told
              ∙ ap (λ n. record (deeds_told (stepped (key_at entries) a m).1) { used = n; back = back }) (sym u)
              ∙ ap (λ n. record (deeds_told (stepped (key_at entries) a m).1) { used = a.deeds.used; back = n }) (sym w);
          sent = λ n. t.out_there ∙ ap (text_of_held_end out_of) there ∙ sym (octets_at a.call h (unrefused n)) ∙ ap octets_told told;
          came = λ n. t.accepted_there ∙ ap (text_of_held_end newest_accepted_message) there ∙ sym (accepted_at a.call h (unrefused n)) ∙ ap accepted_told told;
          took = λ n. t.taken_there ∙ ap (text_of_held_end message_last_taken) there ∙ sym (taken_at a.call h n) ∙ ap taken_told told;
        },
        subst (λ (n : ℕ). UsesOctets a.call m n) (sym u) (uses_octets keeps a.call k m tied),
      ),
      w ∙ ap (λ n. deed_flag (is_back a.call n)) passed ∙ back_same a.call last,
      record {
        found = held_behind_call a.call h;
        there = there;
        keyed = e;
        tied = subst (λ (x : Event). EndStands (kept_end_behind_event now ev k) (step_event now x m).0) same p.0;
        named = noted (told_at a.call h) (octet_count_of_call a.call k) h.peer ∙ ap (peer_told (told_at a.call h)) named ∙ ap (λ (x : List Outcome). peer_told x peer) told;
        passed = ap (last_moment_behind a.call) passed ∙ greatest_same a.call last;
        due = ap (start_awaited_behind a.call) due ∙ due_same a.call is_due;
      },
    )

one : StepsAlike → KeptStandsForStream → (entries : List KmacEntry) (a : Answered) (first next : CEnd) (m : End) (peer : Option ℕ) (last : ℕ) (is_due : Bool) → Holds first entries m peer last is_due
    → DoesHandleCall a.call first next a.status a.deeds → HasTexts next a
    → IsAnsweredAs (reception_of a.call is_due) (key_at entries) a m × (a.deeds.back ≡ left_by (reception_of a.call is_due) (back_told a.call last) 0)
    × Holds next entries (model_after (key_at entries) a is_due m) (peer_after (key_at entries) a is_due m peer) (left_by (reception_of a.call is_due) (greatest_passed a.call last) last)
    (is_due_after a.call is_due)
one steps keeps entries a first next m peer last is_due holds does texts =
    let h : Held = holds.found in let late : Bool = is_moment_too_late (moment_of a.call) in
    one_at steps keeps (reception_of a.call is_due) entries a next m peer last is_due h holds.keyed holds.tied holds.named holds.passed holds.due
    (
    does.held ∙ ap (held_after a.call) holds.there ∙ left late a.call h.awaits_start (Some (held_behind_call a.call h)) (Some h)
    ∙ ap (λ (b : Bool). left_by (reception_of a.call b) (Some (held_behind_call a.call h)) (Some h)) holds.due
    )
    (
    does.answer ∙ ap (status_after a.call) holds.there ∙ status_left late a.call h.awaits_start (status_told (told_at a.call h))
    ∙ ap (λ (b : Bool). status_as (reception_of a.call b) (status_told (told_at a.call h))) holds.due
    )
    (
    does.tells ∙ ap (deeds_after a.call) holds.there
    ∙ left late a.call h.awaits_start (deeds_with_back (is_back a.call h.last) (deeds_at a.call h)) no_deeds
    ∙ ap (λ (b : Bool). left_by (reception_of a.call b) (deeds_with_back (is_back a.call h.last) (deeds_at a.call h)) no_deeds) holds.due
    )
    texts

-- ---- what is read

reads : ShowsAlike → CountsStand → (end : CEnd) (entries : List KmacEntry) (m : End) (peer : Option ℕ) (last : ℕ) (is_due : Bool) → Holds end entries m peer last is_due → ReadsAs end m
reads shows counted end entries m peer last is_due holds =
    let k : KEnd = holds.found.end in let s = shows k m holds.tied in
    record {
      wanted = ap deadline_status holds.there ∙ ap none_or s.0;
      moment = λ before. ap (shown_deadline before) holds.there ∙ ap (else_ before) s.0;
      over = ap shown_release_status holds.there ∙ ap none_or s.1;
      why = ap shown_release holds.there ∙ ap release_deeds s.1;
      waits = ap count_waiting_at_handle holds.there ∙ s.2;
      unsent = ap count_unsent_at_handle holds.there ∙ (counted k.core.upper.transport m.core.upper.transport holds.tied.core.upper.transport).1;
      counts = ap shown_counts holds.there ∙ ap counts_shown s.4;
    }

tells_peer : ShowsAlike → (end : CEnd) (entries : List KmacEntry) (m : End) (peer : Option ℕ) (last : ℕ) (is_due : Bool) → Holds end entries m peer last is_due → TellsPeer end m peer
tells_peer shows end entries m peer last is_due holds =
    let k : KEnd = holds.found.end in let s = shows k m holds.tied in
    let same : peer_unless_released k.core.released holds.found.peer ≡ peer_unless_released m.core.released peer =
    ap (λ (why : Option Why). peer_unless_released why holds.found.peer) s.1 ∙ ap (peer_unless_released m.core.released) holds.named in
    record {
      stands = ap connection_status holds.there ∙ ap none_or same;
      named = λ before. ap (shown_peer before) holds.there ∙ ap (else_ before) same;
    }

-- ---- a run

run_from : StepsAlike → KeptStandsForStream → ShowsAlike → CountsStand → (entries : List KmacEntry) (calls : List Answered) (first last : CEnd) (m : End) (peer : Option ℕ) (before : ℕ) (is_due : Bool) → Holds first entries m peer before is_due
    → LeadsToHandle calls first last
    → AreAnswered (key_at entries) calls is_due m × TellBack calls is_due before × ReadsAs last (model_run (key_at entries) calls is_due m)
    × TellsPeer last (model_run (key_at entries) calls is_due m) (peer_behind_calls (key_at entries) calls is_due m peer)
run_from steps keeps shows counted entries [] first last m peer before is_due holds same =
    let here : Holds last entries m peer before is_due = record { found = holds.found; there = same ∙ holds.there; keyed = holds.keyed; tied = holds.tied; named = holds.named; passed = holds.passed; due = holds.due } in
    (tt, tt, reads shows counted last entries m peer before is_due here, tells_peer shows last entries m peer before is_due here)
run_from steps keeps shows counted entries (a ∷ calls) first last m peer before is_due holds leads =
    let next : CEnd = leads.0 in
    let o = one steps keeps entries a first next m peer before is_due holds leads.1 leads.2 in
    let rest = run_from steps keeps shows counted entries calls next last (model_after (key_at entries) a is_due m) (peer_after (key_at entries) a is_due m peer)
    (left_by (reception_of a.call is_due) (greatest_passed a.call before) before) (is_due_after a.call is_due) o.2 leads.3 in
    ((o.0, rest.0), (o.1, rest.1), rest.2, rest.3)

pub runs_as_model : MadeStands → StepsAlike → KeptStandsForStream → ShowsAlike → CountsStand → RunsAsModel
runs_as_model made steps keeps shows counted opening entries calls first last allowed is leads =
    run_from steps keeps shows counted (optional_key_entries entries) calls first last (opened opening) None (moment_of_opening opening) (is_start_due_at opening)
    (record { found = held_made opening entries; there = is; keyed = refl; tied = made opening allowed; named = refl; passed = refl; due = due_at opening }) leads
