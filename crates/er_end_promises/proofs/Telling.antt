-- What the outcomes of a call are, by kind.
use Rattle.std.proofs.Common.{◌≡◌, ◌∙◌, ℕ, List, [], ◌∷◌, ◌++◌, Option, Some, None, refl, sym, ap, append-nil, append_assoc}
use Rattle.std.specs.Prelude.{slice_get}
use Rattle.std.specs.Option.{option_to_list}
use Rattle.er_base.specs.declared.release.Release.{Release}
use Rattle.er_end_model.specs.Outcomes.{Outcome, ConnectedTo, Accepted, Taken, NothingToTake, Refused, WasReleased, Octets, SendRefusal}
use Rattle.er_end_model.specs.Steps.{if_connected, if_accepted, if_released, if_octets, if_taken}
use Rattle.er_end_model.specs.Ends.{Event, Start, Come, Send, Take, Leave, Tick, Ended, Fault, Stalled, Moment, refusal_or_outcomes}
use Rattle.er_base.specs.declared.cause.Cause.TheVariants.{LineEnded, LineFailed, LineStalled}
use Rattle.er_end.specs.Inboxes.{newest_of}
use Rattle.er_end.specs.Keeping.{accepted_in}
use Rattle.er_end.specs.KeptEnds.{KEnd, told_by, tells, waiting_in, refusal_of_send, kept_end_behind_event, after_start, after_octets, after_send, after_take, after_release, after_tick, after_break}
use Rattle.er_end.specs.Standing.{event_of, kept_run, kept_outcomes}
use Rattle.er_end_model.specs.Origins.{octets_brought_by_event}
use Rattle.er_end_promises.specs.Told.{messages_taken, octets_for_line}
use Rattle.er_end_promises.specs.Calls.{IsEventDone, taken_at_event, octets_used, TellsWhatItLends, CallsTellDeeds, CallsInTurn}

pub accepted-append : (xs ys : List Outcome) → accepted_in (xs ++ ys) ≡ accepted_in xs ++ accepted_in ys
accepted-append [] ys = refl
accepted-append (ConnectedTo peer ∷ xs) ys = accepted-append xs ys
accepted-append (Accepted message ∷ xs) ys = ap (λ z. message ∷ z) (accepted-append xs ys)
accepted-append (Taken message ∷ xs) ys = accepted-append xs ys
accepted-append (NothingToTake ∷ xs) ys = accepted-append xs ys
accepted-append (Refused refusal ∷ xs) ys = accepted-append xs ys
accepted-append (WasReleased release ∷ xs) ys = accepted-append xs ys
accepted-append (Octets octets ∷ xs) ys = accepted-append xs ys

pub line-append : (xs ys : List Outcome) → octets_for_line (xs ++ ys) ≡ octets_for_line xs ++ octets_for_line ys
line-append [] ys = refl
line-append (ConnectedTo peer ∷ xs) ys = line-append xs ys
line-append (Accepted message ∷ xs) ys = line-append xs ys
line-append (Taken message ∷ xs) ys = line-append xs ys
line-append (NothingToTake ∷ xs) ys = line-append xs ys
line-append (Refused refusal ∷ xs) ys = line-append xs ys
line-append (WasReleased release ∷ xs) ys = line-append xs ys
line-append (Octets octets ∷ xs) ys = ap (λ z. octets ++ z) (line-append xs ys) ∙ sym (append_assoc octets (octets_for_line xs) (octets_for_line ys))

pub taken-append : (xs ys : List Outcome) → messages_taken (xs ++ ys) ≡ messages_taken xs ++ messages_taken ys
taken-append [] ys = refl
taken-append (ConnectedTo peer ∷ xs) ys = taken-append xs ys
taken-append (Accepted message ∷ xs) ys = taken-append xs ys
taken-append (Taken message ∷ xs) ys = ap (λ z. message ∷ z) (taken-append xs ys)
taken-append (NothingToTake ∷ xs) ys = taken-append xs ys
taken-append (Refused refusal ∷ xs) ys = taken-append xs ys
taken-append (WasReleased release ∷ xs) ys = taken-append xs ys
taken-append (Octets octets ∷ xs) ys = taken-append xs ys

-- what an end shows of an event: the message that it accepted, none that was taken, and octets
record Shown (outcomes : List Outcome) (accepted : Option (List ℕ)) (out : List ℕ) : Type 0 where
  pub accepts : accepted_in outcomes ≡ option_to_list accepted
  pub none : messages_taken outcomes ≡ []
  pub line : octets_for_line outcomes ≡ out

shown : (c : Option ℕ) (m : Option (List ℕ)) (l : Option Release) (os : List ℕ) → Shown (if_connected c ++ if_accepted m ++ if_released l ++ if_octets os) m os
shown None None None [] = record { accepts = refl; none = refl; line = refl }
shown None None None (o ∷ os) = record { accepts = refl; none = refl; line = append-nil (o ∷ os) }
shown None None (Some why) [] = record { accepts = refl; none = refl; line = refl }
shown None None (Some why) (o ∷ os) = record { accepts = refl; none = refl; line = append-nil (o ∷ os) }
shown None (Some m) None [] = record { accepts = refl; none = refl; line = refl }
shown None (Some m) None (o ∷ os) = record { accepts = refl; none = refl; line = append-nil (o ∷ os) }
shown None (Some m) (Some why) [] = record { accepts = refl; none = refl; line = refl }
shown None (Some m) (Some why) (o ∷ os) = record { accepts = refl; none = refl; line = append-nil (o ∷ os) }
shown (Some peer) None None [] = record { accepts = refl; none = refl; line = refl }
shown (Some peer) None None (o ∷ os) = record { accepts = refl; none = refl; line = append-nil (o ∷ os) }
shown (Some peer) None (Some why) [] = record { accepts = refl; none = refl; line = refl }
shown (Some peer) None (Some why) (o ∷ os) = record { accepts = refl; none = refl; line = append-nil (o ∷ os) }
shown (Some peer) (Some m) None [] = record { accepts = refl; none = refl; line = refl }
shown (Some peer) (Some m) None (o ∷ os) = record { accepts = refl; none = refl; line = append-nil (o ∷ os) }
shown (Some peer) (Some m) (Some why) [] = record { accepts = refl; none = refl; line = refl }
shown (Some peer) (Some m) (Some why) (o ∷ os) = record { accepts = refl; none = refl; line = append-nil (o ∷ os) }

pub accepted_shown : (c : Option ℕ) (m : Option (List ℕ)) (l : Option Release) (os : List ℕ) → accepted_in (if_connected c ++ if_accepted m ++ if_released l ++ if_octets os) ≡ option_to_list m
accepted_shown c m l os = (shown c m l os).accepts

shown_by : (k : KEnd) → Shown (told_by k) (newest_of k.core.upper.inbox) k.core.line.out
shown_by k = shown k.core.connected (newest_of k.core.upper.inbox) k.core.leaves k.core.line.out

pub news_told : (k : KEnd) → accepted_in (told_by k) ≡ option_to_list (newest_of k.core.upper.inbox)
news_told k = (shown_by k).accepts

none_taken : (k : KEnd) → messages_taken (told_by k) ≡ []
none_taken k = (shown_by k).none

none_refused : (refusal : Option SendRefusal) (xs : List Outcome) → messages_taken xs ≡ [] → messages_taken (refusal_or_outcomes refusal xs) ≡ []
none_refused (Some refusal) xs e = refl
none_refused None xs e = e

taken_first : (message : Option (List ℕ)) (xs : List Outcome) → messages_taken xs ≡ [] → messages_taken (if_taken message ++ xs) ≡ option_to_list message
taken_first None xs e = e
taken_first (Some message) xs e = ap (λ z. message ∷ z) e

pub taken_told : (now : ℕ) (event : Event) (k : KEnd) → messages_taken (tells now event k) ≡ taken_at_event event (waiting_in k)
taken_told now Start k = none_taken (after_start now k)
taken_told now (Come finds octets) k = none_taken (after_octets finds now octets k)
taken_told now (Send user) k = none_refused (refusal_of_send user k) (told_by (after_send now user k)) (none_taken (after_send now user k))
taken_told now Take k = taken_first (slice_get (waiting_in k) 0) (told_by (after_take now k)) (none_taken (after_take now k))
taken_told now (Leave sub) k = none_taken (after_release now sub k)
taken_told now Tick k = none_taken (after_tick now k)
taken_told now Ended k = none_taken (after_break LineEnded k)
taken_told now Fault k = none_taken (after_break LineFailed k)
taken_told now Stalled k = none_taken (after_break LineStalled k)

-- ---- what calls tell for the line, and that they accept what is lent

shows_done : (now : ℕ) (event : Event) (k : KEnd) → tells now event k ≡ told_by (kept_end_behind_event now event k) → TellsWhatItLends now event k
shows_done now event k is =
    let s = shown_by (kept_end_behind_event now event k) in record { line = ap octets_for_line is ∙ s.line; accepted = ap accepted_in is ∙ s.accepts }

sent_done : (refusal : Option SendRefusal) (xs : List Outcome) → refusal ≡ None → refusal_or_outcomes refusal xs ≡ xs
sent_done None xs e = refl
sent_done (Some refusal) xs e = absurd (cc e)

line_refused : (refusal : Option SendRefusal) (xs : List Outcome) → (refusal ≡ None → ⊥) → octets_for_line (refusal_or_outcomes refusal xs) ≡ []
line_refused None xs some = absurd (some refl)
line_refused (Some refusal) xs some = refl

line_first : (message : Option (List ℕ)) (xs : List Outcome) → octets_for_line (if_taken message ++ xs) ≡ octets_for_line xs
line_first None xs = refl
line_first (Some message) xs = refl

accepted_first : (message : Option (List ℕ)) (xs : List Outcome) → accepted_in (if_taken message ++ xs) ≡ accepted_in xs
accepted_first None xs = refl
accepted_first (Some message) xs = refl

calls_done : (now : ℕ) (event : Event) (k : KEnd) → IsEventDone event k → TellsWhatItLends now event k
calls_done now Start k done = shows_done now Start k refl
calls_done now (Come finds octets) k done = shows_done now (Come finds octets) k refl
calls_done now (Send user) k done = shows_done now (Send user) k (sent_done (refusal_of_send user k) (told_by (after_send now user k)) done)
calls_done now Take k done =
    let s = shown_by (after_take now k) in
    record {
      line = line_first (slice_get (waiting_in k) 0) (told_by (after_take now k)) ∙ s.line;
      accepted = accepted_first (slice_get (waiting_in k) 0) (told_by (after_take now k)) ∙ s.accepts;
    }
calls_done now (Leave sub) k done = shows_done now (Leave sub) k refl
calls_done now Tick k done = shows_done now Tick k refl
calls_done now Ended k done = shows_done now Ended k refl
calls_done now Fault k done = shows_done now Fault k refl
calls_done now Stalled k done = shows_done now Stalled k refl

nothing_out : (now : ℕ) (k : KEnd) → waiting_in k ≡ [] → (after_take now k).core.line.out ≡ []
unfolding after_take
nothing_out now k e = rw e refl

pub calls_tell_deeds : CallsTellDeeds
calls_tell_deeds = record {
  done = calls_done;
  taken = taken_told;
  refused = λ now user k some. line_refused (refusal_of_send user k) (told_by (after_send now user k)) some;
  nothing = λ now k e. line_first (slice_get (waiting_in k) 0) (told_by (after_take now k)) ∙ (shown_by (after_take now k)).line ∙ nothing_out now k e;
}

-- ---- many calls

run-append : (calls later : List Moment) (k : KEnd) → kept_run (calls ++ later) k ≡ kept_run later (kept_run calls k)
run-append [] later k = refl
run-append (e ∷ calls) later k = run-append calls later (kept_end_behind_event e.now e.event k)

told-append : (calls later : List Moment) (k : KEnd) → kept_outcomes (calls ++ later) k ≡ kept_outcomes calls k ++ kept_outcomes later (kept_run calls k)
told-append [] later k = refl
told-append (e ∷ calls) later k =
    let k' : KEnd = kept_end_behind_event e.now e.event k in
    ap (λ z. tells e.now e.event k ++ z) (told-append calls later k')
    ∙ sym (append_assoc (tells e.now e.event k) (kept_outcomes calls k') (kept_outcomes later (kept_run calls k')))

used-append : (calls later : List Moment) (k : KEnd) → octets_used (calls ++ later) k ≡ octets_used calls k ++ octets_used later (kept_run calls k)
used-append [] later k = refl
used-append (e ∷ calls) later k =
    let k' : KEnd = kept_end_behind_event e.now e.event k in
    let one = octets_brought_by_event (event_of k e.event) in
    ap (λ z. one ++ z) (used-append calls later k') ∙ sym (append_assoc one (octets_used calls k') (octets_used later (kept_run calls k')))

pub calls_in_turn : CallsInTurn
calls_in_turn = record { end = run-append; told = told-append; used = used-append; line = line-append; taken = taken-append }
