-- What an end accepted is told, or waits.
use Rattle.std.proofs.Common.{◌≡◌, ◌≢◌, ℕ, ◌==◌, Bool, true, false, List, [], ◌∷◌, ◌++◌, map, refl, ap, sym, ◌∙◌, append-nil, if◌then◌else◌, eq-eqb}
use Rattle.std.specs.List.{flat_map}
use Rattle.std.proofs.lemmas.Grind.{flat_map-append}
use Rattle.er_trace.specs.declared.event.Event.{Event}
use Rattle.er_trace.specs.declared.event.Event.TheVariants as event
use Rattle.er_trace.specs.Outcomes as trace
use Rattle.er_trace.specs.Outcomes.{TraceOutcome}
use Rattle.application_lines.specs.Standings.{at_first_line}
use Rattle.application_lines.specs.Notices.{NoticeRefusal, ApplicationNotice, Connected, Message, Refused, Released, Gone, Counts, Keys, KeysFault, Fault}
use Rattle.application_model.specs.Ends.{KnownEnd, EndStage, SettingUp, Speaking, Parted, EventAt, EndKind, texts_taken}
use Rattle.application_model.specs.Lines.{send_refused, notices_of_event, stage_line, connected_lines, is_line_of}
use Rattle.application_model.specs.Histories.{KeysAnswer, Hold, AreFaulty, ServiceItem, Occurred}
use Rattle.application_model.specs.Services.{Attendance, Absent, Attached, has_room, Service, at_start, behind_items, inform, informed, keys_notice}
use Rattle.application_model.specs.Services.{is_of_outside, time_at, occurs, service_history}
use Rattle.application_model.specs.Claims.{outcomes_at_connection, outcomes_of_item, events_at}
use Rattle.application_model.specs.Laws.{TakesAlone, text_told, told_in_item, texts_told, AcceptedAreTold}
use Rattle.application_model.proofs.Steadies.{Family, IsSteady, KeepsAnswers, line_keeps, all_hold}
use Rattle.application_model.proofs.Alone.{outcomes_append, none_of_informed, taken_append, all_came}
use Rattle.application_model.proofs.Claimed.{as_claimed}

module _ (conn : ℕ) where
  -- ---- the lines of an event

  refusal_tells_none : (c : ℕ) (what : Event) (why : NoticeRefusal) (rest : List ApplicationNotice)
      → flat_map (text_told conn) (send_refused c what why ++ rest) ≡ flat_map (text_told conn) rest
  refusal_tells_none c (event.Call engine rbc rb) why rest = refl
  refusal_tells_none c (event.Answer rbc ra) why rest = refl
  refusal_tells_none c (event.Octets octets) why rest = refl
  refusal_tells_none c (event.Send text) why rest = refl
  refusal_tells_none c event.Take why rest = refl
  refusal_tells_none c (event.Release sub) why rest = refl
  refusal_tells_none c event.Tick why rest = refl
  refusal_tells_none c event.Ended why rest = refl
  refusal_tells_none c event.Fault why rest = refl
  refusal_tells_none c event.Stalled why rest = refl
  refusal_tells_none c (event.Full count) why rest = refl
  refusal_tells_none c (event.Unserved count) why rest = refl

  -- of this connection those that it took, of another one none
  abbrev if_mine : ℕ → List (List ℕ) → List (List ℕ)
  if_mine c texts = if conn == c then texts else []

  if_mine_more : (mine : Bool) (text : List ℕ) (texts : List (List ℕ))
      → (if mine then text ∷ [] else []) ++ (if mine then texts else []) ≡ (if mine then text ∷ texts else [])
  if_mine_more true text texts = refl
  if_mine_more false text texts = refl

  if_none : (mine : Bool) → ◌≡◌ {A = List (List ℕ)} [] (if mine then [] else [])
  if_none true = refl
  if_none false = refl

  lines_tell : (c : ℕ) (what : Event) (outcomes : List TraceOutcome)
      → flat_map (text_told conn) (notices_of_event c what outcomes) ≡ if_mine c (texts_taken outcomes)
  lines_tell c what [] = if_none (conn == c)
  lines_tell c what (trace.Connected peer ∷ outcomes) = lines_tell c what outcomes
  lines_tell c what (trace.Accepted text ∷ outcomes) = lines_tell c what outcomes
  lines_tell c what (trace.Taken text ∷ outcomes) =
      ap (λ (t : List (List ℕ)). (if conn == c then text ∷ [] else []) ++ t) (lines_tell c what outcomes) ∙ if_mine_more (conn == c) text (texts_taken outcomes)
  lines_tell c what (trace.Empty ∷ outcomes) = lines_tell c what outcomes
  lines_tell c what (trace.RefusedReleased release ∷ outcomes) = refusal_tells_none c what _ (notices_of_event c what outcomes) ∙ lines_tell c what outcomes
  lines_tell c what (trace.RefusedNotConnected ∷ outcomes) = refusal_tells_none c what _ (notices_of_event c what outcomes) ∙ lines_tell c what outcomes
  lines_tell c what (trace.RefusedLength octets ∷ outcomes) = refusal_tells_none c what _ (notices_of_event c what outcomes) ∙ lines_tell c what outcomes
  lines_tell c what (trace.RefusedFull waiting ∷ outcomes) = refusal_tells_none c what _ (notices_of_event c what outcomes) ∙ lines_tell c what outcomes
  lines_tell c what (trace.Released release ∷ outcomes) = lines_tell c what outcomes
  lines_tell c what (trace.Octets octets ∷ outcomes) = lines_tell c what outcomes

  -- ---- what is informed

  told_append : (a b : List ServiceItem) → texts_told conn (a ++ b) ≡ texts_told conn a ++ texts_told conn b
  told_append a b =
      ap (flat_map (text_told conn)) (flat_map-append told_in_item a b)
      ∙ flat_map-append (text_told conn) (flat_map told_in_item a) (flat_map told_in_item b)

  informed_are : (notices : List ApplicationNotice) → flat_map told_in_item (map inform notices) ≡ notices
  informed_are [] = refl
  informed_are (notice ∷ notices) = ap (λ (n : List ApplicationNotice). notice ∷ n) (informed_are notices)

  none_if_absent : (application : Attendance) (notices : List ApplicationNotice) → flat_map (text_told conn) notices ≡ []
      → texts_told conn (informed application notices) ≡ []
  none_if_absent Absent notices none = refl
  none_if_absent (Attached standing waiting) notices none = ap (flat_map (text_told conn)) (informed_are notices) ∙ none

  all_with_room : (application : Attendance) (notices : List ApplicationNotice) → has_room application ≡ true
      → texts_told conn (informed application notices) ≡ flat_map (text_told conn) notices
  all_with_room Absent notices room = absurd (cc)
  all_with_room (Attached standing waiting) notices room = ap (flat_map (text_told conn)) (informed_are notices)

  stage_tells_none : (number : ℕ) (stage : EndStage) (rest : List ApplicationNotice)
      → flat_map (text_told conn) (stage_line number stage ++ rest) ≡ flat_map (text_told conn) rest
  stage_tells_none number SettingUp rest = refl
  stage_tells_none number (Speaking peer) rest = refl
  stage_tells_none number Parted rest = refl

  connected_tell_none : (known : List KnownEnd) → flat_map (text_told conn) (connected_lines known) ≡ []
  connected_tell_none [] = refl
  connected_tell_none (k ∷ known) = stage_tells_none k.number k.stage (connected_lines known) ∙ connected_tell_none known

  keys_tell_none : (answer : KeysAnswer) → flat_map (text_told conn) (keys_notice answer ∷ []) ≡ []
  keys_tell_none (Hold entries) = refl
  keys_tell_none (AreFaulty words) = refl

  answer_tells_none : (notice : ApplicationNotice) → ((c : ℕ) → is_line_of c notice ≡ false) → flat_map (text_told conn) (notice ∷ []) ≡ []
  answer_tells_none (Connected c peer) other = refl
  answer_tells_none (Message c text) other = let e = eq-eqb c c refl in let f = other c in absurd (cc)
  answer_tells_none (Refused c text why) other = refl
  answer_tells_none (Released c release) other = refl
  answer_tells_none (Gone c) other = refl
  answer_tells_none (Counts live opened connected messages) other = refl
  answer_tells_none (Keys entries) other = refl
  answer_tells_none (KeysFault words) other = refl
  answer_tells_none (Fault line why) other = refl

  -- ---- all that is told

  abbrev TellsTaken : Family
  TellsTaken s items = texts_told conn items ≡ texts_taken (outcomes_at_connection conn items)

  follow_told : (s : Service) (a b : List ServiceItem) → TellsTaken s a → TellsTaken (behind_items s a) b → TellsTaken s (a ++ b)
  follow_told s a b p q =
      told_append a b
      ∙ ap (λ (t : List (List ℕ)). t ++ texts_told conn b) p
      ∙ ap (λ (t : List (List ℕ)). texts_taken (outcomes_at_connection conn a) ++ t) q
      ∙ sym (taken_append (outcomes_at_connection conn a) (outcomes_at_connection conn b))
      ∙ ap texts_taken (sym (outcomes_append conn a b))

  -- lines alone
  informed_told : (s : Service) (application : Attendance) (notices : List ApplicationNotice) → flat_map (text_told conn) notices ≡ []
      → TellsTaken s (informed application notices)
  informed_told s application notices none =
      none_if_absent application notices none ∙ ap texts_taken (sym (none_of_informed conn application notices).1)

  module _ (kind : EndKind) (alone : TakesAlone kind) where
    -- the outcomes of an event among those of this connection
    taken_of : (moment c : ℕ) (what : Event) (s : Service)
        → texts_taken (outcomes_at_connection conn (occurs kind moment c what s)) ≡ if_mine c (texts_taken (kind.tells (s.ends c) (time_at moment s) what))
    taken_of moment c what s =
        let outcomes = kind.tells (s.ends c) (time_at moment s) what in
        let none = none_of_informed conn s.application (notices_of_event c what outcomes) in
        ap (λ (o : List TraceOutcome). texts_taken (outcomes_of_item conn (Occurred (time_at moment s) c what outcomes) ++ o)) none.1
        ∙ taken_if (conn == c) outcomes
      where
        taken_if : (mine : Bool) (outcomes : List TraceOutcome)
            → texts_taken ((if mine then outcomes else []) ++ []) ≡ (if mine then texts_taken outcomes else [])
        taken_if true outcomes = taken_append outcomes [] ∙ append-nil (texts_taken outcomes)
        taken_if false outcomes = refl

    take_told : (moment c : ℕ) (s : Service) → has_room s.application ≡ true → TellsTaken s (occurs kind moment c event.Take s)
    take_told moment c s room =
        let outcomes = kind.tells (s.ends c) (time_at moment s) event.Take in
        all_with_room s.application (notices_of_event c event.Take outcomes) room ∙ lines_tell c event.Take outcomes ∙ sym (taken_of moment c event.Take s)

    nothing_if : (mine : Bool) (texts : List (List ℕ)) → texts ≡ [] → (if mine then texts else []) ≡ []
    nothing_if true texts e = e
    nothing_if false texts e = refl

    event_told : (moment c : ℕ) (what : Event) (s : Service) → what ≢ event.Take → TellsTaken s (occurs kind moment c what s)
    event_told moment c what s other =
        let outcomes = kind.tells (s.ends c) (time_at moment s) what in
        let none = nothing_if (conn == c) (texts_taken outcomes) (alone (s.ends c) (time_at moment s) what other) in
        none_if_absent s.application (notices_of_event c what outcomes) (lines_tell c what outcomes ∙ none) ∙ sym (taken_of moment c what s ∙ none)

    no_take : (what : Event) → is_of_outside what ≡ true → what ≢ event.Take
    no_take what own e = let f = ap is_of_outside e in absurd (cc)

    answers_told : KeepsAnswers kind TellsTaken
    answers_told =
        record {
          none = λ s. refl;
          follows = follow_told;
          line_read = λ line s. refl;
          send = λ moment c text s. event_told moment c _ s (λ e. absurd (cc));
          release = λ moment c sub s. event_told moment c _ s (λ e. absurd (cc));
          answer = λ notice s other. informed_told s s.application (notice ∷ []) (answer_tells_none notice other);
          fetched = λ s. refl;
        }

    told_steadily : IsSteady kind TellsTaken
    told_steadily =
        record {
          none = λ s. refl;
          follows = follow_told;
          came = λ happening s plain. refl;
          attached = λ s.
              ap (flat_map (text_told conn)) (informed_are (connected_lines s.known))
              ∙ connected_tell_none s.known
              ∙ ap texts_taken (sym (none_of_informed conn (Attached at_first_line 0) (connected_lines s.known)).1);
          opened = λ what s still. refl;
          outside = λ moment c what s own. event_told moment c what s (no_take what own);
          take = λ moment c s room. take_told moment c s room;
          line = λ moment line s there. line_keeps kind TellsTaken answers_told moment line s;
          keys = λ answer s. informed_told s s.application (keys_notice answer ∷ []) (keys_tell_none answer);
        }

pub accepted_are_told : AcceptedAreTold
accepted_are_told kind happenings conn keeps alone =
    let items = service_history kind happenings in
    (as_claimed kind happenings).kept keeps conn
    ∙ ap (λ (t : List (List ℕ)). t ++ kind.waiting (events_at conn items))
    (sym (all_hold kind (TellsTaken conn) (told_steadily conn kind alone) happenings at_start))
    ∙ ap (λ (e : List EventAt). texts_told conn items ++ kind.waiting e) (sym (all_came at_start items conn))
