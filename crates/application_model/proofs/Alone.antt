-- Each connection goes by its own events, and its end keeps its messages.
use Rattle.std.proofs.Common.{◌≡◌, ℕ, ◌==◌, inl, inr, List, [], ◌∷◌, ◌++◌, map, refl, ap, sym, ◌∙◌, append_assoc, append-nil}
use Rattle.std.proofs.lemmas.Bool.{cases_Bool, eqb-true}
use Rattle.er_trace.specs.declared.event.Event.{Event}
use Rattle.er_trace.specs.Outcomes as trace
use Rattle.er_trace.specs.Outcomes.{TraceOutcome}
use Rattle.application_lines.specs.Notices.{ApplicationNotice}
use Rattle.application_model.specs.Ends.{EventAt, EndKind, KeepsMessages, texts_accepted, texts_taken}
use Rattle.application_model.specs.Lines.{notices_of_event, connected_lines}
use Rattle.application_model.specs.Histories.{ServiceHappening, Attaches, Departs, Brings, Takes, Opens, Befalls, Closes, KeysRead, ServiceItem, Came}
use Rattle.application_model.specs.Histories.{LineRead, Occurred, Informed, KeysFetched}
use Rattle.application_lines.specs.declared.application_line.ApplicationLine.{ApplicationLine}
use Rattle.application_lines.specs.declared.application_line.ApplicationLine.TheVariants.{Asks, Faulty}
use Rattle.application_lines.specs.declared.request.Request.TheVariants as request
use Rattle.application_model.specs.Services.{Attendance, Absent, Attached, Service, behind_line, service_behind_happening, behind_item, behind_items, inform}
use Rattle.application_model.specs.Services.{informed, attaches, keys_notice, time_at, occurs}
use Rattle.application_model.specs.Claims.{events_of_item, outcomes_of_item, events_at, outcomes_at_connection, outcomes_alone}
use Rattle.application_model.proofs.Steadies.{Family, IsSteady, KeepsAnswers, line_keeps}

-- ---- what came at an end

came_same : (s : Service) (happening : ServiceHappening) (conn : ℕ) → (service_behind_happening s happening).ends conn ≡ s.ends conn
came_same s Attaches conn = refl
came_same s Departs conn = refl
came_same s (Brings octets) conn = refl
came_same s (Takes count) conn = refl
came_same s (Opens what) conn = refl
came_same s (Befalls c what) conn = refl
came_same s (Closes c) conn = refl
came_same s (KeysRead answer) conn = refl

line_same : (s : Service) (line : ApplicationLine) (conn : ℕ) → (behind_line s line).ends conn ≡ s.ends conn
line_same s (Asks (request.Send c text)) conn = refl
line_same s (Asks (request.Release c sub)) conn = refl
line_same s (Asks request.Drain) conn = refl
line_same s (Asks request.Keys) conn = refl
line_same s (Asks request.Counts) conn = refl
line_same s (Faulty line why) conn = refl

item_came : (s : Service) (item : ServiceItem) (conn : ℕ) → (behind_item s item).ends conn ≡ s.ends conn ++ events_of_item conn item
item_came s (Came happening) conn = came_same s happening conn ∙ sym (append-nil (s.ends conn))
item_came s (LineRead line) conn = line_same s line conn ∙ sym (append-nil (s.ends conn))
item_came s (Occurred time c what outcomes) conn =
    elim (cases_Bool (conn == c)) [ inl mine ↦ rw mine refl | inr other ↦ rw other (sym (append-nil (s.ends conn))) ]
item_came s (Informed notice) conn = sym (append-nil (s.ends conn))
item_came s KeysFetched conn = sym (append-nil (s.ends conn))

pub all_came : (s : Service) (items : List ServiceItem) (conn : ℕ) → (behind_items s items).ends conn ≡ s.ends conn ++ events_at conn items
unfolding behind_items
all_came s [] conn = sym (append-nil (s.ends conn))
all_came s (item ∷ items) conn =
    all_came (behind_item s item) items conn
    ∙ ap (λ (x : List EventAt). x ++ events_at conn items) (item_came s item conn)
    ∙ append_assoc (s.ends conn) (events_of_item conn item) (events_at conn items)

-- ---- one part behind the other

pub events_append : (conn : ℕ) (a b : List ServiceItem) → events_at conn (a ++ b) ≡ events_at conn a ++ events_at conn b
events_append conn [] b = refl
events_append conn (item ∷ a) b =
    ap (λ (x : List EventAt). events_of_item conn item ++ x) (events_append conn a b) ∙ sym (append_assoc (events_of_item conn item) (events_at conn a) (events_at conn b))

pub outcomes_append : (conn : ℕ) (a b : List ServiceItem) → outcomes_at_connection conn (a ++ b) ≡ outcomes_at_connection conn a ++ outcomes_at_connection conn b
outcomes_append conn [] b = refl
outcomes_append conn (item ∷ a) b =
    ap (λ (x : List TraceOutcome). outcomes_of_item conn item ++ x) (outcomes_append conn a b)
    ∙ sym (append_assoc (outcomes_of_item conn item) (outcomes_at_connection conn a) (outcomes_at_connection conn b))

pub alone_append : (kind : EndKind) (before a b : List EventAt)
    → outcomes_alone kind before (a ++ b) ≡ outcomes_alone kind before a ++ outcomes_alone kind (before ++ a) b
alone_append kind before [] b = ap (λ (x : List EventAt). outcomes_alone kind x b) (sym (append-nil before))
alone_append kind before (x ∷ a) b =
    let first = kind.tells before x.time x.event in
    ap (λ (o : List TraceOutcome). first ++ o)
    (alone_append kind (before ++ x ∷ []) a b
    ∙ ap (λ (y : List EventAt). outcomes_alone kind (before ++ x ∷ []) a ++ outcomes_alone kind y b) (append_assoc before (x ∷ []) a))
    ∙ sym (append_assoc first (outcomes_alone kind (before ++ x ∷ []) a) (outcomes_alone kind (before ++ x ∷ a) b))

-- ---- each part

none_informed : (conn : ℕ) (notices : List ApplicationNotice) → (events_at conn (map inform notices) ≡ []) × (outcomes_at_connection conn (map inform notices) ≡ [])
none_informed conn [] = (refl, refl)
none_informed conn (notice ∷ notices) = none_informed conn notices

pub none_of_informed : (conn : ℕ) (application : Attendance) (notices : List ApplicationNotice)
    → (events_at conn (informed application notices) ≡ []) × (outcomes_at_connection conn (informed application notices) ≡ [])
none_of_informed conn Absent notices = (refl, refl)
none_of_informed conn (Attached standing waiting) notices = none_informed conn notices

module _ (kind : EndKind) where
  abbrev pub AloneOf : Family
  AloneOf s items = (conn : ℕ) → outcomes_at_connection conn items ≡ outcomes_alone kind (s.ends conn) (events_at conn items)

  follow_alone : (s : Service) (a b : List ServiceItem) → AloneOf s a → AloneOf (behind_items s a) b → AloneOf s (a ++ b)
  follow_alone s a b p q conn =
      outcomes_append conn a b
      ∙ ap (λ (x : List TraceOutcome). x ++ outcomes_at_connection conn b) (p conn)
      ∙ ap (λ (x : List TraceOutcome). outcomes_alone kind (s.ends conn) (events_at conn a) ++ x)
      (q conn ∙ ap (λ (x : List EventAt). outcomes_alone kind x (events_at conn b)) (all_came s a conn))
      ∙ sym (alone_append kind (s.ends conn) (events_at conn a) (events_at conn b))
      ∙ ap (outcomes_alone kind (s.ends conn)) (sym (events_append conn a b))

  informed_alone : (s : Service) (application : Attendance) (notices : List ApplicationNotice) → AloneOf s (informed application notices)
  informed_alone s application notices conn =
      let none = none_of_informed conn application notices in
      rw (none.0, none.1) refl

  event_alone : (moment c : ℕ) (what : Event) (s : Service) → AloneOf s (occurs kind moment c what s)
  event_alone moment c what s conn =
      let outcomes = kind.tells (s.ends c) (time_at moment s) what in
      let none = none_of_informed conn s.application (notices_of_event c what outcomes) in
      elim (cases_Bool (conn == c)) [
        | inl mine ↦
            let same = eqb-true conn c mine in
            rw (mine, none.0, none.1) (ap (λ (n : ℕ). kind.tells (s.ends n) (time_at moment s) what ++ []) (sym same))
        | inr other ↦ rw (other, none.0, none.1) refl
      ]

  attached_alone : (s : Service) → AloneOf s (attaches s)
  attached_alone s conn =
      let none = none_informed conn (connected_lines s.known) in
      rw (none.0, none.1) refl

  answers_alone : KeepsAnswers kind AloneOf
  answers_alone =
      record {
        none = λ s conn. refl;
        follows = follow_alone;
        line_read = λ line s conn. refl;
        send = λ moment c text s. event_alone moment c _ s;
        release = λ moment c sub s. event_alone moment c _ s;
        answer = λ notice s other. informed_alone s s.application (notice ∷ []);
        fetched = λ s conn. refl;
      }

  pub alone_steadily : IsSteady kind AloneOf
  alone_steadily =
      record {
        none = λ s conn. refl;
        follows = follow_alone;
        came = λ happening s plain conn. refl;
        attached = λ s. attached_alone s;
        opened = λ what s still conn. refl;
        outside = λ moment c what s own. event_alone moment c what s;
        take = λ moment c s room. event_alone moment c _ s;
        line = λ moment line s there. line_keeps kind AloneOf answers_alone moment line s;
        keys = λ answer s. informed_alone s s.application (keys_notice answer ∷ []);
      }

-- ---- messages

accepted_append : (a b : List TraceOutcome) → texts_accepted (a ++ b) ≡ texts_accepted a ++ texts_accepted b
accepted_append [] b = refl
accepted_append (trace.Connected peer ∷ a) b = accepted_append a b
accepted_append (trace.Accepted text ∷ a) b = ap (λ (x : List (List ℕ)). text ∷ x) (accepted_append a b)
accepted_append (trace.Taken text ∷ a) b = accepted_append a b
accepted_append (trace.Empty ∷ a) b = accepted_append a b
accepted_append (trace.RefusedReleased release ∷ a) b = accepted_append a b
accepted_append (trace.RefusedNotConnected ∷ a) b = accepted_append a b
accepted_append (trace.RefusedLength octets ∷ a) b = accepted_append a b
accepted_append (trace.RefusedFull waiting ∷ a) b = accepted_append a b
accepted_append (trace.Released release ∷ a) b = accepted_append a b
accepted_append (trace.Octets octets ∷ a) b = accepted_append a b

pub taken_append : (a b : List TraceOutcome) → texts_taken (a ++ b) ≡ texts_taken a ++ texts_taken b
taken_append [] b = refl
taken_append (trace.Connected peer ∷ a) b = taken_append a b
taken_append (trace.Accepted text ∷ a) b = taken_append a b
taken_append (trace.Taken text ∷ a) b = ap (λ (x : List (List ℕ)). text ∷ x) (taken_append a b)
taken_append (trace.Empty ∷ a) b = taken_append a b
taken_append (trace.RefusedReleased release ∷ a) b = taken_append a b
taken_append (trace.RefusedNotConnected ∷ a) b = taken_append a b
taken_append (trace.RefusedLength octets ∷ a) b = taken_append a b
taken_append (trace.RefusedFull waiting ∷ a) b = taken_append a b
taken_append (trace.Released release ∷ a) b = taken_append a b
taken_append (trace.Octets octets ∷ a) b = taken_append a b

-- what waited and what was accepted is what was taken and what waits
pub messages_kept : (kind : EndKind) → KeepsMessages kind → (before xs : List EventAt)
    → kind.waiting before ++ texts_accepted (outcomes_alone kind before xs)
    ≡ texts_taken (outcomes_alone kind before xs) ++ kind.waiting (before ++ xs)
messages_kept kind keeps before [] = append-nil (kind.waiting before) ∙ ap kind.waiting (sym (append-nil before))
messages_kept kind keeps before (x ∷ xs) =
    let first = kind.tells before x.time x.event in
    let rest = outcomes_alone kind (before ++ x ∷ []) xs in
    ap (λ (t : List (List ℕ)). kind.waiting before ++ t) (accepted_append first rest)
    ∙ sym (append_assoc (kind.waiting before) (texts_accepted first) (texts_accepted rest))
    ∙ ap (λ (t : List (List ℕ)). t ++ texts_accepted rest) (keeps.each before x.time x.event)
    ∙ append_assoc (texts_taken first) (kind.waiting (before ++ x ∷ [])) (texts_accepted rest)
    ∙ ap (λ (t : List (List ℕ)). texts_taken first ++ t) (messages_kept kind keeps (before ++ x ∷ []) xs)
    ∙ sym (append_assoc (texts_taken first) (texts_taken rest) (kind.waiting ((before ++ x ∷ []) ++ xs)))
    ∙ ap (λ (t : List (List ℕ)). t ++ kind.waiting ((before ++ x ∷ []) ++ xs)) (sym (taken_append first rest))
    ∙ ap (λ (t : List EventAt). texts_taken (first ++ rest) ++ kind.waiting t) (append_assoc before (x ∷ []) xs)
