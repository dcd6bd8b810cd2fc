-- Lemmas: what is so at each moment stays so with one act more; for the proofs of the loop.
use Rattle.std.proofs.Common.{arith, ◌≡◌, ◌∙◌, ◌<◌, ◌+◌, ◌==◌, inl, inr, ℕ, Bool, true, false, true≢false, List, [], ◌∷◌, ◌++◌, refl, sym, ap, subst, map}
use Rattle.std.proofs.Common.{drop, append-nil, append_assoc}
use Rattle.std.specs.Prelude.{Option}
use Rattle.std.specs.List.{flat_map}
use Rattle.std.proofs.lemmas.Bool.{cases_Bool, eqb-true, ne_eqb, or_parts}
use Rattle.std.proofs.lemmas.List.{take-append-drop}
use Rattle.er_base.specs.LineTexts.{line_text}
use Rattle.er_settings.specs.Values.{Settings}
use Rattle.er_trace.specs.declared.event.Event.{Event}
use Rattle.er_trace.specs.Outcomes.{TraceOutcome}
use Rattle.er_trace.specs.Texts.{header_words}
use Rattle.link_trait.specs.Wires.{Reading}
use Rattle.link_trait.specs.declared.wires.Conn.{Conn}
use Rattle.link_trait.specs.declared.wires.Happening.{Happening}
use Rattle.link_trait.specs.declared.wires.Happening.TheVariants as happening
use Rattle.link_trait.specs.declared.wires.WriteAnswer.{WriteAnswer}
use Rattle.link_trait.specs.declared.wires.WriteAnswer.TheVariants as write_answer
use Rattle.outside.specs.Acts.{Fetch, Listened, Dialled, Turned, Read, Sent, Closed, Act, Fetched, Wrote, Called, Asked, Drew}
use Rattle.application_lines.specs.Notices.{ApplicationNotice}
use Rattle.application_model.specs.Ends.{is_known, EventTime, EventAt}
use Rattle.application_model.specs.Histories.{KeysAnswer, Attaches, Departs, Opens, Closes, KeysRead, ServiceItem, Came, Occurred, KeysFetched}
use Rattle.application_model.specs.Services.{Attendance, Service, at_start, behind_item, behind_items, inform, informed}
use Rattle.application_model.specs.Claims.{IsBeginning, events_at}
use Rattle.application_ends.specs.Laws.{text_of_item, recording_of_service}
use Rattle.application_serving.specs.SeenOctets.{octets_of_reading, octets_of_writing, octets_read_of, octets_given_to, is_brought_in, is_closed_in}
use Rattle.application_serving.specs.SeenOctets.{SeenApplication, NobodySeen, SeenThere, seen_to_say, seen_to_get, seen_behind_happening, seen_behind_act}
use Rattle.application_serving.specs.SeenOctets.{application_in_acts}
use Rattle.application_serving.specs.Serving.{text_written_by_acts, IsWrittenOf, application_in_items, IsServedAs, octets_told_at}
use Rattle.application_serving.specs.Serving.{octets_event_brings, octets_heard_at, ServesSoFar}
use Rattle.application_serving.specs.OneMore.{text_written_more, text_written_quiet, given_to_quiet, given_at_sent, read_of_more, read_of_quiet}
use Rattle.application_serving.specs.OneMore.{brought_in_more, closed_in_quiet, application_one, application_quiet}
use Rattle.application_serving.specs.OneMore.{application_gets, application_comes, application_leaves, behind_more, behind_one, behind_first, told_more_at}
use Rattle.application_serving.specs.OneMore.{heard_more_at}
use Rattle.application_serving.specs.OneMore.{events_more, application_items_more, notices_no_events, notices_no_text, event_heard}
use Rattle.application_serving.specs.OneMore.{event_heard_others, event_events_others, event_text, known_same, known_behind_notices, known_behind_informed}
use Rattle.application_serving.specs.OneMore.{gone_without}
use Rattle.application_serving.specs.ItemDeeds.{IsRecorded, begins_longer, begins_behind, begins_through, served_there, served_as, notices_on, informed_on}
use Rattle.application_serving.specs.ItemDeeds.{recorded_more, does_opens, does_closes, does_keys_fetch, does_keys}

-- ---- what a write took

written_begins : (piece : List ℕ) (answer : WriteAnswer) → IsBeginning (octets_of_writing piece answer) piece
written_begins piece (write_answer.Some count) = record { rest = drop count piece; is = sym (take-append-drop count piece) }
written_begins piece write_answer.NotNow = record { rest = piece; is = refl }
written_begins piece write_answer.Failed = record { rest = piece; is = refl }

gets_nothing : (seen : SeenApplication) → seen_to_get [] seen ≡ seen
gets_nothing NobodySeen = refl
gets_nothing (SeenThere read given) = ap (SeenThere read) (append-nil given)

says_more : (octets : List ℕ) (seen told : SeenApplication) → IsServedAs seen told → IsServedAs (seen_to_say octets seen) told
says_more octets NobodySeen NobodySeen served = tt
says_more octets NobodySeen (SeenThere brought told) served = absurd served
says_more octets (SeenThere read given) NobodySeen served = absurd served
says_more octets (SeenThere read given) (SeenThere brought told) served = (served.0, begins_longer brought read octets served.1)

isnt_zero : (conn : ℕ) → 0 < conn → (conn == 0) ≡ false
isnt_zero conn above = ne_eqb conn 0 (λ is. let e : conn ≡ 0 = is in absurd (omega (arith, above, e)))

zero_isnt : (conn : ℕ) → 0 < conn → (0 == conn) ≡ false
zero_isnt conn above = ne_eqb 0 conn (λ is. let e : 0 ≡ conn = is in absurd (omega (arith, above, e)))

-- ---- acts that are nothing in the history

module _ {settings : Settings} {acts : List Act} {items : List ServiceItem} (so : ServesSoFar settings acts items) where
  -- what any act leaves as it is
  heard_on : (act : Act) (conn : ℕ) → IsBeginning (octets_heard_at conn items) (octets_read_of conn (acts ++ act ∷ []))
  heard_on act conn =
      subst (IsBeginning (octets_heard_at conn items)) (sym (read_of_more conn acts (act ∷ [])))
      (begins_longer (octets_heard_at conn items) (octets_read_of conn acts) (octets_read_of conn (act ∷ [])) (so.heard conn))

  brought_before : (act : Act) (conn : ℕ) → is_brought_in conn (acts ++ act ∷ []) ≡ false → is_brought_in conn acts ≡ false
  brought_before act conn is =
      (or_parts (is_brought_in conn acts) (is_brought_in conn (act ∷ [])) (sym (brought_in_more conn acts (act ∷ [])) ∙ is)).0

  given_on : (act : Act) (conn : ℕ) → 0 < conn → octets_given_to conn (act ∷ []) ≡ []
      → IsBeginning (octets_given_to conn (acts ++ act ∷ [])) (octets_told_at conn items)
  given_on act conn above none =
      subst (λ (os : List ℕ). IsBeginning os (octets_told_at conn items)) (sym (given_to_quiet conn acts act none)) (so.given conn above)

  served_on : (act : Act) → seen_behind_act (application_in_acts acts) act ≡ application_in_acts acts
      → IsServedAs (application_in_acts (acts ++ act ∷ [])) (application_in_items items)
  served_on act same =
      subst (λ (seen : SeenApplication). IsServedAs seen (application_in_items items)) (sym (application_quiet acts act same)) so.served

  closed_on : (act : Act) (conn : ℕ) → is_closed_in conn (act ∷ []) ≡ false → is_closed_in conn (acts ++ act ∷ []) ≡ true
      → is_known conn (behind_items at_start items).known ≡ false
  closed_on act conn none is = so.closed conn (sym (closed_in_quiet conn acts act none) ∙ is)

  -- an act by which nothing is written
  with_act : (act : Act) → text_written_by_acts (act ∷ []) ≡ [] → IsServedAs (application_in_acts (acts ++ act ∷ [])) (application_in_items items)
      → ((conn : ℕ) → 0 < conn → IsBeginning (octets_given_to conn (acts ++ act ∷ [])) (octets_told_at conn items))
      → ((conn : ℕ) → is_closed_in conn (acts ++ act ∷ []) ≡ true → is_known conn (behind_items at_start items).known ≡ false)
      → ServesSoFar settings (acts ++ act ∷ []) items
  with_act act text served given closed =
      record {
        written = subst (λ (t : List ℕ). IsWrittenOf settings t items) (sym (text_written_quiet acts act text)) so.written;
        served = served;
        given = given;
        heard = λ conn. heard_on act conn;
        brought = λ conn is. so.brought conn (brought_before act conn is);
        closed = closed;
      }

  -- one by which nothing is given or closed, nor anything else of the application seen
  with_quiet : (act : Act) → text_written_by_acts (act ∷ []) ≡ [] → seen_behind_act (application_in_acts acts) act ≡ application_in_acts acts
      → ((conn : ℕ) → octets_given_to conn (act ∷ []) ≡ []) → ((conn : ℕ) → is_closed_in conn (act ∷ []) ≡ false)
      → ServesSoFar settings (acts ++ act ∷ []) items
  with_quiet act text same given closed =
      with_act act text (served_on act same) (λ conn above. given_on act conn above (given conn)) (λ conn is. closed_on act conn (closed conn) is)

  pub does_asked : (moment : ℕ) → ServesSoFar settings (acts ++ Asked moment ∷ []) items
  does_asked moment = with_quiet (Asked moment) refl refl (λ conn. refl) (λ conn. refl)

  pub does_drew : (word : ℕ) → ServesSoFar settings (acts ++ Drew word ∷ []) items
  does_drew word = with_quiet (Drew word) refl refl (λ conn. refl) (λ conn. refl)

  pub does_listened : (address : List ℕ) (listens : Bool) → ServesSoFar settings (acts ++ Called (Listened address listens) ∷ []) items
  does_listened address listens = with_quiet (Called (Listened address listens)) refl refl (λ conn. refl) (λ conn. refl)

  pub does_dialled : (address : List ℕ) (to : Option ℕ) → ServesSoFar settings (acts ++ Called (Dialled address to) ∷ []) items
  does_dialled address to = with_quiet (Called (Dialled address to)) refl refl (λ conn. refl) (λ conn. refl)

  -- a turn behind which no other application is there
  pub does_turned : (until : Option ℕ) (what : Happening) → seen_behind_happening what (application_in_acts acts) ≡ application_in_acts acts
      → ServesSoFar settings (acts ++ Called (Turned until what) ∷ []) items
  does_turned until what same = with_quiet (Called (Turned until what)) refl same (λ conn. refl) (λ conn. refl)

  -- a read, whatever came of it: of a connection, or of the application
  pub does_read : (conn size : ℕ) (reading : Reading) → ServesSoFar settings (acts ++ Called (Read conn size reading) ∷ []) items
  does_read conn size reading =
      let act = Called (Read conn size reading) in
      with_act act refl
      (elim (cases_Bool (conn == 0)) [
        | inl mine ↦
            subst (λ (seen : SeenApplication). IsServedAs seen (application_in_items items))
            (sym (application_one acts act ∙ rw mine refl))
            (says_more (octets_of_reading reading) (application_in_acts acts) (application_in_items items) so.served)
        | inr other ↦ served_on act (rw other refl)
      ])
      (λ c above. given_on act c above refl) (λ c is. closed_on act c refl is)

  sent_served : (conn : ℕ) (piece : List ℕ) (answer : WriteAnswer) → (conn == 0) ≡ false
      → IsServedAs (application_in_acts (acts ++ Called (Sent conn piece answer) ∷ [])) (application_in_items items)
  sent_served conn piece answer other = served_on (Called (Sent conn piece answer)) (rw other refl)

  -- a write that took nothing
  pub does_sent_nothing : (conn : ℕ) (piece : List ℕ) (answer : WriteAnswer) → octets_of_writing piece answer ≡ []
      → ServesSoFar settings (acts ++ Called (Sent conn piece answer) ∷ []) items
  does_sent_nothing conn piece answer none =
      let act = Called (Sent conn piece answer) in
      with_quiet act refl
      (elim (cases_Bool (conn == 0)) [
        | inl mine ↦
            rw mine (ap (λ (os : List ℕ). seen_to_get os (application_in_acts acts)) none ∙ gets_nothing (application_in_acts acts))
        | inr other ↦ rw other refl
      ])
      (λ c. elim (cases_Bool (conn == c)) [ inl mine ↦ rw (mine, none) refl | inr other ↦ rw other refl ]) (λ c. refl)

  -- a write to a connection, of what waits for it
  pub does_sent : (conn : ℕ) (piece : List ℕ) (answer : WriteAnswer) (waiting : List ℕ) → 0 < conn
      → octets_told_at conn items ≡ octets_given_to conn acts ++ waiting → IsBeginning piece waiting
      → ServesSoFar settings (acts ++ Called (Sent conn piece answer) ∷ []) items
  does_sent conn piece answer waiting above waits begins =
      let act = Called (Sent conn piece answer) in
      let took = octets_of_writing piece answer in
      let whole : IsBeginning (octets_given_to conn (acts ++ act ∷ [])) (octets_told_at conn items) =
      subst (λ (os : List ℕ). IsBeginning os (octets_told_at conn items)) (sym (given_at_sent conn acts piece answer))
      (subst (IsBeginning (octets_given_to conn acts ++ took)) (sym waits)
      (begins_behind (octets_given_to conn acts) took waiting (begins_through took piece waiting (written_begins piece answer) begins))) in
      with_act act refl (sent_served conn piece answer (isnt_zero conn above))
      (λ c c_above.
      elim (cases_Bool (conn == c)) [
        | inl mine ↦
            subst (λ (n : ℕ). IsBeginning (octets_given_to n (acts ++ act ∷ [])) (octets_told_at n items)) (eqb-true conn c mine) whole
        | inr other ↦ given_on act c c_above (rw other refl)
      ])
      (λ c is. closed_on act c refl is)

  -- a write to the application, of what waits for it
  pub does_sent_to_application : (piece : List ℕ) (answer : WriteAnswer) (read given brought waiting : List ℕ) → application_in_acts acts ≡ SeenThere read given
      → application_in_items items ≡ SeenThere brought (given ++ waiting) → IsBeginning piece waiting
      → ServesSoFar settings (acts ++ Called (Sent 0 piece answer) ∷ []) items
  does_sent_to_application piece answer read given brought waiting seen told begins =
      let act = Called (Sent 0 piece answer) in
      let took = octets_of_writing piece answer in
      let there = served_there (application_in_acts acts) (application_in_items items) read given brought (given ++ waiting) seen told so.served in
      with_act act refl
      (served_as (application_in_acts (acts ++ act ∷ [])) (application_in_items items) (SeenThere read (given ++ took)) (SeenThere brought (given ++ waiting))
      (application_gets acts piece answer read given seen) told
      (begins_behind given took waiting (begins_through took piece waiting (written_begins piece answer) begins), there.1))
      (λ c above. given_on act c above (rw (zero_isnt c above) refl)) (λ c is. closed_on act c refl is)

  pub does_failed_write : (piece : List ℕ) → ServesSoFar settings (acts ++ Wrote piece false ∷ []) items
  does_failed_write piece = with_quiet (Wrote piece false) refl refl (λ conn. refl) (λ conn. refl)

  pub does_fetched : (name : List ℕ) (answer : Fetch) → ServesSoFar settings (acts ++ Fetched name answer ∷ []) items
  does_fetched name answer = with_quiet (Fetched name answer) refl refl (λ conn. refl) (λ conn. refl)

  -- a connection that isn't known is closed
  pub does_closed_unknown : (conn : ℕ) → 0 < conn → is_known conn (behind_items at_start items).known ≡ false
      → ServesSoFar settings (acts ++ Called (Closed conn) ∷ []) items
  does_closed_unknown conn above unknown =
      let act = Called (Closed conn) in
      with_act act refl (served_on act (rw (isnt_zero conn above) refl)) (λ c c_above. given_on act c c_above refl)
      (λ c is.
      elim (cases_Bool (conn == c)) [
        | inl mine ↦ subst (λ (n : ℕ). is_known n (behind_items at_start items).known ≡ false) (eqb-true conn c mine) unknown
        | inr other ↦ closed_on act c (rw other refl) is
      ])

-- nothing was done
pub so_far_nothing : (settings : Settings) → ServesSoFar settings [] []
so_far_nothing settings =
    record {
      written = inl (refl, refl);
      served = tt;
      given = λ conn above. record { rest = []; is = refl };
      heard = λ conn. record { rest = []; is = refl };
      brought = λ conn is. refl;
      closed = λ conn is. absurd (true≢false (sym is));
    }

-- the header is written, where nothing was written before and nothing happened
pub does_header : {settings : Settings} {acts : List Act} → ServesSoFar settings acts [] → text_written_by_acts acts ≡ []
    → ServesSoFar settings (acts ++ Wrote (line_text (header_words settings)) true ∷ []) []
does_header {settings} {acts} so none =
    let act = Wrote (line_text (header_words settings)) true in
    record {
      written = inr
          (text_written_more acts (act ∷ []) ∙ ap (λ (t : List ℕ). t ++ (line_text (header_words settings) ++ [])) none);
      served = served_on so act refl;
      given = λ conn above. given_on so act conn above refl;
      heard = λ conn. heard_on so act conn;
      brought = λ conn is. refl;
      closed = λ conn is. closed_on so act conn refl is;
    }

-- what was recorded, behind an act by which nothing is written
pub recorded_quiet : (settings : Settings) (acts : List Act) (items : List ServiceItem) (act : Act) → IsRecorded settings acts items
    → text_written_by_acts (act ∷ []) ≡ [] → IsRecorded settings (acts ++ act ∷ []) items
recorded_quiet settings acts items act recorded none = text_written_quiet acts act none ∙ recorded

-- and behind an event with its lines
pub recorded_event : (settings : Settings) (acts : List Act) (items : List ServiceItem) (piece : List ℕ) (time : EventTime) (conn : ℕ) (what : Event)
    (outcomes : List TraceOutcome) (there : Attendance) (notices : List ApplicationNotice) → IsRecorded settings acts items
    → piece ≡ text_of_item (Occurred time conn what outcomes)
    → IsRecorded settings (acts ++ Wrote piece true ∷ []) (items ++ Occurred time conn what outcomes ∷ informed there notices)
recorded_event settings acts items piece time conn what outcomes there notices recorded text =
    let header = line_text (header_words settings) in
    text_written_more acts (Wrote piece true ∷ [])
    ∙ ap (λ (t : List ℕ). text_written_by_acts acts ++ t) (append-nil piece ∙ text)
    ∙ ap (λ (t : List ℕ). t ++ text_of_item (Occurred time conn what outcomes)) recorded
    ∙ append_assoc header (recording_of_service items) (text_of_item (Occurred time conn what outcomes))
    ∙ ap (λ (t : List ℕ). header ++ t) (sym (event_text items time conn what outcomes there notices))

-- ---- acts that are something in the history, behind the header

module _ {settings : Settings} {acts : List Act} {items : List ServiceItem} (so : ServesSoFar settings acts items)
    (recorded : IsRecorded settings acts items) where
  -- an act by which nothing is written, given or brought, with items without an event
  with_act_and_items : (act : Act) (more : List ServiceItem) → text_written_by_acts (act ∷ []) ≡ [] → recording_of_service more ≡ []
      → ((conn : ℕ) → events_at conn more ≡ []) → IsServedAs (application_in_acts (acts ++ act ∷ [])) (application_in_items (items ++ more))
      → ((conn : ℕ) → octets_given_to conn (act ∷ []) ≡ [])
      → ((conn : ℕ) → is_closed_in conn (acts ++ act ∷ []) ≡ true → is_known conn (behind_items (behind_items at_start items) more).known ≡ false)
      → ServesSoFar settings (acts ++ act ∷ []) (items ++ more)
  with_act_and_items act more text silent events served given closed =
      record {
        written = inr (text_written_quiet acts act text ∙ recorded_more settings acts items more recorded silent);
        served = served;
        given = λ conn above.
            subst (IsBeginning (octets_given_to conn (acts ++ act ∷ []))) (sym (told_more_at conn items more))
            (begins_longer (octets_given_to conn (acts ++ act ∷ [])) (octets_told_at conn items) (octets_told_at conn more)
            (given_on so act conn above (given conn)));
        heard = λ conn.
            let same : octets_heard_at conn (items ++ more) ≡ octets_heard_at conn items =
            heard_more_at conn items more
            ∙ ap (λ (xs : List EventAt). octets_heard_at conn items ++ flat_map (λ (x : EventAt). octets_event_brings x.event) xs) (events conn)
            ∙ append-nil (octets_heard_at conn items) in
            subst (λ (os : List ℕ). IsBeginning os (octets_read_of conn (acts ++ act ∷ []))) (sym same) (heard_on so act conn);
        brought = λ conn is.
            events_more conn items more
            ∙ ap (λ (xs : List EventAt). xs ++ events_at conn more) (so.brought conn (brought_before so act conn is))
            ∙ events conn;
        closed = λ conn is. ap (λ (x : Service). is_known conn x.known) (behind_more at_start items more) ∙ closed conn is;
      }

  -- an event at a connection that was brought: its lines are written, and the application is told
  pub does_occurred : (piece : List ℕ) (time : EventTime) (conn : ℕ) (what : Event) (outcomes : List TraceOutcome) (there : Attendance)
      (notices : List ApplicationNotice)
      → piece ≡ text_of_item (Occurred time conn what outcomes) → is_brought_in conn acts ≡ true
      → IsBeginning (octets_heard_at conn items ++ octets_event_brings what) (octets_read_of conn acts)
      → ServesSoFar settings (acts ++ Wrote piece true ∷ []) (items ++ Occurred time conn what outcomes ∷ informed there notices)
  does_occurred piece time conn what outcomes there notices text brought hears =
      let act = Wrote piece true in
      let event = Occurred time conn what outcomes ∷ informed there notices in
      let s = behind_items at_start items in
      record {
        written = inr (recorded_event settings acts items piece time conn what outcomes there notices recorded text);
        served = subst (IsServedAs (application_in_acts (acts ++ act ∷ []))) (sym (application_items_more items event))
            (informed_on (application_in_acts (acts ++ act ∷ [])) (application_in_items items) there notices (served_on so act refl));
        given = λ c above.
            subst (IsBeginning (octets_given_to c (acts ++ act ∷ []))) (sym (told_more_at c items event))
            (begins_longer (octets_given_to c (acts ++ act ∷ [])) (octets_told_at c items) (octets_told_at c event) (given_on so act c above refl));
        heard = λ c.
            subst (IsBeginning (octets_heard_at c (items ++ event))) (sym (read_of_quiet c acts act refl))
            (elim (cases_Bool (c == conn)) [
              | inl mine ↦
                  subst (λ (n : ℕ). IsBeginning (octets_heard_at n (items ++ event)) (octets_read_of n acts)) (sym (eqb-true c conn mine))
                  (subst (λ (os : List ℕ). IsBeginning os (octets_read_of conn acts)) (sym (event_heard items time conn what outcomes there notices)) hears)
              | inr other ↦
                  subst (λ (os : List ℕ). IsBeginning os (octets_read_of c acts)) (sym (event_heard_others items time conn what outcomes there notices c other))
                  (so.heard c)
            ]);
        brought = λ c is.
            let before = brought_before so act c is in
            elim (cases_Bool (c == conn)) [
              | inl mine ↦ absurd (true≢false (sym brought ∙ ap (λ (n : ℕ). is_brought_in n acts) (sym (eqb-true c conn mine)) ∙ before))
              | inr other ↦ event_events_others items time conn what outcomes there notices c other ∙ so.brought c before
            ];
        closed = λ c is.
            ap (λ (x : Service). is_known c x.known)
            (behind_more at_start items event ∙ behind_first s (Occurred time conn what outcomes) (informed there notices))
            ∙ ap (is_known c) (known_behind_informed (behind_item s (Occurred time conn what outcomes)) there notices)
            ∙ known_same c conn outcomes s.known
            ∙ closed_on so act c refl is;
      }

module _ {settings : Settings} {acts : List Act} {items : List ServiceItem} (so : ServesSoFar settings acts items)
    (recorded : IsRecorded settings acts items) where
  -- the same behind an item by which the connection was opened
  pub does_opened : (piece : List ℕ) (time : EventTime) (conn : ℕ) (what : Event) (outcomes : List TraceOutcome) (there : Attendance)
      (notices : List ApplicationNotice) (opening : Event)
      → piece ≡ text_of_item (Occurred time conn what outcomes) → is_brought_in conn acts ≡ true
      → is_closed_in ((behind_items at_start items).opened + 1) acts ≡ false
      → IsBeginning (octets_heard_at conn items ++ octets_event_brings what) (octets_read_of conn acts)
      → ServesSoFar settings (acts ++ Wrote piece true ∷ []) (items ++ Came (Opens opening) ∷ Occurred time conn what outcomes ∷ informed there notices)
  does_opened piece time conn what outcomes there notices opening text brought open_yet hears =
      let opens = Came (Opens opening) ∷ [] in
      let event = Occurred time conn what outcomes ∷ informed there notices in
      let heard : octets_heard_at conn (items ++ opens) ≡ octets_heard_at conn items =
      heard_more_at conn items opens ∙ append-nil (octets_heard_at conn items) in
      subst (ServesSoFar settings (acts ++ Wrote piece true ∷ [])) (append_assoc items opens event)
      (does_occurred (does_opens so recorded opening open_yet) (recorded_more settings acts items opens recorded refl) piece time conn what outcomes there
      notices text brought
      (subst (λ (os : List ℕ). IsBeginning (os ++ octets_event_brings what) (octets_read_of conn acts)) (sym heard) hears))

  -- a live connection is closed
  pub does_closed : (conn : ℕ) → 0 < conn → ServesSoFar settings (acts ++ Called (Closed conn) ∷ []) (items ++ Came (Closes conn) ∷ [])
  does_closed conn above =
      let s = behind_items at_start items in
      does_closed_unknown (does_closes so recorded conn) conn above
      (ap (λ (x : Service). is_known conn x.known) (behind_more at_start items (Came (Closes conn) ∷ []) ∙ behind_one s (Came (Closes conn)))
      ∙ gone_without conn s.known)

  -- the application is closed
  pub does_departed : is_known 0 (behind_items at_start items).known ≡ false
      → ServesSoFar settings (acts ++ Called (Closed 0) ∷ []) (items ++ Came Departs ∷ [])
  does_departed unknown =
      let act = Called (Closed 0) in
      let s = behind_items at_start items in
      with_act_and_items so recorded act (Came Departs ∷ []) refl refl (λ conn. refl)
      (served_as (application_in_acts (acts ++ act ∷ [])) (application_in_items (items ++ Came Departs ∷ [])) NobodySeen NobodySeen (application_leaves acts)
      (application_items_more items (Came Departs ∷ [])) tt)
      (λ conn. refl)
      (λ conn is.
      ap (λ (x : Service). is_known conn x.known) (behind_one s (Came Departs))
      ∙ elim (cases_Bool (0 == conn)) [
        | inl mine ↦ subst (λ (n : ℕ). is_known n s.known ≡ false) (eqb-true 0 conn mine) unknown
        | inr other ↦ closed_on so act conn (rw other refl) is
      ])

  -- an application comes, and is told who is connected
  pub does_attached : (until : Option ℕ) (c : Conn) (notices : List ApplicationNotice) → c.0 ≡ 0 → application_in_acts acts ≡ NobodySeen
      → ServesSoFar settings (acts ++ Called (Turned until (happening.Writable c)) ∷ []) (items ++ Came Attaches ∷ map inform notices)
  does_attached until c notices is none =
      let act = Called (Turned until (happening.Writable c)) in
      let more = Came Attaches ∷ map inform notices in
      let s = behind_items at_start items in
      let told : SeenApplication = application_in_items (items ++ more) in
      with_act_and_items so recorded act more refl (notices_no_text notices) (λ conn. notices_no_events conn notices)
      (subst (λ (seen : SeenApplication). IsServedAs seen told) (sym (application_comes acts until c is none))
      (subst (IsServedAs (SeenThere [] [])) (sym (application_items_more items more))
      (notices_on (SeenThere [] []) (SeenThere [] []) notices (record { rest = []; is = refl }, record { rest = []; is = refl }))))
      (λ conn. refl)
      (λ conn closed.
      ap (λ (x : Service). is_known conn x.known) (behind_first s (Came Attaches) (map inform notices))
      ∙ ap (is_known conn) (known_behind_notices (behind_item s (Came Attaches)) notices)
      ∙ closed_on so act conn refl closed)

  -- a key file is fetched; and it is read
  pub does_keys_fetched : (name : List ℕ) (answer : Fetch) → ServesSoFar settings (acts ++ Fetched name answer ∷ []) (items ++ KeysFetched ∷ [])
  does_keys_fetched name answer = does_fetched (does_keys_fetch so recorded) name answer

  pub does_keys_read : (name : List ℕ) (answer : Fetch) (came : KeysAnswer)
      → ServesSoFar settings (acts ++ Fetched name answer ∷ []) (items ++ KeysFetched ∷ Came (KeysRead came) ∷ [])
  does_keys_read name answer came =
      let fetch = KeysFetched ∷ [] in
      let read = Came (KeysRead came) ∷ [] in
      does_fetched
      (subst (ServesSoFar settings acts) (append_assoc items fetch read)
      (does_keys (does_keys_fetch so recorded) (recorded_more settings acts items fetch recorded refl) came)) name answer
