-- Lemmas: what is so at each moment stays so with items that are no act; for the proofs of the loop.
use Rattle.std.proofs.Common.{◌≡◌, ◌∙◌, ◌+◌, ◌==◌, inl, inr, ℕ, true, false, true≢false, List, [], ◌∷◌, ◌++◌, refl, sym, ap, subst, map, fold}
use Rattle.std.proofs.Common.{append-nil, append_assoc}
use Rattle.std.proofs.lemmas.Bool.{cases_Bool, eqb-true, ne_eqb, or_from}
use Rattle.std.proofs.lemmas.List.Folds.{list_any-append}
use Rattle.er_base.specs.LineTexts.{line_text}
use Rattle.er_settings.specs.Values.{Settings}
use Rattle.er_trace.specs.declared.event.Event.{Event}
use Rattle.er_trace.specs.Texts.{header_words}
use Rattle.outside.specs.Acts.{Act}
use Rattle.application_lines.specs.declared.application_line.ApplicationLine.{ApplicationLine}
use Rattle.application_lines.specs.declared.application_line.ApplicationLine.TheVariants.{Asks, Faulty}
use Rattle.application_lines.specs.declared.request.Request.TheVariants as request
use Rattle.application_lines.specs.Notices.{ApplicationNotice, notice_text}
use Rattle.std.specs.List.{flat_map}
use Rattle.application_model.specs.Ends.{SettingUp, KnownEnd, EventAt, is_known, without_end}
use Rattle.application_model.specs.Histories.{KeysAnswer, Brings, Takes, Opens, Befalls, Closes, KeysRead, ServiceItem, Came, LineRead, Informed, KeysFetched}
use Rattle.application_model.specs.Services.{Attendance, Absent, Attached, Service, at_start, behind_line, behind_items, inform, informed}
use Rattle.application_model.specs.Claims.{IsBeginning, events_at}
use Rattle.application_ends.specs.Laws.{recording_of_service}
use Rattle.application_serving.specs.SeenOctets.{octets_read_of, is_closed_in, SeenApplication, NobodySeen, SeenThere, application_in_acts}
use Rattle.application_serving.specs.Serving.{text_written_by_acts, told_more, application_behind_item, application_in_items, IsServedAs, octets_told_at}
use Rattle.application_serving.specs.Serving.{octets_event_brings, octets_heard_at, ServesSoFar}
use Rattle.application_serving.specs.OneMore.{behind_more, behind_one, events_more, told_more_at, heard_more_at, recording_more, application_items_more}
use Rattle.application_serving.specs.OneMore.{notices_no_events, notices_no_text, known_behind_notices, others_without, gone_without}

-- the header was written, and then what the history records
abbrev pub IsRecorded : Settings → List Act → List ServiceItem → Type 0
IsRecorded settings acts items = text_written_by_acts acts ≡ line_text (header_words settings) ++ recording_of_service items

-- ---- beginnings

pub begins_longer : {A : Type 0} (front whole more : List A) → IsBeginning front whole → IsBeginning front (whole ++ more)
begins_longer {A} front whole more begins =
    record { rest = begins.rest ++ more; is = ap (λ (xs : List A). xs ++ more) begins.is ∙ append_assoc front begins.rest more }

-- behind what both begin with
pub begins_behind : {A : Type 0} (first front whole : List A) → IsBeginning front whole → IsBeginning (first ++ front) (first ++ whole)
begins_behind {A} first front whole begins =
    record { rest = begins.rest; is = ap (λ (xs : List A). first ++ xs) begins.is ∙ sym (append_assoc first front begins.rest) }

pub begins_through : {A : Type 0} (a b c : List A) → IsBeginning a b → IsBeginning b c → IsBeginning a c
begins_through {A} a b c first then_c = subst (IsBeginning a) (sym then_c.is) (begins_longer a b then_c.rest first)

-- ---- an application that is there on both sides

pub served_there : (seen told : SeenApplication) (read given brought texts : List ℕ) → seen ≡ SeenThere read given → told ≡ SeenThere brought texts
    → IsServedAs seen told → IsBeginning given texts × IsBeginning brought read
served_there seen told read given brought texts s t served =
    subst (IsServedAs (SeenThere read given)) t (subst (λ (x : SeenApplication). IsServedAs x told) s served)

pub served_as : (seen told seen' told' : SeenApplication) → seen ≡ seen' → told ≡ told' → IsServedAs seen' told' → IsServedAs seen told
served_as seen told seen' told' s t served =
    subst (λ (x : SeenApplication). IsServedAs x told) (sym s) (subst (IsServedAs seen') (sym t) served)

-- it is told more
told_on : (seen told : SeenApplication) (text : List ℕ) → IsServedAs seen told → IsServedAs seen (told_more text told)
told_on NobodySeen NobodySeen text served = tt
told_on NobodySeen (SeenThere brought told) text served = absurd served
told_on (SeenThere read given) NobodySeen text served = absurd served
told_on (SeenThere read given) (SeenThere brought told) text served = (begins_longer given told text served.0, served.1)

pub notices_on : (seen told : SeenApplication) (notices : List ApplicationNotice) → IsServedAs seen told
    → IsServedAs seen (fold application_behind_item told (map inform notices))
notices_on seen told [] served = served
notices_on seen told (notice ∷ notices) served =
    notices_on seen (told_more (notice_text notice) told) notices (told_on seen told (notice_text notice) served)

pub informed_on : (seen told : SeenApplication) (there : Attendance) (notices : List ApplicationNotice) → IsServedAs seen told
    → IsServedAs seen (fold application_behind_item told (informed there notices))
informed_on seen told Absent notices served = served
informed_on seen told (Attached standing waiting) notices served = notices_on seen told notices served

-- ---- items

known_behind_line : (s : Service) (line : ApplicationLine) → (behind_line s line).known ≡ s.known
known_behind_line s (Asks (request.Send conn text)) = refl
known_behind_line s (Asks (request.Release conn sub)) = refl
known_behind_line s (Asks request.Drain) = refl
known_behind_line s (Asks request.Keys) = refl
known_behind_line s (Asks request.Counts) = refl
known_behind_line s (Faulty line why) = refl

-- one that is opened is known by its number alone
known_with : (c number : ℕ) (known : List KnownEnd) → is_known c known ≡ false → (number == c) ≡ false
    → is_known c (known ++ record { number = number; stage = SettingUp } ∷ []) ≡ false
known_with c number known none other =
    list_any-append (λ (k : KnownEnd). k.number == c) known (record { number = number; stage = SettingUp } ∷ [])
    ∙ or_from (is_known c known) (is_known c (record { number = number; stage = SettingUp } ∷ [])) none (rw other refl)

-- what was recorded, behind items without an event
pub recorded_more : (settings : Settings) (acts : List Act) (items more : List ServiceItem) → IsRecorded settings acts items → recording_of_service more ≡ []
    → IsRecorded settings acts (items ++ more)
recorded_more settings acts items more recorded none =
    recorded
    ∙ ap (λ (t : List ℕ). line_text (header_words settings) ++ t)
    (sym (recording_more items more ∙ ap (λ (t : List ℕ). recording_of_service items ++ t) none ∙ append-nil (recording_of_service items)))

module _ {settings : Settings} {acts : List Act} {items : List ServiceItem} (so : ServesSoFar settings acts items)
    (recorded : IsRecorded settings acts items) where
  -- items without an event
  with_items : (more : List ServiceItem) → recording_of_service more ≡ [] → ((conn : ℕ) → events_at conn more ≡ [])
      → IsServedAs (application_in_acts acts) (application_in_items (items ++ more))
      → ((conn : ℕ) → is_closed_in conn acts ≡ true → is_known conn (behind_items (behind_items at_start items) more).known ≡ false)
      → ServesSoFar settings acts (items ++ more)
  with_items more text events served closed =
      record {
        written = inr (recorded_more settings acts items more recorded text);
        served = served;
        given = λ conn above.
            subst (IsBeginning _) (sym (told_more_at conn items more))
            (begins_longer _ (octets_told_at conn items) (octets_told_at conn more) (so.given conn above));
        heard = λ conn.
            let same : octets_heard_at conn (items ++ more) ≡ octets_heard_at conn items =
            heard_more_at conn items more
            ∙ ap (λ (xs : List EventAt). octets_heard_at conn items ++ flat_map (λ (x : EventAt). octets_event_brings x.event) xs) (events conn)
            ∙ append-nil (octets_heard_at conn items) in
            subst (λ (os : List ℕ). IsBeginning os (octets_read_of conn acts)) (sym same) (so.heard conn);
        brought = λ conn not_brought.
            events_more conn items more
            ∙ ap (λ (xs : List EventAt). xs ++ events_at conn more) (so.brought conn not_brought)
            ∙ events conn;
        closed = λ conn is. ap (λ (s : Service). is_known conn s.known) (behind_more at_start items more) ∙ closed conn is;
      }

  -- one item that changes nothing of who is known, nor of the application
  with_plain : (item : ServiceItem) → recording_of_service (item ∷ []) ≡ [] → ((conn : ℕ) → events_at conn (item ∷ []) ≡ [])
      → ((told : SeenApplication) → application_behind_item told item ≡ told) → ((s : Service) → (behind_items s (item ∷ [])).known ≡ s.known)
      → ServesSoFar settings acts (items ++ item ∷ [])
  with_plain item text events quiet known =
      with_items (item ∷ []) text events
      (subst (IsServedAs (application_in_acts acts)) (sym (application_items_more items (item ∷ []) ∙ quiet (application_in_items items))) so.served)
      (λ conn is. ap (is_known conn) (known (behind_items at_start items)) ∙ so.closed conn is)

  -- octets of the application are heard that were read and are held
  pub does_brings : (octets brought held given told : List ℕ) → application_in_acts acts ≡ SeenThere (brought ++ held) given
      → application_in_items items ≡ SeenThere brought told → IsBeginning octets held → ServesSoFar settings acts (items ++ Came (Brings octets) ∷ [])
  does_brings octets brought held given told seen heard begins =
      with_items (Came (Brings octets) ∷ []) refl (λ conn. refl)
      (served_as (application_in_acts acts) (application_in_items (items ++ Came (Brings octets) ∷ [])) (SeenThere (brought ++ held) given)
      (SeenThere (brought ++ octets) told) seen
      (application_items_more items (Came (Brings octets) ∷ [])
      ∙ ap (λ (x : SeenApplication). application_behind_item x (Came (Brings octets))) heard) (
        (served_there (application_in_acts acts) (application_in_items items) (brought ++ held) given brought told seen heard so.served).0,
        begins_behind brought octets held begins,
      ))
      (λ conn is.
      ap (λ (s : Service). is_known conn s.known) (behind_one (behind_items at_start items) (Came (Brings octets))) ∙ so.closed conn is)

  pub does_takes : (count : ℕ) → ServesSoFar settings acts (items ++ Came (Takes count) ∷ [])
  does_takes count =
      with_plain (Came (Takes count)) refl (λ conn. refl) (λ told. refl) (λ s. ap (λ (x : Service). x.known) (behind_one s (Came (Takes count))))

  -- a connection is opened at the next number
  pub does_opens : (what : Event) → is_closed_in ((behind_items at_start items).opened + 1) acts ≡ false
      → ServesSoFar settings acts (items ++ Came (Opens what) ∷ [])
  does_opens what open_yet =
      let s = behind_items at_start items in
      with_items (Came (Opens what) ∷ []) refl (λ conn. refl)
      (subst (IsServedAs (application_in_acts acts)) (sym (application_items_more items (Came (Opens what) ∷ []))) so.served)
      (λ conn is.
      let other : (s.opened + 1 == conn) ≡ false =
      ne_eqb (s.opened + 1) conn (λ same. true≢false (sym is ∙ ap (λ (n : ℕ). is_closed_in n acts) (sym same) ∙ open_yet)) in
      ap (λ (x : Service). is_known conn x.known) (behind_one s (Came (Opens what)))
      ∙ known_with conn (s.opened + 1) s.known (so.closed conn is) other)

  pub does_befalls : (conn : ℕ) (what : Event) → ServesSoFar settings acts (items ++ Came (Befalls conn what) ∷ [])
  does_befalls conn what =
      with_plain (Came (Befalls conn what)) refl (λ c. refl) (λ told. refl) (λ s. ap (λ (x : Service). x.known) (behind_one s (Came (Befalls conn what))))

  -- a live connection isn't known any more
  pub does_closes : (conn : ℕ) → ServesSoFar settings acts (items ++ Came (Closes conn) ∷ [])
  does_closes conn =
      let s = behind_items at_start items in
      with_items (Came (Closes conn) ∷ []) refl (λ c. refl)
      (subst (IsServedAs (application_in_acts acts)) (sym (application_items_more items (Came (Closes conn) ∷ []))) so.served)
      (λ c is.
      ap (λ (x : Service). is_known c x.known) (behind_one s (Came (Closes conn)))
      ∙ elim (cases_Bool (c == conn)) [
        | inl mine ↦
            subst (λ (n : ℕ). is_known n (without_end conn s.known) ≡ false) (sym (eqb-true c conn mine)) (gone_without conn s.known)
        | inr other ↦ others_without c conn s.known other ∙ so.closed c is
      ])

  pub does_line_read : (line : ApplicationLine) → ServesSoFar settings acts (items ++ LineRead line ∷ [])
  does_line_read line =
      with_plain (LineRead line) refl (λ conn. refl) (λ told. refl)
      (λ s. ap (λ (x : Service). x.known) (behind_one s (LineRead line)) ∙ known_behind_line s line)

  pub does_informed : (notices : List ApplicationNotice) → ServesSoFar settings acts (items ++ map inform notices)
  does_informed notices =
      with_items (map inform notices) (notices_no_text notices) (λ conn. notices_no_events conn notices)
      (subst (IsServedAs (application_in_acts acts)) (sym (application_items_more items (map inform notices)))
      (notices_on (application_in_acts acts) (application_in_items items) notices so.served))
      (λ conn is. ap (is_known conn) (known_behind_notices (behind_items at_start items) notices) ∙ so.closed conn is)

  pub does_informed_one : (notice : ApplicationNotice) → ServesSoFar settings acts (items ++ Informed notice ∷ [])
  does_informed_one notice = does_informed (notice ∷ [])

  -- the same where an application may be there
  pub does_informed_there : (there : Attendance) (notices : List ApplicationNotice) → ServesSoFar settings acts (items ++ informed there notices)
  does_informed_there Absent notices = does_informed []
  does_informed_there (Attached standing waiting) notices = does_informed notices

  pub does_keys : (came : KeysAnswer) → ServesSoFar settings acts (items ++ Came (KeysRead came) ∷ [])
  does_keys came =
      with_plain (Came (KeysRead came)) refl (λ conn. refl) (λ told. refl) (λ s. ap (λ (x : Service). x.known) (behind_one s (Came (KeysRead came))))

  pub does_keys_fetch : ServesSoFar settings acts (items ++ KeysFetched ∷ [])
  does_keys_fetch = with_plain KeysFetched refl (λ conn. refl) (λ told. refl) (λ s. ap (λ (x : Service). x.known) (behind_one s KeysFetched))
