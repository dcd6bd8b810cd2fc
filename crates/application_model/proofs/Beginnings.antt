-- What was told and done so far begins what is owed.
use Rattle.std.proofs.Common.{◌≡◌, ℕ, Bool, true, false, if◌then◌else◌, List, [], ◌∷◌, ◌++◌, Option, Some, None, refl, ap, sym, ◌∙◌, append_assoc, append-nil}
use Rattle.std.specs.List.{flat_map, cons_option}
use Rattle.std.proofs.lemmas.List.Elements.{filter-append}
use Rattle.application_lines.specs.declared.application_line.ApplicationLine.TheVariants.{Asks, Faulty}
use Rattle.application_lines.specs.declared.request.Request.TheVariants as request
use Rattle.application_lines.specs.Notices.{ApplicationNotice, notice_text}
use Rattle.application_model.specs.Lines.{notices_of_event, connected_lines, is_line_of, lines_of_connection}
use Rattle.application_model.specs.Histories.{ServiceHappening, Attaches, Departs, Brings, Takes, Opens, Befalls, Closes, KeysRead, ServiceItem, Came}
use Rattle.application_model.specs.Histories.{LineRead, Occurred, Informed, KeysFetched}
use Rattle.application_model.specs.Services.{Attendance, Absent, Attached, is_attached, waiting_more, heard_from, octets_taken_by, Service, at_start}
use Rattle.application_model.specs.Services.{service_behind_happening, behind_item, behind_items}
use Rattle.application_model.specs.Turns.{IsOldest, IsDoneInTurn}
use Rattle.application_model.specs.Claims.{lines_if_there, lines_due, RequestDeed, deeds_owed, deed_done, deeds_due}
use Rattle.application_model.specs.Laws.{IsNoChange, AreNoChanges, journal_of_item, told_in_item, ToldBeginsTheJournal, deeds_asked_in, deeds_done_in}
use Rattle.application_model.specs.Laws.{DoneBeginsTheAsked, AllAskedIsDone}
use Rattle.application_model.proofs.Turning.{turn_cut}

-- ---- an application stays

still_heard : (octets : List ℕ) (application : Attendance) → is_attached application ≡ true → is_attached (heard_from octets application) ≡ true
still_heard octets Absent there = absurd (cc)
still_heard octets (Attached standing waiting) there = refl

still_taken : (count : ℕ) (application : Attendance) → is_attached application ≡ true → is_attached (octets_taken_by count application) ≡ true
still_taken count Absent there = absurd (cc)
still_taken count (Attached standing waiting) there = refl

still_waiting : (text : List ℕ) (application : Attendance) → is_attached application ≡ true → is_attached (waiting_more text application) ≡ true
still_waiting text Absent there = absurd (cc)
still_waiting text (Attached standing waiting) there = refl

pub stays : (s : Service) (item : ServiceItem) → IsNoChange item → is_attached s.application ≡ true → is_attached (behind_item s item).application ≡ true
stays s (Came Attaches) no_change there = absurd no_change
stays s (Came Departs) no_change there = absurd no_change
stays s (Came (Brings octets)) no_change there = still_heard octets s.application there
stays s (Came (Takes count)) no_change there = still_taken count s.application there
stays s (Came (Opens what)) no_change there = there
stays s (Came (Befalls c what)) no_change there = there
stays s (Came (Closes c)) no_change there = there
stays s (Came (KeysRead answer)) no_change there = there
stays s (LineRead (Asks (request.Send c text))) no_change there = there
stays s (LineRead (Asks (request.Release c sub))) no_change there = there
stays s (LineRead (Asks request.Drain)) no_change there = there
stays s (LineRead (Asks request.Keys)) no_change there = there
stays s (LineRead (Asks request.Counts)) no_change there = there
stays s (LineRead (Faulty line why)) no_change there = there
stays s (Occurred time c what outcomes) no_change there = there
stays s (Informed notice) no_change there = still_waiting (notice_text notice) s.application there
stays s KeysFetched no_change there = there

-- ---- lines

module _ (conn : ℕ) where
  abbrev journal_lines : List ServiceItem → List ApplicationNotice
  journal_lines items = lines_of_connection conn (flat_map journal_of_item items)

  abbrev told_lines : List ServiceItem → List ApplicationNotice
  told_lines items = lines_of_connection conn (flat_map told_in_item items)

  there_owed : (application : Attendance) (notices : List ApplicationNotice) → is_attached application ≡ true
      → lines_if_there conn application notices ≡ lines_of_connection conn notices
  there_owed Absent notices there = absurd (cc)
  there_owed (Attached standing waiting) notices there = refl

  -- what was owed and what the journal brings is what was told and what is owed
  abbrev Balances : List ApplicationNotice → List ServiceItem → List ApplicationNotice → Type 0
  Balances owed items last = owed ++ journal_lines items ≡ told_lines items ++ last

  told_balances : (mine : Bool) (owed : List ApplicationNotice) (notice : ApplicationNotice) (items : List ServiceItem) (last : List ApplicationNotice)
      (Rest : List ApplicationNotice → Type 0) → ((left : List ApplicationNotice) → Rest left → Balances left items last)
      → IsOldest (if mine then Some notice else None) owed Rest
      → owed ++ journal_lines items ≡ (if mine then notice ∷ told_lines items else told_lines items) ++ last
  told_balances true owed notice items last Rest each (left, e, p) =
      ap (λ (l : List ApplicationNotice). l ++ journal_lines items) e ∙ ap (λ (l : List ApplicationNotice). notice ∷ l) (each left p)
  told_balances false owed notice items last Rest each p = each owed p

  came_balances : (s : Service) (happening : ServiceHappening) (owed : List ApplicationNotice) (items : List ServiceItem) (last : List ApplicationNotice)
      → IsNoChange (Came happening) → (IsDoneInTurn (lines_due conn) (service_behind_happening s happening) owed items last → Balances owed items last)
      → IsDoneInTurn (lines_due conn) s owed (Came happening ∷ items) last → Balances owed items last
  came_balances s Attaches owed items last none each p = absurd none
  came_balances s Departs owed items last none each p = absurd none
  came_balances s (Brings octets) owed items last none each p = each p
  came_balances s (Takes count) owed items last none each p = each p
  came_balances s (Opens what) owed items last none each p = each p
  came_balances s (Befalls c what) owed items last none each p = each p
  came_balances s (Closes c) owed items last none each p = each p
  came_balances s (KeysRead answer) owed items last none each p = each p

  balances : (s : Service) (owed : List ApplicationNotice) (items : List ServiceItem) (last : List ApplicationNotice) → is_attached s.application ≡ true
      → AreNoChanges items → IsDoneInTurn (lines_due conn) s owed items last → Balances owed items last
  balances s owed [] last there none p = append-nil owed ∙ p
  balances s owed (Came happening ∷ items) last there none p =
      came_balances s happening owed items last none.0
      (λ q. balances (behind_item s (Came happening)) owed items last (stays s (Came happening) none.0 there) none.1 q) p
  balances s owed (LineRead line ∷ items) last there none p =
      balances (behind_item s (LineRead line)) owed items last (stays s (LineRead line) none.0 there) none.1 p
  balances s owed (Occurred time c what outcomes ∷ items) last there none p =
      let item = Occurred time c what outcomes in
      let notices = notices_of_event c what outcomes in
      let mine = lines_of_connection conn notices in
      let rest = balances (behind_item s item) (owed ++ lines_if_there conn s.application notices) items last (stays s item none.0 there) none.1 p in
      ap (λ (l : List ApplicationNotice). owed ++ l) (filter-append (is_line_of conn) notices (flat_map journal_of_item items))
      ∙ sym (append_assoc owed mine (journal_lines items))
      ∙ ap (λ (l : List ApplicationNotice). (owed ++ l) ++ journal_lines items) (sym (there_owed s.application notices there))
      ∙ rest
  balances s owed (Informed notice ∷ items) last there none p =
      told_balances (is_line_of conn notice) owed notice items last (λ left. IsDoneInTurn (lines_due conn) (behind_item s (Informed notice)) left items last)
      (λ left q. balances (behind_item s (Informed notice)) left items last (stays s (Informed notice) none.0 there) none.1 q) p
  balances s owed (KeysFetched ∷ items) last there none p = balances s owed items last there none.1 p

pub told_begins : ToldBeginsTheJournal
told_begins conn before during after last p none =
    let here = turn_cut (lines_due conn) at_start [] before (Came Attaches ∷ (during ++ after)) last p in
    let s = behind_items at_start before in
    let first = lines_of_connection conn (connected_lines s.known) in
    let cut = turn_cut (lines_due conn) (behind_item s (Came Attaches)) first during after last here.rest in
    record {
      rest = cut.middle;
      is = filter-append (is_line_of conn) (connected_lines s.known) (flat_map journal_of_item during)
          ∙ balances conn (behind_item s (Came Attaches)) first during cut.middle refl none cut.first;
    }

-- ---- deeds

owed_grows : (s : Service) (item : ServiceItem) (owed : List RequestDeed) → deeds_owed s item owed ≡ owed ++ deeds_owed s item []
owed_grows s (Came happening) owed = sym (append-nil owed)
owed_grows s (LineRead line) owed = refl
owed_grows s (Occurred time c what outcomes) owed = sym (append-nil owed)
owed_grows s (Informed notice) owed = sym (append-nil owed)
owed_grows s KeysFetched owed = sym (append-nil owed)

oldest_balances : (done : Option RequestDeed) (grown asked rest last : List RequestDeed) (Rest : List RequestDeed → Type 0)
    → ((left : List RequestDeed) → Rest left → left ++ asked ≡ rest ++ last) → IsOldest done grown Rest → grown ++ asked ≡ cons_option done rest ++ last
oldest_balances None grown asked rest last Rest each p = each grown p
oldest_balances (Some deed) grown asked rest last Rest each (left, e, p) =
    ap (λ (l : List RequestDeed). l ++ asked) e ∙ ap (λ (l : List RequestDeed). deed ∷ l) (each left p)

deeds_balance : (s : Service) (owed : List RequestDeed) (items : List ServiceItem) (last : List RequestDeed) → IsDoneInTurn deeds_due s owed items last
    → owed ++ deeds_asked_in s items ≡ deeds_done_in items ++ last
deeds_balance s owed [] last p = append-nil owed ∙ p
deeds_balance s owed (item ∷ items) last p =
    let asked = deeds_asked_in (behind_item s item) items in
    sym (append_assoc owed (deeds_owed s item []) asked)
    ∙ ap (λ (l : List RequestDeed). l ++ asked) (sym (owed_grows s item owed))
    ∙ oldest_balances (deed_done item) (deeds_owed s item owed) asked (deeds_done_in items) last
    (λ left. IsDoneInTurn deeds_due (behind_item s item) left items last) (λ left q. deeds_balance (behind_item s item) left items last q) p

pub done_begins : DoneBeginsTheAsked
done_begins front back last p =
    let cut = turn_cut deeds_due at_start [] front back last p in
    record { rest = cut.middle; is = deeds_balance at_start [] front cut.middle cut.first }

pub all_done : AllAskedIsDone
all_done items p = deeds_balance at_start [] items [] p ∙ append-nil (deeds_done_in items)
