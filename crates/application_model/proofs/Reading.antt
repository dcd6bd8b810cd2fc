-- The lines of an application are read in turn.
use Rattle.std.proofs.Common.{◌≡◌, ◌∙◌, ℕ, zero, suc, ◌+◌, nat_lt, true, not, ◌&&◌, inl, inr, List, [], ◌∷◌, ◌++◌, length, map, refl, sym, ap, subst}
use Rattle.std.proofs.Common.{append-nil, append_assoc}
use Rattle.std.specs.List.{flat_map, filter_map}
use Rattle.std.proofs.lemmas.Bool.{cases_Bool}
use Rattle.er_trace.specs.declared.event.Event.{Event}
use Rattle.er_trace.specs.declared.event.Event.TheVariants as event
use Rattle.application_lines.specs.declared.application_line.ApplicationLine.{ApplicationLine}
use Rattle.application_lines.specs.declared.application_line.ApplicationLine.TheVariants.{Asks, Faulty}
use Rattle.application_lines.specs.declared.request.Request.TheVariants as request
use Rattle.application_lines.specs.Notices.{ApplicationNotice, Gone, notice_text}
use Rattle.application_lines.specs.Streams.{pieces_tell}
use Rattle.application_lines.specs.Standings.{LineStanding, at_first_line, at_last_piece, says_from, line_standing_from}
use Rattle.application_lines.specs.StreamLaws.{LinesGoOn, IsWholeFromTheFirst}
use Rattle.application_model.specs.Ends.{EndKind, is_known, numbers_known, numbers_unparted}
use Rattle.application_model.specs.Lines.{notices_of_event, connected_lines}
use Rattle.application_model.specs.Histories.{ServiceHappening, Attaches, Departs, Brings, Takes, Opens, Befalls, Closes, KeysRead, ServiceItem, Came}
use Rattle.application_model.specs.Histories.{LineRead, Occurred, Informed, KeysFetched}
use Rattle.application_model.specs.Services.{Attendance, Absent, Attached, is_attached, has_room, heard_from, octets_taken_by, waiting_more, Service}
use Rattle.application_model.specs.Services.{at_start, behind_line, behind_item, behind_items, one_then, inform, informed, informs, keys_notice}
use Rattle.application_model.specs.Services.{lines_brought, is_of_outside, time_at, occurs, takes_most, takes_at, takes_waiting, releases_all, at_live}
use Rattle.application_model.specs.Services.{answers_line, reads_line, reads_lines, meets, serves_one, serves_all}
use Rattle.application_model.specs.Turns.{IsDoneInTurn}
use Rattle.application_model.specs.Laws.{IsNoChange, AreNoChanges, lines_due_to_read, line_read_by, octets_brought_by, LinesAreRead, ReadBeginsTheSaid}
use Rattle.application_model.proofs.Turning.{turn_append, turn_cut}
use Rattle.application_model.proofs.Beginnings.{stays}

-- ---- items by which no line is read or brought, and no application comes or leaves

abbrev IsUnread : ServiceItem → Type 0
IsUnread (Came happening) = ⊥
IsUnread (LineRead line) = ⊥
IsUnread (Occurred time conn what outcomes) = Unit {0}
IsUnread (Informed notice) = Unit {0}
IsUnread KeysFetched = Unit {0}

abbrev AllUnread : List ServiceItem → Type 0
AllUnread [] = Unit {0}
AllUnread (item ∷ items) = IsUnread item × AllUnread items

unread_append : (a b : List ServiceItem) → AllUnread a → AllUnread b → AllUnread (a ++ b)
unread_append [] b p q = q
unread_append (item ∷ a) b p q = (p.0, unread_append a b p.1 q)

-- what is owed stays owed, and an application stays there
unread_keep : (s : Service) (owed : List ApplicationLine) (items : List ServiceItem) → AllUnread items → IsDoneInTurn lines_due_to_read s owed items owed
unread_keep s owed [] p = refl
unread_keep s owed (Came happening ∷ items) p = absurd p.0
unread_keep s owed (LineRead line ∷ items) p = absurd p.0
unread_keep s owed (Occurred time conn what outcomes ∷ items) p = unread_keep (behind_item s (Occurred time conn what outcomes)) owed items p.1
unread_keep s owed (Informed notice ∷ items) p = unread_keep (behind_item s (Informed notice)) owed items p.1
unread_keep s owed (KeysFetched ∷ items) p = unread_keep s owed items p.1

unread_stay : (s : Service) (items : List ServiceItem) → AllUnread items → is_attached s.application ≡ true → is_attached (behind_items s items).application ≡ true
unfolding behind_items
unread_stay s [] p there = there
unread_stay s (Came happening ∷ items) p there = absurd p.0
unread_stay s (LineRead line ∷ items) p there = absurd p.0
unread_stay s (Occurred time conn what outcomes ∷ items) p there = unread_stay (behind_item s (Occurred time conn what outcomes)) items p.1 there
unread_stay s (Informed notice ∷ items) p there = unread_stay (behind_item s (Informed notice)) items p.1 (stays s (Informed notice) tt there)
unread_stay s (KeysFetched ∷ items) p there = unread_stay s items p.1 there

told_unread : (notices : List ApplicationNotice) → AllUnread (map inform notices)
told_unread [] = tt
told_unread (notice ∷ notices) = (tt, told_unread notices)

informed_unread : (application : Attendance) (notices : List ApplicationNotice) → AllUnread (informed application notices)
informed_unread Absent notices = tt
informed_unread (Attached standing waiting) notices = told_unread notices

module _ (kind : EndKind) where
  event_unread : (moment conn : ℕ) (what : Event) (s : Service) → AllUnread (occurs kind moment conn what s)
  event_unread moment conn what s = (tt, informed_unread s.application (notices_of_event conn what (kind.tells (s.ends conn) (time_at moment s) what)))

  most_unread : (moment conn most : ℕ) (s : Service) → AllUnread (takes_most kind moment conn most s)
  unfolding takes_most one_then
  most_unread moment conn zero s = tt
  most_unread moment conn (suc most) s =
      elim (cases_Bool (has_room s.application && nat_lt 0 (length (kind.waiting (s.ends conn))))) [
        | inl may ↦
            let first = occurs kind moment conn event.Take s in
            rw may
            (unread_append first (takes_most kind moment conn most (behind_items s first)) (event_unread moment conn event.Take s)
            (most_unread moment conn most (behind_items s first)))
        | inr no_more ↦ rw no_more tt
      ]

  takes_unread : (moment : ℕ) (conns : List ℕ) (s : Service) → AllUnread (takes_at kind moment conns s)
  unfolding takes_at one_then
  takes_unread moment [] s = tt
  takes_unread moment (conn ∷ conns) s =
      let first = takes_most kind moment conn (length (kind.waiting (s.ends conn))) s in
      unread_append first (takes_at kind moment conns (behind_items s first)) (most_unread moment conn (length (kind.waiting (s.ends conn))) s)
      (takes_unread moment conns (behind_items s first))

  releases_unread : (moment : ℕ) (conns : List ℕ) (s : Service) → AllUnread (releases_all kind moment conns s)
  unfolding releases_all one_then
  releases_unread moment [] s = tt
  releases_unread moment (conn ∷ conns) s =
      let first = occurs kind moment conn (event.Release 0) s in
      unread_append first (releases_all kind moment conns (behind_items s first)) (event_unread moment conn (event.Release 0) s)
      (releases_unread moment conns (behind_items s first))

  live_unread : (moment conn : ℕ) (what : Event) (s : Service) → AllUnread (at_live kind moment conn what s)
  live_unread moment conn what s =
      elim (cases_Bool (is_known conn s.known)) [
        | inl live ↦ rw live (event_unread moment conn what s)
        | inr other ↦ rw other (informed_unread s.application (Gone conn ∷ []))
      ]

  answers_unread : (moment : ℕ) (line : ApplicationLine) (s : Service) → AllUnread (answers_line kind moment line s)
  answers_unread moment (Asks (request.Send conn text)) s = live_unread moment conn (event.Send text) s
  answers_unread moment (Asks (request.Release conn sub)) s = live_unread moment conn (event.Release sub) s
  answers_unread moment (Asks request.Drain) s = releases_unread moment (numbers_unparted s.known) s
  answers_unread moment (Asks request.Keys) s = (tt, tt)
  answers_unread moment (Asks request.Counts) s = informed_unread s.application _
  answers_unread moment (Faulty line why) s = informed_unread s.application _

  -- ---- lines

  line_there : (s : Service) (line : ApplicationLine) → is_attached s.application ≡ true → is_attached (behind_line s line).application ≡ true
  line_there s line there = stays s (LineRead line) tt there

  lines_read : (moment : ℕ) (lines : List ApplicationLine) (s : Service) → is_attached s.application ≡ true
      → IsDoneInTurn lines_due_to_read s lines (reads_lines kind moment lines s) []
  unfolding reads_lines reads_line one_then behind_items
  lines_read moment [] s there = refl
  lines_read moment (line ∷ lines) s there =
      let t = behind_line s line in
      let answers = answers_line kind moment line t in
      let u = behind_items t answers in
      let unread = answers_unread moment line t in
      rw there
      (turn_append lines_due_to_read s (line ∷ lines) (LineRead line ∷ answers) (reads_lines kind moment lines u) lines []
      (lines, refl, unread_keep t lines answers unread)
      (lines_read moment lines u (unread_stay t answers unread (line_there s line there))))

  -- ---- what comes

  abbrev ReadOf : Service → List ServiceItem → Type 0
  ReadOf s items = IsDoneInTurn lines_due_to_read s [] items []

  unread_read : (s : Service) (items : List ServiceItem) → AllUnread items → ReadOf s items
  unread_read s items p = unread_keep s [] items p

  then_read : (s : Service) (a b : List ServiceItem) → ReadOf s a → ReadOf (behind_items s a) b → ReadOf s (a ++ b)
  then_read s a b p q = turn_append lines_due_to_read s [] a b [] [] p q

  heard_there : (octets : List ℕ) (application : Attendance) → has_room application ≡ true → is_attached (heard_from octets application) ≡ true
  heard_there octets Absent room = absurd (cc)
  heard_there octets (Attached standing waiting) room = refl

  meets_read : (moment : ℕ) (happening : ServiceHappening) (s : Service) → ReadOf s (meets kind moment happening s)
  unfolding meets one_then behind_items
  meets_read moment Attaches s =
      elim (cases_Bool (is_attached s.application)) [
        | inl there ↦ rw there refl
        | inr away ↦ rw away (unread_keep (behind_item s (Came Attaches)) [] (map inform (connected_lines s.known)) (told_unread (connected_lines s.known)))
      ]
  meets_read moment Departs s = refl
  meets_read moment (Brings octets) s =
      elim (cases_Bool (has_room s.application)) [
        | inl room ↦
            rw room (lines_read moment (lines_brought octets s.application) (behind_item s (Came (Brings octets))) (heard_there octets s.application room))
        | inr full ↦ rw full refl
      ]
  meets_read moment (Takes count) s = refl
  meets_read moment (Opens what) s =
      elim (cases_Bool (is_of_outside what && not s.draining)) [
        | inl may ↦
            let t = behind_item s (Came (Opens what)) in
            rw may (unread_read t (occurs kind moment (s.opened + 1) what t) (event_unread moment (s.opened + 1) what t))
        | inr no_more ↦ rw no_more refl
      ]
  meets_read moment (Befalls conn what) s =
      elim (cases_Bool (is_of_outside what && is_known conn s.known)) [
        | inl may ↦ rw may (unread_read s (occurs kind moment conn what s) (event_unread moment conn what s))
        | inr no_more ↦ rw no_more refl
      ]
  meets_read moment (Closes conn) s = refl
  meets_read moment (KeysRead answer) s =
      let t = behind_item s (Came (KeysRead answer)) in
      unread_read t (informs (keys_notice answer ∷ []) t) (informed_unread t.application (keys_notice answer ∷ []))

  all_read : (happenings : List (ℕ × ServiceHappening)) (s : Service) → ReadOf s (serves_all kind happenings s)
  unfolding serves_all serves_one takes_waiting one_then
  all_read [] s = refl
  all_read (next ∷ happenings) s =
      let first = meets kind next.0 next.1 s in
      let t = behind_items s first in
      let taken = takes_at kind next.0 (numbers_known t.known) t in
      then_read s (first ++ taken) (serves_all kind happenings (behind_items s (first ++ taken)))
      (then_read s first taken (meets_read next.0 next.1 s) (unread_read t taken (takes_unread next.0 (numbers_known t.known) t)))
      (all_read happenings (behind_items s (first ++ taken)))

pub lines_are_read : LinesAreRead
lines_are_read kind happenings = all_read kind happenings at_start

-- ---- what it means

-- before the first octet
nothing_said : says_from at_first_line [] ≡ []
unfolding says_from pieces_tell
nothing_said = refl

stands_first : at_first_line ≡ line_standing_from at_first_line []
unfolding line_standing_from at_last_piece
stands_first = refl

module _ (on : LinesGoOn) where
  abbrev brought_in : List ServiceItem → List ℕ
  brought_in items = flat_map octets_brought_by items

  abbrev read_in : List ServiceItem → List ApplicationLine
  read_in items = filter_map line_read_by items

  -- an application is there, and its stream stands so
  abbrev StandsAt : Attendance → LineStanding → Type 0
  StandsAt Absent standing = ⊥
  StandsAt (Attached here waiting) standing = here ≡ standing

  stands_told : (text : List ℕ) (application : Attendance) (standing : LineStanding) → StandsAt application standing → StandsAt (waiting_more text application) standing
  stands_told text Absent standing p = absurd p
  stands_told text (Attached here waiting) standing p = p

  stands_taken : (count : ℕ) (application : Attendance) (standing : LineStanding) → StandsAt application standing → StandsAt (octets_taken_by count application) standing
  stands_taken count Absent standing p = absurd p
  stands_taken count (Attached here waiting) standing p = p

  stands_line : (s : Service) (line : ApplicationLine) (standing : LineStanding) → StandsAt s.application standing → StandsAt (behind_line s line).application standing
  stands_line s (Asks (request.Send conn text)) standing p = p
  stands_line s (Asks (request.Release conn sub)) standing p = p
  stands_line s (Asks request.Drain) standing p = p
  stands_line s (Asks request.Keys) standing p = p
  stands_line s (Asks request.Counts) standing p = p
  stands_line s (Faulty line why) standing p = p

  -- behind these octets, by which these lines were said
  abbrev Hears : Attendance → (came : List ℕ) → List ApplicationLine → Type 0
  Hears application came said = StandsAt application (line_standing_from at_first_line came) × (said ≡ says_from at_first_line came)

  heard_more : (octets : List ℕ) (application : Attendance) (came : List ℕ) (read owed : List ApplicationLine) → Hears application came (read ++ owed)
      → Hears (heard_from octets application) (came ++ octets) (read ++ (owed ++ lines_brought octets application))
  heard_more octets Absent came read owed p = absurd p.0
  heard_more octets (Attached here waiting) came read owed p =
      let more = on at_first_line came octets in (
        ap (λ (t : LineStanding). line_standing_from t octets) p.0 ∙ sym more.stands,
        sym (append_assoc read owed (says_from here octets))
            ∙ ap (λ (l : List ApplicationLine). l ++ says_from here octets) p.1
            ∙ ap (λ (t : LineStanding). says_from at_first_line came ++ says_from t octets) p.0
            ∙ sym more.says,
      )

  -- what was read and is owed is what was said
  abbrev IsAllSaid : (came : List ℕ) (read : List ApplicationLine) → List ServiceItem → (last : List ApplicationLine) → Type 0
  IsAllSaid came read items last = (read ++ read_in items) ++ last ≡ says_from at_first_line (came ++ brought_in items)

  -- where nothing is brought
  quietly : (t : Service) (came : List ℕ) (read owed : List ApplicationLine) (items : List ServiceItem) (last : List ApplicationLine)
      → Hears t.application came (read ++ owed)
      → ((u : Service) (more : List ℕ) (due : List ApplicationLine) → Hears u.application (came ++ more) (read ++ due)
      → IsDoneInTurn lines_due_to_read u due items last → IsAllSaid (came ++ more) read items last)
      → IsDoneInTurn lines_due_to_read t owed items last → IsAllSaid came read items last
  quietly t came read owed items last hears each done =
      let same = append-nil came in
      subst (λ (c : List ℕ). IsAllSaid c read items last) same (each t [] owed (subst (λ (c : List ℕ). Hears t.application c (read ++ owed)) (sym same) hears) done)

  came_balance : (s : Service) (happening : ServiceHappening) (came : List ℕ) (read owed : List ApplicationLine) (items : List ServiceItem)
      (last : List ApplicationLine) → IsNoChange (Came happening) → Hears s.application came (read ++ owed)
      → ((t : Service) (more : List ℕ) (due : List ApplicationLine) → Hears t.application (came ++ more) (read ++ due)
      → IsDoneInTurn lines_due_to_read t due items last → IsAllSaid (came ++ more) read items last)
      → IsDoneInTurn lines_due_to_read s owed (Came happening ∷ items) last → IsAllSaid came read (Came happening ∷ items) last
  came_balance s Attaches came read owed items last none hears each done = absurd none
  came_balance s Departs came read owed items last none hears each done = absurd none
  came_balance s (Brings octets) came read owed items last none hears each done =
      each (behind_item s (Came (Brings octets))) octets (owed ++ lines_brought octets s.application) (heard_more octets s.application came read owed hears) done
      ∙ ap (says_from at_first_line) (append_assoc came octets (brought_in items))
  came_balance s (Takes count) came read owed items last none hears each done =
      quietly (behind_item s (Came (Takes count))) came read owed items last (stands_taken count s.application _ hears.0, hears.1) each done
  came_balance s (Opens what) came read owed items last none hears each done = quietly (behind_item s (Came (Opens what))) came read owed items last hears each done
  came_balance s (Befalls c what) came read owed items last none hears each done = quietly s came read owed items last hears each done
  came_balance s (Closes c) came read owed items last none hears each done = quietly (behind_item s (Came (Closes c))) came read owed items last hears each done
  came_balance s (KeysRead answer) came read owed items last none hears each done =
      quietly (behind_item s (Came (KeysRead answer))) came read owed items last hears each done

  balances : (s : Service) (came : List ℕ) (read owed : List ApplicationLine) (items : List ServiceItem) (last : List ApplicationLine)
      → Hears s.application came (read ++ owed) → AreNoChanges items → IsDoneInTurn lines_due_to_read s owed items last → IsAllSaid came read items last
  balances s came read owed [] last hears none done =
      ap (λ (l : List ApplicationLine). l ++ last) (append-nil read) ∙ ap (λ (l : List ApplicationLine). read ++ l) (sym done) ∙ hears.1
      ∙ ap (says_from at_first_line) (sym (append-nil came))
  balances s came read owed (Came happening ∷ items) last hears none done =
      came_balance s happening came read owed items last none.0 hears (λ t more due h d. balances t (came ++ more) read due items last h none.1 d) done
  balances s came read owed (LineRead line ∷ items) last hears none (left, e, done) =
      let t = behind_item s (LineRead line) in
      let one = append_assoc read (line ∷ []) left in
      ap (λ (l : List ApplicationLine). l ++ last) (sym (append_assoc read (line ∷ []) (read_in items)))
      ∙ balances t came (read ++ line ∷ []) left items last
      (stands_line s line _ hears.0, one ∙ ap (λ (l : List ApplicationLine). read ++ l) (sym e) ∙ hears.1) none.1 done
  balances s came read owed (Occurred time conn what outcomes ∷ items) last hears none done =
      balances (behind_item s (Occurred time conn what outcomes)) came read owed items last hears none.1 done
  balances s came read owed (Informed notice ∷ items) last hears none done =
      balances (behind_item s (Informed notice)) came read owed items last (stands_told (notice_text notice) s.application _ hears.0, hears.1) none.1 done
  balances s came read owed (KeysFetched ∷ items) last hears none done = balances s came read owed items last hears none.1 done

pub read_begins : LinesGoOn → IsWholeFromTheFirst → ReadBeginsTheSaid
read_begins on whole before during after last done none =
    let here = turn_cut lines_due_to_read at_start [] before (Came Attaches ∷ (during ++ after)) last done in
    let s = behind_items at_start before in
    let cut = turn_cut lines_due_to_read (behind_item s (Came Attaches)) [] during after last here.rest in
    record {
      rest = cut.middle;
      is = whole (flat_map octets_brought_by during)
          ∙ sym (balances on (behind_item s (Came Attaches)) [] [] [] during cut.middle (stands_first, sym nothing_said) none cut.first);
    }
