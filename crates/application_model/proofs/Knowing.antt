-- What a loop knows of a live connection is what the events at its end told: numbers are given once, and no event comes before its connection is opened.
use Rattle.std.proofs.Common.{arith, ◌≡◌, ◌∙◌, ◌≤◌, ◌<◌, ◌+◌, ◌==◌, ◌&&◌, not, ℕ, zero, suc, nat_lt, Bool, true, false, inl, inr, List, [], ◌∷◌, ◌++◌, length}
use Rattle.std.proofs.Common.{map, refl, ap, sym, subst, append-nil, if◌then◌else◌}
use Rattle.std.specs.List.{All}
use Rattle.std.proofs.lemmas.Bool.{cases_Bool, eqb-true, ne_eqb}
use Rattle.std.proofs.lemmas.List.Elements.{All-nil, All-cons}
use Rattle.er_trace.specs.declared.event.Event.{Event}
use Rattle.er_trace.specs.declared.event.Event.TheVariants as event
use Rattle.er_trace.specs.Outcomes.{TraceOutcome}
use Rattle.application_lines.specs.declared.application_line.ApplicationLine.{ApplicationLine}
use Rattle.application_lines.specs.declared.application_line.ApplicationLine.TheVariants.{Asks, Faulty}
use Rattle.application_lines.specs.declared.request.Request.TheVariants as request
use Rattle.application_lines.specs.Notices.{ApplicationNotice}
use Rattle.application_model.specs.Ends.{EndStage, SettingUp, Speaking, Parted, KnownEnd, stage_after, end_stage_behind, learning, known_behind, without_end}
use Rattle.application_model.specs.Ends.{is_known, numbers_known, number_unless_parted, numbers_unparted, EventTime, EventAt, EndKind}
use Rattle.application_model.specs.Lines.{notices_of_event, connected_lines}
use Rattle.application_model.specs.Histories.{ServiceHappening, Attaches, Departs, Brings, Takes, Opens, Befalls, Closes, KeysRead, ServiceItem, Came}
use Rattle.application_model.specs.Histories.{LineRead, Occurred, Informed, KeysFetched}
use Rattle.application_model.specs.Services.{Attendance, Absent, Attached, is_attached, has_room, Service, at_start, behind_line, service_behind_happening}
use Rattle.application_model.specs.Services.{behind_item, behind_items, one_then, inform, informed, informs, reads, came_alone, keys_notice, lines_brought}
use Rattle.application_model.specs.Services.{is_of_outside, time_at, occurs, takes_most, takes_at, takes_waiting, releases_all, at_live, answers_line}
use Rattle.application_model.specs.Services.{reads_line, reads_lines, meets, serves_one, serves_all}
use Rattle.application_model.specs.Claims.{outcomes_alone}
use Rattle.application_model.specs.Laws.{IsKnownByEvents, KnowsByEvents, EachTellsItsOwn, readings_in_item, readings_in, EventsHaveTheNewestKeys}
use Rattle.application_model.proofs.Alone.{alone_append, all_came}

-- ---- stages

pub stage_parts : (stage : EndStage) (a b : List TraceOutcome) → end_stage_behind stage (a ++ b) ≡ end_stage_behind (end_stage_behind stage a) b
stage_parts stage [] b = refl
stage_parts stage (outcome ∷ a) b = stage_parts (stage_after stage outcome) a b

-- ---- numbers that were given

abbrev Below : ℕ → List ℕ → Type 0
Below top [] = Unit {0}
Below top (n ∷ ns) = (n ≤ top) × Below top ns

below_more : (top more : ℕ) (ns : List ℕ) → top ≤ more → Below top ns → Below more ns
below_more top more [] p q = tt
below_more top more (n ∷ ns) p q = (omega (arith, p, q.0), below_more top more ns p q.1)

module _ (kind : EndKind) where
  -- ---- what is known

  abbrev EachKnown : (ℕ → List EventAt) → ℕ → List KnownEnd → Type 0
  EachKnown ends opened [] = Unit {0}
  EachKnown ends opened (k ∷ known) = IsKnownByEvents kind ends k × (k.number ≤ opened) × EachKnown ends opened known

  abbrev NoneYet : (ℕ → List EventAt) → ℕ → Type 0
  NoneYet ends opened = (n : ℕ) → opened < n → ends n ≡ []

  abbrev Knows : Service → Type 0
  Knows s = EachKnown s.ends s.opened s.known × NoneYet s.ends s.opened

  numbers_below : (ends : ℕ → List EventAt) (opened : ℕ) (known : List KnownEnd) → EachKnown ends opened known → Below opened (numbers_known known)
  numbers_below ends opened [] p = tt
  numbers_below ends opened (k ∷ known) p = (p.1, numbers_below ends opened known p.2)

  unparted_below : (ends : ℕ → List EventAt) (opened : ℕ) (known : List KnownEnd) → EachKnown ends opened known → Below opened (numbers_unparted known)
  unparted_below ends opened [] p = tt
  unparted_below ends opened (k ∷ known) p =
      below_then opened k.number k.stage (numbers_unparted known) p.1 (unparted_below ends opened known p.2)
    where
      below_then : (opened number : ℕ) (stage : EndStage) (rest : List ℕ) → number ≤ opened → Below opened rest
          → Below opened (number_unless_parted number stage ++ rest)
      below_then opened number SettingUp rest p q = (p, q)
      below_then opened number (Speaking peer) rest p q = (p, q)
      below_then opened number Parted rest p q = q

  known_below : (ends : ℕ → List EventAt) (opened conn : ℕ) (known : List KnownEnd) → EachKnown ends opened known → is_known conn known ≡ true
      → conn ≤ opened
  known_below ends opened conn [] p live = absurd (cc)
  known_below ends opened conn (k ∷ known) p live =
      elim (cases_Bool (k.number == conn)) [
        | inl mine ↦ subst (λ (n : ℕ). n ≤ opened) (eqb-true k.number conn mine) p.1
        | inr other ↦ known_below ends opened conn known p.2 (rw other at live)
      ]

  -- ---- an item of a history

  abbrev IsFitting : Service → ServiceItem → Type 0
  IsFitting s (Came happening) = Unit {0}
  IsFitting s (LineRead line) = Unit {0}
  IsFitting s (Occurred time c what outcomes) = (c ≤ s.opened) × (outcomes ≡ kind.tells (s.ends c) time what) × (time.keys ≡ s.keys)
  IsFitting s (Informed notice) = Unit {0}
  IsFitting s KeysFetched = Unit {0}

  abbrev AllFit : Service → List ServiceItem → Type 0
  AllFit s [] = Unit {0}
  AllFit s (item ∷ items) = IsFitting s item × AllFit (behind_item s item) items

  fit_append : (s : Service) (a b : List ServiceItem) → AllFit s a → AllFit (behind_items s a) b → AllFit s (a ++ b)
  unfolding behind_items
  fit_append s [] b p q = q
  fit_append s (item ∷ a) b p q = (p.0, fit_append (behind_item s item) a b p.1 q)

  -- one that is opened
  opens : (ends : ℕ → List EventAt) (opened : ℕ) (known : List KnownEnd) → EachKnown ends opened known → NoneYet ends opened
      → EachKnown ends (opened + 1) (known ++ record { number = opened + 1; stage = SettingUp } ∷ [])
  opens ends opened [] p new =
      (ap (λ (e : List EventAt). end_stage_behind SettingUp (outcomes_alone kind [] e)) (sym (new (opened + 1) (omega arith))), omega arith, tt)
  opens ends opened (k ∷ known) p new = (p.0, omega (arith, p.1), opens ends opened known p.2 new)

  closes : (ends : ℕ → List EventAt) (opened conn : ℕ) (known : List KnownEnd) → EachKnown ends opened known → EachKnown ends opened (without_end conn known)
  closes ends opened conn [] p = tt
  closes ends opened conn (k ∷ known) p =
      elim (cases_Bool (k.number == conn)) [
        | inl gone ↦ rw gone (closes ends opened conn known p.2)
        | inr kept ↦ rw kept (p.0, p.1, closes ends opened conn known p.2)
      ]

  -- an event
  abbrev ends_behind : (ℕ → List EventAt) → ℕ → EventAt → ℕ → List EventAt
  ends_behind ends c x = λ (n : ℕ). if n == c then ends n ++ x ∷ [] else ends n

  learns : (ends : ℕ → List EventAt) (c : ℕ) (x : EventAt) (k : KnownEnd) → IsKnownByEvents kind ends k
      → IsKnownByEvents kind (ends_behind ends c x) (learning c (kind.tells (ends c) x.time x.event) k)
  learns ends c x k is =
      let told = kind.tells (ends c) x.time x.event in
      elim (cases_Bool (k.number == c)) [
        | inl mine ↦
            let before = outcomes_alone kind [] (ends k.number) in
            rw (mine, mine)
            (ap (λ (s : EndStage). end_stage_behind s told) is
            ∙ sym (stage_parts SettingUp before told)
            ∙ ap (λ (n : ℕ). end_stage_behind SettingUp (before ++ kind.tells (ends n) x.time x.event)) (sym (eqb-true k.number c mine))
            ∙ ap (λ (o : List TraceOutcome). end_stage_behind SettingUp (before ++ o)) (sym (append-nil (kind.tells (ends k.number) x.time x.event)))
            ∙ ap (end_stage_behind SettingUp) (sym (alone_append kind [] (ends k.number) (x ∷ []))))
        | inr other ↦ rw (other, other) is
      ]

  keeps_number : (c : ℕ) (outcomes : List TraceOutcome) (k : KnownEnd) (opened : ℕ) → k.number ≤ opened → (learning c outcomes k).number ≤ opened
  keeps_number c outcomes k opened p = elim (cases_Bool (k.number == c)) [ inl mine ↦ rw mine p | inr other ↦ rw other p ]

  all_learn : (ends : ℕ → List EventAt) (opened c : ℕ) (x : EventAt) (known : List KnownEnd) → EachKnown ends opened known
      → EachKnown (ends_behind ends c x) opened (known_behind c (kind.tells (ends c) x.time x.event) known)
  all_learn ends opened c x [] p = tt
  all_learn ends opened c x (k ∷ known) p =
      let told = kind.tells (ends c) x.time x.event in
      (learns ends c x k p.0, keeps_number c told k opened p.1, all_learn ends opened c x known p.2)

  none_yet : (ends : ℕ → List EventAt) (opened c : ℕ) (x : EventAt) → c ≤ opened → NoneYet ends opened → NoneYet (ends_behind ends c x) opened
  none_yet ends opened c x given new n above =
      let other : (n == c) ≡ false = ne_eqb n c (λ e. absurd (omega (arith, e, given, above))) in rw other (new n above)

  came_knows : (s : Service) (happening : ServiceHappening) → Knows s → Knows (service_behind_happening s happening)
  came_knows s Attaches p = p
  came_knows s Departs p = p
  came_knows s (Brings octets) p = p
  came_knows s (Takes count) p = p
  came_knows s (Opens what) p = (opens s.ends s.opened s.known p.0 p.1, λ n above. p.1 n (omega (arith, above)))
  came_knows s (Befalls c what) p = p
  came_knows s (Closes c) p = (closes s.ends s.opened c s.known p.0, p.1)
  came_knows s (KeysRead answer) p = p

  line_knows : (s : Service) (line : ApplicationLine) → Knows s → Knows (behind_line s line)
  line_knows s (Asks (request.Send conn text)) p = p
  line_knows s (Asks (request.Release conn sub)) p = p
  line_knows s (Asks request.Drain) p = p
  line_knows s (Asks request.Keys) p = p
  line_knows s (Asks request.Counts) p = p
  line_knows s (Faulty line why) p = p

  item_knows : (s : Service) (item : ServiceItem) → IsFitting s item → Knows s → Knows (behind_item s item)
  item_knows s (Came happening) fits p = came_knows s happening p
  item_knows s (LineRead line) fits p = line_knows s line p
  item_knows s (Occurred time c what outcomes) fits p =
      let x : EventAt = record { time = time; event = what } in
      rw fits.1 (all_learn s.ends s.opened c x s.known p.0, none_yet s.ends s.opened c x fits.0 p.1)
  item_knows s (Informed notice) fits p = p
  item_knows s KeysFetched fits p = p

  all_know : (s : Service) (items : List ServiceItem) → AllFit s items → Knows s → Knows (behind_items s items)
  unfolding behind_items
  all_know s [] fits p = p
  all_know s (item ∷ items) fits p = all_know (behind_item s item) items fits.1 (item_knows s item fits.0 p)

  -- ---- numbers of connections rise

  came_rises : (s : Service) (happening : ServiceHappening) → s.opened ≤ (service_behind_happening s happening).opened
  came_rises s Attaches = omega arith
  came_rises s Departs = omega arith
  came_rises s (Brings octets) = omega arith
  came_rises s (Takes count) = omega arith
  came_rises s (Opens what) = omega arith
  came_rises s (Befalls c what) = omega arith
  came_rises s (Closes c) = omega arith
  came_rises s (KeysRead answer) = omega arith

  line_rises : (s : Service) (line : ApplicationLine) → s.opened ≤ (behind_line s line).opened
  line_rises s (Asks (request.Send conn text)) = omega arith
  line_rises s (Asks (request.Release conn sub)) = omega arith
  line_rises s (Asks request.Drain) = omega arith
  line_rises s (Asks request.Keys) = omega arith
  line_rises s (Asks request.Counts) = omega arith
  line_rises s (Faulty line why) = omega arith

  item_rises : (s : Service) (item : ServiceItem) → s.opened ≤ (behind_item s item).opened
  item_rises s (Came happening) = came_rises s happening
  item_rises s (LineRead line) = line_rises s line
  item_rises s (Occurred time c what outcomes) = omega arith
  item_rises s (Informed notice) = omega arith
  item_rises s KeysFetched = omega arith

  all_rise : (s : Service) (items : List ServiceItem) → s.opened ≤ (behind_items s items).opened
  unfolding behind_items
  all_rise s [] = omega arith
  all_rise s (item ∷ items) =
      let first = item_rises s item in let rest = all_rise (behind_item s item) items in omega (arith, first, rest)

  -- ---- what a loop does

  then_fits : (p q : Service → List ServiceItem) (s : Service) → AllFit s (p s) → AllFit (behind_items s (p s)) (q (behind_items s (p s)))
      → AllFit s (one_then p q s)
  unfolding one_then
  then_fits p q s first rest = fit_append s (p s) (q (behind_items s (p s))) first rest

  told_fits : (s : Service) (notices : List ApplicationNotice) → AllFit s (map inform notices)
  told_fits s [] = tt
  told_fits s (notice ∷ notices) = (tt, told_fits (behind_item s (Informed notice)) notices)

  informed_fits : (s : Service) (application : Attendance) (notices : List ApplicationNotice) → AllFit s (informed application notices)
  informed_fits s Absent notices = tt
  informed_fits s (Attached standing waiting) notices = told_fits s notices

  event_fits : (moment c : ℕ) (what : Event) (s : Service) → c ≤ s.opened → AllFit s (occurs kind moment c what s)
  event_fits moment c what s given =
      let outcomes = kind.tells (s.ends c) (time_at moment s) what in
      ((given, refl, refl), informed_fits (behind_item s (Occurred (time_at moment s) c what outcomes)) s.application (notices_of_event c what outcomes))

  most_fit : (moment c most : ℕ) (s : Service) → c ≤ s.opened → AllFit s (takes_most kind moment c most s)
  unfolding takes_most
  most_fit moment c zero s given = tt
  most_fit moment c (suc most) s given =
      elim (cases_Bool (has_room s.application && nat_lt 0 (length (kind.waiting (s.ends c))))) [
        | inl may ↦
            let first = occurs kind moment c event.Take in
            let more = all_rise s (first s) in
            rw may
            (then_fits first (takes_most kind moment c most) s (event_fits moment c event.Take s given)
            (most_fit moment c most (behind_items s (first s)) (omega (arith, given, more))))
        | inr no_more ↦ rw no_more tt
      ]

  takes_fit : (moment : ℕ) (conns : List ℕ) (s : Service) → Below s.opened conns → AllFit s (takes_at kind moment conns s)
  unfolding takes_at
  takes_fit moment [] s below = tt
  takes_fit moment (c ∷ conns) s below =
      let first = takes_most kind moment c (length (kind.waiting (s.ends c))) in
      then_fits first (takes_at kind moment conns) s (most_fit moment c (length (kind.waiting (s.ends c))) s below.0)
      (takes_fit moment conns (behind_items s (first s)) (below_more s.opened (behind_items s (first s)).opened conns (all_rise s (first s)) below.1))

  waiting_fits : (moment : ℕ) (s : Service) → Knows s → AllFit s (takes_waiting kind moment s)
  unfolding takes_waiting
  waiting_fits moment s p = takes_fit moment (numbers_known s.known) s (numbers_below s.ends s.opened s.known p.0)

  releases_fit : (moment : ℕ) (conns : List ℕ) (s : Service) → Below s.opened conns → AllFit s (releases_all kind moment conns s)
  unfolding releases_all
  releases_fit moment [] s below = tt
  releases_fit moment (c ∷ conns) s below =
      let first = occurs kind moment c (event.Release 0) in
      then_fits first (releases_all kind moment conns) s (event_fits moment c (event.Release 0) s below.0)
      (releases_fit moment conns (behind_items s (first s)) (below_more s.opened (behind_items s (first s)).opened conns (all_rise s (first s)) below.1))

  live_fits : (moment conn : ℕ) (what : Event) (s : Service) → Knows s → AllFit s (at_live kind moment conn what s)
  live_fits moment conn what s p =
      elim (cases_Bool (is_known conn s.known)) [
        | inl live ↦ rw live (event_fits moment conn what s (known_below s.ends s.opened conn s.known p.0 live))
        | inr other ↦ rw other (informed_fits s s.application _)
      ]

  answers_fit : (moment : ℕ) (line : ApplicationLine) (s : Service) → Knows s → AllFit s (answers_line kind moment line s)
  answers_fit moment (Asks (request.Send conn text)) s p = live_fits moment conn (event.Send text) s p
  answers_fit moment (Asks (request.Release conn sub)) s p = live_fits moment conn (event.Release sub) s p
  answers_fit moment (Asks request.Drain) s p = releases_fit moment (numbers_unparted s.known) s (unparted_below s.ends s.opened s.known p.0)
  answers_fit moment (Asks request.Keys) s p = (tt, tt)
  answers_fit moment (Asks request.Counts) s p = informed_fits s s.application _
  answers_fit moment (Faulty line why) s p = informed_fits s s.application _

  line_fits : (moment : ℕ) (line : ApplicationLine) (s : Service) → Knows s → AllFit s (reads_line kind moment line s)
  unfolding reads_line behind_items
  line_fits moment line s p =
      elim (cases_Bool (is_attached s.application)) [
        | inl there ↦ rw there (then_fits (reads line) (answers_line kind moment line) s (tt, tt) (answers_fit moment line (behind_line s line) (line_knows s line p)))
        | inr away ↦ rw away tt
      ]

  lines_fit : (moment : ℕ) (lines : List ApplicationLine) (s : Service) → Knows s → AllFit s (reads_lines kind moment lines s)
  unfolding reads_lines
  lines_fit moment [] s p = tt
  lines_fit moment (line ∷ lines) s p =
      let first = line_fits moment line s p in
      then_fits (reads_line kind moment line) (reads_lines kind moment lines) s first
      (lines_fit moment lines (behind_items s (reads_line kind moment line s)) (all_know s (reads_line kind moment line s) first p))

  meets_fits : (moment : ℕ) (happening : ServiceHappening) (s : Service) → Knows s → AllFit s (meets kind moment happening s)
  unfolding meets behind_items
  meets_fits moment Attaches s p =
      elim (cases_Bool (is_attached s.application)) [
        | inl there ↦ rw there tt
        | inr away ↦ rw away (tt, told_fits (behind_item s (Came Attaches)) (connected_lines s.known))
      ]
  meets_fits moment Departs s p = (tt, tt)
  meets_fits moment (Brings octets) s p =
      elim (cases_Bool (has_room s.application)) [
        | inl room ↦
            rw room
            (then_fits (came_alone (Brings octets)) (reads_lines kind moment (lines_brought octets s.application)) s (tt, tt)
            (lines_fit moment (lines_brought octets s.application) (service_behind_happening s (Brings octets)) p))
        | inr full ↦ rw full tt
      ]
  meets_fits moment (Takes count) s p = (tt, tt)
  meets_fits moment (Opens what) s p =
      elim (cases_Bool (is_of_outside what && not s.draining)) [
        | inl may ↦
            rw may
            (then_fits (came_alone (Opens what)) (occurs kind moment (s.opened + 1) what) s (tt, tt)
            (event_fits moment (s.opened + 1) what (service_behind_happening s (Opens what)) (omega arith)))
        | inr no_more ↦ rw no_more tt
      ]
  meets_fits moment (Befalls conn what) s p =
      elim (cases_Bool (is_of_outside what && is_known conn s.known)) [
        | inl may ↦
            let live = and_second (is_of_outside what) (is_known conn s.known) may in
            rw may
            (then_fits (came_alone (Befalls conn what)) (occurs kind moment conn what) s (tt, tt)
            (event_fits moment conn what s (known_below s.ends s.opened conn s.known p.0 live)))
        | inr no_more ↦ rw no_more tt
      ]
    where
      and_second : (a b : Bool) → (a && b) ≡ true → b ≡ true
      and_second true b e = e
      and_second false b e = absurd (cc)
  meets_fits moment (Closes conn) s p = (tt, tt)
  meets_fits moment (KeysRead answer) s p =
      then_fits (came_alone (KeysRead answer)) (informs (keys_notice answer ∷ [])) s (tt, tt)
      (informed_fits (service_behind_happening s (KeysRead answer)) s.application (keys_notice answer ∷ []))

  one_fits : (moment : ℕ) (happening : ServiceHappening) (s : Service) → Knows s → AllFit s (serves_one kind moment happening s)
  unfolding serves_one
  one_fits moment happening s p =
      let first = meets_fits moment happening s p in
      then_fits (meets kind moment happening) (takes_waiting kind moment) s first
      (waiting_fits moment (behind_items s (meets kind moment happening s)) (all_know s (meets kind moment happening s) first p))

  all_fit : (happenings : List (ℕ × ServiceHappening)) (s : Service) → Knows s → AllFit s (serves_all kind happenings s)
  unfolding serves_all
  all_fit [] s p = tt
  all_fit (next ∷ happenings) s p =
      let first = one_fits next.0 next.1 s p in
      then_fits (serves_one kind next.0 next.1) (serves_all kind happenings) s first
      (all_fit happenings (behind_items s (serves_one kind next.0 next.1 s)) (all_know s (serves_one kind next.0 next.1 s) first p))

  fits_at : (s : Service) (before after : List ServiceItem) (time : EventTime) (c : ℕ) (what : Event) (outcomes : List TraceOutcome)
      → AllFit s (before ++ Occurred time c what outcomes ∷ after)
      → (outcomes ≡ kind.tells ((behind_items s before).ends c) time what) × (time.keys ≡ (behind_items s before).keys)
  unfolding behind_items
  fits_at s [] after time c what outcomes fits = (fits.0.1, fits.0.2)
  fits_at s (item ∷ before) after time c what outcomes fits = fits_at (behind_item s item) before after time c what outcomes fits.1

  all_of : (ends : ℕ → List EventAt) (opened : ℕ) (known : List KnownEnd) → EachKnown ends opened known → All (IsKnownByEvents kind ends) known
  all_of ends opened [] p = All-nil (IsKnownByEvents kind ends)
  all_of ends opened (k ∷ known) p = All-cons (IsKnownByEvents kind ends) k known p.0 (all_of ends opened known p.2)

none_known : (kind : EndKind) → Knows kind at_start
none_known kind = (tt, λ n above. refl)

pub each_tells_its_own : EachTellsItsOwn
each_tells_its_own kind happenings before after time conn what outcomes e =
    (fits_at kind at_start before after time conn what outcomes (subst (AllFit kind at_start) e (all_fit kind happenings at_start (none_known kind)))).0
    ∙ ap (λ (came : List EventAt). kind.tells came time what) (all_came at_start before conn)

-- which keys hold
came_read : (s : Service) (happening : ServiceHappening) → (service_behind_happening s happening).keys ≡ s.keys + readings_in_item (Came happening)
came_read s Attaches = omega arith
came_read s Departs = omega arith
came_read s (Brings octets) = omega arith
came_read s (Takes count) = omega arith
came_read s (Opens what) = omega arith
came_read s (Befalls c what) = omega arith
came_read s (Closes c) = omega arith
came_read s (KeysRead answer) = refl

line_read : (s : Service) (line : ApplicationLine) → (behind_line s line).keys ≡ s.keys + 0
line_read s (Asks (request.Send conn text)) = omega arith
line_read s (Asks (request.Release conn sub)) = omega arith
line_read s (Asks request.Drain) = omega arith
line_read s (Asks request.Keys) = omega arith
line_read s (Asks request.Counts) = omega arith
line_read s (Faulty line why) = omega arith

item_read : (s : Service) (item : ServiceItem) → (behind_item s item).keys ≡ s.keys + readings_in_item item
item_read s (Came happening) = came_read s happening
item_read s (LineRead line) = line_read s line
item_read s (Occurred time c what outcomes) = omega arith
item_read s (Informed notice) = omega arith
item_read s KeysFetched = omega arith

all_read : (s : Service) (items : List ServiceItem) → (behind_items s items).keys ≡ s.keys + readings_in items
unfolding behind_items
all_read s [] = omega arith
all_read s (item ∷ items) =
    let first = item_read s item in let rest = all_read (behind_item s item) items in omega (arith, first, rest)

pub have_the_newest_keys : EventsHaveTheNewestKeys
have_the_newest_keys kind happenings before after time conn what outcomes e =
    let fits = fits_at kind at_start before after time conn what outcomes (subst (AllFit kind at_start) e (all_fit kind happenings at_start (none_known kind))) in
    let read = all_read at_start before in
    omega (arith, fits.1, read)

pub knows_by_events : KnowsByEvents
knows_by_events kind happenings =
    let none = none_known kind in
    let items = serves_all kind happenings at_start in
    let behind = behind_items at_start items in
    all_of kind behind.ends behind.opened behind.known (all_know kind at_start items (all_fit kind happenings at_start none) none).0
