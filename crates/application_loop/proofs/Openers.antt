-- A loop that opens the connection that came, or turns it away.
use Rattle.std.proofs.Common.{arith, ◌≡◌, ◌∙◌, ◌<◌, ◌+◌, ◌^◌, min, ℕ, Bool, true, false, List, [], ◌∷◌, ◌++◌, Option, None, refl, sym, ap, subst}
use Rattle.std.proofs.lemmas.List.Elements.{All-push}
use Rattle.er_base.specs.LineTexts.{line_text}
use Rattle.er_base.specs.declared.release.Release.{Release}
use Rattle.safety_automaton.specs.Keys.{KmacEntry, key_at}
use Rattle.er_settings.specs.Values.{Settings}
use Rattle.er_settings.specs.Ranges.{AllAllowed}
use Rattle.er_trace.specs.declared.event.Event.{Event}
use Rattle.er_trace.specs.declared.event.Event.TheVariants as event
use Rattle.er_trace.specs.Texts.{entry_words}
use Rattle.er_end_model.specs.Ends as model
use Rattle.er_end.specs.KeptEnds.{KEnd, kept_opened, waiting_in}
use Rattle.outside.specs.Acts.{Act, Called, Closed}
use Rattle.outside.specs.Doings.{Told, Did}
use Rattle.loop_session.specs.Parts.{writes_of_entries, Breaks}
use Rattle.loop_session.specs.declared.loop_fault.LoopFault.{LoopFault}
use Rattle.application_model.specs.Ends.{SettingUp, EventTime}
use Rattle.application_model.specs.Services.{Attendance, Absent, Attached, has_room, informed, is_of_outside}
use Rattle.application_port.specs.Ports.{PortState, attendance_of}
use Rattle.application_ends.specs.StackEnds.{HeldKeys, stack_kind, stack_end_behind}
use Rattle.application_serving.specs.Serving.{ServiceDeed, octets_event_brings}
use Rattle.application_serving.specs.Going.{ServiceRun, nothing_to_do, service_behind, held_behind, kind_behind, ServesBy}
use Rattle.application_serving.specs.GoingSteps.{serves_of_going}
use Rattle.application_loop.specs.StackSteps.{StandsBehind, KeptAnswerAlike}
use Rattle.application_loop.specs.Standing.{Beside, scene, Serving, Rested, AtRest, known_of_link, stage_by}
use Rattle.application_loop.specs.Living.{entries_for_service, scene_of_live, accepts_more, Living, Resting}
use Rattle.application_loop.specs.Turning.{Coming}
use Rattle.application_loop.specs.Starting.{IsNewLink, CountsOne}
use Rattle.application_loop.specs.declared.link.Link.{Link}
use Rattle.application_loop.specs.declared.desk.Desk.{Desk}
use Rattle.application_loop.specs.declared.live_service.LiveService.{LiveService}
use Rattle.application_loop.proofs.Happenings.{takes_end}
use Rattle.application_loop.proofs.StandingOpens.{CountsOpening, IsOpened}
use Rattle.application_loop.proofs.Openings.{OpensBy, going_opened, serves_opened}
use Rattle.application_loop.proofs.TurnedAway.{turned_away}
use Rattle.application_loop.proofs.LinesPut.{text_of_event, writes_event, breaks_serves}

-- ---- small facts

accepting_drains : (draining calls : Bool) → accepts_more draining calls ≡ true → draining ≡ false
accepting_drains true calls is = absurd cc
accepting_drains false calls is = refl

informed_nothing : (there : Attendance) → informed there [] ≡ []
informed_nothing Absent = refl
informed_nothing (Attached standing waiting) = refl

-- the counts of the desk, where the number of the connection is one of 64 bits
pub counts_opening : (old now : Desk) (conn : ℕ) → CountsOne old now → old.opened + 1 ≡ conn → conn < 2 ^ 64 → CountsOpening [] old now
counts_opening old now conn counts next fits = record {
  port = counts.port;
  opened =
      let is : min (old.opened + 1) 18446744073709551615 ≡ old.opened + 1 = omega (arith, next, fits) in
      counts.opened ∙ is;
  connected = counts.connected;
  messages = counts.messages;
}

-- nothing comes of an event at a connection without an end
full_tells : (settings : Settings) (held : HeldKeys) (time : EventTime) (count : ℕ) → (stack_kind settings held).tells [] time (event.Full count) ≡ []
unfolding stack_end_behind
full_tells settings held time count = refl

-- ---- what both have in common

-- behind an opening the loop is the same but for the desk and its links
pub record IsBehindOpening (live other : LiveService) : Type 0 where
  pub desk : CountsOne live.desk other.desk
  pub held : other.speaker.held.items ≡ live.speaker.held.items
  pub keys : other.keys ≡ live.keys
  pub moment : other.moment ≡ live.moment
  pub draining : other.draining ≡ live.draining
  pub calls : other.calls ≡ live.calls

module _ {run : ServiceRun} (told : Told) (live : LiveService) (conn : ℕ) (fits : conn < 2 ^ 64) (coming : Coming run told live conn)
    (accepts : accepts_more live.draining live.calls ≡ true) where
  abbrev beside : Beside
  beside = coming.resting.living.beside

  abbrev deeds : List ServiceDeed
  deeds = coming.resting.living.serving.deeds

  counts_on : (other : LiveService) → IsBehindOpening live other → CountsOpening [] live.desk other.desk
  counts_on other behind =
      counts_opening live.desk other.desk conn behind.desk
      (ap (λ (n : ℕ). n + 1) (coming.resting.living.serving.stands.desk.opened ∙ coming.resting.living.serving.stands.opened) ∙ sym (coming.next accepts)) fits

  opens_by : (what : Event) → is_of_outside what ≡ true → octets_event_brings what ≡ []
      → ((later : List (List KmacEntry)) → (kind_behind run deeds later).tells [] (record { moment = beside.moment; keys = beside.keys }) what ≡ [])
      → OpensBy run deeds beside conn (text_of_event live.moment conn what) what []
  opens_by what outside brings tells = record {
    next = coming.next accepts;
    draining = coming.resting.living.draining ∙ accepting_drains live.draining live.calls accepts;
    outside = outside;
    brings = brings;
    tells = tells;
    silent = informed_nothing (service_behind deeds).application;
    text = ap (λ (m : ℕ). line_text (entry_words m conn what) ++ []) (sym coming.resting.living.moment);
    newcomer = coming.newcomer;
  }

  -- the loop behind it
  living_opened : (now : Told) (other : LiveService) → IsBehindOpening live other
      → Serving run (record beside { opened = conn; accepts = true }) (λ kind s. []) (scene_of_live now other) → Living run now (λ kind s. []) other
  living_opened now other behind serving = record {
    beside = record beside { opened = conn; accepts = true };
    serving = serving;
    moment = coming.resting.living.moment ∙ sym behind.moment;
    finds = coming.resting.living.finds ∙ ap (λ k. key_at (entries_for_service k)) (sym behind.keys);
    held = coming.resting.living.held ∙ sym behind.held;
    draining = coming.resting.living.draining ∙ sym behind.draining;
    accepts =
        sym (ap (λ (d : Bool). accepts_more d other.calls) behind.draining
        ∙ ap (λ (c : Bool). accepts_more live.draining c) behind.calls
        ∙ accepts);
    left = coming.resting.living.left;
  }

  -- ---- turned away

  pub away_rests : (between now : Told) (other : LiveService) (count : ℕ)
      → Did told between (writes_of_entries (record { moment = live.moment; conn = conn; event = event.Full count; outcomes = [] } ∷ []))
      → Did between now (Called (Closed conn) ∷ []) → IsBehindOpening live other → other.links.list.items ≡ live.links.list.items → Resting run now other
  away_rests between now other count wrote closed behind links =
      let did = subst (Did told between) (writes_event live.moment conn (event.Full count)) wrote in
      let opens =
      opens_by (event.Full count) refl refl
      (λ later. full_tells run.settings (held_behind run deeds later) (record { moment = beside.moment; keys = beside.keys }) count) in
      let at_rest =
      turned_away run beside (scene told live.links.list.items live.desk) coming.resting.living.serving coming.resting.rested conn
      (text_of_event live.moment conn (event.Full count)) count opens between now other.desk (counts_on other behind) did closed coming.number true in
      let there = subst (λ (l : List Link). AtRest run (record beside { opened = conn; accepts = true }) (scene now l other.desk)) (sym links) at_rest in
      record { living = living_opened now other behind there.serving; rested = there.rested }

  pub away_broke : (now : Told) (count : ℕ) (fault : LoopFault)
      → Breaks told now (writes_of_entries (record { moment = live.moment; conn = conn; event = event.Full count; outcomes = [] } ∷ [])) fault → ServesBy run now
  away_broke now count fault breaks =
      let opens =
      opens_by (event.Full count) refl refl
      (λ later. full_tells run.settings (held_behind run deeds later) (record { moment = beside.moment; keys = beside.keys }) count) in
      let going = coming.resting.living.serving.going in
      breaks_serves told now (text_of_event live.moment conn (event.Full count)) fault going
      (λ did. serves_of_going (going_opened run deeds beside (scene told live.links.list.items live.desk) coming.resting.living.serving.stands conn
      (text_of_event live.moment conn (event.Full count)) (event.Full count) [] opens now going did))
      (subst (λ (a : List Act). Breaks told now a fault) (writes_event live.moment conn (event.Full count)) breaks)

-- ---- answered

settles_up : (link : Link) (conn : ℕ) (kept : KEnd) → IsNewLink conn kept link → kept.core.released ≡ None
    → known_of_link link ≡ record { number = conn; stage = SettingUp }
settles_up link conn kept new released =
    ap (λ (n : ℕ). record { number = n; stage = stage_by link.end.value.core.released link.peer }) new.number
    ∙ ap (λ (r : Option Release). record { number = conn; stage = stage_by r link.peer }) (ap (λ (k : KEnd). k.core.released) new.end ∙ released)
    ∙ ap (λ (p : Option ℕ). record { number = conn; stage = stage_by None p }) new.peer

answered_unreleased : (settings : Settings) (rbc ra now : ℕ) → (kept_opened (model.Answer settings rbc ra now)).core.released ≡ None
unfolding kept_opened
answered_unreleased settings rbc ra now = refl

answered_empty : (settings : Settings) (rbc ra now : ℕ) → waiting_in (kept_opened (model.Answer settings rbc ra now)) ≡ []
unfolding kept_opened
answered_empty settings rbc ra now = refl

module _ {run : ServiceRun} (told : Told) (live : LiveService) (conn : ℕ) (fits : conn < 2 ^ 64) (coming : Coming run told live conn)
    (accepts : accepts_more live.draining live.calls ≡ true) (alike : KeptAnswerAlike) (settings : Settings) (same : run.settings ≡ settings)
    (allowed : AllAllowed settings) (rbc ra : ℕ) where
  abbrev at_hand : Beside
  at_hand = coming.resting.living.beside

  abbrev so_far : List ServiceDeed
  so_far = coming.resting.living.serving.deeds

  abbrev time : EventTime
  time = record { moment = at_hand.moment; keys = at_hand.keys }

  allowed_here : AllAllowed run.settings
  allowed_here = subst AllAllowed (sym same) allowed

  opens_answer : OpensBy run so_far at_hand conn (text_of_event live.moment conn (event.Answer rbc ra)) (event.Answer rbc ra) []
  opens_answer =
      opens_by told live conn fits coming accepts (event.Answer rbc ra) refl refl
      (λ later. (alike run.settings (held_behind run so_far later) time rbc ra allowed_here).tells)

  pub answer_broke : (now : Told) (fault : LoopFault)
      → Breaks told now (writes_of_entries (record { moment = live.moment; conn = conn; event = event.Answer rbc ra; outcomes = [] } ∷ [])) fault
      → ServesBy run now
  answer_broke now fault breaks =
      let going = coming.resting.living.serving.going in
      breaks_serves told now (text_of_event live.moment conn (event.Answer rbc ra)) fault going
      (λ did. serves_of_going (going_opened run so_far at_hand (scene told live.links.list.items live.desk) coming.resting.living.serving.stands conn
      (text_of_event live.moment conn (event.Answer rbc ra)) (event.Answer rbc ra) [] opens_answer now going did))
      (subst (λ (a : List Act). Breaks told now a fault) (writes_event live.moment conn (event.Answer rbc ra)) breaks)

  pub answer_serves : (now : Told)
      → Did told now (writes_of_entries (record { moment = live.moment; conn = conn; event = event.Answer rbc ra; outcomes = [] } ∷ [])) → ServesBy run now
  answer_serves now wrote =
      let going = coming.resting.living.serving.going in
      serves_of_going (going_opened run so_far at_hand (scene told live.links.list.items live.desk) coming.resting.living.serving.stands conn
      (text_of_event live.moment conn (event.Answer rbc ra)) (event.Answer rbc ra) [] opens_answer now going
      (subst (Did told now) (writes_event live.moment conn (event.Answer rbc ra)) wrote))

  pub answer_rests : (now : Told) (other : LiveService) (link : Link)
      → Did told now (writes_of_entries (record { moment = live.moment; conn = conn; event = event.Answer rbc ra; outcomes = [] } ∷ []))
      → IsNewLink conn (kept_opened (model.Answer settings rbc ra live.moment)) link → IsBehindOpening live other
      → other.links.list.items ≡ live.links.list.items ++ link ∷ [] → Resting run now other
  answer_rests now other link wrote new behind links =
      let did = subst (Did told now) (writes_event live.moment conn (event.Answer rbc ra)) wrote in
      let kept : kept_opened (model.Answer settings rbc ra live.moment) ≡ kept_opened (model.Answer run.settings rbc ra at_hand.moment) =
      ap (λ (s : Settings). kept_opened (model.Answer s rbc ra live.moment)) (sym same)
      ∙ ap (λ (m : ℕ). kept_opened (model.Answer run.settings rbc ra m)) (sym coming.resting.living.moment) in
      let opened : IsOpened run so_far conn time (event.Answer rbc ra) [] link = record {
        number = new.number;
        end = λ later.
            subst (StandsBehind run.settings (held_behind run so_far later) (record { time = time; event = event.Answer rbc ra } ∷ []))
            (sym (new.end ∙ kept)) (alike run.settings (held_behind run so_far later) time rbc ra allowed_here).stands;
        output = λ whole. new.output;
        known = settles_up link conn (kept_opened (model.Answer settings rbc ra live.moment)) new (answered_unreleased settings rbc ra live.moment);
      } in
      let served =
      serves_opened run at_hand (scene told live.links.list.items live.desk) coming.resting.living.serving conn
      (text_of_event live.moment conn (event.Answer rbc ra)) (event.Answer rbc ra) [] now link other.desk true opens_answer did coming.number opened
      (ap (λ (f : ℕ → List ℕ). f conn) coming.resting.living.left) (counts_on told live conn fits coming accepts other behind) in
      let joined : Rested (scene now (live.links.list.items ++ link ∷ []) other.desk) = λ room.
      All-push (λ (l : Link). waiting_in l.end.value ≡ []) live.links.list.items link
      (coming.resting.rested (ap (λ (p : PortState). has_room (attendance_of p)) (sym behind.desk.port) ∙ room))
      (ap waiting_in new.end ∙ answered_empty settings rbc ra live.moment) in
      let rests : AtRest run (record at_hand { opened = conn; accepts = true }) (scene now (live.links.list.items ++ link ∷ []) other.desk) = record {
        serving =
            takes_end run (record at_hand { opened = conn; accepts = true }) (scene now (live.links.list.items ++ link ∷ []) other.desk) at_hand.moment
            nothing_to_do joined served;
        rested = joined;
      } in
      let there =
      subst (λ (l : List Link). AtRest run (record at_hand { opened = conn; accepts = true }) (scene now l other.desk)) (sym links) rests in
      record { living = living_opened told live conn fits coming accepts now other behind there.serving; rested = there.rested }

-- a new link, whose end is this
pub new_link_of : (conn : ℕ) (kept other : KEnd) (link : Link) → kept ≡ other → IsNewLink conn kept link → IsNewLink conn other link
new_link_of conn kept other link same new = subst (λ (k : KEnd). IsNewLink conn k link) same new
