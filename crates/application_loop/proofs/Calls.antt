-- The one connection of a call is opened: its end calls, by the model.
use Rattle.std.proofs.Common.{arith, ◌≡◌, ◌∙◌, ◌<◌, ◌≤◌, ◌+◌, ◌^◌, nat_le, max, ℕ, Bool, true, false, List, [], ◌∷◌, ◌++◌, map, length, Option, None, Some, refl, sym, ap, subst, eq-eqb}
use Rattle.std.proofs.lemmas.Bool.{le-leb}
use Rattle.des_block.specs.declared.triple_key.TripleKey.{TripleKey}
use Rattle.er_base.specs.declared.release.Release.{Release}
use Rattle.safety_automaton.specs.Keys.{KmacEntry, key_at}
use Rattle.safety_automaton.specs.Pairs.{PairWithKmac, pair_entries}
use Rattle.er_settings.specs.Values.{Settings}
use Rattle.er_settings.specs.Ranges.{AllAllowed}
use Rattle.er_trace.specs.declared.event.Event.{Event}
use Rattle.er_trace.specs.declared.event.Event.TheVariants as event
use Rattle.er_trace.specs.Outcomes.{TraceOutcome}
use Rattle.er_trace.specs.Texts.{entry_words, outcome_words}
use Rattle.er_base.specs.LineTexts.{line_text, lines_text}
use Rattle.er_end_model.specs.Steps.{Finds}
use Rattle.er_end_model.specs.Ends.{opened}
use Rattle.er_end_model.specs.Ends as model
use Rattle.er_end.specs.KeptEnds.{KEnd, kept_opened, tells}
use Rattle.er_end.specs.Standing.{EndStands, MadeStands}
use Rattle.trace_model.specs.Printed.{trace_outcome_of}
use Rattle.outside.specs.Acts.{Act, Wrote, Asked, Drew}
use Rattle.outside.specs.Doings.{Told, Did}
use Rattle.loop_model.specs.Journals.{entry_text}
use Rattle.loop_model.specs.Sessions.{Rules, Begins, GivenToSession, end_after, outcomes_of_given_event, octets_in}
use Rattle.loop_session.specs.Keeping.{kept_ends}
use Rattle.loop_session.specs.Parts.{writes_of_entries, rules_of_session, Breaks}
use Rattle.loop_session.specs.declared.loop_fault.LoopFault.{LoopFault}
use Rattle.application_model.specs.Ends.{EndStage, SettingUp, EventTime, end_stage_behind}
use Rattle.application_model.specs.Lines.{notices_of_event}
use Rattle.application_model.specs.Services.{Attendance, informed, counted_up, connections_made}
use Rattle.application_model.specs.Ends.{texts_taken}
use Rattle.application_port.specs.Ports.{NobodyThere, attendance_of, told_at_port}
use Rattle.application_telling.specs.Texts.{event_of_sent, application_text}
use Rattle.application_serving.specs.Serving.{ServiceDeed}
use Rattle.application_serving.specs.Going.{ServiceRun, and_then, nothing_to_do, service_behind, held_behind, ServesBy}
use Rattle.application_serving.specs.GoingSteps.{serves_of_going}
use Rattle.application_loop.specs.StackSteps.{StandsBehind, CallsAlike, KeptCallAlike}
use Rattle.application_loop.specs.LinkGoing.{StagesGoOn}
use Rattle.application_loop.specs.Occurring.{outcomes_at_link, entry_at_link, peer_behind_outcomes, message_sent_by, Occurs}
use Rattle.application_loop.specs.Standing.{Beside, Scene, scene, Serving, Rested, stage_by}
use Rattle.application_loop.specs.Living.{entries_for_service, scene_of_live, accepts_more, Resting}
use Rattle.application_loop.specs.Turning.{IsAlike, SeesMoment, IsDialled}
use Rattle.application_loop.specs.Starting.{IsNewLink, CountsOne}
use Rattle.application_loop.specs.declared.link.Link.{Link}
use Rattle.application_loop.specs.declared.desk.Desk.{Desk}
use Rattle.application_loop.specs.declared.live_service.LiveService.{LiveService}
use Rattle.application_loop.proofs.EventDeeds.{octets_told, joined_where_fits}
use Rattle.application_loop.proofs.Happenings.{takes_then}
use Rattle.application_loop.proofs.LinesPut.{some_lines_before, printed_in_one, breaks_serves}
use Rattle.application_loop.proofs.LinkGoing.{lines_of_event}
use Rattle.application_loop.proofs.Openings.{OpensBy, going_opened, serves_opened}
use Rattle.application_loop.proofs.StandingOpens.{CountsOpening, IsOpened}
use Rattle.application_loop.proofs.Turns.{coming_alike, coming_asked, coming_drew}

-- ---- the connection stays the one that was dialled

abbrev pub dialled_alike : {run : ServiceRun} (told : Told) (live other : LiveService) (conn : ℕ) → IsAlike live other → IsDialled run told live conn
    → IsDialled run told other conn
dialled_alike told live other conn alike dialled = record {
  coming = coming_alike told live other conn alike dialled.coming;
  next = dialled.next;
  calls = alike.calls ∙ dialled.calls;
  draining = alike.draining ∙ dialled.draining;
  port = ap (λ (d : Desk). d.port) alike.desk ∙ dialled.port;
  links = alike.links ∙ dialled.links;
}

abbrev pub dialled_asked : {run : ServiceRun} (told now : Told) (live : LiveService) (conn m : ℕ) → Did told now (Asked m ∷ []) → IsDialled run told live conn
    → IsDialled run now (record live { moment = max live.moment m }) conn
dialled_asked told now live conn m did dialled = record {
  coming = coming_asked told now live conn m did dialled.coming;
  next = dialled.next;
  calls = dialled.calls;
  draining = dialled.draining;
  port = dialled.port;
  links = dialled.links;
}

abbrev pub dialled_drew : {run : ServiceRun} (told now : Told) (live : LiveService) (conn w : ℕ) → Did told now (Drew w ∷ []) → IsDialled run told live conn
    → IsDialled run now live conn
dialled_drew told now live conn w did dialled = record {
  coming = coming_drew told now live conn w did dialled.coming;
  next = dialled.next;
  calls = dialled.calls;
  draining = dialled.draining;
  port = dialled.port;
  links = dialled.links;
}

pub dialled_serves : {run : ServiceRun} {told : Told} {live : LiveService} {conn : ℕ} → IsDialled run told live conn → ServesBy run told
dialled_serves dialled = serves_of_going dialled.coming.resting.living.serving.going

-- ---- small facts

-- the key of a pair holds at each moment of 64 bits
pair_key : (pair : PairWithKmac) (m : ℕ) → m ≤ 1000000000000000 → key_at (pair_entries pair) m pair.engine pair.rbc ≡ Some pair.kmac
pair_key pair m fits =
    let last : nat_le m 18446744073709551615 ≡ true = le-leb m 18446744073709551615 (omega (arith, fits)) in
    let first : nat_le 0 m ≡ true = le-leb 0 m (omega arith) in
    rw (eq-eqb pair.engine pair.engine refl) (rw (eq-eqb pair.rbc pair.rbc refl) (rw first (rw last refl)))

-- its lines are written in one
pub writes_entry : (moment : ℕ) (r : Rules) (g : GivenToSession) (link : Link)
    → writes_of_entries (entry_at_link r moment link g ∷ []) ≡ Wrote (entry_text (entry_at_link r moment link g)) true ∷ []
unfolding entry_text
writes_entry moment r g link = printed_in_one (entry_text (entry_at_link r moment link g)) (some_lines_before _ _)

calling_unreleased : (settings : Settings) (engine rbc : ℕ) (kmac : TripleKey) (rb now : ℕ)
    → (kept_opened (model.Call settings engine rbc kmac rb now)).core.released ≡ None
unfolding kept_opened
calling_unreleased settings engine rbc kmac rb now = refl

counted_no_more : (count more : ℕ) → counted_up (counted_up count more) 0 ≡ counted_up count more
counted_no_more count more = omega arith

-- no KMAC is looked up
abbrev pub rules : Rules
rules = rules_of_session [] 0

-- ---- the event

module _ {run : ServiceRun} (told : Told) (live : LiveService) (conn : ℕ) (fits : conn < 2 ^ 64) (timely : live.moment ≤ 1000000000000000)
    (dialled : IsDialled run told live conn) (calls : KeptCallAlike) (stages : StagesGoOn) (made : MadeStands) (settings : Settings)
    (same : run.settings ≡ settings) (allowed : AllAllowed settings) (pair : PairWithKmac) (keys : entries_for_service live.keys ≡ pair_entries pair)
    (rb : ℕ) (link : Link) (new : IsNewLink conn (kept_opened (model.Call settings pair.engine pair.rbc pair.kmac rb live.moment)) link) where
  abbrev beside : Beside
  beside = dialled.coming.resting.living.beside

  abbrev deeds : List ServiceDeed
  deeds = dialled.coming.resting.living.serving.deeds

  abbrev time : EventTime
  time = record { moment = beside.moment; keys = beside.keys }

  abbrev what : Event
  what = event.Call pair.engine pair.rbc rb

  abbrev begins : GivenToSession
  begins = Begins pair.engine pair.rbc rb

  abbrev outcomes : List TraceOutcome
  outcomes = map trace_outcome_of (outcomes_at_link rules live.moment link begins)

  abbrev pub piece : List ℕ
  piece = entry_text (entry_at_link rules live.moment link begins)

  abbrev kept : KEnd
  kept = kept_opened (model.Call run.settings pair.engine pair.rbc pair.kmac rb beside.moment)

  at : beside.moment ≡ live.moment
  at = dialled.coming.resting.living.moment

  allowed_here : AllAllowed run.settings
  allowed_here = subst AllAllowed (sym same) allowed

  end_is : link.end.value ≡ kept
  end_is =
      new.end
      ∙ ap (λ (s : Settings). kept_opened (model.Call s pair.engine pair.rbc pair.kmac rb live.moment)) (sym same)
      ∙ ap (λ (m : ℕ). kept_opened (model.Call run.settings pair.engine pair.rbc pair.kmac rb m)) (sym at)

  found : (later : List (List KmacEntry)) → held_behind run deeds later beside.keys beside.moment pair.engine pair.rbc ≡ Some pair.kmac
  found later =
      let finds : held_behind run deeds later beside.keys ≡ key_at (pair_entries pair) =
      dialled.coming.resting.living.serving.stands.finds later ∙ dialled.coming.resting.living.finds ∙ ap key_at keys in
      let m = beside.moment in
      ap (λ (f : Finds). f m pair.engine pair.rbc) finds ∙ pair_key pair m (subst (λ (n : ℕ). n ≤ 1000000000000000) (sym at) timely)

  alike : (later : List (List KmacEntry)) → CallsAlike run.settings (held_behind run deeds later) rules time pair.engine pair.rbc rb pair.kmac
  alike later = calls run.settings (held_behind run deeds later) rules time pair.engine pair.rbc rb pair.kmac allowed_here (found later)

  same_outcomes : outcomes ≡ map trace_outcome_of (outcomes_of_given_event kept_ends rules beside.moment kept begins)
  same_outcomes =
      ap (λ (k : KEnd). map trace_outcome_of (outcomes_of_given_event kept_ends rules live.moment k begins)) end_is
      ∙ ap (λ (m : ℕ). map trace_outcome_of (outcomes_of_given_event kept_ends rules m kept begins)) (sym at)

  absent : (service_behind deeds).application ≡ attendance_of NobodyThere
  absent = dialled.coming.resting.living.serving.stands.desk.application ∙ ap attendance_of dialled.port

  opens : OpensBy run deeds beside conn piece what outcomes
  opens = record {
    next = dialled.next;
    draining = dialled.coming.resting.living.draining ∙ dialled.draining;
    outside = refl;
    brings = refl;
    tells = λ later. sym (same_outcomes ∙ (alike later).tells);
    silent = ap (λ (a : Attendance). informed a (notices_of_event conn what outcomes)) absent;
    text = lines_of_event live.moment rules begins link
        ∙ ap (λ (n : ℕ). line_text (entry_words live.moment n what) ++ lines_text (map (outcome_words n) outcomes)) new.number
        ∙ ap (λ (m : ℕ). line_text (entry_words m conn what) ++ lines_text (map (outcome_words conn) outcomes)) (sym at);
    newcomer = dialled.coming.newcomer;
  }

  abbrev here : Scene
  here = scene told live.links.list.items live.desk

  serves_written : (now : Told) → Did told now (Wrote piece true ∷ []) → ServesBy run now
  serves_written now did =
      let serving = dialled.coming.resting.living.serving in
      serves_of_going (going_opened run deeds beside here serving.stands conn piece what outcomes opens now serving.going did)

  abbrev lines : ℕ → GivenToSession → List Act
  lines m g = writes_of_entries (entry_at_link rules m link g ∷ [])

  written_so : (m : ℕ) → m ≡ live.moment → (g : GivenToSession) → g ≡ begins → lines m g ≡ Wrote piece true ∷ []
  written_so m is g given = ap (λ (n : ℕ). lines n g) is ∙ ap (lines live.moment) given ∙ writes_entry live.moment rules begins link

  -- it broke off
  pub call_broke : (m : ℕ) → m ≡ live.moment → (g : GivenToSession) → g ≡ begins → (now : Told) (fault : LoopFault) → Breaks told now (lines m g) fault
      → ServesBy run now
  call_broke m is g given now fault breaks =
      breaks_serves told now piece fault dialled.coming.resting.living.serving.going (serves_written now)
      (subst (λ (a : List Act). Breaks told now a fault) (written_so m is g given) breaks)

  pub call_serves : (m : ℕ) → m ≡ live.moment → (g : GivenToSession) → g ≡ begins → (now : Told) → Did told now (lines m g) → ServesBy run now
  call_serves m is g given now did = serves_written now (subst (Did told now) (written_so m is g given) did)

  -- the end behind it
  stands_for : (after : Link) (desk : Desk) → Occurs rules live.moment begins link after live.desk desk → IsOpened run deeds conn time what outcomes after
  unfolding end_after outcomes_of_given_event
  stands_for after desk occurs =
      let m = live.moment in
      let before : KEnd = link.end.value in
      let opening = model.Call run.settings pair.engine pair.rbc pair.kmac rb beside.moment in
      let behind : after.end.value ≡ end_after kept_ends rules beside.moment kept begins =
      occurs.end
      ∙ ap (λ (k : KEnd). end_after kept_ends rules m k begins) end_is
      ∙ ap (λ (t : ℕ). end_after kept_ends rules t kept begins) (sym at) in
      let staged : end_stage_behind (stage_by before.core.released None) outcomes ≡ stage_by after.end.value.core.released after.peer =
      stages m model.Start before (opened opening) None (subst (λ (k : KEnd). EndStands k (opened opening)) (sym end_is) (made opening allowed_here))
      ∙ ap (λ (k : KEnd). stage_by k.core.released (peer_behind_outcomes None (tells m model.Start before))) (sym occurs.end)
      ∙ ap (λ (p : Option ℕ). stage_by after.end.value.core.released p)
      (sym (occurs.peer ∙ ap (λ (p : Option ℕ). peer_behind_outcomes p (tells m model.Start before)) new.peer)) in
      let sets_up : stage_by before.core.released None ≡ SettingUp =
      ap (λ (r : Option Release). stage_by r None)
      (ap (λ (k : KEnd). k.core.released) new.end ∙ calling_unreleased settings pair.engine pair.rbc pair.kmac rb live.moment) in
      record {
        number = occurs.number ∙ new.number;
        end = λ later.
            subst (StandsBehind run.settings (held_behind run deeds later) (record { time = time; event = what } ∷ [])) (sym behind) (alike later).stands;
        output = λ whole.
            let octets = octets_in (outcomes_at_link rules m link begins) in
            occurs.output
            ∙ joined_where_fits link.output.items octets (occurs.unbroken whole).fits
            ∙ ap (λ (o : List ℕ). o ++ octets) new.output
            ∙ sym (octets_told (outcomes_at_link rules m link begins));
        known =
            ap (λ (n : ℕ). record { number = n; stage = stage_by after.end.value.core.released after.peer }) (occurs.number ∙ new.number)
            ∙ ap (λ (s : EndStage). record { number = conn; stage = s })
            (sym (ap (λ (s : EndStage). end_stage_behind s outcomes) (sym sets_up) ∙ staged));
      }

  -- the counts behind it
  counts_call : (after : Link) (desk counted : Desk) → Occurs rules live.moment begins link after live.desk desk → CountsOne desk counted
      → CountsOpening outcomes live.desk counted
  counts_call after desk counted occurs one =
      let text = application_text link.number (event_of_sent (message_sent_by begins)) (outcomes_at_link rules live.moment link begins) in
      let stands = dialled.coming.resting.living.serving.stands in
      let before : live.desk.opened + 1 ≡ conn =
      ap (λ (n : ℕ). n + 1) (stands.desk.opened ∙ stands.opened) ∙ sym dialled.next in
      let no_top : counted_up live.desk.opened 1 ≡ live.desk.opened + 1 = omega (arith, before, fits) in
      record {
        port =
            one.port ∙ occurs.told ∙ ap (told_at_port text) dialled.port ∙ sym dialled.port;
        opened = one.opened ∙ ap (λ (n : ℕ). counted_up n 1) occurs.counts.opened ∙ no_top;
        connected =
            one.connected ∙ ap (λ (n : ℕ). counted_up n 0) occurs.counts.connected ∙ counted_no_more live.desk.connected (connections_made outcomes);
        messages =
            one.messages ∙ ap (λ (n : ℕ). counted_up n 0) occurs.counts.messages ∙ counted_no_more live.desk.messages (length (texts_taken outcomes));
      }

  abbrev pub beside_then : Beside
  beside_then = record beside { opened = conn; accepts = false }

  pub at_when : (m : ℕ) → m ≡ live.moment → beside_then.moment ≡ m
  at_when m is = at ∙ sym is

  -- the messages that wait are to be taken then
  pub called : (m : ℕ) → m ≡ live.moment → (g : GivenToSession) → g ≡ begins → (now : Told) (links : List Link) (after : Link) (desk counted : Desk)
      → Did told now (lines m g) → Occurs rules m g link after live.desk desk → CountsOne desk counted → links ≡ live.links.list.items ++ after ∷ []
      → Serving run beside_then (and_then (takes_then m) nothing_to_do) (scene now links counted)
  called m is g given now links after desk counted wrote occurs one joined =
      let at_hand =
      subst (λ (e : GivenToSession). Occurs rules live.moment e link after live.desk desk) given
      (subst (λ (n : ℕ). Occurs rules n g link after live.desk desk) is occurs) in
      subst (λ (l : List Link). Serving run beside_then (and_then (takes_then m) nothing_to_do) (scene now l counted)) (sym joined)
      (subst
      (λ (n : ℕ). Serving run beside_then (and_then (takes_then n) nothing_to_do) (scene now (live.links.list.items ++ after ∷ []) counted)) (at_when m is)
      (serves_opened run beside here dialled.coming.resting.living.serving conn piece what outcomes now after counted false opens
      (subst (Did told now) (written_so m is g given) wrote) dialled.coming.number (stands_for after desk at_hand)
      (ap (λ (f : ℕ → List ℕ). f conn) dialled.coming.resting.living.left) (counts_call after desk counted at_hand one)))

  -- the loop behind it
  pub living_called : (now : Told) (other : LiveService) → other.speaker.held.items ≡ live.speaker.held.items → other.keys ≡ live.keys
      → other.moment ≡ live.moment → other.draining ≡ live.draining → other.calls ≡ live.calls
      → Serving run beside_then (λ kind s. []) (scene_of_live now other) → Rested (scene_of_live now other) → Resting run now other
  living_called now other held keys moment draining calls serving rested = record {
    living = record {
      beside = beside_then;
      serving = serving;
      moment = at ∙ sym moment;
      finds = dialled.coming.resting.living.finds ∙ ap (λ k. key_at (entries_for_service k)) (sym keys);
      held = dialled.coming.resting.living.held ∙ sym held;
      draining = dialled.coming.resting.living.draining ∙ sym draining;
      accepts =
          sym (ap (λ (d : Bool). accepts_more d other.calls) (draining ∙ dialled.draining)
          ∙ ap (λ (c : Bool). accepts_more false c) (calls ∙ dialled.calls));
      left = dialled.coming.resting.living.left;
    };
    rested = rested;
  }

-- behind the clock, the word and the end, which leave the loop alike
pub dialled_here : {run : ServiceRun} (told asked drew : Told) (live seen other : LiveService) (conn w : ℕ) (sees : SeesMoment told live asked seen)
    → Did asked drew (Drew w ∷ []) → IsAlike seen other → IsDialled run told live conn → IsDialled run drew other conn
dialled_here {run = run} told asked drew live seen other conn w sees did alike dialled =
    dialled_alike drew seen other conn alike
    (dialled_drew asked drew seen conn w did
    (subst (λ (l : LiveService). IsDialled run asked l conn) (sym sees.is) (dialled_asked told asked live conn sees.moment sees.did dialled)))

pub same_keys_here : (told asked : Told) (live seen other : LiveService) (entries : List KmacEntry) → SeesMoment told live asked seen → IsAlike seen other
    → entries_for_service live.keys ≡ entries → entries_for_service other.keys ≡ entries
same_keys_here told asked live seen other entries sees alike keys =
    ap entries_for_service (alike.keys ∙ ap (λ (l : LiveService). l.keys) sees.is) ∙ keys
