-- An event at a link, as a step of what is served.
use Rattle.std.proofs.Common.{arith, ◌≡◌, ◌∙◌, ◌⊎◌, ◌<◌, inl, inr, ◌==◌, ℕ, true, false, List, [], ◌∷◌, ◌++◌, map, length, Result, Ok, Err, OnOk, refl, sym, ap, subst, append_assoc, append-nil, eq-eqb, length-append}
use Rattle.er_base.specs.LineTexts.{line_text, line_end, lines_text}
use Rattle.er_end.specs.KeptEnds.{KEnd}
use Rattle.safety_automaton.specs.Keys.{KmacEntry}
use Rattle.er_trace.specs.declared.event.Event.{Event}
use Rattle.er_trace.specs.Outcomes.{TraceOutcome}
use Rattle.er_trace.specs.Texts.{header_words, entry_words, outcome_words}
use Rattle.trace_model.specs.Printed.{trace_outcome_of}
use Rattle.loop_model.specs.Journals.{entry_text}
use Rattle.loop_model.specs.Sessions.{Rules, GivenToSession, event_of, journal_event_of_given, end_after, outcomes_of_given_event}
use Rattle.loop_session.specs.declared.loop_fault.LoopFault.{LoopFault}
use Rattle.loop_session.specs.declared.loop_fault.LoopFault.TheVariants.{Wires, Sink, NoMemory}
use Rattle.loop_session.specs.Keeping.{kept_ends}
use Rattle.loop_session.specs.Parts.{writes_of_entries, OnlyPrints, BreaksFor, Puts}
use Rattle.link_trait.specs.States.{WiresState}
use Rattle.outside.specs.Acts.{Act, Wrote}
use Rattle.outside.specs.Scripts.{printing}
use Rattle.outside.specs.Chains.{did_then}
use Rattle.outside.specs.Doings.{Told, Did}
use Rattle.application_lines.specs.Notices.{ApplicationNotice}
use Rattle.application_model.specs.Ends.{EventTime, EndStage, end_stage_behind, learning, known_behind}
use Rattle.application_model.specs.Lines.{notices_of_event}
use Rattle.application_model.specs.Histories.{ServiceItem, Occurred}
use Rattle.application_model.specs.Laws.{readings_in}
use Rattle.application_model.specs.Services.{Attendance, Service, behind_items, informed, time_at, occurs}
use Rattle.application_model.specs.Claims.{RiseTo, IsBeginning}
use Rattle.application_ends.specs.StackEnds.{HeldKeys}
use Rattle.application_ends.specs.Laws.{text_of_item}
use Rattle.application_serving.specs.SeenOctets.{octets_read_of}
use Rattle.application_serving.specs.Serving.{octets_event_brings, octets_heard_at, ServesSoFar, ServiceDeed, acts_in_service, items_in_service, greatest_moment}
use Rattle.application_serving.specs.OneMore.{informed_no_readings}
use Rattle.application_serving.specs.ActDeeds.{does_occurred, does_failed_write}
use Rattle.application_serving.specs.Going.{ServiceRun, ToDo, and_then, service_behind, held_behind, kind_behind, Going, ServesBy}
use Rattle.application_serving.specs.GoingSteps.{deed_of, service_one_more, serves_of_going, going_quietly, going_by_act, event_is_timely}
use Rattle.application_port.specs.Ports.{told_at_port, attendance_of}
use Rattle.application_loop.specs.StackSteps.{StandsBehind, IsNoBeginning, LooksUpSo, KeptGoOnAlike}
use Rattle.application_loop.specs.LinkGoing.{OccursByTheModel, StagesGoOn}
use Rattle.application_loop.specs.Occurring.{outcomes_at_link, entry_at_link, peer_behind_outcomes, Occurs}
use Rattle.application_loop.specs.Standing.{Beside, scene, stage_by, LinkIs, Standing, Serving}
use Rattle.application_loop.specs.ServingParts.{ServesOn}
use Rattle.application_loop.specs.declared.link.Link.{Link}
use Rattle.application_loop.specs.declared.desk.Desk.{Desk}
use Rattle.application_loop.proofs.LinkGoing.{lines_of_event, told_of_event}
use Rattle.application_loop.proofs.LinkLists.{apart_before, apart_behind, one_moves, of_this, numbers_alike, learn_one}
use Rattle.application_loop.proofs.EventDeeds.{event_items, deeds_then, event_keeps, fresh_then, held_same, other_link, this_link, desk_then, written_then, moment_then}

-- ---- the lines of an event

ends_line : (words : List (List ℕ)) → 0 < length (line_end words)
unfolding line_end
ends_line [] = omega arith
ends_line (word ∷ words) =
    let rest = ends_line words in
    let parts = length-append word (line_end words) in
    omega (arith, rest, parts)

some_line : (words : List (List ℕ)) → 0 < length (line_text words)
unfolding line_text
some_line [] = omega arith
some_line (word ∷ words) =
    let rest = ends_line words in
    let parts = length-append word (line_end words) in
    omega (arith, rest, parts)

some_lines_before : (words : List (List ℕ)) (rest : List ℕ) → 0 < length (line_text words ++ rest)
some_lines_before words rest =
    let some = some_line words in
    let parts = length-append (line_text words) rest in
    omega (arith, some, parts)

printed_in_one : (text : List ℕ) → 0 < length text → printing text ++ [] ≡ Wrote text true ∷ []
printed_in_one [] some = absurd (omega (arith, some))
printed_in_one (octet ∷ octets) some = refl

event_no_readings : (time : EventTime) (n : ℕ) (what : Event) (outcomes : List TraceOutcome) (there : Attendance) (notices : List ApplicationNotice)
    → readings_in (Occurred time n what outcomes ∷ informed there notices) ≡ 0
event_no_readings time n what outcomes there notices =
    let none : readings_in (informed there notices) ≡ 0 = informed_no_readings there notices in omega (arith, none)

learn_this : (n number : ℕ) (before after : EndStage) (outcomes : List TraceOutcome) → number ≡ n → end_stage_behind before outcomes ≡ after
    → learning n outcomes (record { number = n; stage = before }) ≡ record { number = number; stage = after }
learn_this n number before after outcomes same staged =
    let itself : (n == n) ≡ true = eq-eqb n n refl in
    rw itself (ap (λ (x : EndStage). record { number = n; stage = x }) staged ∙ ap (λ (x : ℕ). record { number = x; stage = after }) (sym same))

-- nothing was done
going_still : {run : ServiceRun} {told told' : Told} {deeds : List ServiceDeed} {rest : ToDo} → Going run told deeds rest → Did told told' [] → Going run told' deeds rest
going_still {run} {told} {told'} {deeds} going did = record {
  did = subst (Did run.before told') (append-nil (acts_in_service deeds)) (did_then run.before told told' (acts_in_service deeds) [] going.did did);
  happenings = going.happenings;
  history = going.history;
  always = going.always;
  timely = going.timely;
  fetched = going.fetched;
}

-- ---- a write of one text that broke off

-- nothing was done, or it was written and memory ran out then; or it failed
data IsBroken (piece : List ℕ) (acts : List Act) : Type 0 where
  NothingDone : acts ≡ [] → IsBroken piece acts
  AllWritten : acts ≡ Wrote piece true ∷ [] → IsBroken piece acts
  WriteFailed : acts ≡ Wrote piece false ∷ [] → IsBroken piece acts

none_behind : (done left : List Act) (act last : Act) → act ∷ (done ++ left) ≡ last ∷ [] → (act ≡ last) × (done ≡ []) × (left ≡ [])
none_behind [] [] act last is = (cc, refl, refl)
none_behind [] (next ∷ left) act last is = absurd (cc)
none_behind (next ∷ done) left act last is = absurd (cc)

begun_of_one : (fault : LoopFault) (piece : List ℕ) (done left acts : List Act) → done ++ left ≡ Wrote piece true ∷ [] → BreaksFor fault done left acts
    → IsBroken piece acts
begun_of_one Wires piece done left acts is breaks = absurd breaks
begun_of_one (NoMemory want) piece [] left acts is breaks = NothingDone breaks
begun_of_one (NoMemory want) piece (act ∷ done) left acts is breaks =
    let n = none_behind done left act (Wrote piece true) is in
    AllWritten (breaks ∙ ap (λ (a : Act). a ∷ done) n.0 ∙ ap (λ (acts : List Act). Wrote piece true ∷ acts) n.1)
begun_of_one Sink piece [] left acts is breaks =
    let same : Wrote breaks.piece true ∷ breaks.rest ≡ Wrote piece true ∷ [] = sym breaks.next ∙ is in
    let text : breaks.piece ≡ piece = cc in
    WriteFailed (breaks.are ∙ ap (λ (p : List ℕ). Wrote p false ∷ []) text)
begun_of_one Sink piece (act ∷ done) left acts is breaks =
    let n = none_behind done left act (Wrote piece true) is in
    absurd (none_left_over left breaks.piece breaks.rest n.2 breaks.next)
  where
    none_left_over : (left : List Act) (piece : List ℕ) (rest : List Act) → left ≡ [] → left ≡ Wrote piece true ∷ rest → ⊥
    none_left_over left piece rest none some = absurd (cc)

-- what an event leaves of the octets that were read of its connection
pub record LeavesOctets (link : Link) (g : GivenToSession) (left left' : ℕ → List ℕ) : Type 0 where
  pub others : (conn : ℕ) → (conn == link.number) ≡ false → left' conn ≡ left conn
  pub this : left link.number ≡ octets_event_brings (journal_event_of_given kept_ends link.end.value g) ++ left' link.number
  pub heard : (octets_event_brings (journal_event_of_given kept_ends link.end.value g) ≡ []) ⊎ (link.broken ≡ false)

module _ (on : KeptGoOnAlike) (by_model : OccursByTheModel) (stages : StagesGoOn) (run : ServiceRun) (beside : Beside) (rest : ToDo) (m : ℕ) (r : Rules) (g : GivenToSession)
    (other : IsNoBeginning g) (front back : List Link) (old : Link) (desk : Desk) (told : Told) (left' : ℕ → List ℕ) (at : beside.moment ≡ m)
    (looks : LooksUpSo g r beside.finds) (leaves : LeavesOctets old g beside.left left')
    (serving : Serving run beside (and_then (λ kind s. occurs kind m old.number (journal_event_of_given kept_ends old.end.value g) s) rest)
    (scene told (front ++ old ∷ back) desk)) where
  abbrev deeds : List ServiceDeed
  deeds = serving.deeds

  abbrev s : Service
  s = service_behind deeds

  abbrev what : Event
  what = journal_event_of_given kept_ends old.end.value g

  abbrev outcomes : List TraceOutcome
  outcomes = map trace_outcome_of (outcomes_at_link r m old g)

  abbrev notices : List ApplicationNotice
  notices = notices_of_event old.number what outcomes

  abbrev piece : List ℕ
  piece = entry_text (entry_at_link r m old g)

  abbrev items : List ServiceItem
  items = event_items run deeds piece (time_at m s) old.number what outcomes s.application notices

  abbrev then_deeds : List ServiceDeed
  then_deeds = deeds_then run deeds piece (time_at m s) old.number what outcomes s.application notices

  is_link : LinkIs run deeds beside.left old
  is_link = of_this (LinkIs run deeds beside.left) front back old serving.stands.each

  keys_now : (later : List (List KmacEntry)) → LooksUpSo g r (held_behind run deeds later s.keys)
  keys_now later = subst (LooksUpSo g r) (sym (ap (held_behind run deeds later) serving.stands.keys ∙ serving.stands.finds later)) looks

  -- the model does this
  done : (later : List (List KmacEntry)) → occurs (kind_behind run deeds later) m old.number what s ≡ items
  done later =
      ap (λ (os : List TraceOutcome). Occurred (time_at m s) old.number what os ∷ informed s.application (notices_of_event old.number what os))
      (sym (on run.settings (held_behind run deeds later) r (time_at m s) (s.ends old.number) old.end.value g other (keys_now later) (is_link.end later)).tells)

  so_far : ServesSoFar run.settings (acts_in_service deeds) (items_in_service deeds)
  so_far = serving.going.always deeds [] (sym (append-nil deeds))

  hears : IsBeginning (octets_heard_at old.number (items_in_service deeds) ++ octets_event_brings what) (octets_read_of old.number (acts_in_service deeds))
  hears = elim leaves.heard [
    | inl none ↦
        subst (λ (os : List ℕ). IsBeginning os (octets_read_of old.number (acts_in_service deeds)))
        (sym (ap (λ (os : List ℕ). octets_heard_at old.number (items_in_service deeds) ++ os) none ∙ append-nil (octets_heard_at old.number (items_in_service deeds))))
        (so_far.heard old.number)
    | inr whole ↦ record {
      rest = left' old.number;
      is =
          sym (is_link.heard whole)
          ∙ ap (λ (os : List ℕ). octets_heard_at old.number (items_in_service deeds) ++ os) leaves.this
          ∙ sym (append_assoc (octets_heard_at old.number (items_in_service deeds)) (octets_event_brings what) (left' old.number));
    }
  ]

  text_is : piece ≡ text_of_item (Occurred (time_at m s) old.number what outcomes)
  text_is = lines_of_event m r g old

  -- the lines were written
  pub wrote : (told' : Told) → Did told told' (Wrote piece true ∷ []) → Going run told' then_deeds rest
  wrote told' did =
      going_by_act (λ kind t. occurs kind m old.number what t) rest (Wrote piece true) items serving.going did refl done
      (does_occurred so_far serving.stands.written piece (time_at m s) old.number what outcomes s.application notices text_is is_link.brought hears)
      (event_is_timely (greatest_moment (acts_in_service deeds)) (time_at m s) old.number what outcomes s.application notices
      (sym (serving.stands.moment ∙ at)))
      (event_no_readings (time_at m s) old.number what outcomes s.application notices)

  pub failed : (told' : Told) → Did told told' (Wrote piece false ∷ []) → ServesBy run told'
  failed told' did = serves_of_going (going_quietly (Wrote piece false) serving.going did refl (does_failed_write so_far piece))

  -- the lines were written, and the link and the desk stand behind the event
  pub stands : (now : Link) (after : Desk) (told' : Told) → Occurs r m g old now desk after → told'.wires ≡ told.wires
      → Standing run then_deeds (record beside { left = left' }) (scene told' (front ++ now ∷ back) after)
  unfolding end_after outcomes_of_given_event
  stands now after told' occurred wires =
      let was = serving.stands in
      let at_link = λ (later : List (List KmacEntry)).
      subst (λ (xs : List ServiceItem). StandsBehind run.settings (held_behind run deeds later) ((behind_items s xs).ends now.number) now.end.value) (done later)
      (by_model run.settings (held_behind run deeds later) s m r g old now desk after other (keys_now later)
      (record { end = is_link.end later; application = was.desk.application }) occurred).stands.end in
      let attends =
      subst (λ (xs : List ServiceItem). (behind_items s xs).application ≡ attendance_of after.port) (done [])
      (by_model run.settings (held_behind run deeds []) s m r g old now desk after other (keys_now [])
      (record { end = is_link.end []; application = was.desk.application }) occurred).stands.application in
      let before = apart_before 0 beside.opened front back old was.rise in
      let behind = apart_behind 0 beside.opened front back old was.rise in
      let keeps = event_keeps run deeds piece (time_at m s) old.number what outcomes s.application notices in
      let staged = stages m (event_of r g) old.end.value (is_link.end []).end old.peer (is_link.end []).stands in
      record {
        each =
            one_moves (LinkIs run deeds beside.left) (LinkIs run then_deeds left') old.number front back old now
            (λ l apart is.
            other_link run deeds piece (time_at m s) old.number what outcomes s.application notices beside.left left' l apart (leaves.others l.number apart) is)
            before behind
            (this_link run deeds piece (time_at m s) old.number what outcomes s.application notices beside.left left' old now (outcomes_at_link r m old g) refl refl
            occurred.number occurred.output (λ whole. let u = occurred.unbroken whole in (u.before, u.fits)) leaves.this at_link)
            was.each;
        known =
            keeps.known
            ∙ ap (known_behind old.number outcomes) was.known
            ∙ learn_one old.number outcomes front back old now before behind
            (learn_this old.number now.number (stage_by old.end.value.core.released old.peer) (stage_by now.end.value.core.released now.peer) outcomes occurred.number
            (staged
            ∙ ap (λ (k : KEnd). stage_by k.core.released (peer_behind_outcomes old.peer (outcomes_at_link r m old g))) (sym occurred.end)
            ∙ ap (stage_by now.end.value.core.released) (sym occurred.peer)));
        rise = subst (λ (ns : List ℕ). RiseTo 0 ns beside.opened) (sym (numbers_alike front back old now occurred.number)) was.rise;
        below = was.below;
        fresh = λ conn above. fresh_then run deeds piece (time_at m s) old.number what outcomes s.application notices conn (was.fresh conn above);
        desk =
            desk_then run deeds piece (time_at m s) old.number what outcomes s.application notices beside.held desk after (outcomes_at_link r m old g) refl
            was.desk.application (occurred.told ∙ ap (λ (t : List ℕ). told_at_port t desk.port) (told_of_event m r g old other))
            (ap (λ (t : Service). t.application) (service_one_more deeds (deed_of (Wrote piece true) items)) ∙ attends) occurred.counts was.desk;
        written =
            written_then run deeds piece (time_at m s) old.number what outcomes s.application notices (line_text (header_words run.settings)) text_is was.written;
        moment = moment_then run deeds piece (time_at m s) old.number what outcomes s.application notices ∙ was.moment;
        finds = λ later.
            ap (λ (h : HeldKeys). h beside.keys) (held_same run deeds piece (time_at m s) old.number what outcomes s.application notices later) ∙ was.finds later;
        keys = keeps.keys ∙ was.keys;
        draining = keeps.draining ∙ was.draining;
        opened = keeps.opened ∙ was.opened;
        numbered = ap (λ (w : WiresState). w.opened) wires ∙ was.numbered;
      }

  broke : (told' : Told) (acts : List Act) → Did told told' acts → IsBroken piece acts → ServesBy run told'
  broke told' acts did (NothingDone is) = serves_of_going (going_still serving.going (subst (Did told told') is did))
  broke told' acts did (AllWritten is) = serves_of_going (wrote told' (subst (Did told told') is did))
  broke told' acts did (WriteFailed is) = failed told' (subst (Did told told') is did)

  one_write : writes_of_entries (entry_at_link r m old g ∷ []) ≡ Wrote piece true ∷ []
  one_write =
      printed_in_one piece
      (subst (λ (t : List ℕ). 0 < length t) (sym (lines_of_event m r g old))
      (some_lines_before (entry_words m old.number what) (lines_text (map (outcome_words old.number) outcomes))))

  -- by the clauses of an event at a link
  pub event_serves : {T : Type 0} (now : Link) (after : Desk) (told' : Told) (result : Result T LoopFault)
      → Puts told told' (writes_of_entries (entry_at_link r m old g ∷ [])) result → OnOk result (Occurs r m g old now desk after) → OnlyPrints told told'
      → ServesOn run (record beside { left = left' }) rest (scene told' (front ++ now ∷ back) after) result
  event_serves now after told' (Ok done) puts occurred only =
      record {
        deeds = then_deeds;
        going = wrote told' (subst (Did told told') one_write puts);
        leaves = stands now after told' occurred only.wires;
      }
  event_serves now after told' (Err fault) puts occurred only =
      broke told' puts.acts puts.did (begun_of_one fault piece puts.begun.done puts.begun.left puts.acts (puts.begun.is ∙ one_write) puts.begun.breaks)
