-- An application comes where nobody was there: its port is open, and who is connected is to be told.
use Rattle.std.proofs.Common.{◌≡◌, ◌∙◌, ℕ, false, List, [], ◌∷◌, ◌++◌, refl, sym, ap, subst, append-nil, Option}
use Rattle.std.proofs.lemmas.List.Elements.{All-nil, All-weaker}
use Rattle.er_base.specs.LineTexts.{line_text}
use Rattle.safety_automaton.specs.Keys.{KmacEntry}
use Rattle.er_trace.specs.Texts.{header_words}
use Rattle.link_trait.specs.declared.wires.Conn.{Conn}
use Rattle.link_trait.specs.declared.wires.Happening.TheVariants as happening
use Rattle.outside.specs.Acts.{Act, Called, Turned}
use Rattle.outside.specs.Doings.{Told, Did}
use Rattle.application_lines.specs.Standings.{at_first_line}
use Rattle.application_model.specs.Lines.{connected_lines}
use Rattle.application_model.specs.Histories.{Came, Attaches}
use Rattle.application_model.specs.Services.{Attached, is_attached, Service, behind_items, one_then, came_alone, attaches, informs, meets}
use Rattle.application_port.specs.Ports.{NobodyThere, Talking, attendance_of}
use Rattle.application_ends.specs.StackEnds.{HeldKeys}
use Rattle.application_ends.specs.Laws.{recording_of_service}
use Rattle.application_serving.specs.SeenOctets.{NobodySeen, SeenThere, octets_given_to, octets_read_of, is_brought_in, application_in_acts}
use Rattle.application_serving.specs.Serving.{ServiceDeed, acts_in_service, items_in_service, greatest_moment, text_written_by_acts}
use Rattle.application_serving.specs.Serving.{application_in_items, octets_told_at, octets_heard_at}
use Rattle.application_serving.specs.Going.{ServiceRun, ToDo, and_then, service_behind, held_behind, kind_behind, Going}
use Rattle.application_serving.specs.OneMore.{given_to_quiet, read_of_quiet, brought_in_quiet, closed_in_quiet, text_written_quiet, moment_quiet, application_comes}
use Rattle.application_serving.specs.OneMore.{told_more_at, heard_more_at, recording_more, application_items_more}
use Rattle.application_serving.specs.ActDeeds.{does_attached}
use Rattle.application_serving.specs.ModelSteps.{meets_attaches}
use Rattle.application_serving.specs.GoingSteps.{deed_of, acts_one_more, items_one_more, service_one_more, held_without_file, begins_to_meet, going_first_as, going_regrouped}
use Rattle.application_serving.specs.GoingSteps.{going_by_act, timely_behind}
use Rattle.application_loop.specs.StackSteps.{StandsBehind}
use Rattle.application_loop.specs.Standing.{Beside, Scene, scene, Standing, Serving, IsFresh, LinkIs, IsAtPort, DeskIs}
use Rattle.application_loop.specs.Turning.{meets_application}
use Rattle.application_loop.specs.declared.link.Link.{Link}
use Rattle.application_loop.specs.declared.desk.Desk.{Desk}
use Rattle.application_loop.proofs.Happenings.{takes_then}

-- what the model does as it comes, in two parts
attaches_is : (s : Service) → attaches s ≡ one_then (came_alone Attaches) (λ (t : Service). informs (connected_lines t.known) t) s
unfolding one_then behind_items
attaches_is s = refl

module _ (run : ServiceRun) (beside : Beside) (x : Scene) (serving : Serving run beside (λ kind s. []) x) (until : Option ℕ) (c : Conn) (here : c.0 ≡ 0)
    (nobody : x.desk.port ≡ NobodyThere) (told : Told) (did : Did x.told told (Called (Turned until (happening.Writable c)) ∷ [])) where
  abbrev act : Act
  act = Called (Turned until (happening.Writable c))

  abbrev deeds : List ServiceDeed
  deeds = serving.deeds

  abbrev more : List ServiceDeed
  more = deeds ++ deed_of act (Came Attaches ∷ []) ∷ []

  stands : Standing run deeds beside x
  stands = serving.stands

  more_acts : acts_in_service more ≡ acts_in_service deeds ++ act ∷ []
  more_acts = acts_one_more deeds (deed_of act (Came Attaches ∷ []))

  more_items : items_in_service more ≡ items_in_service deeds ++ Came Attaches ∷ []
  more_items = items_one_more deeds (deed_of act (Came Attaches ∷ []))

  service_is : service_behind more ≡ record (service_behind deeds) { application = Attached at_first_line 0 }
  unfolding behind_items
  service_is = service_one_more deeds (deed_of act (Came Attaches ∷ []))

  same_held : (later : List (List KmacEntry)) → held_behind run more later ≡ held_behind run deeds later
  same_held later = held_without_file run deeds (deed_of act (Came Attaches ∷ [])) later refl

  same_told : (n : ℕ) → octets_told_at n (items_in_service more) ≡ octets_told_at n (items_in_service deeds)
  same_told n =
      ap (octets_told_at n) more_items ∙ told_more_at n (items_in_service deeds) (Came Attaches ∷ []) ∙ append-nil (octets_told_at n (items_in_service deeds))

  same_heard : (n : ℕ) → octets_heard_at n (items_in_service more) ≡ octets_heard_at n (items_in_service deeds)
  same_heard n =
      ap (octets_heard_at n) more_items ∙ heard_more_at n (items_in_service deeds) (Came Attaches ∷ []) ∙ append-nil (octets_heard_at n (items_in_service deeds))

  link_same : (link : Link) → LinkIs run deeds beside.left link → LinkIs run more beside.left link
  link_same link is = let n = link.number in record {
    end = λ later.
        subst (λ (h : HeldKeys). StandsBehind run.settings h ((service_behind more).ends n) link.end.value) (sym (same_held later))
        (subst (λ (s : Service). StandsBehind run.settings (held_behind run deeds later) (s.ends n) link.end.value) (sym service_is) (is.end later));
    waits = λ whole.
        same_told n
        ∙ is.waits whole
        ∙ ap (λ (o : List ℕ). o ++ link.output.items) (sym (ap (octets_given_to n) more_acts ∙ given_to_quiet n (acts_in_service deeds) act refl));
    heard = λ whole.
        ap (λ (o : List ℕ). o ++ beside.left n) (same_heard n)
        ∙ is.heard whole
        ∙ sym (ap (octets_read_of n) more_acts ∙ read_of_quiet n (acts_in_service deeds) act refl);
    brought = ap (is_brought_in n) more_acts ∙ brought_in_quiet n (acts_in_service deeds) act refl ∙ is.brought;
  }

  fresh_same : (n : ℕ) → IsFresh n (acts_in_service deeds) → IsFresh n (acts_in_service more)
  fresh_same n is = subst (IsFresh n) (sym more_acts) (record {
    read = read_of_quiet n (acts_in_service deeds) act refl ∙ is.read;
    given = given_to_quiet n (acts_in_service deeds) act refl ∙ is.given;
    brought = brought_in_quiet n (acts_in_service deeds) act refl ∙ is.brought;
    closed = closed_in_quiet n (acts_in_service deeds) act refl ∙ is.closed;
  })

  seen_none : application_in_acts (acts_in_service deeds) ≡ NobodySeen
  seen_none =
      (subst (IsAtPort (application_in_acts (acts_in_service deeds)) (application_in_items (items_in_service deeds)) beside.held) nobody stands.desk.port).0

  desk_comes : (desk : Desk) → desk ≡ record x.desk { port = Talking at_first_line [] } → DeskIs more [] desk
  desk_comes desk is =
      let comes : application_in_acts (acts_in_service more) ≡ SeenThere [] [] =
      ap application_in_acts more_acts
      ∙ application_comes (acts_in_service deeds) until c here seen_none in
      let there : application_in_items (items_in_service more) ≡ SeenThere [] [] =
      ap application_in_items more_items ∙ application_items_more (items_in_service deeds) (Came Attaches ∷ []) in
      let talking : DeskIs more [] (record x.desk { port = Talking at_first_line [] }) = record {
        application = ap (λ (s : Service). s.application) service_is;
        port = record { brought = []; given = []; acts = comes; items = there };
        opened = stands.desk.opened ∙ ap (λ (s : Service). s.opened) (sym service_is);
        connected = stands.desk.connected ∙ ap (λ (s : Service). s.connected) (sym service_is);
        messages = stands.desk.messages ∙ ap (λ (s : Service). s.messages) (sym service_is);
      } in
      subst (DeskIs more []) (sym is) talking

  stands_comes : (desk : Desk) → desk ≡ record x.desk { port = Talking at_first_line [] }
      → Standing run more (record beside { held = [] }) (scene told x.links desk)
  stands_comes desk is = record {
    each = All-weaker (LinkIs run deeds beside.left) (LinkIs run more beside.left) link_same x.links stands.each;
    known = ap (λ (s : Service). s.known) service_is ∙ stands.known;
    rise = stands.rise;
    below = stands.below;
    fresh = λ n beyond. fresh_same n (stands.fresh n beyond);
    desk = desk_comes desk is;
    written =
        ap text_written_by_acts more_acts
        ∙ text_written_quiet (acts_in_service deeds) act refl
        ∙ stands.written
        ∙ ap (λ (t : List ℕ). line_text (header_words run.settings) ++ t)
        (sym (ap recording_of_service more_items
        ∙ recording_more (items_in_service deeds) (Came Attaches ∷ [])
        ∙ append-nil (recording_of_service (items_in_service deeds))));
    moment = ap greatest_moment more_acts ∙ moment_quiet (acts_in_service deeds) act refl ∙ stands.moment;
    finds = λ later. ap (λ (h : HeldKeys). h beside.keys) (same_held later) ∙ stands.finds later;
    keys = ap (λ (s : Service). s.keys) service_is ∙ stands.keys;
    draining = ap (λ (s : Service). s.draining) service_is ∙ stands.draining;
    opened = ap (λ (s : Service). s.opened) service_is ∙ stands.opened;
    numbered = did.wires.opened ∙ stands.numbered;
  }

  going_comes : (moment : ℕ) → Going run told more (meets_application moment)
  going_comes moment =
      let s = service_behind deeds in
      let acts = acts_in_service deeds in
      let meets_it : ToDo = λ kind t. meets kind moment Attaches t in
      let alone : ToDo = λ kind t. came_alone Attaches t in
      let introduces : ToDo = λ kind t. informs (connected_lines t.known) t in
      let none : is_attached s.application ≡ false = ap is_attached (stands.desk.application ∙ ap attendance_of nobody) in
      let met =
      going_first_as meets_it (and_then alone introduces) (takes_then moment) (begins_to_meet moment Attaches serving.going)
      (λ later. meets_attaches (kind_behind run deeds later) moment s none ∙ attaches_is s) in
      let so = does_attached (serving.going.always deeds [] (sym (append-nil deeds))) stands.written until c [] here seen_none in
      going_by_act alone (meets_application moment) act (Came Attaches ∷ []) (going_regrouped alone introduces (takes_then moment) met) did refl (λ later. refl) so
      (timely_behind (greatest_moment acts) (Came Attaches) [] tt (All-nil _)) refl

  pub serves_comes : (desk : Desk) → desk ≡ record x.desk { port = Talking at_first_line [] } → (moment : ℕ)
      → Serving run (record beside { held = [] }) (meets_application moment) (scene told x.links desk)
  serves_comes desk is moment = record { deeds = more; going = going_comes moment; stands = stands_comes desk is }
