-- The connections stand as before behind a deed at none of them, which isn't recorded.
use Rattle.std.proofs.Common.{◌≡◌, ◌∙◌, ◌<◌, ℕ, List, [], ◌∷◌, ◌++◌, map, refl, sym, ap, subst, append-nil, true}
use Rattle.std.specs.List.{All}
use Rattle.std.proofs.lemmas.List.Elements.{All-weaker}
use Rattle.er_base.specs.LineTexts.{line_text}
use Rattle.safety_automaton.specs.Keys.{KmacEntry}
use Rattle.er_trace.specs.Texts.{header_words}
use Rattle.outside.specs.Acts.{Act, Fetch, Fetched}
use Rattle.outside.specs.Doings.{Told}
use Rattle.application_model.specs.Ends.{EventAt}
use Rattle.application_model.specs.Histories.{ServiceItem}
use Rattle.application_model.specs.Services.{Service, behind_items}
use Rattle.application_ends.specs.StackEnds.{HeldKeys}
use Rattle.application_ends.specs.Laws.{recording_of_service}
use Rattle.application_serving.specs.SeenOctets.{SeenApplication, octets_given_to, octets_read_of, is_brought_in, is_closed_in, application_in_acts}
use Rattle.application_serving.specs.Serving.{ServiceDeed, acts_in_service, items_in_service, greatest_moment, text_written_by_acts, key_files_in_acts}
use Rattle.application_serving.specs.Serving.{application_in_items, octets_told_at, octets_heard_at}
use Rattle.application_serving.specs.Going.{ServiceRun, service_behind, held_behind}
use Rattle.application_serving.specs.OneMore.{told_more_at, heard_more_at, recording_more, given_to_quiet, read_of_quiet, brought_in_quiet, closed_in_quiet}
use Rattle.application_serving.specs.OneMore.{text_written_quiet, application_quiet, moment_quiet}
use Rattle.application_serving.specs.GoingSteps.{acts_of_deed, acts_one_more, items_one_more, service_one_more, held_one_more}
use Rattle.application_loop.specs.StackSteps.{StandsBehind}
use Rattle.application_model.specs.Claims.{RiseTo}
use Rattle.application_port.specs.Ports.{attendance_of}
use Rattle.application_loop.specs.Standing.{Beside, Scene, scene, IsFresh, LinkIs, IsAtPort, DeskIs, Standing, number_of_link}
use Rattle.application_loop.specs.declared.link.Link.{Link}
use Rattle.application_loop.specs.declared.desk.Desk.{Desk}

-- acts at no connection and not at the application
pub record AreAside (more : List Act) : Type 0 where
  pub given : (conn : ℕ) (acts : List Act) → octets_given_to conn (acts ++ more) ≡ octets_given_to conn acts
  pub read : (conn : ℕ) (acts : List Act) → octets_read_of conn (acts ++ more) ≡ octets_read_of conn acts
  pub brought : (conn : ℕ) (acts : List Act) → is_brought_in conn (acts ++ more) ≡ is_brought_in conn acts
  pub closed : (conn : ℕ) (acts : List Act) → is_closed_in conn (acts ++ more) ≡ is_closed_in conn acts
  pub written : (acts : List Act) → text_written_by_acts (acts ++ more) ≡ text_written_by_acts acts
  pub moment : (acts : List Act) → greatest_moment (acts ++ more) ≡ greatest_moment acts
  pub application : (acts : List Act) → application_in_acts (acts ++ more) ≡ application_in_acts acts

pub no_act_aside : AreAside []
no_act_aside = record {
  given = λ conn acts. ap (octets_given_to conn) (append-nil acts);
  read = λ conn acts. ap (octets_read_of conn) (append-nil acts);
  brought = λ conn acts. ap (is_brought_in conn) (append-nil acts);
  closed = λ conn acts. ap (is_closed_in conn) (append-nil acts);
  written = λ acts. ap text_written_by_acts (append-nil acts);
  moment = λ acts. ap greatest_moment (append-nil acts);
  application = λ acts. ap application_in_acts (append-nil acts);
}

pub fetch_aside : (name : List ℕ) (answer : Fetch) → AreAside (Fetched name answer ∷ [])
fetch_aside name answer = record {
  given = λ conn acts. given_to_quiet conn acts (Fetched name answer) refl;
  read = λ conn acts. read_of_quiet conn acts (Fetched name answer) refl;
  brought = λ conn acts. brought_in_quiet conn acts (Fetched name answer) refl;
  closed = λ conn acts. closed_in_quiet conn acts (Fetched name answer) refl;
  written = λ acts. text_written_quiet acts (Fetched name answer) refl;
  moment = λ acts. moment_quiet acts (Fetched name answer) refl;
  application = λ acts. application_quiet acts (Fetched name answer) refl;
}

-- items that are no events and aren't recorded, by which no connection is opened or closed
pub record AreSilent (s : Service) (items : List ServiceItem) : Type 0 where
  pub records : recording_of_service items ≡ []
  pub told : (conn : ℕ) → octets_told_at conn items ≡ []
  pub heard : (conn : ℕ) → octets_heard_at conn items ≡ []
  pub ends : (behind_items s items).ends ≡ s.ends
  pub known : (behind_items s items).known ≡ s.known
  pub opened : (behind_items s items).opened ≡ s.opened
  pub connected : (behind_items s items).connected ≡ s.connected
  pub messages : (behind_items s items).messages ≡ s.messages

-- what is to be shown of the desk and of what stands beside
pub record GoesAside (deeds : List ServiceDeed) (deed : ServiceDeed) (run : ServiceRun) (beside beside' : Beside) (desk : Desk) : Type 0 where
  pub stands : DeskIs (deeds ++ deed ∷ []) beside'.held desk
  pub moment : beside'.moment ≡ beside.moment
  pub left : beside'.left ≡ beside.left
  pub opened : beside'.opened ≡ beside.opened
  pub numbered : beside'.numbered ≡ beside.numbered
  pub drains : beside'.accepts ≡ true → beside.accepts ≡ true
  pub draining : (behind_items (service_behind deeds) deed.items).draining ≡ beside'.draining
  pub keys : (behind_items (service_behind deeds) deed.items).keys ≡ beside'.keys
  pub finds : (later : List (List KmacEntry)) → held_behind run (deeds ++ deed ∷ []) later beside'.keys ≡ beside'.finds

module _ (deeds : List ServiceDeed) (deed : ServiceDeed) (aside : AreAside (acts_of_deed deed)) (silent : AreSilent (service_behind deeds) deed.items) where
  abbrev pub more : List ServiceDeed
  more = deeds ++ deed ∷ []

  -- what shows of the acts, of the items, and of the model
  act_same : {A : Type 0} (f : List Act → A) → f (acts_in_service deeds ++ acts_of_deed deed) ≡ f (acts_in_service deeds)
      → f (acts_in_service more) ≡ f (acts_in_service deeds)
  act_same f same = ap f (acts_one_more deeds deed) ∙ same

  item_same : (f : List ServiceItem → List ℕ) → f (items_in_service deeds ++ deed.items) ≡ f (items_in_service deeds) ++ f deed.items → f deed.items ≡ []
      → f (items_in_service more) ≡ f (items_in_service deeds)
  item_same f splits none =
      ap f (items_one_more deeds deed) ∙ splits ∙ ap (λ (x : List ℕ). f (items_in_service deeds) ++ x) none ∙ append-nil (f (items_in_service deeds))

  service_same : {A : Type 0} (f : Service → A) → f (behind_items (service_behind deeds) deed.items) ≡ f (service_behind deeds)
      → f (service_behind more) ≡ f (service_behind deeds)
  service_same f same = ap f (service_one_more deeds deed) ∙ same

  given_same : (conn : ℕ) → octets_given_to conn (acts_in_service more) ≡ octets_given_to conn (acts_in_service deeds)
  given_same conn = act_same (octets_given_to conn) (aside.given conn (acts_in_service deeds))

  read_same : (conn : ℕ) → octets_read_of conn (acts_in_service more) ≡ octets_read_of conn (acts_in_service deeds)
  read_same conn = act_same (octets_read_of conn) (aside.read conn (acts_in_service deeds))

  brought_same : (conn : ℕ) → is_brought_in conn (acts_in_service more) ≡ is_brought_in conn (acts_in_service deeds)
  brought_same conn = act_same (is_brought_in conn) (aside.brought conn (acts_in_service deeds))

  closed_same : (conn : ℕ) → is_closed_in conn (acts_in_service more) ≡ is_closed_in conn (acts_in_service deeds)
  closed_same conn = act_same (is_closed_in conn) (aside.closed conn (acts_in_service deeds))

  told_same : (conn : ℕ) → octets_told_at conn (items_in_service more) ≡ octets_told_at conn (items_in_service deeds)
  told_same conn = item_same (octets_told_at conn) (told_more_at conn (items_in_service deeds) deed.items) (silent.told conn)

  heard_same : (conn : ℕ) → octets_heard_at conn (items_in_service more) ≡ octets_heard_at conn (items_in_service deeds)
  heard_same conn = item_same (octets_heard_at conn) (heard_more_at conn (items_in_service deeds) deed.items) (silent.heard conn)

  recorded_same : recording_of_service (items_in_service more) ≡ recording_of_service (items_in_service deeds)
  recorded_same = item_same recording_of_service (recording_more (items_in_service deeds) deed.items) silent.records

  link_is : (run : ServiceRun) (left : ℕ → List ℕ) (link : Link) → LinkIs run deeds left link → LinkIs run more left link
  link_is run left link is = record {
    end = λ later.
        subst (λ (h : HeldKeys). StandsBehind run.settings h ((service_behind more).ends link.number) link.end.value)
        (sym (held_one_more run deeds deed later))
        (subst (λ (e : List EventAt). StandsBehind run.settings (held_behind run deeds (key_files_in_acts (acts_of_deed deed) ++ later)) e link.end.value)
        (sym (service_same (λ (s : Service). s.ends link.number) (ap (λ (e : ℕ → List EventAt). e link.number) silent.ends)))
        (is.end (key_files_in_acts (acts_of_deed deed) ++ later)));
    waits = λ whole. told_same link.number ∙ is.waits whole ∙ ap (λ (o : List ℕ). o ++ link.output.items) (sym (given_same link.number));
    heard = λ whole. ap (λ (x : List ℕ). x ++ left link.number) (heard_same link.number) ∙ is.heard whole ∙ sym (read_same link.number);
    brought = brought_same link.number ∙ is.brought;
  }

  fresh_same : (conn : ℕ) → IsFresh conn (acts_in_service deeds) → IsFresh conn (acts_in_service more)
  fresh_same conn is = record {
    read = read_same conn ∙ is.read;
    given = given_same conn ∙ is.given;
    brought = brought_same conn ∙ is.brought;
    closed = closed_same conn ∙ is.closed;
  }

  pub stands_aside : {run : ServiceRun} {beside : Beside} {x : Scene} (beside' : Beside) (told : Told) (desk : Desk) → Standing run deeds beside x
      → told.wires.opened ≡ x.told.wires.opened → GoesAside deeds deed run beside beside' desk → Standing run more beside' (scene told x.links desk)
  stands_aside {run = run} {beside = beside} {x = x} beside' told desk is wires goes = record {
    each =
        subst (λ (left : ℕ → List ℕ). All (LinkIs run more left) x.links) (sym goes.left)
        (All-weaker (LinkIs run deeds beside.left) (LinkIs run more beside.left) (link_is run beside.left) x.links is.each);
    known = service_same (λ (s : Service). s.known) silent.known ∙ is.known;
    rise = subst (λ (top : ℕ). RiseTo 0 (map number_of_link x.links) top) (sym goes.opened) is.rise;
    below = λ going. goes.opened ∙ is.below (goes.drains going) ∙ sym goes.numbered;
    fresh = λ conn above. fresh_same conn (is.fresh conn (subst (λ (n : ℕ). n < conn) goes.numbered above));
    desk = goes.stands;
    written =
        act_same text_written_by_acts (aside.written (acts_in_service deeds))
        ∙ is.written
        ∙ ap (λ (t : List ℕ). line_text (header_words run.settings) ++ t) (sym recorded_same);
    moment = act_same greatest_moment (aside.moment (acts_in_service deeds)) ∙ is.moment ∙ sym goes.moment;
    finds = goes.finds;
    keys = ap (λ (s : Service). s.keys) (service_one_more deeds deed) ∙ goes.keys;
    draining = ap (λ (s : Service). s.draining) (service_one_more deeds deed) ∙ goes.draining;
    opened = service_same (λ (s : Service). s.opened) silent.opened ∙ is.opened ∙ sym goes.opened;
    numbered = wires ∙ is.numbered ∙ sym goes.numbered;
  }

  -- the desk goes on, of which the application may be told something or be heard
  pub desk_aside : (held held' : List ℕ) (old now : Desk) → DeskIs deeds held old → now.opened ≡ old.opened → now.connected ≡ old.connected
      → now.messages ≡ old.messages → (behind_items (service_behind deeds) deed.items).application ≡ attendance_of now.port
      → IsAtPort (application_in_acts (acts_in_service deeds)) (application_in_items (items_in_service deeds ++ deed.items)) held' now.port
      → DeskIs more held' now
  desk_aside held held' old now is opened connected messages application port = record {
    application = ap (λ (s : Service). s.application) (service_one_more deeds deed) ∙ application;
    port =
        subst (λ (seen : SeenApplication). IsAtPort seen (application_in_items (items_in_service more)) held' now.port)
        (sym (act_same application_in_acts (aside.application (acts_in_service deeds))))
        (subst (λ (i : List ServiceItem). IsAtPort (application_in_acts (acts_in_service deeds)) (application_in_items i) held' now.port)
        (sym (items_one_more deeds deed)) port);
    opened = opened ∙ is.opened ∙ sym (service_same (λ (s : Service). s.opened) silent.opened);
    connected = connected ∙ is.connected ∙ sym (service_same (λ (s : Service). s.connected) silent.connected);
    messages = messages ∙ is.messages ∙ sym (service_same (λ (s : Service). s.messages) silent.messages);
  }
