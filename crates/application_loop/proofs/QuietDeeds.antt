-- The connections and the desk stand as before behind a deed without an act, whose items aren't recorded and come at no end.
use Rattle.std.proofs.Common.{◌≡◌, ◌∙◌, ℕ, List, [], ◌∷◌, ◌++◌, refl, sym, ap, subst, append-nil}
use Rattle.std.proofs.lemmas.List.Elements.{All-weaker}
use Rattle.er_base.specs.LineTexts.{line_text}
use Rattle.er_trace.specs.Texts.{header_words}
use Rattle.outside.specs.Acts.{Act}
use Rattle.application_model.specs.Ends.{EventAt}
use Rattle.application_model.specs.Histories.{ServiceItem}
use Rattle.application_model.specs.Services.{Service, behind_items}
use Rattle.application_port.specs.Ports.{attendance_of}
use Rattle.application_ends.specs.StackEnds.{HeldKeys}
use Rattle.application_ends.specs.Laws.{recording_of_service}
use Rattle.application_serving.specs.SeenOctets.{octets_given_to, octets_read_of, is_brought_in, application_in_acts}
use Rattle.application_serving.specs.Serving.{ServiceDeed, acts_in_service, items_in_service, greatest_moment, text_written_by_acts}
use Rattle.application_serving.specs.Serving.{application_in_items, octets_told_at, octets_heard_at}
use Rattle.application_serving.specs.Going.{ServiceRun, service_behind, held_behind}
use Rattle.application_serving.specs.OneMore.{told_more_at, heard_more_at, recording_more}
use Rattle.application_serving.specs.GoingSteps.{deed_without_act, acts_without_act, items_one_more, service_one_more, held_without_file}
use Rattle.application_loop.specs.StackSteps.{StandsBehind}
use Rattle.application_loop.specs.Standing.{Beside, Scene, scene, IsFresh, LinkIs, IsAtPort, DeskIs, Standing}
use Rattle.application_loop.specs.declared.link.Link.{Link}
use Rattle.application_loop.specs.declared.desk.Desk.{Desk}

-- these items are no events and aren't recorded, and nothing is known by them but of the application
pub record AreQuiet (s : Service) (items : List ServiceItem) : Type 0 where
  pub records : recording_of_service items ≡ []
  pub told : (conn : ℕ) → octets_told_at conn items ≡ []
  pub heard : (conn : ℕ) → octets_heard_at conn items ≡ []
  pub keeps : behind_items s items ≡ record s { application = (behind_items s items).application }

module _ (deeds : List ServiceDeed) (items : List ServiceItem) (quiet : AreQuiet (service_behind deeds) items) where
  abbrev pub more : List ServiceDeed
  more = deeds ++ deed_without_act items ∷ []

  same_acts : acts_in_service more ≡ acts_in_service deeds
  same_acts = acts_without_act deeds items

  more_items : items_in_service more ≡ items_in_service deeds ++ items
  more_items = items_one_more deeds (deed_without_act items)

  -- what shows of the model
  service_same : {A : Type 0} (f : Service → A) → f (service_behind more) ≡ f (behind_items (service_behind deeds) items)
  service_same f = ap f (service_one_more deeds (deed_without_act items))

  kept : {A : Type 0} (f : Service → A) → f (record (service_behind deeds) { application = (behind_items (service_behind deeds) items).application })
      ≡ f (service_behind deeds) → f (service_behind more) ≡ f (service_behind deeds)
  kept f same = service_same f ∙ ap f quiet.keeps ∙ same

  told_same : (conn : ℕ) → octets_told_at conn (items_in_service more) ≡ octets_told_at conn (items_in_service deeds)
  told_same conn =
      ap (octets_told_at conn) more_items
      ∙ told_more_at conn (items_in_service deeds) items
      ∙ ap (λ (x : List ℕ). octets_told_at conn (items_in_service deeds) ++ x) (quiet.told conn)
      ∙ append-nil (octets_told_at conn (items_in_service deeds))

  heard_same : (conn : ℕ) → octets_heard_at conn (items_in_service more) ≡ octets_heard_at conn (items_in_service deeds)
  heard_same conn =
      ap (octets_heard_at conn) more_items
      ∙ heard_more_at conn (items_in_service deeds) items
      ∙ ap (λ (x : List ℕ). octets_heard_at conn (items_in_service deeds) ++ x) (quiet.heard conn)
      ∙ append-nil (octets_heard_at conn (items_in_service deeds))

  recorded_same : recording_of_service (items_in_service more) ≡ recording_of_service (items_in_service deeds)
  recorded_same =
      ap recording_of_service more_items
      ∙ recording_more (items_in_service deeds) items
      ∙ ap (λ (x : List ℕ). recording_of_service (items_in_service deeds) ++ x) quiet.records
      ∙ append-nil (recording_of_service (items_in_service deeds))

  link_is : (run : ServiceRun) (left : ℕ → List ℕ) (link : Link) → LinkIs run deeds left link → LinkIs run more left link
  link_is run left link is = record {
    end = λ later.
        subst (λ (h : HeldKeys). StandsBehind run.settings h ((service_behind more).ends link.number) link.end.value)
        (sym (held_without_file run deeds (deed_without_act items) later refl))
        (subst (λ (e : List EventAt). StandsBehind run.settings (held_behind run deeds later) e link.end.value)
        (sym (kept (λ (s : Service). s.ends link.number) refl)) (is.end later));
    waits = λ whole.
        told_same link.number ∙ is.waits whole ∙ ap (λ (a : List Act). octets_given_to link.number a ++ link.output.items) (sym same_acts);
    heard = λ whole.
        ap (λ (x : List ℕ). x ++ left link.number) (heard_same link.number) ∙ is.heard whole ∙ ap (octets_read_of link.number) (sym same_acts);
    brought = ap (is_brought_in link.number) same_acts ∙ is.brought;
  }

  -- the desk goes on, of which the application may be told something
  pub desk_goes_on : (held : List ℕ) (old now : Desk) → DeskIs deeds held old → now.opened ≡ old.opened → now.connected ≡ old.connected
      → now.messages ≡ old.messages → (behind_items (service_behind deeds) items).application ≡ attendance_of now.port
      → IsAtPort (application_in_acts (acts_in_service deeds)) (application_in_items (items_in_service deeds ++ items)) held now.port
      → DeskIs more held now
  desk_goes_on held old now is opened connected messages application port = record {
    application = service_same (λ (s : Service). s.application) ∙ application;
    port =
        subst (λ (a : List Act). IsAtPort (application_in_acts a) (application_in_items (items_in_service more)) held now.port) (sym same_acts)
        (subst (λ (i : List ServiceItem). IsAtPort (application_in_acts (acts_in_service deeds)) (application_in_items i) held now.port) (sym more_items) port);
    opened = opened ∙ is.opened ∙ sym (kept (λ (s : Service). s.opened) refl);
    connected = connected ∙ is.connected ∙ sym (kept (λ (s : Service). s.connected) refl);
    messages = messages ∙ is.messages ∙ sym (kept (λ (s : Service). s.messages) refl);
  }

  fresh_same : (conn : ℕ) → IsFresh conn (acts_in_service deeds) → IsFresh conn (acts_in_service more)
  fresh_same conn = subst (IsFresh conn) (sym same_acts)

  pub stands_on : {run : ServiceRun} {beside : Beside} {x : Scene} (desk : Desk) → Standing run deeds beside x → DeskIs more beside.held desk
      → Standing run more beside (scene x.told x.links desk)
  stands_on {run = run} {beside = beside} {x = x} desk is on = record {
    each = All-weaker (LinkIs run deeds beside.left) (LinkIs run more beside.left) (link_is run beside.left) x.links is.each;
    known = kept (λ (s : Service). s.known) refl ∙ is.known;
    rise = is.rise;
    below = is.below;
    fresh = λ conn above. fresh_same conn (is.fresh conn above);
    desk = on;
    written =
        ap text_written_by_acts same_acts ∙ is.written ∙ ap (λ (t : List ℕ). line_text (header_words run.settings) ++ t) (sym recorded_same);
    moment = ap greatest_moment same_acts ∙ is.moment;
    finds = λ later. ap (λ (h : HeldKeys). h beside.keys) (held_without_file run deeds (deed_without_act items) later refl) ∙ is.finds later;
    keys = kept (λ (s : Service). s.keys) refl ∙ is.keys;
    draining = kept (λ (s : Service). s.draining) refl ∙ is.draining;
    opened = kept (λ (s : Service). s.opened) refl ∙ is.opened;
    numbered = is.numbered;
  }
