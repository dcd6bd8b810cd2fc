-- The connections and the desk stand as before behind an act that is nothing in the history.
use Rattle.std.proofs.Common.{◌≡◌, ◌∙◌, ◌<◌, ℕ, Bool, true, List, [], ◌∷◌, ◌++◌, sym, ap, subst, append_assoc}
use Rattle.std.proofs.lemmas.List.Elements.{All-weaker}
use Rattle.er_base.specs.LineTexts.{line_text}
use Rattle.safety_automaton.specs.Keys.{KmacEntry}
use Rattle.er_trace.specs.Texts.{header_words}
use Rattle.outside.specs.Acts.{Act}
use Rattle.outside.specs.Doings.{Told, Did}
use Rattle.application_model.specs.Histories.{ServiceItem}
use Rattle.application_model.specs.Services.{Service}
use Rattle.application_ends.specs.StackEnds.{HeldKeys}
use Rattle.application_ends.specs.Laws.{recording_of_service}
use Rattle.application_serving.specs.SeenOctets.{SeenApplication, octets_given_to, octets_read_of, is_brought_in, seen_behind_act, application_in_acts}
use Rattle.application_serving.specs.Serving.{ServiceDeed, acts_in_service, items_in_service, greatest_moment, text_written_by_acts, key_files_in_acts, ServesSoFar}
use Rattle.application_serving.specs.Serving.{application_in_items, octets_told_at, octets_heard_at}
use Rattle.application_serving.specs.Going.{ServiceRun, ToDo, service_behind, held_behind}
use Rattle.application_serving.specs.OneMore.{given_to_quiet, read_of_more, still_brought, brought_in_quiet, closed_in_quiet, read_of_quiet, text_written_quiet, application_quiet}
use Rattle.application_serving.specs.GoingSteps.{deed_of, acts_one_more, items_without_items, service_without_items, held_without_file, going_quietly}
use Rattle.application_loop.specs.StackSteps.{StandsBehind}
use Rattle.application_loop.specs.Standing.{Beside, Scene, scene, IsFresh, LinkIs, IsAtPort, DeskIs, Standing, Serving}
use Rattle.application_loop.specs.declared.link.Link.{Link}
use Rattle.application_loop.specs.declared.desk.Desk.{Desk}

-- what an act changes of what stands beside: the moment, how many connections came, whether each was opened, and the octets that are left
abbrev pub beside_act : Beside → (moment numbered : ℕ) → (accepts : Bool) → (left : ℕ → List ℕ) → Beside
beside_act beside moment numbered accepts left = record beside { moment = moment; numbered = numbered; accepts = accepts; left = left }

pub record GoesByAct (acts : List Act) (act : Act) (beside : Beside) (told : Told) (at count : ℕ) (opens : Bool) (octets : ℕ → List ℕ) : Type 0 where
  pub files : key_files_in_acts (act ∷ []) ≡ []
  pub text : text_written_by_acts (act ∷ []) ≡ []
  pub given : (conn : ℕ) → octets_given_to conn (act ∷ []) ≡ []
  pub left : (conn : ℕ) → octets conn ≡ beside.left conn ++ octets_read_of conn (act ∷ [])
  pub seen : seen_behind_act (application_in_acts acts) act ≡ application_in_acts acts
  pub fresh : (conn : ℕ) → count < conn → (beside.numbered < conn) × IsFresh conn (act ∷ [])
  pub moment : greatest_moment (acts ++ act ∷ []) ≡ at
  pub below : opens ≡ true → beside.opened ≡ count
  pub numbered : told.wires.opened ≡ count

module _ (run : ServiceRun) (deeds : List ServiceDeed) (act : Act) (beside : Beside) (told : Told) (moment numbered : ℕ) (accepts : Bool) (left : ℕ → List ℕ)
    (goes : GoesByAct (acts_in_service deeds) act beside told moment numbered accepts left) where
  abbrev pub more : List ServiceDeed
  more = deeds ++ deed_of act [] ∷ []

  more_acts : acts_in_service more ≡ acts_in_service deeds ++ act ∷ []
  more_acts = acts_one_more deeds (deed_of act [])

  same_items : items_in_service more ≡ items_in_service deeds
  same_items = items_without_items deeds act

  same_service : service_behind more ≡ service_behind deeds
  same_service = service_without_items deeds act

  same_held : (later : List (List KmacEntry)) → held_behind run more later ≡ held_behind run deeds later
  same_held later = held_without_file run deeds (deed_of act []) later goes.files

  same_given : (conn : ℕ) → octets_given_to conn (acts_in_service more) ≡ octets_given_to conn (acts_in_service deeds)
  same_given conn = ap (octets_given_to conn) more_acts ∙ given_to_quiet conn (acts_in_service deeds) act (goes.given conn)

  link_by_act : (link : Link) → LinkIs run deeds beside.left link → LinkIs run more left link
  link_by_act link is = let n = link.number in record {
    end = λ later.
        subst (λ (h : HeldKeys). StandsBehind run.settings h ((service_behind more).ends n) link.end.value) (sym (same_held later))
        (subst (λ (s : Service). StandsBehind run.settings (held_behind run deeds later) (s.ends n) link.end.value) (sym same_service) (is.end later));
    waits = λ whole. ap (octets_told_at n) same_items ∙ is.waits whole ∙ ap (λ (o : List ℕ). o ++ link.output.items) (sym (same_given n));
    heard = λ whole.
        ap (λ (items : List ServiceItem). octets_heard_at n items ++ left n) same_items
        ∙ ap (λ (o : List ℕ). octets_heard_at n (items_in_service deeds) ++ o) (goes.left n)
        ∙ sym (append_assoc (octets_heard_at n (items_in_service deeds)) (beside.left n) (octets_read_of n (act ∷ [])))
        ∙ ap (λ (o : List ℕ). o ++ octets_read_of n (act ∷ [])) (is.heard whole)
        ∙ sym (read_of_more n (acts_in_service deeds) (act ∷ []))
        ∙ ap (octets_read_of n) (sym more_acts);
    brought = ap (is_brought_in n) more_acts ∙ still_brought n (acts_in_service deeds) (act ∷ []) is.brought;
  }

  fresh_by_act : (conn : ℕ) → IsFresh conn (acts_in_service deeds) → IsFresh conn (act ∷ []) → IsFresh conn (acts_in_service more)
  fresh_by_act conn before one = subst (IsFresh conn) (sym more_acts) (record {
    read = read_of_quiet conn (acts_in_service deeds) act one.read ∙ before.read;
    given = given_to_quiet conn (acts_in_service deeds) act one.given ∙ before.given;
    brought = brought_in_quiet conn (acts_in_service deeds) act one.brought ∙ before.brought;
    closed = closed_in_quiet conn (acts_in_service deeds) act one.closed ∙ before.closed;
  })

  same_seen : application_in_acts (acts_in_service more) ≡ application_in_acts (acts_in_service deeds)
  same_seen = ap application_in_acts more_acts ∙ application_quiet (acts_in_service deeds) act goes.seen

  desk_by_act : (desk : Desk) → DeskIs deeds beside.held desk → DeskIs more beside.held desk
  desk_by_act desk is = record {
    application = ap (λ (s : Service). s.application) same_service ∙ is.application;
    port =
        subst (λ (seen : SeenApplication). IsAtPort seen (application_in_items (items_in_service more)) beside.held desk.port) (sym same_seen)
        (subst (λ (i : List ServiceItem). IsAtPort (application_in_acts (acts_in_service deeds)) (application_in_items i) beside.held desk.port) (sym same_items)
        is.port);
    opened = is.opened ∙ ap (λ (s : Service). s.opened) (sym same_service);
    connected = is.connected ∙ ap (λ (s : Service). s.connected) (sym same_service);
    messages = is.messages ∙ ap (λ (s : Service). s.messages) (sym same_service);
  }

  pub stands_by_act : (x : Scene) → Standing run deeds beside x
      → Standing run more (beside_act beside moment numbered accepts left) (scene told x.links x.desk)
  stands_by_act x is = record {
    each = All-weaker (LinkIs run deeds beside.left) (LinkIs run more left) link_by_act x.links is.each;
    known = ap (λ (s : Service). s.known) same_service ∙ is.known;
    rise = is.rise;
    below = goes.below;
    fresh = λ conn above. fresh_by_act conn (is.fresh conn (goes.fresh conn above).0) (goes.fresh conn above).1;
    desk = desk_by_act x.desk is.desk;
    written =
        ap text_written_by_acts more_acts
        ∙ text_written_quiet (acts_in_service deeds) act goes.text
        ∙ is.written
        ∙ ap (λ (i : List ServiceItem). line_text (header_words run.settings) ++ recording_of_service i) (sym same_items);
    moment = ap greatest_moment more_acts ∙ goes.moment;
    finds = λ later. ap (λ (h : HeldKeys). h beside.keys) (same_held later) ∙ is.finds later;
    keys = ap (λ (s : Service). s.keys) same_service ∙ is.keys;
    draining = ap (λ (s : Service). s.draining) same_service ∙ is.draining;
    opened = ap (λ (s : Service). s.opened) same_service ∙ is.opened;
    numbered = goes.numbered;
  }

-- so the model is left to do what it was
abbrev pub serves_by_act : (run : ServiceRun) (act : Act) (beside : Beside) (told : Told) (moment numbered : ℕ) (accepts : Bool) (left : ℕ → List ℕ) (rest : ToDo)
    (x : Scene) (serving : Serving run beside rest x) → Did x.told told (act ∷ [])
    → GoesByAct (acts_in_service serving.deeds) act beside told moment numbered accepts left
    → ServesSoFar run.settings (acts_in_service serving.deeds ++ act ∷ []) (items_in_service serving.deeds)
    → Serving run (beside_act beside moment numbered accepts left) rest (scene told x.links x.desk)
serves_by_act run act beside told moment numbered accepts left rest x serving did goes so = record {
  deeds = serving.deeds ++ deed_of act [] ∷ [];
  going = going_quietly act serving.going did goes.files so;
  stands = stands_by_act run serving.deeds act beside told moment numbered accepts left goes x serving.stands;
}
