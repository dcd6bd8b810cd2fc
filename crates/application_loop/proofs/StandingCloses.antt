-- A connection is closed: what was done shows the same of all others.
use Rattle.std.proofs.Common.{◌≡◌, ◌∙◌, ◌<◌, ◌==◌, ℕ, Bool, false, not, if◌then◌else◌, List, [], ◌∷◌, ◌++◌, map, refl, sym, ap, subst, append-nil, arith, eq-eqb}
use Rattle.std.specs.List.{All}
use Rattle.std.proofs.lemmas.Bool.{ne_eqb}
use Rattle.std.proofs.lemmas.List.Elements.{All-head, All-tail}
use Rattle.safety_automaton.specs.Keys.{KmacEntry}
use Rattle.outside.specs.Acts.{Called, Closed}
use Rattle.application_model.specs.Ends.{EndStage, KnownEnd, without_end}
use Rattle.application_model.specs.Histories.{Came, Closes}
use Rattle.application_model.specs.Services.{Service, behind_items}
use Rattle.application_ends.specs.StackEnds.{HeldKeys}
use Rattle.application_ends.specs.Laws.{recording_of_service}
use Rattle.application_serving.specs.SeenOctets.{SeenApplication, octets_given_to, octets_read_of, is_brought_in, is_closed_in, application_in_acts}
use Rattle.application_serving.specs.Serving.{ServiceDeed, acts_in_service, items_in_service, greatest_moment, text_written_by_acts}
use Rattle.application_serving.specs.Serving.{application_in_items, octets_told_at, octets_heard_at}
use Rattle.application_serving.specs.Going.{ServiceRun, service_behind, held_behind}
use Rattle.application_serving.specs.OneMore.{given_to_quiet, read_of_quiet, brought_in_quiet, closed_of_others, text_written_quiet, application_quiet, moment_quiet}
use Rattle.application_serving.specs.OneMore.{told_more_at, heard_more_at, recording_more, application_items_more}
use Rattle.application_serving.specs.GoingSteps.{deed_of, acts_one_more, items_one_more, service_one_more, held_without_file}
use Rattle.application_loop.specs.StackSteps.{StandsBehind}
use Rattle.application_loop.specs.Standing.{IsFresh, LinkIs, IsAtPort, DeskIs, known_of_link}
use Rattle.application_loop.specs.declared.link.Link.{Link}
use Rattle.application_loop.specs.declared.desk.Desk.{Desk}

-- what is known of the others, where the newest is closed
pub known_but_last : (conn : ℕ) (stage : EndStage) (links : List Link) → All (λ (l : Link). (l.number == conn) ≡ false) links
    → without_end conn (map known_of_link links ++ record { number = conn; stage = stage } ∷ []) ≡ map known_of_link links
known_but_last conn stage [] apart =
    let new : KnownEnd = record { number = conn; stage = stage } in
    ap (λ (b : Bool). if not b then new ∷ [] else []) (eq-eqb conn conn refl)
known_but_last conn stage (link ∷ links) apart =
    let new : KnownEnd = record { number = conn; stage = stage } in
    let other = All-head (λ (l : Link). (l.number == conn) ≡ false) link links apart in
    let rest = known_but_last conn stage links (All-tail (λ (l : Link). (l.number == conn) ≡ false) link links apart) in
    ap
    (λ (b : Bool).
    if not b
    then known_of_link link ∷ without_end conn (map known_of_link links ++ new ∷ [])
    else without_end conn (map known_of_link links ++ new ∷ []))
    other
    ∙ ap (λ (ks : List KnownEnd). known_of_link link ∷ ks) rest

module _ (run : ServiceRun) (deeds : List ServiceDeed) (conn : ℕ) where
  abbrev pub closing : ServiceDeed
  closing = deed_of (Called (Closed conn)) (Came (Closes conn) ∷ [])

  abbrev pub more : List ServiceDeed
  more = deeds ++ closing ∷ []

  pub closed_acts : acts_in_service more ≡ acts_in_service deeds ++ Called (Closed conn) ∷ []
  closed_acts = acts_one_more deeds closing

  closed_items : items_in_service more ≡ items_in_service deeds ++ Came (Closes conn) ∷ []
  closed_items = items_one_more deeds closing

  pub closed_service : service_behind more ≡ record (service_behind deeds) { known = without_end conn (service_behind deeds).known }
  unfolding behind_items
  closed_service = service_one_more deeds closing

  pub closed_held : (later : List (List KmacEntry)) → held_behind run more later ≡ held_behind run deeds later
  closed_held later = held_without_file run deeds closing later refl

  closed_given : (c : ℕ) → octets_given_to c (acts_in_service more) ≡ octets_given_to c (acts_in_service deeds)
  closed_given c = ap (octets_given_to c) closed_acts ∙ given_to_quiet c (acts_in_service deeds) (Called (Closed conn)) refl

  closed_read : (c : ℕ) → octets_read_of c (acts_in_service more) ≡ octets_read_of c (acts_in_service deeds)
  closed_read c = ap (octets_read_of c) closed_acts ∙ read_of_quiet c (acts_in_service deeds) (Called (Closed conn)) refl

  closed_brought : (c : ℕ) → is_brought_in c (acts_in_service more) ≡ is_brought_in c (acts_in_service deeds)
  closed_brought c = ap (is_brought_in c) closed_acts ∙ brought_in_quiet c (acts_in_service deeds) (Called (Closed conn)) refl

  closed_others : (c : ℕ) → (conn == c) ≡ false → is_closed_in c (acts_in_service more) ≡ is_closed_in c (acts_in_service deeds)
  closed_others c other = ap (is_closed_in c) closed_acts ∙ closed_of_others c conn (acts_in_service deeds) other

  closed_told : (c : ℕ) → octets_told_at c (items_in_service more) ≡ octets_told_at c (items_in_service deeds)
  closed_told c =
      ap (octets_told_at c) closed_items
      ∙ told_more_at c (items_in_service deeds) (Came (Closes conn) ∷ [])
      ∙ append-nil (octets_told_at c (items_in_service deeds))

  closed_heard : (c : ℕ) → octets_heard_at c (items_in_service more) ≡ octets_heard_at c (items_in_service deeds)
  closed_heard c =
      ap (octets_heard_at c) closed_items
      ∙ heard_more_at c (items_in_service deeds) (Came (Closes conn) ∷ [])
      ∙ append-nil (octets_heard_at c (items_in_service deeds))

  pub closed_recorded : recording_of_service (items_in_service more) ≡ recording_of_service (items_in_service deeds)
  closed_recorded =
      ap recording_of_service closed_items
      ∙ recording_more (items_in_service deeds) (Came (Closes conn) ∷ [])
      ∙ append-nil (recording_of_service (items_in_service deeds))

  pub closed_written : text_written_by_acts (acts_in_service more) ≡ text_written_by_acts (acts_in_service deeds)
  closed_written = ap text_written_by_acts closed_acts ∙ text_written_quiet (acts_in_service deeds) (Called (Closed conn)) refl

  pub closed_moment : greatest_moment (acts_in_service more) ≡ greatest_moment (acts_in_service deeds)
  closed_moment = ap greatest_moment closed_acts ∙ moment_quiet (acts_in_service deeds) (Called (Closed conn)) refl

  pub closed_link : (left : ℕ → List ℕ) (link : Link) → LinkIs run deeds left link → LinkIs run more left link
  closed_link left link is = let n = link.number in record {
    end = λ later.
        subst (λ (h : HeldKeys). StandsBehind run.settings h ((service_behind more).ends n) link.end.value) (sym (closed_held later))
        (subst (λ (s : Service). StandsBehind run.settings (held_behind run deeds later) (s.ends n) link.end.value) (sym closed_service) (is.end later));
    waits = λ whole. closed_told n ∙ is.waits whole ∙ ap (λ (o : List ℕ). o ++ link.output.items) (sym (closed_given n));
    heard = λ whole. ap (λ (o : List ℕ). o ++ left n) (closed_heard n) ∙ is.heard whole ∙ sym (closed_read n);
    brought = closed_brought n ∙ is.brought;
  }

  pub closed_fresh_apart : (c : ℕ) → (conn == c) ≡ false → IsFresh c (acts_in_service deeds) → IsFresh c (acts_in_service more)
  closed_fresh_apart c apart is = record {
    read = closed_read c ∙ is.read;
    given = closed_given c ∙ is.given;
    brought = closed_brought c ∙ is.brought;
    closed = closed_others c apart ∙ is.closed;
  }

  pub closed_fresh : (c : ℕ) → conn < c → IsFresh c (acts_in_service deeds) → IsFresh c (acts_in_service more)
  closed_fresh c above is = closed_fresh_apart c (ne_eqb conn c (λ same. let e : conn ≡ c = same in omega (arith, above, e))) is

  pub closed_desk : (held : List ℕ) (desk : Desk) → 0 < conn → DeskIs deeds held desk → DeskIs more held desk
  closed_desk held desk above is =
      let other : (conn == 0) ≡ false = ne_eqb conn 0 (λ same. let e : conn ≡ 0 = same in omega (arith, above, e)) in
      let seen : application_in_acts (acts_in_service more) ≡ application_in_acts (acts_in_service deeds) =
      ap application_in_acts closed_acts ∙ application_quiet (acts_in_service deeds) (Called (Closed conn)) (rw other refl) in
      record {
        application = ap (λ (s : Service). s.application) closed_service ∙ is.application;
        port =
            subst (λ (a : SeenApplication). IsAtPort a (application_in_items (items_in_service more)) held desk.port) (sym seen)
            (subst (λ (told : SeenApplication). IsAtPort (application_in_acts (acts_in_service deeds)) told held desk.port)
            (sym (ap application_in_items closed_items ∙ application_items_more (items_in_service deeds) (Came (Closes conn) ∷ []))) is.port);
        opened = is.opened ∙ ap (λ (s : Service). s.opened) (sym closed_service);
        connected = is.connected ∙ ap (λ (s : Service). s.connected) (sym closed_service);
        messages = is.messages ∙ ap (λ (s : Service). s.messages) (sym closed_service);
      }
