-- Behind writes of what waits, to a connection or to the application, the loop goes on as before: what was given is what waits less.
use Rattle.std.proofs.Common.{arith, ◌≡◌, ◌∙◌, ◌<◌, ◌==◌, ℕ, false, List, [], ◌∷◌, ◌++◌, refl, sym, ap, subst, append-nil, append_assoc}
use Rattle.std.proofs.lemmas.Bool.{ne_eqb}
use Rattle.link_trait.specs.declared.wires.WriteAnswer.{WriteAnswer}
use Rattle.outside.specs.Acts.{Called, Sent}
use Rattle.outside.specs.Doings.{Told}
use Rattle.application_model.specs.Claims.{IsBeginning}
use Rattle.application_serving.specs.SeenOctets.{octets_of_writing, octets_given_to, octets_read_of, is_closed_in, SeenThere, application_in_acts}
use Rattle.application_serving.specs.Serving.{ServiceDeed, acts_in_service, items_in_service, greatest_moment, octets_told_at, application_in_items}
use Rattle.application_serving.specs.Going.{ServiceRun, ToDo, service_behind, Going}
use Rattle.application_serving.specs.OneMore.{given_at_sent, given_to_others, read_of_quiet, closed_in_quiet, application_quiet, application_gets, moment_quiet}
use Rattle.application_serving.specs.ActDeeds.{does_sent, does_sent_to_application}
use Rattle.application_serving.specs.GoingSteps.{deed_of, acts_one_more, items_without_items, service_without_items, going_quietly}
use Rattle.application_loop.specs.Writing.{Wrote}
use Rattle.application_loop.proofs.ActServing.{Adds, adds_nothing, adds_then, adds_one, act_is_silent}

-- deeds behind these that are writes to one connection
pub record SendsTo (conn : ℕ) (deeds more : List ServiceDeed) : Type 0 where
  pub adds : Adds deeds more
  pub items : items_in_service more ≡ items_in_service deeds
  pub service : service_behind more ≡ service_behind deeds
  pub given : (c : ℕ) → (conn == c) ≡ false → octets_given_to c (acts_in_service more) ≡ octets_given_to c (acts_in_service deeds)
  pub read : (c : ℕ) → octets_read_of c (acts_in_service more) ≡ octets_read_of c (acts_in_service deeds)
  pub closed : (c : ℕ) → is_closed_in c (acts_in_service more) ≡ is_closed_in c (acts_in_service deeds)
  pub moment : greatest_moment (acts_in_service more) ≡ greatest_moment (acts_in_service deeds)

pub sends_nothing : (conn : ℕ) (deeds : List ServiceDeed) → SendsTo conn deeds deeds
sends_nothing conn deeds = record {
  adds = adds_nothing deeds;
  items = refl;
  service = refl;
  given = λ c apart. refl;
  read = λ c. refl;
  closed = λ c. refl;
  moment = refl;
}

sends_one : (conn : ℕ) (deeds more : List ServiceDeed) (piece : List ℕ) (answer : WriteAnswer) → SendsTo conn deeds more
    → SendsTo conn deeds (more ++ deed_of (Called (Sent conn piece answer)) [] ∷ [])
sends_one conn deeds more piece answer p =
    let act = Called (Sent conn piece answer) in
    let acts = acts_in_service more in
    let with_it = acts_one_more more (deed_of act []) in
    record {
      adds = adds_then p.adds (adds_one more (deed_of act []) (act_is_silent (service_behind more) act refl refl (λ c. refl)));
      items = items_without_items more act ∙ p.items;
      service = service_without_items more act ∙ p.service;
      given = λ c apart. ap (octets_given_to c) with_it ∙ given_to_others c conn acts piece answer apart ∙ p.given c apart;
      read = λ c. ap (octets_read_of c) with_it ∙ read_of_quiet c acts act refl ∙ p.read c;
      closed = λ c. ap (is_closed_in c) with_it ∙ closed_in_quiet c acts act refl ∙ p.closed c;
      moment = ap greatest_moment with_it ∙ moment_quiet acts act refl ∙ p.moment;
    }

whole : (waits : List ℕ) → IsBeginning waits waits
whole waits = record { rest = []; is = sym (append-nil waits) }

-- what was taken of what waited, and once more
and_once : (taken took waits new old : List ℕ) → took ++ new ≡ waits → taken ++ waits ≡ old → (taken ++ took) ++ new ≡ old
and_once taken took waits new old once before =
    append_assoc taken took new ∙ ap (λ (o : List ℕ). taken ++ o) once ∙ before

-- ---- to a connection

pub record SentTo (run : ServiceRun) (conn : ℕ) (rest : ToDo) (deeds : List ServiceDeed) (before now : Told) (old new : List ℕ) : Type 0 where
  pub more : List ServiceDeed
  pub going : Going run now more rest
  pub sends : SendsTo conn deeds more
  pub took : List ℕ
  pub front : took ++ new ≡ old
  pub given : octets_given_to conn (acts_in_service more) ≡ octets_given_to conn (acts_in_service deeds) ++ took
  pub application : application_in_acts (acts_in_service more) ≡ application_in_acts (acts_in_service deeds)
  pub wires : now.wires.opened ≡ before.wires.opened

pub sent_all : (run : ServiceRun) (conn : ℕ) (rest : ToDo) (deeds : List ServiceDeed) (before : Told) (old : List ℕ) → 0 < conn → Going run before deeds rest
    → octets_told_at conn (items_in_service deeds) ≡ octets_given_to conn (acts_in_service deeds) ++ old → (answers : List WriteAnswer) (now : Told)
    (new : List ℕ) → Wrote conn before old answers now new → SentTo run conn rest deeds before now old new
sent_all run conn rest deeds before old above going waits [] now new wrote = record {
  more = deeds;
  going = subst (λ (t : Told). Going run t deeds rest) (sym wrote.0) going;
  sends = sends_nothing conn deeds;
  took = [];
  front = wrote.1;
  given = sym (append-nil (octets_given_to conn (acts_in_service deeds)));
  application = refl;
  wires = ap (λ (t : Told). t.wires.opened) wrote.0;
}
sent_all run conn rest deeds before old above going waits (answer ∷ answers) now new w =
    let p = sent_all run conn rest deeds before old above going waits answers w.then w.waits w.earlier in
    let act = Called (Sent conn w.waits answer) in
    let acts = acts_in_service p.more in
    let given = octets_given_to conn (acts_in_service deeds) in
    let took = octets_of_writing w.waits answer in
    let with_it = acts_one_more p.more (deed_of act []) in
    let told : octets_told_at conn (items_in_service p.more) ≡ octets_given_to conn acts ++ w.waits =
    ap (octets_told_at conn) p.sends.items
    ∙ waits
    ∙ ap (λ (o : List ℕ). given ++ o) (sym p.front)
    ∙ sym (append_assoc given p.took w.waits)
    ∙ ap (λ (o : List ℕ). o ++ w.waits) (sym p.given) in
    let other : (conn == 0) ≡ false = ne_eqb conn 0 (λ is. let e : conn ≡ 0 = is in absurd (omega (arith, above, e))) in
    record {
      more = p.more ++ deed_of act [] ∷ [];
      going = going_quietly act p.going w.did refl
          (does_sent (p.going.always p.more [] (sym (append-nil p.more))) conn w.waits answer w.waits above told (whole w.waits));
      sends = sends_one conn deeds p.more w.waits answer p.sends;
      took = p.took ++ took;
      front = and_once p.took took w.waits new old w.took p.front;
      given =
          ap (octets_given_to conn) with_it
          ∙ given_at_sent conn acts w.waits answer
          ∙ ap (λ (o : List ℕ). o ++ took) p.given
          ∙ append_assoc given p.took took;
      application = ap application_in_acts with_it ∙ application_quiet acts act (rw other refl) ∙ p.application;
      wires = w.did.wires.opened ∙ p.wires;
    }

-- ---- to the application

pub record SentToApplication (run : ServiceRun) (rest : ToDo) (deeds : List ServiceDeed) (before now : Told) (read given old new : List ℕ) : Type 0 where
  pub more : List ServiceDeed
  pub going : Going run now more rest
  pub sends : SendsTo 0 deeds more
  pub took : List ℕ
  pub front : took ++ new ≡ old
  pub seen : application_in_acts (acts_in_service more) ≡ SeenThere read (given ++ took)
  pub wires : now.wires.opened ≡ before.wires.opened

pub application_sent_all : (run : ServiceRun) (rest : ToDo) (deeds : List ServiceDeed) (before : Told) (read brought given old : List ℕ)
    → Going run before deeds rest → application_in_acts (acts_in_service deeds) ≡ SeenThere read given
    → application_in_items (items_in_service deeds) ≡ SeenThere brought (given ++ old) → (answers : List WriteAnswer) (now : Told) (new : List ℕ)
    → Wrote 0 before old answers now new → SentToApplication run rest deeds before now read given old new
application_sent_all run rest deeds before read brought given old going seen told [] now new wrote = record {
  more = deeds;
  going = subst (λ (t : Told). Going run t deeds rest) (sym wrote.0) going;
  sends = sends_nothing 0 deeds;
  took = [];
  front = wrote.1;
  seen = seen ∙ ap (SeenThere read) (sym (append-nil given));
  wires = ap (λ (t : Told). t.wires.opened) wrote.0;
}
application_sent_all run rest deeds before read brought given old going seen told (answer ∷ answers) now new w =
    let p = application_sent_all run rest deeds before read brought given old going seen told answers w.then w.waits w.earlier in
    let act = Called (Sent 0 w.waits answer) in
    let acts = acts_in_service p.more in
    let took = octets_of_writing w.waits answer in
    let so = p.going.always p.more [] (sym (append-nil p.more)) in
    let told_then : application_in_items (items_in_service p.more) ≡ SeenThere brought ((given ++ p.took) ++ w.waits) =
    ap application_in_items p.sends.items
    ∙ told
    ∙ ap (λ (o : List ℕ). SeenThere brought (given ++ o)) (sym p.front)
    ∙ ap (SeenThere brought) (sym (append_assoc given p.took w.waits)) in
    record {
      more = p.more ++ deed_of act [] ∷ [];
      going = going_quietly act p.going w.did refl
          (does_sent_to_application so w.waits answer read (given ++ p.took) brought w.waits p.seen told_then (whole w.waits));
      sends = sends_one 0 deeds p.more w.waits answer p.sends;
      took = p.took ++ took;
      front = and_once p.took took w.waits new old w.took p.front;
      seen =
          ap application_in_acts (acts_one_more p.more (deed_of act []))
          ∙ application_gets acts w.waits answer read (given ++ p.took) p.seen
          ∙ ap (SeenThere read) (append_assoc given p.took took);
      wires = w.did.wires.opened ∙ p.wires;
    }
