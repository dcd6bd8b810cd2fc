-- Behind writes to a connection the loop is at rest as before.
use Rattle.std.proofs.Common.{arith, ◌≡◌, ◌∙◌, ◌<◌, ◌≤◌, ◌==◌, ℕ, zero, suc, true, false, List, [], ◌∷◌, ◌++◌, map, length, slice_index_or, slice_set, refl, sym, ap, subst, append_assoc, inl, inr, true≢false}
use Rattle.std.specs.Prelude.{Option, Some}
use Rattle.std.specs.List.{All, slice_get}
use Rattle.std.proofs.Math.Seq.{map-set_same}
use Rattle.std.proofs.lemmas.Bool.{cases_Bool, ne_eqb}
use Rattle.std.proofs.lemmas.List.{set-get_or, length-set, get_or-set_same}
use Rattle.std.proofs.lemmas.Option.{slice_get-get_or}
use Rattle.std.proofs.lemmas.List.Elements.{All-nil, All-cons, All-head, All-tail, All-set}
use Rattle.er_end.specs.KeptEnds.{KEnd, waiting_in}
use Rattle.outside.specs.Doings.{Told}
use Rattle.application_model.specs.Claims.{RiseTo}
use Rattle.application_model.specs.Histories.{ServiceItem}
use Rattle.application_model.specs.Services.{Service}
use Rattle.application_serving.specs.SeenOctets.{SeenApplication, octets_given_to, is_brought_in, application_in_acts}
use Rattle.application_serving.specs.Serving.{acts_in_service, items_in_service, application_in_items, octets_told_at}
use Rattle.application_serving.specs.Going.{ServiceRun}
use Rattle.application_loop.specs.Writing.{WritesFrom}
use Rattle.application_loop.specs.Standing.{Beside, scene, LinkIs, IsAtPort, AtRest, known_of_link, number_of_link, stage_by}
use Rattle.application_loop.specs.declared.link.Link.{Link}
use Rattle.application_loop.specs.declared.desk.Desk.{Desk}
use Rattle.application_loop.proofs.ActServing.{link_on, link_same, desk_on, standing_on}
use Rattle.application_loop.proofs.Sending.{sent_all}

-- ---- one of the links, whose numbers rise

pub below_isnt : (a b : ℕ) → a < b → (a == b) ≡ false
below_isnt a b less = ne_eqb a b (λ is. let e : a ≡ b = is in absurd (omega (arith, less, e)))

pub above_isnt : (a b : ℕ) → b < a → (a == b) ≡ false
above_isnt a b less = ne_eqb a b (λ is. let e : a ≡ b = is in absurd (omega (arith, less, e)))

pub number_above : (links : List Link) (place low top : ℕ) (d : Link) → RiseTo low (map number_of_link links) top → place < length links
    → low < (slice_index_or links place d).number
number_above [] place low top d rise within = absurd (omega (arith, within))
number_above (link ∷ links) zero low top d rise within = rise.0
number_above (link ∷ links) (suc place) low top d rise within =
    let rest = number_above links place link.number top d rise.1 (omega (arith, within)) in
    omega (arith, rise.0, rest)

-- those behind have other numbers
pub others_on : (P Q : Link → Type 0) (n : ℕ) (links : List Link) (low top : ℕ) → n ≤ low → RiseTo low (map number_of_link links) top
    → ((l : Link) → P l → (n == l.number) ≡ false → Q l) → All P links → All Q links
others_on P Q n [] low top under rise goes each = All-nil Q
others_on P Q n (link ∷ links) low top under rise goes each =
    let above : n < link.number = omega (arith, under, rise.0) in
    All-cons Q link links (goes link (All-head P link links each) (below_isnt n link.number above))
    (others_on P Q n links link.number top (omega (arith, above)) rise.1 goes (All-tail P link links each))

pub one_goes_on : (P Q : Link → Type 0) (links : List Link) (place low top : ℕ) (now : Link) → RiseTo low (map number_of_link links) top → place < length links
    → ((l : Link) → P l → ((slice_index_or links place now).number == l.number) ≡ false → Q l) → (P (slice_index_or links place now) → Q now) → All P links
    → All Q (slice_set links place now)
one_goes_on P Q [] place low top now rise within others mine each = absurd (omega (arith, within))
one_goes_on P Q (link ∷ links) zero low top now rise within others mine each =
    All-cons Q now links (mine (All-head P link links each))
    (others_on P Q link.number links link.number top (omega arith) rise.1 others (All-tail P link links each))
one_goes_on P Q (link ∷ links) (suc place) low top now rise within others mine each =
    let inside : place < length links = omega (arith, within) in
    let higher = number_above links place link.number top now rise.1 inside in
    All-cons Q link (slice_set links place now)
    (others link (All-head P link links each) (above_isnt (slice_index_or links place now).number link.number higher))
    (one_goes_on P Q links place link.number top now rise.1 inside others mine (All-tail P link links each))

-- ---- writes

-- what stays of a link to which is written
pub record IsWrittenTo (old now : Link) : Type 0 where
  pub number : now.number ≡ old.number
  pub end : now.end.value ≡ old.end.value
  pub peer : now.peer ≡ old.peer

known_same : (old now : Link) → IsWrittenTo old now → known_of_link now ≡ known_of_link old
known_same old now stays =
    ap (λ (n : ℕ). record { number = n; stage = stage_by now.end.value.core.released now.peer }) stays.number
    ∙ ap (λ (k : KEnd). record { number = old.number; stage = stage_by k.core.released now.peer }) stays.end
    ∙ ap (λ (p : Option ℕ). record { number = old.number; stage = stage_by old.end.value.core.released p }) stays.peer

module _ {run : ServiceRun} {beside : Beside} (told then : Told) (links : List Link) (place : ℕ) (now : Link) (desk : Desk) (within : place < length links)
    (at_rest : AtRest run beside (scene told links desk)) where
  abbrev old : Link
  old = slice_index_or links place now

  unbroken_writes : IsWrittenTo old now → old.broken ≡ false → WritesFrom old.number told then old.output.items now.output.items
      → AtRest run beside (scene then (slice_set links place now) desk)
  unbroken_writes stays unbroken writes =
      let deeds = at_rest.serving.deeds in
      let is = at_rest.serving.stands in
      let n = old.number in
      let given = octets_given_to n (acts_in_service deeds) in
      let mine = is.each place now within in
      let waits = mine.waits unbroken in
      let p = sent_all run n (λ kind s. []) deeds told old.output.items (number_above links place 0 beside.opened now is.rise within) at_rest.serving.going waits
      writes.answers then now.output.items writes.wrote in
      let more = p.more in
      let waits_now : octets_told_at n (items_in_service deeds) ≡ octets_given_to n (acts_in_service more) ++ now.output.items =
      waits
      ∙ ap (λ (o : List ℕ). given ++ o) (sym p.front)
      ∙ sym (append_assoc given p.took now.output.items)
      ∙ ap (λ (o : List ℕ). o ++ now.output.items) (sym p.given) in
      record {
        serving = record {
          deeds = more;
          going = p.going;
          stands = standing_on p.sends.adds is beside.moment beside.held beside.left (scene then (slice_set links place now) desk)
              (one_goes_on (LinkIs run deeds beside.left) (LinkIs run more beside.left) links place 0 beside.opened now is.rise within
              (λ l before apart. link_same p.sends.adds run beside.left beside.left l before (p.sends.given l.number apart) (p.sends.read l.number) refl)
              (λ before. link_on p.sends.adds run beside.left beside.left old now before stays.number stays.end (λ whole. waits_now)
              (λ whole. before.heard unbroken ∙ sym (p.sends.read n)))
              is.each)
              (ap (λ (s : Service). s.known) p.sends.service
              ∙ is.known
              ∙ sym (map-set_same known_of_link links place now now (known_same old now stays)))
              (subst (λ (ns : List ℕ). RiseTo 0 ns beside.opened) (sym (map-set_same number_of_link links place now now stays.number)) is.rise)
              (λ conn higher fresh.
              let apart : (n == conn) ≡ false =
              ne_eqb n conn (λ e. true≢false (sym mine.brought ∙ ap (λ (c : ℕ). is_brought_in c (acts_in_service deeds)) e ∙ fresh.brought)) in
              record {
                read = p.sends.read conn ∙ fresh.read;
                given = p.sends.given conn apart ∙ fresh.given;
                brought = p.sends.adds.brought conn ∙ fresh.brought;
                closed = p.sends.closed conn ∙ fresh.closed;
              })
              (desk_on p.sends.adds beside.held beside.held desk desk is.desk (ap (λ (s : Service). s.application) p.sends.service ∙ is.desk.application)
              (subst (λ (a : SeenApplication). IsAtPort a (application_in_items (items_in_service more)) beside.held desk.port) (sym p.application)
              (subst (λ (i : List ServiceItem). IsAtPort (application_in_acts (acts_in_service deeds)) (application_in_items i) beside.held desk.port)
              (sym p.sends.items) is.desk.port))
              refl refl refl)
              (p.sends.moment ∙ is.moment)
              p.wires;
        };
        rested = λ room.
            All-set (λ (l : Link). waiting_in l.end.value ≡ []) links place now (ap waiting_in stays.end ∙ at_rest.rested room place now within)
            (at_rest.rested room);
      }

  -- all that waits is written to one that isn't broken off, and nothing to another
  pub writes_rest : IsWrittenTo old now → (old.broken ≡ true → now ≡ old) → (old.broken ≡ true → then ≡ told)
      → WritesFrom old.number told then old.output.items now.output.items → AtRest run beside (scene then (slice_set links place now) desk)
  writes_rest stays rests same writes =
      elim (cases_Bool old.broken) [
        | inl broken ↦
            let set : slice_set links place now ≡ links = ap (slice_set links place) (rests broken) ∙ set-get_or links place now in
            subst (λ (t : Told). AtRest run beside (scene t (slice_set links place now) desk)) (sym (same broken))
            (subst (λ (ls : List Link). AtRest run beside (scene told ls desk)) (sym set) at_rest)
        | inr unbroken ↦ unbroken_writes stays unbroken writes
      ]

-- the same, of the link that stood there
pub writes_on : {run : ServiceRun} {beside : Beside} (told then : Told) (links : List Link) (place : ℕ) (link now : Link) (desk : Desk) → place < length links
    → link ≡ slice_index_or links place now → IsWrittenTo link now → (link.broken ≡ true → now ≡ link) → (link.broken ≡ true → then ≡ told)
    → WritesFrom link.number told then link.output.items now.output.items → AtRest run beside (scene told links desk)
    → AtRest run beside (scene then (slice_set links place now) desk)
writes_on {run} {beside} told then links place link now desk within is stays rests same writes at_rest =
    let Goes : Link → Type 0 = λ l. IsWrittenTo l now → (l.broken ≡ true → now ≡ l) → (l.broken ≡ true → then ≡ told)
    → WritesFrom l.number told then l.output.items now.output.items → AtRest run beside (scene then (slice_set links place now) desk) in
    subst Goes (sym is) (writes_rest told then links place now desk within at_rest) stays rests same writes

pub set_is_there : (links : List Link) (place : ℕ) (now : Link) → place < length links → slice_get (slice_set links place now) place ≡ Some now
set_is_there links place now within =
    slice_get-get_or (slice_set links place now) place now (subst (λ (n : ℕ). place < n) (sym (length-set links place now)) within)
    ∙ ap Some (get_or-set_same links place now now within)
