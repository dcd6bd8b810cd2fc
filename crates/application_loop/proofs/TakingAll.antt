-- Messages that are taken at all links, one link behind the other.
use Rattle.std.proofs.Common.{arith, ◌≡◌, ◌∙◌, ◌<◌, ◌+◌, ℕ, zero, suc, false, List, [], ◌∷◌, ◌++◌, map, length, take, drop, Some, Result, slice_set, refl, sym, ap, subst, take-append-drop, append_assoc, append-nil}
use Rattle.std.specs.List.{All, slice_get}
use Rattle.std.proofs.lemmas.Option.{slice_get_within}
use Rattle.std.proofs.lemmas.List.{take-set, drop-set, drop-set-lt}
use Rattle.std.proofs.lemmas.List.Elements.{All-nil, All-cons, All-append, All-head, All-tail, All-same, All-take, All-drop}
use Rattle.std.proofs.Math.Seq.{take-suc-set}
use Rattle.er_end.specs.KeptEnds.{waiting_in}
use Rattle.loop_session.specs.declared.loop_fault.LoopFault.{LoopFault}
use Rattle.outside.specs.Doings.{Told}
use Rattle.application_model.specs.Ends.{numbers_known}
use Rattle.application_model.specs.Services.{has_room, takes_most, takes_at, takes_waiting}
use Rattle.application_serving.specs.Going.{ServiceRun, ToDo, and_then, service_behind, held_behind, kind_behind}
use Rattle.application_serving.specs.GoingSteps.{going_past, going_first_as, going_regrouped}
use Rattle.application_serving.specs.ModelSteps.{takes_at_none, takes_at_one, takes_at_no_room, takes_waiting_is, one_then_same_first}
use Rattle.application_port.specs.Ports.{attendance_of}
use Rattle.application_loop.specs.Standing.{Beside, scene, known_of_link, number_of_link, LinkIs, Serving}
use Rattle.application_loop.specs.ServingParts.{ServesOn, DoesPart}
use Rattle.application_loop.specs.declared.link.Link.{Link}
use Rattle.application_loop.specs.declared.desk.Desk.{Desk}
use Rattle.application_loop.proofs.LinkLists.{of_this}
use Rattle.application_loop.proofs.TakingMessages.{waits_alike, takes_done}

abbrev pub WaitsNot : Link → Type 0
WaitsNot link = waiting_in link.end.value ≡ []

known_numbers : (links : List Link) → numbers_known (map known_of_link links) ≡ map number_of_link links
known_numbers [] = refl
known_numbers (link ∷ links) = ap (λ (ns : List ℕ). link.number ∷ ns) (known_numbers links)

-- ---- a place

left_at_place : (links : List Link) (place : ℕ) (old : Link) → slice_get links place ≡ Some old → drop place links ≡ old ∷ drop (suc place) links
left_at_place [] place old found = absurd (cc)
left_at_place (link ∷ links) zero old found =
    let same : link ≡ old = cc in
    ap (λ (l : Link). l ∷ links) same
left_at_place (link ∷ links) (suc place) old found = left_at_place links place old found

module _ (links : List Link) (place : ℕ) (old now : Link) (found : slice_get links place ≡ Some old) where
  within : place < length links
  within = slice_get_within links place old found

  next : suc place ≡ place + 1
  next = omega arith

  pub left_is : drop place links ≡ old ∷ drop (place + 1) links
  left_is = left_at_place links place old found ∙ ap (λ (n : ℕ). old ∷ drop n links) next

  pub cut_was : take place links ++ old ∷ drop (place + 1) links ≡ links
  cut_was = ap (λ (ls : List Link). take place links ++ ls) (sym left_is) ∙ take-append-drop place links

  pub cut_is : take place links ++ now ∷ drop (place + 1) links ≡ slice_set links place now
  cut_is =
      ap (λ (ls : List Link). ls ++ now ∷ drop (place + 1) links) (sym (take-set links place now))
      ∙ ap (λ (ls : List Link). take place (slice_set links place now) ++ ls) (sym (drop-set links place now within))
      ∙ take-append-drop place (slice_set links place now)

  pub taken_is : take (place + 1) (slice_set links place now) ≡ take place links ++ now ∷ []
  taken_is = ap (λ (n : ℕ). take n (slice_set links place now)) (sym next) ∙ take-suc-set links place now within

  pub dropped_is : drop (place + 1) (slice_set links place now) ≡ drop (place + 1) links
  dropped_is = drop-set-lt (place + 1) links place now (omega arith)

-- ---- what is left to be taken

module _ (run : ServiceRun) (beside : Beside) (rest : ToDo) (m : ℕ) (told : Told) (desk : Desk) where
  pub takes_begin : (links : List Link) → Serving run beside (and_then (λ kind s. takes_waiting kind m s) rest) (scene told links desk)
      → Serving run beside (and_then (λ kind s. takes_at kind m (map number_of_link links) s) rest) (scene told links desk)
  takes_begin links serving = record {
    deeds = serving.deeds;
    going =
        going_first_as (λ kind s. takes_waiting kind m s) (λ kind s. takes_at kind m (map number_of_link links) s) rest serving.going
        (λ later.
        takes_waiting_is (kind_behind run serving.deeds later) m (service_behind serving.deeds)
        ∙ ap (λ (ns : List ℕ). takes_at (kind_behind run serving.deeds later) m ns (service_behind serving.deeds))
        (ap numbers_known serving.stands.known ∙ known_numbers links));
    stands = serving.stands;
  }

  pub none_to_take : (links : List Link) (numbers : List ℕ) → numbers ≡ []
      → Serving run beside (and_then (λ kind s. takes_at kind m numbers s) rest) (scene told links desk) → Serving run beside rest (scene told links desk)
  none_to_take links numbers none serving = record {
    deeds = serving.deeds;
    going =
        going_past (λ kind s. takes_at kind m numbers s) rest serving.going
        (λ later.
        ap (λ (ns : List ℕ). takes_at (kind_behind run serving.deeds later) m ns (service_behind serving.deeds)) none
        ∙ takes_at_none (kind_behind run serving.deeds later) m (service_behind serving.deeds));
    stands = serving.stands;
  }

  pub no_room_to_take : (links : List Link) (numbers : List ℕ) → has_room (attendance_of desk.port) ≡ false
      → Serving run beside (and_then (λ kind s. takes_at kind m numbers s) rest) (scene told links desk) → Serving run beside rest (scene told links desk)
  no_room_to_take links numbers full serving = record {
    deeds = serving.deeds;
    going =
        going_past (λ kind s. takes_at kind m numbers s) rest serving.going
        (λ later.
        takes_at_no_room (kind_behind run serving.deeds later) m numbers (service_behind serving.deeds) (ap has_room serving.stands.desk.application ∙ full));
    stands = serving.stands;
  }

  -- those of one link come first
  takes_at_link : (front back : List Link) (link : Link) (numbers : List ℕ)
      → Serving run beside (and_then (λ kind s. takes_at kind m (link.number ∷ numbers) s) rest) (scene told (front ++ link ∷ back) desk)
      → Serving run beside
      (and_then (λ kind s. takes_most kind m link.number (length (waiting_in link.end.value)) s) (and_then (λ kind s. takes_at kind m numbers s) rest))
      (scene told (front ++ link ∷ back) desk)
  takes_at_link front back link numbers serving = record {
    deeds = serving.deeds;
    going =
        going_regrouped (λ kind s. takes_most kind m link.number (length (waiting_in link.end.value)) s) (λ kind s. takes_at kind m numbers s) rest
        (going_first_as (λ kind s. takes_at kind m (link.number ∷ numbers) s)
        (and_then (λ kind s. takes_most kind m link.number (length (waiting_in link.end.value)) s) (λ kind s. takes_at kind m numbers s)) rest serving.going
        (λ later.
        takes_at_one (kind_behind run serving.deeds later) m link.number numbers (service_behind serving.deeds)
        ∙ one_then_same_first
        (takes_most (kind_behind run serving.deeds later) m link.number
        (length ((kind_behind run serving.deeds later).waiting ((service_behind serving.deeds).ends link.number))))
        (takes_most (kind_behind run serving.deeds later) m link.number (length (waiting_in link.end.value)))
        (takes_at (kind_behind run serving.deeds later) m numbers) (service_behind serving.deeds)
        (ap (λ (waits : List (List ℕ)). takes_most (kind_behind run serving.deeds later) m link.number (length waits) (service_behind serving.deeds))
        (waits_alike run.settings (held_behind run serving.deeds later) ((service_behind serving.deeds).ends link.number) link.end.value
        ((of_this (LinkIs run serving.deeds beside.left) front back link serving.stands.each).end later)))));
    stands = serving.stands;
  }

  -- links at which nothing waits are passed
  pass_resting : (front resting back : List Link) → All WaitsNot resting
      → Serving run beside (and_then (λ kind s. takes_at kind m (map number_of_link (resting ++ back)) s) rest) (scene told (front ++ (resting ++ back)) desk)
      → Serving run beside (and_then (λ kind s. takes_at kind m (map number_of_link back) s) rest) (scene told (front ++ (resting ++ back)) desk)
  pass_resting front [] back none serving = serving
  pass_resting front (link ∷ resting) back none serving =
      let first =
      takes_done run beside (and_then (λ kind s. takes_at kind m (map number_of_link (resting ++ back)) s) rest) m front (resting ++ back) link told desk
      (length (waiting_in link.end.value)) (ap length (All-head WaitsNot link resting none))
      (takes_at_link front (resting ++ back) link (map number_of_link (resting ++ back)) serving) in
      let joined : (front ++ link ∷ []) ++ (resting ++ back) ≡ front ++ (link ∷ (resting ++ back)) = append_assoc front (link ∷ []) (resting ++ back) in
      subst (λ (ls : List Link). Serving run beside (and_then (λ kind s. takes_at kind m (map number_of_link back) s) rest) (scene told ls desk)) joined
      (pass_resting (front ++ link ∷ []) resting back (All-tail WaitsNot link resting none)
      (subst (λ (ls : List Link). Serving run beside (and_then (λ kind s. takes_at kind m (map number_of_link (resting ++ back)) s) rest) (scene told ls desk))
      (sym joined) first))

  -- those before a place
  pass_front : (links : List Link) (place : ℕ) → All WaitsNot (take place links)
      → Serving run beside (and_then (λ kind s. takes_at kind m (map number_of_link links) s) rest) (scene told links desk)
      → Serving run beside (and_then (λ kind s. takes_at kind m (map number_of_link (drop place links)) s) rest) (scene told links desk)
  pass_front links place none serving =
      subst (λ (ls : List Link). Serving run beside (and_then (λ kind s. takes_at kind m (map number_of_link (drop place links)) s) rest) (scene told ls desk))
      (take-append-drop place links)
      (pass_resting [] (take place links) (drop place links) none
      (subst (λ (ls : List Link). Serving run beside (and_then (λ kind s. takes_at kind m (map number_of_link ls) s) rest) (scene told ls desk))
      (sym (take-append-drop place links)) serving))

  -- those from a place on
  pub pass_back : (links : List Link) (place : ℕ) → All WaitsNot (drop place links)
      → Serving run beside (and_then (λ kind s. takes_at kind m (map number_of_link (drop place links)) s) rest) (scene told links desk)
      → Serving run beside rest (scene told links desk)
  pass_back links place none serving =
      let whole : take place links ++ (drop place links ++ []) ≡ links =
      ap (λ (ls : List Link). take place links ++ ls) (append-nil (drop place links)) ∙ take-append-drop place links in
      none_to_take links (map number_of_link []) refl
      (subst (λ (ls : List Link). Serving run beside (and_then (λ kind s. takes_at kind m (map number_of_link []) s) rest) (scene told ls desk)) whole
      (pass_resting (take place links) (drop place links) [] none
      (subst (λ (ls : List Link). Serving run beside (and_then (λ kind s. takes_at kind m (map number_of_link ls) s) rest) (scene told (take place links ++ ls) desk))
      (sym (append-nil (drop place links)))
      (subst (λ (ls : List Link). Serving run beside (and_then (λ kind s. takes_at kind m (map number_of_link (drop place links)) s) rest) (scene told ls desk))
      (sym (take-append-drop place links)) serving))))

  -- a place is done
  pub takes_at_place : {T : Type 0} (links : List Link) (place : ℕ) (old now : Link) (told' : Told) (after : Desk) (result : Result T LoopFault)
      → slice_get links place ≡ Some old
      → DoesPart (λ kind s. takes_most kind m old.number (length (waiting_in old.end.value)) s) m
      (scene told (take place links ++ old ∷ drop (place + 1) links) desk) (scene told' (take place links ++ now ∷ drop (place + 1) links) after) result
      → beside.moment ≡ m → Serving run beside (and_then (λ kind s. takes_at kind m (map number_of_link (drop place links)) s) rest) (scene told links desk)
      → ServesOn run beside (and_then (λ kind s. takes_at kind m (map number_of_link (drop (place + 1) (slice_set links place now))) s) rest)
      (scene told' (slice_set links place now) after) result
  takes_at_place links place old now told' after result found does at serving =
      subst (λ (ls : List Link). ServesOn run beside (and_then (λ kind s. takes_at kind m (map number_of_link ls) s) rest) (scene told' (slice_set links place now) after) result)
      (sym (dropped_is links place old now found))
      (subst (λ (ls : List Link). ServesOn run beside (and_then (λ kind s. takes_at kind m (map number_of_link (drop (place + 1) links)) s) rest) (scene told' ls after) result)
      (cut_is links place old now found)
      (does run beside (and_then (λ kind s. takes_at kind m (map number_of_link (drop (place + 1) links)) s) rest) at
      (takes_at_link (take place links) (drop (place + 1) links) old (map number_of_link (drop (place + 1) links))
      (subst (λ (ls : List Link). Serving run beside (and_then (λ kind s. takes_at kind m (old.number ∷ map number_of_link (drop (place + 1) links)) s) rest) (scene told ls desk))
      (sym (cut_was links place old now found))
      (subst (λ (ls : List Link). Serving run beside (and_then (λ kind s. takes_at kind m (map number_of_link ls) s) rest) (scene told links desk))
      (left_is links place old now found) serving)))))

  -- nothing waits but at a place
  pub takes_at_this : {T : Type 0} (links : List Link) (place : ℕ) (old now : Link) (told' : Told) (after : Desk) (result : Result T LoopFault)
      → slice_get links place ≡ Some old → All WaitsNot (take place links)
      → DoesPart (λ kind s. takes_most kind m old.number (length (waiting_in old.end.value)) s) m
      (scene told (take place links ++ old ∷ drop (place + 1) links) desk) (scene told' (take place links ++ now ∷ drop (place + 1) links) after) result
      → beside.moment ≡ m → Serving run beside (and_then (λ kind s. takes_waiting kind m s) rest) (scene told links desk)
      → ServesOn run beside (and_then (λ kind s. takes_at kind m (map number_of_link (drop (place + 1) (slice_set links place now))) s) rest)
      (scene told' (slice_set links place now) after) result
  takes_at_this links place old now told' after result found none does at serving =
      takes_at_place links place old now told' after result found does at (pass_front links place none (takes_begin links serving))

-- ---- nothing waits any more

pub rests_at_place : (links : List Link) (place : ℕ) (old now : Link) → slice_get links place ≡ Some old → All WaitsNot (take place links) → WaitsNot now
    → All WaitsNot (take (place + 1) (slice_set links place now))
rests_at_place links place old now found before this =
    subst (All WaitsNot) (sym (taken_is links place old now found))
    (All-append WaitsNot (take place links) (now ∷ []) before (All-cons WaitsNot now [] this (All-nil WaitsNot)))

-- at all places, where at none but one something waited
pub rests_but_this : (links : List Link) (place : ℕ) (old now : Link) → slice_get links place ≡ Some old → All WaitsNot (take place links)
    → All WaitsNot (drop (place + 1) links) → WaitsNot now → All WaitsNot (slice_set links place now)
rests_but_this links place old now found front back this =
    All-same WaitsNot (slice_set links place now) (take place links ++ now ∷ drop (place + 1) links) (sym (cut_is links place old now found))
    (All-append WaitsNot (take place links) (now ∷ drop (place + 1) links) front (All-cons WaitsNot now (drop (place + 1) links) this back))

-- what happens at one place leaves the others
pub rest_but_this : (links : List Link) (place : ℕ) (old now : Link) → slice_get links place ≡ Some old → All WaitsNot links
    → All WaitsNot (take place (slice_set links place now)) × All WaitsNot (drop (place + 1) (slice_set links place now))
rest_but_this links place old now found none = (
  All-same WaitsNot (take place (slice_set links place now)) (take place links) (take-set links place now) (All-take WaitsNot place links none),
  All-same WaitsNot (drop (place + 1) (slice_set links place now)) (drop (place + 1) links) (dropped_is links place old now found)
      (All-drop WaitsNot (place + 1) links none),
)

pub rest_but_none : (links : List Link) (place : ℕ) → All WaitsNot links → All WaitsNot (take place links) × All WaitsNot (drop (place + 1) links)
rest_but_none links place none = (All-take WaitsNot place links none, All-drop WaitsNot (place + 1) links none)

-- there is no link at a place behind them
pub nowhere : (links : List Link) (place : ℕ) → (place < length links → ⊥) → take place links ≡ links
nowhere [] zero gone = refl
nowhere [] (suc place) gone = refl
nowhere (link ∷ links) zero gone = absurd (gone (omega arith))
nowhere (link ∷ links) (suc place) gone = ap (λ (ls : List Link). link ∷ ls) (nowhere links place (λ within. gone (omega (arith, within))))
