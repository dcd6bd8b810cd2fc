-- Messages that are taken at a link, one by one.
use Rattle.std.proofs.Common.{arith, ◌≡◌, ◌∙◌, ◌<◌, ◌+◌, ◌≤◌, not, nat_lt, ℕ, Bool, true, false, List, [], ◌∷◌, ◌++◌, length, drop, inl, inr, Result, Ok, Err, OnOk, refl, sym, ap, subst, append-nil, length-drop, length-append}
use Rattle.std.proofs.lemmas.Bool.{cases_Bool, ltb-true, lt-ltb}
use Rattle.safety_automaton.specs.Keys.{KmacEntry}
use Rattle.er_settings.specs.Values.{Settings}
use Rattle.er_trace.specs.declared.event.Event.TheVariants as event
use Rattle.er_end_model.specs.Ends.{Take}
use Rattle.er_end.specs.KeptEnds.{KEnd, waiting_in}
use Rattle.er_end.specs.Keeping.{WaitsMove, OctetsBring}
use Rattle.loop_model.specs.Sessions.{Rules, GivenToSession, Takes, end_after}
use Rattle.loop_session.specs.declared.loop_fault.LoopFault.{LoopFault}
use Rattle.outside.specs.Doings.{Told}
use Rattle.application_model.specs.Ends.{EventAt}
use Rattle.application_model.specs.Services.{has_room, most_for_application, occurs, takes_most}
use Rattle.application_ends.specs.StackEnds.{HeldKeys, stack_kind, texts_waiting_at}
use Rattle.application_serving.specs.Going.{ServiceRun, ToDo, and_then, service_behind, held_behind, kind_behind}
use Rattle.application_serving.specs.GoingSteps.{going_past, going_first_as, going_regrouped}
use Rattle.application_serving.specs.ModelSteps.{takes_most_none, takes_most_one, takes_most_no_room}
use Rattle.application_port.specs.Ports.{PortState, NobodyThere, Talking, told_at_port, attendance_of}
use Rattle.application_loop.specs.StackSteps.{StandsBehind, KeptGoOnAlike}
use Rattle.application_loop.specs.LinkGoing.{OccursByTheModel, StagesGoOn}
use Rattle.application_loop.specs.ServingParts.{ServesOn}
use Rattle.application_loop.proofs.QuietEvents.{Happened, quiet_serves}
use Rattle.application_loop.specs.Occurring.{Occurs}
use Rattle.application_loop.specs.Standing.{Beside, Scene, scene, LinkIs, Serving}
use Rattle.application_loop.specs.declared.link.Link.{Link}
use Rattle.application_loop.specs.declared.desk.Desk.{Desk}
use Rattle.application_loop.proofs.LinkLists.{of_this}

-- what waits at an end that is kept waits at that of the model
pub waits_alike : (settings : Settings) (held : HeldKeys) (events : List EventAt) (k : KEnd) → StandsBehind settings held events k
    → (stack_kind settings held).waiting events ≡ waiting_in k
waits_alike settings held events k stands = ap texts_waiting_at stands.is ∙ sym stands.stands.core.upper.waits

module _ (run : ServiceRun) (beside : Beside) (rest : ToDo) (m : ℕ) (front back : List Link) (link : Link) (told : Told) (desk : Desk) where
  abbrev here : Scene
  here = scene told (front ++ link ∷ back) desk

  abbrev taking : ℕ → ToDo
  taking most kind s = takes_most kind m link.number most s

  is_here : (serving : Serving run beside (and_then (taking 0) rest) here) → LinkIs run serving.deeds beside.left link
  is_here serving = of_this (LinkIs run serving.deeds beside.left) front back link serving.stands.each

  -- none is left to be taken
  pub takes_done : (most : ℕ) → most ≡ 0 → Serving run beside (and_then (λ kind s. takes_most kind m link.number most s) rest) here → Serving run beside rest here
  takes_done most none serving = record {
    deeds = serving.deeds;
    going =
        going_past (taking most) rest serving.going
        (λ later. ap (λ (n : ℕ). takes_most (kind_behind run serving.deeds later) m link.number n (service_behind serving.deeds)) none ∙ takes_most_none (kind_behind run serving.deeds later) m link.number (service_behind serving.deeds));
    stands = serving.stands;
  }

  -- there is no room
  pub takes_no_room : (most : ℕ) → has_room (attendance_of desk.port) ≡ false
      → Serving run beside (and_then (λ kind s. takes_most kind m link.number most s) rest) here → Serving run beside rest here
  takes_no_room most full serving = record {
    deeds = serving.deeds;
    going =
        going_past (taking most) rest serving.going
        (λ later. takes_most_no_room (kind_behind run serving.deeds later) m link.number most (service_behind serving.deeds) (ap has_room serving.stands.desk.application ∙ full));
    stands = serving.stands;
  }

  -- the next is taken
  pub takes_next : (most waiting : ℕ) → length (waiting_in link.end.value) ≡ waiting → waiting ≡ most + 1 → has_room (attendance_of desk.port) ≡ true
      → Serving run beside (and_then (λ kind s. takes_most kind m link.number waiting s) rest) here
      → Serving run beside (and_then (λ kind s. occurs kind m link.number event.Take s) (and_then (λ kind s. takes_most kind m link.number most s) rest)) here
  takes_next most waiting many one room serving = record {
    deeds = serving.deeds;
    going =
        going_regrouped (λ kind s. occurs kind m link.number event.Take s) (taking most) rest
        (going_first_as (taking waiting) (and_then (λ kind s. occurs kind m link.number event.Take s) (taking most)) rest serving.going
        (λ later.
        ap (λ (n : ℕ). takes_most (kind_behind run serving.deeds later) m link.number n (service_behind serving.deeds)) one
        ∙ takes_most_one (kind_behind run serving.deeds later) m link.number most (service_behind serving.deeds) (ap has_room serving.stands.desk.application ∙ room)
        (let alike : length ((stack_kind run.settings (held_behind run serving.deeds later)).waiting ((service_behind serving.deeds).ends link.number)) ≡ length (waiting_in link.end.value) = ap length (waits_alike run.settings (held_behind run serving.deeds later) ((service_behind serving.deeds).ends link.number) link.end.value ((of_this (LinkIs run serving.deeds beside.left) front back link serving.stands.each).end later)) in
        omega (arith, alike, many, one))));
    stands = serving.stands;
  }

-- one fewer waits then
pub one_fewer : WaitsMove → OctetsBring → (r : Rules) (m : ℕ) (old now : Link) (desk after : Desk) (most : ℕ) → Occurs r m Takes old now desk after
    → length (waiting_in old.end.value) ≡ most + 1 → length (waiting_in now.end.value) ≡ most
unfolding end_after
one_fewer moves bring r m old now desk after most occurred many =
    ap (λ (k : KEnd). length (waiting_in k)) occurred.end
    ∙ ap length (moves m Take old.end.value)
    ∙ ap (λ (more : List (List ℕ)). length (drop 1 (waiting_in old.end.value) ++ more)) (bring m Take old.end.value refl)
    ∙ ap length (append-nil (drop 1 (waiting_in old.end.value)))
    ∙ (let less = length-drop 1 (waiting_in old.end.value) in omega (arith, less, many))

-- where there is room behind lines that were told, there was before
room_before : (text : List ℕ) (port : PortState) → has_room (attendance_of (told_at_port text port)) ≡ true → has_room (attendance_of port) ≡ true
room_before text NobodyThere room = room
room_before text (Talking standing output) room =
    let parts = length-append output text in
    still_room (length output) (length (output ++ text)) (omega (arith, parts)) room
  where
    no_more : (b : Bool) → b ≡ true → not b ≡ true → ⊥
    no_more true is e = absurd (cc)
    no_more false is e = absurd (cc)

    still_room : (few many : ℕ) → few ≤ many → not (nat_lt most_for_application many) ≡ true → not (nat_lt most_for_application few) ≡ true
    still_room few many fewer room =
        elim (cases_Bool (nat_lt most_for_application few)) [
          | inl full ↦
              let below : most_for_application < few = ltb-true most_for_application few full in
              let still : nat_lt most_for_application many ≡ true = lt-ltb most_for_application many (omega (arith, below, fewer)) in
              absurd (no_more (nat_lt most_for_application many) still room)
          | inr there ↦ ap not there
        ]

pub room_before_event : (r : Rules) (m : ℕ) (g : GivenToSession) (old now : Link) (desk after : Desk) → Occurs r m g old now desk after
    → has_room (attendance_of after.port) ≡ true → has_room (attendance_of desk.port) ≡ true
room_before_event r m g old now desk after occurred room = room_before _ desk.port (ap (λ (p : PortState). has_room (attendance_of p)) (sym occurred.told) ∙ room)

pub serving_of_ok : {T : Type 0} (run : ServiceRun) (beside : Beside) (rest : ToDo) (x : Scene) (result : Result T LoopFault) (done : T) → result ≡ Ok done
    → ServesOn run beside rest x result → Serving run beside rest x
serving_of_ok run beside rest x (Ok given) done is went = record { deeds = went.deeds; going = went.going; stands = went.leaves }
serving_of_ok run beside rest x (Err fault) done is went = absurd (cc)

module _ (on : KeptGoOnAlike) (by_model : OccursByTheModel) (stages : StagesGoOn) where
  -- a take of a message that waits, where there is room
  pub takes_one : {T : Type 0} (entries : List KmacEntry) (run : ServiceRun) (beside : Beside) (rest : ToDo) (m : ℕ) (front back : List Link) (old now : Link)
      (told told' : Told) (desk after : Desk) (most : ℕ) (result : Result T LoopFault) → Happened entries m Takes old now desk after told told' result
      → length (waiting_in old.end.value) ≡ most + 1 → has_room (attendance_of desk.port) ≡ true → beside.moment ≡ m
      → Serving run beside (and_then (λ kind s. takes_most kind m old.number (length (waiting_in old.end.value)) s) rest) (scene told (front ++ old ∷ back) desk)
      → ServesOn run beside (and_then (λ kind s. takes_most kind m old.number most s) rest) (scene told' (front ++ now ∷ back) after) result
  takes_one entries run beside rest m front back old now told told' desk after most result happened many room at serving =
      quiet_serves on by_model stages entries m Takes front back old now desk after told told' result tt happened run beside
      (and_then (λ kind s. takes_most kind m old.number most s) rest) at
      (takes_next run beside rest m front back old told desk most (length (waiting_in old.end.value)) refl many room serving)

  -- it was taken: what waits then is left
  pub took_one : {T : Type 0} (entries : List KmacEntry) (run : ServiceRun) (beside : Beside) (rest : ToDo) (m : ℕ) (front back : List Link) (old now : Link)
      (told told' : Told) (desk after : Desk) (most : ℕ) (result : Result T LoopFault) (done : T) → result ≡ Ok done
      → Happened entries m Takes old now desk after told told' result
      → length (waiting_in old.end.value) ≡ most + 1 → length (waiting_in now.end.value) ≡ most → now.number ≡ old.number
      → has_room (attendance_of desk.port) ≡ true → beside.moment ≡ m
      → Serving run beside (and_then (λ kind s. takes_most kind m old.number (length (waiting_in old.end.value)) s) rest) (scene told (front ++ old ∷ back) desk)
      → Serving run beside (and_then (λ kind s. takes_most kind m now.number (length (waiting_in now.end.value)) s) rest) (scene told' (front ++ now ∷ back) after)
  took_one entries run beside rest m front back old now told told' desk after most result done is happened many fewer same room at serving =
      subst (λ (n : ℕ). Serving run beside (and_then (λ kind s. takes_most kind m n (length (waiting_in now.end.value)) s) rest) (scene told' (front ++ now ∷ back) after))
      (sym same)
      (subst (λ (n : ℕ). Serving run beside (and_then (λ kind s. takes_most kind m old.number n s) rest) (scene told' (front ++ now ∷ back) after)) (sym fewer)
      (serving_of_ok run beside (and_then (λ kind s. takes_most kind m old.number most s) rest) (scene told' (front ++ now ∷ back) after) result done is
      (takes_one entries run beside rest m front back old now told told' desk after most result happened many room at serving)))

-- what comes of an event that was done
pub occurred_of : {T : Type 0} {P : Type 0} (result : Result T LoopFault) (done : T) → result ≡ Ok done → OnOk result P → P
occurred_of (Ok given) done is p = p
occurred_of (Err fault) done is p = absurd (cc)

pub serves_err : {T U : Type 0} (run : ServiceRun) (beside : Beside) (first rest : ToDo) (x : Scene) (a : Result T LoopFault) (b : Result U LoopFault) (e f : LoopFault)
    → a ≡ Err e → b ≡ Err f → ServesOn run beside first x a → ServesOn run beside rest x b
serves_err run beside first rest x (Ok done) b e f a_is b_is serves = absurd (cc)
serves_err run beside first rest x (Err fault) (Ok done) e f a_is b_is serves = absurd (cc)
serves_err run beside first rest x (Err fault) (Err other) e f a_is b_is serves = serves

pub is_empty : (messages : List (List ℕ)) → length messages ≡ 0 → messages ≡ []
is_empty [] none = refl
is_empty (message ∷ messages) none = absurd (omega (arith, none))
