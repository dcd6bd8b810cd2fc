-- An event without octets of the line, at a link or at a place, as a step of what is served; and messages that are taken.
use Rattle.std.proofs.Common.{◌≡◌, ◌∙◌, inl, ℕ, zero, suc, List, [], ◌∷◌, ◌++◌, map, Option, Some, None, Result, Ok, Err, OnOk, slice_set, refl, sym, ap, subst}
use Rattle.std.specs.List.{slice_get}
use Rattle.std.specs.Option.{IsSome}
use Rattle.safety_automaton.specs.Keys.{KmacEntry}
use Rattle.er_end_model.specs.Steps.{Finds}
use Rattle.er_end.specs.KeptEnds.{KEnd}
use Rattle.loop_model.specs.Sessions.{Rules, GivenToSession, Begins, Hears, Sends, Takes, Leaves, Ticks, Ends, Faults, Stalls, journal_event_of_given}
use Rattle.loop_session.specs.declared.loop_fault.LoopFault.{LoopFault}
use Rattle.loop_session.specs.Giving.{IsSameWith}
use Rattle.loop_session.specs.Keeping.{kept_ends}
use Rattle.loop_session.specs.Parts.{writes_of_entries, OnlyPrints, Puts}
use Rattle.outside.specs.Doings.{Told}
use Rattle.application_model.specs.Services.{occurs}
use Rattle.application_serving.specs.Serving.{octets_event_brings}
use Rattle.application_serving.specs.Going.{ServiceRun, ToDo, and_then, Went}
use Rattle.application_loop.specs.StackSteps.{IsNoBeginning, LooksUpSo, KeptGoOnAlike}
use Rattle.application_loop.specs.LinkGoing.{OccursByTheModel, StagesGoOn}
use Rattle.application_loop.specs.Occurring.{entry_at_link, Occurs}
use Rattle.application_loop.specs.Standing.{Beside, Scene, scene, number_of_link, Standing, Serving}
use Rattle.application_loop.specs.ServingParts.{DoesPart, IsWithoutOctets}
use Rattle.application_loop.specs.declared.link.Link.{Link}
use Rattle.application_loop.specs.declared.desk.Desk.{Desk}
use Rattle.application_loop.proofs.EventServing.{event_serves}
use Rattle.application_loop.proofs.LinkLists.{numbers_alike}

-- ---- an event without octets

no_beginning : (g : GivenToSession) → IsWithoutOctets g → IsNoBeginning g
no_beginning (Begins engine rbc rb) quiet = quiet
no_beginning (Hears octets) quiet = tt
no_beginning (Sends text) quiet = tt
no_beginning Takes quiet = tt
no_beginning (Leaves sub) quiet = tt
no_beginning Ticks quiet = tt
no_beginning Ends quiet = tt
no_beginning Faults quiet = tt
no_beginning Stalls quiet = tt

looks_up_nothing : (g : GivenToSession) (r : Rules) (finds : Finds) → IsWithoutOctets g → LooksUpSo g r finds
looks_up_nothing (Begins engine rbc rb) r finds quiet = tt
looks_up_nothing (Hears octets) r finds quiet = absurd quiet
looks_up_nothing (Sends text) r finds quiet = tt
looks_up_nothing Takes r finds quiet = tt
looks_up_nothing (Leaves sub) r finds quiet = tt
looks_up_nothing Ticks r finds quiet = tt
looks_up_nothing Ends r finds quiet = tt
looks_up_nothing Faults r finds quiet = tt
looks_up_nothing Stalls r finds quiet = tt

brings_none : (k : KEnd) (g : GivenToSession) → IsWithoutOctets g → octets_event_brings (journal_event_of_given kept_ends k g) ≡ []
brings_none k (Begins engine rbc rb) quiet = refl
brings_none k (Hears octets) quiet = absurd quiet
brings_none k (Sends text) quiet = refl
brings_none k Takes quiet = refl
brings_none k (Leaves sub) quiet = refl
brings_none k Ticks quiet = refl
brings_none k Ends quiet = refl
brings_none k Faults quiet = refl
brings_none k Stalls quiet = refl

same_with_any : (entries : List KmacEntry) (r : Rules) (g : GivenToSession) → IsWithoutOctets g → IsSameWith entries r g
same_with_any entries r (Begins engine rbc rb) quiet = refl
same_with_any entries r (Hears octets) quiet = absurd quiet
same_with_any entries r (Sends text) quiet = refl
same_with_any entries r Takes quiet = refl
same_with_any entries r (Leaves sub) quiet = refl
same_with_any entries r Ticks quiet = refl
same_with_any entries r Ends quiet = refl
same_with_any entries r Faults quiet = refl
same_with_any entries r Stalls quiet = refl

-- which rules makes no difference to it
pub any_rules : Rules
any_rules = record { keys = []; setup = 0 }

-- what an event at a link did, as its clauses say it
pub record Happened {T : Type 0} (entries : List KmacEntry) (moment : ℕ) (g : GivenToSession) (old now : Link) (desk after : Desk) (told told' : Told)
    (result : Result T LoopFault) : Type 0 where
  pub records : (r : Rules) → IsSameWith entries r g → Puts told told' (writes_of_entries (entry_at_link r moment old g ∷ [])) result
  pub occurs : (r : Rules) → IsSameWith entries r g → OnOk result (Occurs r moment g old now desk after)
  pub only : OnlyPrints told told'

abbrev pub EventOf : ℕ → Link → GivenToSession → ToDo
EventOf moment link g kind s = occurs kind moment link.number (journal_event_of_given kept_ends link.end.value g) s

module _ (on : KeptGoOnAlike) (by_model : OccursByTheModel) (stages : StagesGoOn) where
  pub quiet_serves : {T : Type 0} (entries : List KmacEntry) (moment : ℕ) (g : GivenToSession) (front back : List Link) (old now : Link) (desk after : Desk)
      (told told' : Told) (result : Result T LoopFault) → IsWithoutOctets g → Happened entries moment g old now desk after told told' result
      → DoesPart (λ kind s. occurs kind moment old.number (journal_event_of_given kept_ends old.end.value g) s) moment (scene told (front ++ old ∷ back) desk)
      (scene told' (front ++ now ∷ back) after) result
  quiet_serves entries moment g front back old now desk after told told' result quiet happened run beside rest at serving =
      event_serves on by_model stages run beside rest moment any_rules g (no_beginning g quiet) front back old desk told beside.left at
      (looks_up_nothing g any_rules beside.finds quiet)
      (record {
        others = λ conn apart. refl;
        this = ap (λ (os : List ℕ). os ++ beside.left old.number) (sym (brings_none old.end.value g quiet));
        heard = inl (brings_none old.end.value g quiet);
      })
      serving now after told' result (happened.records any_rules (same_with_any entries any_rules g quiet))
      (happened.occurs any_rules (same_with_any entries any_rules g quiet)) happened.only

  -- ---- at a place

  record IsAtPlace (links : List Link) (place : ℕ) (old now : Link) : Type 0 where
    pub front : List Link
    pub back : List Link
    pub was : links ≡ front ++ old ∷ back
    pub is : slice_set links place now ≡ front ++ now ∷ back

  at_place : (links : List Link) (place : ℕ) (old now : Link) → slice_get links place ≡ Some old → IsAtPlace links place old now
  at_place [] place old now found = absurd (cc)
  at_place (link ∷ links) zero old now found =
      let same : link ≡ old = cc in
      record { front = []; back = links; was = ap (λ (l : Link). l ∷ links) same; is = refl }
  at_place (link ∷ links) (suc place) old now found =
      let rest = at_place links place old now found in
      record {
        front = link ∷ rest.front;
        back = rest.back;
        was = ap (λ (ls : List Link). link ∷ ls) rest.was;
        is = ap (λ (ls : List Link). link ∷ ls) rest.is;
      }

  pub quiet_serves_at : {T : Type 0} (entries : List KmacEntry) (moment : ℕ) (g : GivenToSession) (links : List Link) (place : ℕ) (old now : Link) (desk after : Desk)
      (told told' : Told) (result : Result T LoopFault) → slice_get links place ≡ Some old → IsWithoutOctets g
      → Happened entries moment g old now desk after told told' result
      → DoesPart (λ kind s. occurs kind moment old.number (journal_event_of_given kept_ends old.end.value g) s) moment (scene told links desk)
      (scene told' (slice_set links place now) after) result
  quiet_serves_at {T} entries moment g links place old now desk after told told' result found quiet happened =
      let cut = at_place links place old now found in
      let what : ToDo = EventOf moment old g in
      subst (λ (ls : List Link). DoesPart what moment (scene told ls desk) (scene told' (slice_set links place now) after) result) (sym cut.was)
      (subst (λ (ls : List Link). DoesPart what moment (scene told (cut.front ++ old ∷ cut.back) desk) (scene told' ls after) result) (sym cut.is)
      (quiet_serves entries moment g cut.front cut.back old now desk after told told' result quiet happened))

  pub numbers_at : (links : List Link) (place : ℕ) (old now : Link) → slice_get links place ≡ Some old → now.number ≡ old.number
      → map number_of_link (slice_set links place now) ≡ map number_of_link links
  numbers_at links place old now found same =
      let cut = at_place links place old now found in
      ap (map number_of_link) cut.is ∙ numbers_alike cut.front cut.back old now same ∙ ap (map number_of_link) (sym cut.was)

-- a part that broke off, under another type of what it would give
pub does_err : {T U : Type 0} (what : ToDo) (moment : ℕ) (old new : Scene) (a : Result T LoopFault) (b : Result U LoopFault) (e f : LoopFault) → a ≡ Err e → b ≡ Err f
    → DoesPart what moment old new a → DoesPart what moment old new b
does_err {T} {U} what moment old new a b e f a_is b_is does =
    subst (DoesPart what moment old new) (sym b_is) (subst (DoesPart what moment old new) a_is does)

-- a part that was done, whatever it gives
pub does_ok : {T : Type 0} (what : ToDo) (moment : ℕ) (old new : Scene) (a : Result T LoopFault) (done : T) → a ≡ Ok done → DoesPart what moment old new a
    → (run : ServiceRun) (beside : Beside) (rest : ToDo) → beside.moment ≡ moment → Serving run beside (and_then what rest) old
    → Went run new.told rest (λ deeds. Standing run deeds beside new)
does_ok what moment old new (Ok given) done is does run beside rest at serving =
    let went = does run beside rest at serving in
    record { deeds = went.deeds; going = went.going; leaves = went.leaves }
does_ok what moment old new (Err fault) done is does run beside rest at serving = absurd (cc)

pub none_there : {X : Type 0} (found : Option X) → ((x : X) → found ≡ Some x → ⊥) → IsSome found → ⊥
none_there (Some x) never some = never x refl
none_there None never some = absurd (cc)
