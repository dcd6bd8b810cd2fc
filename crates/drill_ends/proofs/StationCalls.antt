-- What the calls of a station tell, as the outcomes of the model.
use Rattle.std.proofs.Common.{◌≡◌, ℕ, ◌<◌, ◌≤◌, Bool, true, false, List, [], ◌∷◌, ◌++◌, length, map, Option, Some, None, refl, sym, ap, ◌∙◌, subst, append-nil, append_assoc, if◌then◌else◌}
use Rattle.std.specs.Prelude.{nat_le, nat_lt}
use Rattle.std.proofs.lemmas.Bool.{le-leb, lt-ltb}
use Rattle.std.proofs.lemmas.Grind.{flat_map-append}
use Rattle.er_base.specs.Stored.{Stored}
use Rattle.er_base.specs.declared.release.Release.{Release}
use Rattle.er_base.specs.declared.cause.Cause.TheVariants.{User}
use Rattle.er_base.specs.Causes.{release_of}
use Rattle.hdlc_station_model.specs.Frames.{Frame, sent_octets}
use Rattle.hdlc_station_model.specs.Stations.{Station, Deed, no_deed, settled}
use Rattle.hdlc_station_model.specs.Sending.{waiting}
use Rattle.hdlc_station_model.specs.Calls.{closes, hands, finishes}
use Rattle.hdlc_station_model.specs.Events.{said_octets, quits}
use Rattle.hdlc_station.specs.Kept.{KeptStation, kept_of, octets_of_sent_frames}
use Rattle.hdlc_station.specs.Places.{NumberPlace}
use Rattle.hdlc_station.specs.Stations.{StationKept, is_selective, KeepsHeld, IsKeptOf, StandsInCall}
use Rattle.er_end_model.specs.Outcomes.{RefusedFull}
use Rattle.drill_model.specs.Outcomes.{DrillOutcome, Arrived, Frame as FrameOut}
use Rattle.drill_model.specs.StationEnds.{if_up, if_arrived, all_arrived, if_released, outcomes_told_by_station, station_and_told, payload_refusal_of_station, handed_unless}
use Rattle.drill_ends.specs.declared.told.Told.{Told}
use Rattle.drill_ends.specs.declared.told.Told.TheVariants as told
use Rattle.drill_ends.specs.declared.refusal.Refusal.TheVariants as refusal
use Rattle.drill_ends.specs.Tellings.{EachTold, AreTold, told_outcomes_of, told_outcomes_in}
use Rattle.drill_ends.specs.KeptStations.{StandsQuiet}
use Rattle.drill_ends.specs.StationEnds.{told_up, told_arrived, told_payloads, told_released, told_deed, told_frames, TellsFrames, CallDid}

-- ---- what is told one behind another

each_append : (os ps : List DrillOutcome) (ts us : List Told) → EachTold os ts → EachTold ps us → EachTold (os ++ ps) (ts ++ us)
each_append [] ps [] us a b = b
each_append [] ps (t ∷ ts) us a b = absurd a
each_append (o ∷ os) ps [] us a b = absurd a
each_append (o ∷ os) ps (t ∷ ts) us a b = (a.0, each_append os ps ts us a.1 b)

pub told_append : (os ps : List DrillOutcome) (ts us : List Told) → AreTold os ts → AreTold ps us → AreTold (os ++ ps) (ts ++ us)
told_append os ps ts us a b =
    subst (λ (xs : List DrillOutcome). EachTold xs (ts ++ us)) (sym (flat_map-append told_outcomes_of os ps)) (each_append (told_outcomes_in os) (told_outcomes_in ps) ts us a b)

-- ---- one call

up_told : (up : Bool) → AreTold (if_up up) (told_up up)
up_told true = (refl, tt)
up_told false = tt

arrived_told : (payload : Option (List ℕ)) → AreTold (if_arrived payload) (told_arrived payload)
arrived_told None = tt
arrived_told (Some payload) = (refl, tt)

more_told : (more : List (List ℕ)) → AreTold (map Arrived more) (map told.Arrived more)
more_told [] = tt
more_told (payload ∷ more) = (refl, more_told more)

payloads_told : (d : Deed) → AreTold (all_arrived d) (told_payloads d)
payloads_told d =
    told_append (if_arrived d.payload) (map Arrived d.more) (told_arrived d.payload) (map told.Arrived d.more) (arrived_told d.payload) (more_told d.more)

pub released_told : (release : Option Release) → AreTold (if_released release) (told_released release)
released_told None = tt
released_told (Some release) = (refl, tt)

pub frames_told : (calling extended : Bool) (frames : List Frame) → AreTold (map FrameOut (map (sent_octets calling extended) frames)) (told_frames calling extended frames)
frames_told calling extended [] = tt
frames_told calling extended (f ∷ frames) = (refl, frames_told calling extended frames)

call_told : (t : Station) → AreTold (outcomes_told_by_station t) (told_deed t.deed ++ told_frames t.calling t.extended t.said)
call_told t =
    told_append ((if_up t.deed.up ++ all_arrived t.deed) ++ if_released t.deed.released) (map FrameOut (said_octets t))
    (told_deed t.deed) (told_frames t.calling t.extended t.said)
    (told_append (if_up t.deed.up ++ all_arrived t.deed) (if_released t.deed.released) (told_up t.deed.up ++ told_payloads t.deed) (told_released t.deed.released)
    (told_append (if_up t.deed.up) (all_arrived t.deed) (told_up t.deed.up) (told_payloads t.deed) (up_told t.deed.up) (payloads_told t.deed))
    (released_told t.deed.released))
    (frames_told t.calling t.extended t.said)

-- a deed that was told part by part
pub deed_grew : (d : Deed) (before up arrived more all : List Told) → up ≡ before ++ told_up d.up → arrived ≡ up ++ told_arrived d.payload
    → more ≡ arrived ++ map told.Arrived d.more → all ≡ more ++ told_released d.released → all ≡ before ++ told_deed d
deed_grew d before up arrived more all up_is arrived_is more_is all_is =
    all_is
    ∙ ap (λ (xs : List Told). xs ++ told_released d.released)
    (more_is
    ∙ ap (λ (xs : List Told). xs ++ map told.Arrived d.more) (arrived_is ∙ ap (λ (xs : List Told). xs ++ told_arrived d.payload) up_is)
    ∙ append_assoc (before ++ told_up d.up) (told_arrived d.payload) (map told.Arrived d.more)
    ∙ append_assoc before (told_up d.up) (told_payloads d))
    ∙ append_assoc before (told_up d.up ++ told_payloads d) (told_released d.released)

-- what is kept says nothing of the call
held_settled : (places : Option (List NumberPlace)) (s : Station) → KeepsHeld places s → KeepsHeld places (settled s)
held_settled None s h = tt
held_settled (Some places) s h = h

texts_alike : (k : KeptStation) (s : Station) → k ≡ kept_of s → octets_of_sent_frames k.calling k.extended s.said ≡ octets_of_sent_frames s.calling s.extended s.said
texts_alike k s is = ap (λ (x : KeptStation). octets_of_sent_frames x.calling x.extended s.said) is

module _ (selective : Bool) where
  -- between two calls, with an empty room
  pub call_begins : (old k : StationKept) (s : Station) (room : Stored) → k ≡ old → StandsQuiet old selective s → room.items ≡ [] → StandsInCall k [] room no_deed s
  call_begins old k s room same quiet empty =
      let h : StandsQuiet k selective s = subst (λ (x : StationKept). StandsQuiet x selective s) (sym same) quiet in
      record {
        stands = record {
          is = h.keeps.core;
          order = h.order;
          given = h.given;
          deed = h.deed;
          text = empty ∙ sym (ap (octets_of_sent_frames k.core.calling k.core.extended) h.said);
        };
        held = h.keeps.held;
      }

  -- and behind it: what the call told, and then its frames
  pub call_ends : (k : StationKept) (room : Stored) (d : Deed) (t : Station) (before between now : List Told) → is_selective k ≡ selective
      → StandsInCall k [] room d t → between ≡ before ++ told_deed d → TellsFrames room.items between now → CallDid k selective before now (station_and_told t)
  call_ends k room d t before between now way h tells frames =
      let deed : told_deed d ≡ told_deed t.deed = ap told_deed (sym h.stands.deed) in
      record {
        stands = record {
          keeps = record { core = h.stands.is; way = way; held = held_settled k.places t h.held };
          order = h.stands.order;
          given = h.stands.given;
          said = refl;
          deed = refl;
        };
        list = told_deed t.deed ++ told_frames t.calling t.extended t.said;
        grew = frames t.calling t.extended t.said (h.stands.text ∙ texts_alike k.core t h.stands.is)
            ∙ ap (λ (xs : List Told). xs ++ told_frames t.calling t.extended t.said) tells
            ∙ append_assoc before (told_deed d) (told_frames t.calling t.extended t.said)
            ∙ ap (λ (xs : List Told). before ++ (xs ++ told_frames t.calling t.extended t.said)) deed;
        told = call_told t;
      }

  -- the station stays one of its kind
  pub way_stays : (old k mid new : StationKept) (s : Station) → k ≡ old → StandsQuiet old selective s → is_selective mid ≡ is_selective k
      → new ≡ record mid { core = new.core } → is_selective new ≡ selective
  way_stays old k mid new s same quiet first last =
      ap (λ (x : StationKept). is_selective x) last ∙ first ∙ ap (λ (x : StationKept). is_selective x) same ∙ quiet.keeps.way

-- nothing was told
pub nothing_told : (before : List Told) → before ≡ before ++ told_deed no_deed
nothing_told before = sym (append-nil before)

-- ---- the user releases

held_quit : (places : Option (List NumberPlace)) (sub : ℕ) (s : Station) → KeepsHeld places (closes s) → KeepsHeld places (quits sub s)
held_quit None sub s h = tt
held_quit (Some places) sub s h = h

pub quit_stands : (k : StationKept) (room : Stored) (sub : ℕ) (s : Station) → StandsInCall k [] room no_deed (closes s)
    → StandsInCall k [] room (record { up = false; payload = None; more = []; released = Some (release_of (User sub)) }) (quits sub s)
quit_stands k room sub s h = record {
  stands = record { is = h.stands.is; order = h.stands.order; given = h.stands.given; deed = refl; text = h.stands.text };
  held = held_quit k.places sub s h.held;
}

-- ---- the user sends

sends_if : (s : Station) (payload : List ℕ) → nat_le 1 (length payload) ≡ true → nat_le (length payload) 1026 ≡ true
    → payload_refusal_of_station s payload None ≡ (if nat_lt (waiting s) 16 then None else Some (RefusedFull (waiting s)))
sends_if s payload some few = rw (some, few) refl

pub none_refused : (s : Station) (payload : List ℕ) → 1 ≤ length payload → length payload ≤ 1026 → waiting s < 16 → payload_refusal_of_station s payload None ≡ None
none_refused s payload some few less =
    sends_if s payload (le-leb 1 (length payload) some) (le-leb (length payload) 1026 few)
    ∙ ap (λ (b : Bool). if b then None else Some (RefusedFull (waiting s))) (lt-ltb (waiting s) 16 less)

pub full_refused : (s : Station) (payload : List ℕ) (n : ℕ) → 1 ≤ length payload → length payload ≤ 1026 → waiting s ≡ 16 → n ≡ 16
    → payload_refusal_of_station s payload None ≡ Some (RefusedFull n)
full_refused s payload n some few many is =
    sends_if s payload (le-leb 1 (length payload) some) (le-leb (length payload) 1026 few)
    ∙ ap (λ (m : ℕ). if nat_lt m 16 then None else Some (RefusedFull m)) many
    ∙ ap (λ (m : ℕ). Some (RefusedFull m)) (sym is)

module _ (selective : Bool) where
  pub hand_did : (k : StationKept) (s : Station) (payload : List ℕ) (now : ℕ) (before after : List Told) → payload_refusal_of_station s payload None ≡ None
      → CallDid k selective before after (station_and_told (finishes (hands now payload s))) → CallDid k selective before after (handed_unless (payload_refusal_of_station s payload None) now payload s)
  hand_did k s payload now before after none d =
      subst (λ o. CallDid k selective before after (handed_unless o now payload s)) (sym none)
      (record { stands = d.stands; list = d.list; grew = d.grew; told = d.told })

  pub full_did : (old k : StationKept) (s : Station) (payload : List ℕ) (now n : ℕ) (before after : List Told) → payload_refusal_of_station s payload None ≡ Some (RefusedFull n)
      → StandsQuiet old selective s → k ≡ old → after ≡ before ++ told.Refused (refusal.Full n) ∷ []
      → CallDid k selective before after (handed_unless (payload_refusal_of_station s payload None) now payload s)
  full_did old k s payload now n before after some h same grew =
      subst (λ o. CallDid k selective before after (handed_unless o now payload s)) (sym some)
      (record {
        stands = subst (λ (x : StationKept). StandsQuiet x selective s) (sym same) h;
        list = told.Refused (refusal.Full n) ∷ [];
        grew = grew;
        told = (record { refused = refusal.Full n; told_is = refl; is = refl }, tt);
      })
