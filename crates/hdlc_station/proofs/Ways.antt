-- The calls of a station of either kind, by those of what is kept of any.
use Rattle.std.proofs.Common.{◌≡◌, ℕ, ◌+◌, ◌*◌, ◌≤◌, Bool, true, false, List, [], length, Option, Some, None, refl, sym, ap, ◌∙◌, subst, arith, IfOk}
use Rattle.er_base.specs.Stored.{Stored}
use Rattle.hdlc_frames.specs.Framing.{Verdict}
use Rattle.hdlc_station_model.specs.Stations.{Station, Deed, no_deed}
use Rattle.hdlc_station.specs.Kept.{KeptStation, Stands, Follows, Tells}
use Rattle.hdlc_station.specs.Places.{NumberPlace}
use Rattle.hdlc_station.specs.Held.{FitsPlace, TellsSelectiveDeed}
use Rattle.hdlc_station.specs.Stations.{StationKept, is_place_kept, KeepsHeld, IsWhole, StandsInCall, FollowsStep, TellsStep, HasPlace, most_answers}
use Rattle.hdlc_station.proofs.Keeping.{Keeps}

-- what is held stays
keeps_held : (places : Option (List NumberPlace)) (s t : Station) → Keeps s t → KeepsHeld places s → KeepsHeld places t
keeps_held None s t k h = tt
keeps_held (Some places) s t k h = (rw (k.taken, k.held, k.asked) h.0, k.gap ∙ h.1)

module _ (old new : KeptStation) (places : Option (List NumberPlace)) (more : ℕ) (out out' : Stored) (step : Station → Station)
    (keeps : (s : Station) → Keeps s (step s)) where
  -- a part of the core, of either kind
  pub follows_either : Follows old out new out' step
      → FollowsStep (record { core = old; places = places; more = more }) out (record { core = new; places = places; more = more }) out' step
  follows_either f s before d h = record { stands = f s before d h.stands; held = keeps_held places s (step s) (keeps s) h.held }

  pub tells_either : (told : Deed) → Tells old out new out' told step
      → TellsStep (record { core = old; places = places; more = more }) out (record { core = new; places = places; more = more }) out' told step
  tells_either told f s before h = record { stands = f s before h.stands; held = keeps_held places s (step s) (keeps s) h.held }

module _ (old new : KeptStation) (more more' : ℕ) (out out' : Stored) (step : Station → Station) (told : Deed) where
  -- with go-back nothing is held
  pub tells_back : Tells old out new out' told step
      → TellsStep (record { core = old; places = None; more = more }) out (record { core = new; places = None; more = more' }) out' told step
  tells_back f s before h = record { stands = f s before h.stands; held = tt }

  pub tells_selective : (places places' : List NumberPlace) → TellsSelectiveDeed old places out new places' out' told step
      → TellsStep (record { core = old; places = Some places; more = more }) out (record { core = new; places = Some places'; more = more' }) out' told step
  tells_selective places places' f s before h =
      let g = f s before (record { stands = h.stands; behind = h.held.0; no_gap = h.held.1 }) in
      record { stands = g.stands; held = (g.behind, g.no_gap) }

-- ---- by the way that was chosen

module _ (o : Option (List NumberPlace)) (places : List NumberPlace) (is : o ≡ Some places) where
  pub whole_places : (window more : ℕ) → IsWhole o window more → (length places ≡ window) × (more ≤ length places)
  whole_places window more h = rw is at h

  pub place_fits : (verdict : Verdict) → HasPlace (is_place_kept o) verdict → FitsPlace verdict
  place_fits verdict h = rw is at h

  pub answers_selective : (window : ℕ) → most_answers (is_place_kept o) window ≡ 2 * window
  answers_selective window = rw is refl

pub answers_back : (o : Option (List NumberPlace)) → o ≡ None → (window : ℕ) → most_answers (is_place_kept o) window ≡ window + 1
answers_back o is window = rw is refl

pub none_more : (o : Option (List NumberPlace)) → o ≡ None → (window more : ℕ) → IsWhole o window more → more ≡ 0
none_more o is window more h = rw is at h

-- ---- of either kind

pub fits_either : (selective : Bool) (verdict : Verdict) → FitsPlace verdict → HasPlace selective verdict
fits_either true verdict fits = fits
fits_either false verdict fits = tt

pub some_answers : (selective : Bool) (window : ℕ) → window ≤ most_answers selective window
some_answers true window = omega arith
some_answers false window = omega arith

pub few_answers : (selective : Bool) (window : ℕ) → most_answers selective window ≤ 2 * window + 1
few_answers true window = omega arith
few_answers false window = omega arith
