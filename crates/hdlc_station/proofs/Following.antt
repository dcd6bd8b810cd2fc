-- Lemmas: how the parts of a call go together, for the proofs of the kinds of station.
use Rattle.std.specs.Prelude.{◌≡◌, ℕ, ◌-◌, Bool, true, false, if◌then◌else◌, List, Option, Some, None}
use Rattle.std.proofs.Common.{sym, subst}
use Rattle.er_base.specs.Stored.{Stored}
use Rattle.hdlc_station_model.specs.declared.phase.Phase.{Phase}
use Rattle.hdlc_station_model.specs.Stations.{Station, Deed}
use Rattle.hdlc_station_model.specs.Sending.{refuses_frame}
use Rattle.hdlc_station_model.specs.Receiving.{number_shown_as, acknowledges, acknowledging, by_number}
use Rattle.hdlc_station.specs.Kept.{KeptStation, Stands}

-- ---- a test of the model

pub stands_yes : (k : KeptStation) (before : List ℕ) (out : Stored) (d : Deed) (b : Bool) (x y : Station) → b ≡ true → Stands k before out d x
    → Stands k before out d (if b then x else y)
stands_yes k before out d b x y e h = subst (λ (c : Bool). Stands k before out d (if c then x else y)) (sym e) h

pub stands_no : (k : KeptStation) (before : List ℕ) (out : Stored) (d : Deed) (b : Bool) (x y : Station) → b ≡ false → Stands k before out d y
    → Stands k before out d (if b then x else y)
stands_no k before out d b x y e h = subst (λ (c : Bool). Stands k before out d (if c then x else y)) (sym e) h

-- a step by the phase
pub by_phase : (step : Phase → Station → Station) (k : KeptStation) (before : List ℕ) (out : Stored) (d : Deed) (s : Station) (p : Phase) → p ≡ s.phase
    → Stands k before out d (step p s) → Stands k before out d (step s.phase s)
by_phase step k before out d s p e h = subst (λ (q : Phase). Stands k before out d (step q s)) e h

-- ---- N(R)

pub numbered : (k : KeptStation) (before : List ℕ) (out : Stored) (d : Deed) (s : Station) (r n : ℕ) (rest : Station → Station)
    → number_shown_as s.extended s.acked (s.sent - s.acked) r ≡ Some n → Stands k before out d (rest (acknowledges n s))
    → Stands k before out d (by_number r rest s)
numbered k before out d s r n rest e h = subst (λ (o : Option ℕ). Stands k before out d (acknowledging o rest s)) (sym e) h

pub absent : (k : KeptStation) (before : List ℕ) (out : Stored) (d : Deed) (s : Station) (r : ℕ) (rest : Station → Station)
    → number_shown_as s.extended s.acked (s.sent - s.acked) r ≡ None → Stands k before out d (refuses_frame s) → Stands k before out d (by_number r rest s)
absent k before out d s r rest e h = subst (λ (o : Option ℕ). Stands k before out d (acknowledging o rest s)) (sym e) h
