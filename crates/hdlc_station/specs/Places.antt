-- Contract: how a clause speaks of what the code holds of the frames behind a gap: by the places of the numbers from V(R) on.
use Rattle.std.specs.Prelude.{ℕ, zero, suc, ◌-◌, Bool, false, if◌then◌else◌, List, [], ◌∷◌, length, drop, map, slice_index_or, Option, None, Some}

-- the place of a number: whether a payload is held for it, and whether it was asked for. The payload stays when it isn't held any more
pub record NumberPlace : Type 0 where
  pub payload : List ℕ
  pub held : Bool
  pub asked : Bool

abbrev pub no_place : NumberPlace
no_place = record { payload = []; held = false; asked = false }

abbrev pub cleared : NumberPlace → NumberPlace
cleared p = record p { held = false; asked = false }

-- the payload that is held for the number that is so far above V(R)
abbrev pub held_in : NumberPlace → Option (List ℕ)
held_in p = if p.held then Some p.payload else None

abbrev pub held_at : List NumberPlace → ℕ → Option (List ℕ)
held_at places up = held_in (slice_index_or places up no_place)

-- whether that number was asked for
abbrev pub asked_at : List NumberPlace → ℕ → Bool
asked_at places up = (slice_index_or places up no_place).asked

-- the payloads of places that are held, from the first one on to the first that isn't
abbrev pub run_of : List NumberPlace → List (List ℕ)
run_of [] = []
run_of (p ∷ places) = if p.held then p.payload ∷ run_of places else []

-- the payloads that were taken last, so many: those of the last places
abbrev pub lent : ℕ → List NumberPlace → List (List ℕ)
lent zero places = []
lent (suc n) places = map (λ p. p.payload) (drop (length places - suc n) places)
