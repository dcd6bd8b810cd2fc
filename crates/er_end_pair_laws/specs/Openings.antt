-- How two ends of the whole stack are made, and when they agree (this profile).
use Rattle.std.specs.Prelude.{ℕ, ◌≡◌, ◌<◌, ◌^◌, Some}
use Rattle.des_block.specs.declared.triple_key.TripleKey.{TripleKey}
use Rattle.er_settings.specs.Values.{Settings}
use Rattle.er_settings.specs.Ranges.{AllAllowed}
use Rattle.er_end_model.specs.Steps.{Finds}

-- the settings of both ends; an engine that calls a radio block centre, with its KMAC; the KMACs that are found, by moment, engine and
-- radio block centre; the random number of each, the radio block centre's first; the moment of the making
pub record EndLinkOpening : Type 0 where
  pub settings : Settings
  pub engine : ℕ
  pub rbc : ℕ
  pub kmac : TripleKey
  pub finder : Finds
  pub ra : ℕ
  pub rb : ℕ
  pub moment : ℕ
  -- all in their ranges
  pub allowed : AllAllowed settings
  pub engine_fits : engine < 2 ^ 24
  pub rbc_fits : rbc < 2 ^ 24
  pub ra_fits : ra < 2 ^ 64
  pub rb_fits : rb < 2 ^ 64

-- the radio block centre finds the engine's KMAC, at every moment
abbrev pub Agree : EndLinkOpening → Type 0
Agree s = (now : ℕ) → s.finder now s.engine s.rbc ≡ Some s.kmac
