-- What the loop asks of an end is what the end model says of it.
use Rattle.loop_model.specs.Ends.{ModelEnd, model_ends}
use Rattle.std.specs.Prelude.{ℕ, ◌≡◌, ◌==◌, Bool, true, false, not, ◌&&◌, ◌||◌, List, [], ◌∷◌, ◌++◌, length, take, is_some}
use Rattle.hdlc_frames.specs.Deframing.{has_verdicts}
use Rattle.hdlc_station_model.specs.Events.{news}
use Rattle.er_end_model.specs.Layers as layers
use Rattle.er_end_model.specs.Steps.{deadline}
use Rattle.loop_model.specs.Cuts.{closes_any_frame}

-- whether one of the octets but the last closes a frame, behind all that came
unfoldable pub closes_early : (came : List ℕ) → List ℕ → Bool
closes_early came [] = false
closes_early came (octet ∷ octets) = (has_verdicts (news came (octet ∷ [])) && not (length octets == 0)) || closes_early (came ++ octet ∷ []) octets

-- its deadline, why it was released, and how many messages wait. Of octets that come to it one event has all, where it is released; else
-- those up to the first that closes a frame: none but the last of them closes one, and where none does they are all
pub record EndsShow : Type 0 where
  pub deadline : (m : ModelEnd) → model_ends.deadline m ≡ deadline layers.model m.core
  pub released : (m : ModelEnd) → model_ends.released m ≡ m.core.released
  pub waiting : (m : ModelEnd) → model_ends.waiting m ≡ layers.model.untaken m.core.upper
  pub all : (m : ModelEnd) (octets : List ℕ) → is_some m.core.released ≡ true → model_ends.used m octets ≡ length octets
  pub cut : (m : ModelEnd) (octets : List ℕ) → is_some m.core.released ≡ false → closes_early m.stream (take (model_ends.used m octets) octets) ≡ false
  pub rest : (m : ModelEnd) (octets : List ℕ) → is_some m.core.released ≡ false → closes_any_frame m.stream (take (model_ends.used m octets) octets) ≡ false
      → model_ends.used m octets ≡ length octets
