-- Contract: what the calls of an end answer, by what is kept.
use Rattle.std.specs.Prelude.{◌≡◌, Option, option_map}
use Rattle.er_end_model.specs.Outcomes.{SendRefusal, RefusedReleased, RefusedNotConnected, RefusedLength, RefusedFull}
use Rattle.er_end.specs.declared.deeds.Deeds.{Deeds}
use Rattle.er_end.specs.declared.deeds.SendRefused.{SendRefused}
use Rattle.er_end.specs.declared.deeds.SendRefused.TheVariants as code
use Rattle.er_end.specs.KeptLayers.{KCore, kept}

-- deeds are those of the event that led here
pub record Shows (deeds : Deeds) (x : KCore) : Type 0 where
  pub connected : deeds.connected ≡ x.connected
  pub accepted : option_map (λ m. m.now) deeds.accepted ≡ kept.news x.upper
  pub released : deeds.released ≡ x.leaves
  pub out : deeds.out.now ≡ x.line.out

abbrev pub refusal_view : SendRefused → SendRefusal
refusal_view (code.Released release) = RefusedReleased release
refusal_view code.NotConnected = RefusedNotConnected
refusal_view (code.Length found) = RefusedLength found
refusal_view (code.Full waiting) = RefusedFull waiting

abbrev pub ShowsSendRefusal : Option SendRefused → Option SendRefusal → Type 0
ShowsSendRefusal refused refusal = option_map refusal_view refused ≡ refusal
