-- Contract: why the code refuses a send, as the model has it.
use Rattle.er_end_model.specs.Outcomes.{SendRefusal, RefusedReleased, RefusedNotConnected, RefusedLength, RefusedFull}
use Rattle.drill_ends.specs.declared.refusal.Refusal.{Refusal}
use Rattle.drill_ends.specs.declared.refusal.Refusal.TheVariants as refusal

abbrev pub shown_refusal : Refusal → SendRefusal
shown_refusal (refusal.Released release) = RefusedReleased release
shown_refusal refusal.NotConnected = RefusedNotConnected
shown_refusal (refusal.Length found) = RefusedLength found
shown_refusal (refusal.Full waiting) = RefusedFull waiting
