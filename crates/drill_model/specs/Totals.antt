-- The totals of a run: what was counted over all links and both ends (this profile).
use Rattle.std.specs.Prelude.{ℕ, zero, suc, ◌+◌, ◌-◌, ◌^◌, min, Bool, true, false, List, length}
use Rattle.std.specs.List.{count_by}
use Rattle.er_base.specs.declared.side.Side.TheVariants.{E, R}
use Rattle.drill_model.specs.declared.totals.Totals.{Totals as RunTotals}
use Rattle.drill_model.specs.Outcomes.{DrillOutcome, Lost, Repeated, Occurrence}
use Rattle.drill_model.specs.Worlds.{Came, history_on}
use Rattle.drill_model.specs.Kinds.{sent_by, accepted_by, deliveries}

-- ---- the counts of one link

-- the sends that were Ok, and the messages that were accepted
abbrev pub count_of_sends : List Occurrence → ℕ
count_of_sends history = length (sent_by E history) + length (sent_by R history)

abbrev pub acceptances : List Occurrence → ℕ
acceptances history = length (accepted_by E history) + length (accepted_by R history)

-- a frame was removed by the line
abbrev pub is_loss : DrillOutcome → Bool
is_loss Lost = true
is_loss other = false

-- a frame was copied by the line
abbrev pub is_repeat : DrillOutcome → Bool
is_repeat Repeated = true
is_repeat other = false

abbrev pub losses : List Occurrence → ℕ
losses history = count_by (λ o. is_loss o.outcome) history

abbrev pub repeats : List Occurrence → ℕ
repeats history = count_by (λ o. is_repeat o.outcome) history

-- ---- the totals of a world

-- the sum over the links from this number on, so many
unfoldable pub sum_from : (List Occurrence → ℕ) → List Came → (number count : ℕ) → ℕ
sum_from count_on came number zero = 0
sum_from count_on came number (suc count) = count_on (history_on number came) + sum_from count_on came (number + 1) count

-- over all links; a total stays at 2^64 - 1
abbrev pub total : (List Occurrence → ℕ) → List Came → ℕ
total count_on came = min (sum_from count_on came 1 64) (2 ^ 64 - 1)

-- of all that came
abbrev pub totals_of : List Came → RunTotals
totals_of came = record {
  sent = total count_of_sends came;
  accepted = total acceptances came;
  passes = total deliveries came;
  lost = total losses came;
  repeated = total repeats came;
}
