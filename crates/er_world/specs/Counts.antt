-- Representation: what the code counts of all that comes at a link; no claim rests on it.
use Rattle.std.specs.Prelude.{ℕ, ◌+◌, ◌-◌, ◌^◌, min, Bool, true, false, List}
use Rattle.std.specs.List.{count_by}
use Rattle.drill_model.specs.declared.totals.Totals.{Totals}
use Rattle.drill_model.specs.Outcomes.{Occurrence}
use Rattle.drill_model.specs.Ends.{EndEvent}
use Rattle.drill_model.specs.Kinds.{deliveries}
use Rattle.drill_model.specs.Totals.{count_of_sends, acceptances, losses, repeats}
use Rattle.drill_ends.specs.declared.told.Told.{Told}
use Rattle.drill_ends.specs.declared.told.Told.TheVariants as told
use Rattle.drill_ends.specs.SendCounts.{sent_at}
use Rattle.er_world.specs.declared.waiting.Change.{Change}
use Rattle.er_world.specs.declared.waiting.Change.TheVariants as result

-- so many more, but it stays at 2^64 - 1
abbrev pub saturated : ℕ → ℕ → ℕ
saturated n more = min (n + more) (2 ^ 64 - 1)

abbrev pub no_totals : Totals
no_totals = record { sent = 0; accepted = 0; passes = 0; lost = 0; repeated = 0 }

-- of two links
abbrev pub sum : Totals → Totals → Totals
sum a b = record {
  sent = saturated a.sent b.sent;
  accepted = saturated a.accepted b.accepted;
  passes = saturated a.passes b.passes;
  lost = saturated a.lost b.lost;
  repeated = saturated a.repeated b.repeated;
}

-- of all that came at a link
abbrev pub counts_of : List Occurrence → Totals
counts_of history = record {
  sent = min (count_of_sends history) (2 ^ 64 - 1);
  accepted = min (acceptances history) (2 ^ 64 - 1);
  passes = min (deliveries history) (2 ^ 64 - 1);
  lost = min (losses history) (2 ^ 64 - 1);
  repeated = min (repeats history) (2 ^ 64 - 1);
}

-- ---- what an end told of an event

-- a message was accepted
abbrev pub is_message_accepted : Told → Bool
is_message_accepted (told.Sealed key text) = false
is_message_accepted (told.Verified key text) = false
is_message_accepted (told.Connected peer key text) = false
is_message_accepted (told.Accepted user key text) = true
is_message_accepted told.Up = false
is_message_accepted (told.Arrived payload) = true
is_message_accepted (told.Took message) = false
is_message_accepted told.NothingToTake = false
is_message_accepted (told.Refused refused) = false
is_message_accepted (told.Released release) = false
is_message_accepted (told.Frame octets) = false

abbrev pub counted_told : EndEvent → List Told → Totals → Totals
counted_told event list t = record t {
  sent = saturated t.sent (sent_at event list);
  accepted = saturated t.accepted (count_by is_message_accepted list);
}

-- ---- what the line did

abbrev pub counted_pass : Totals → Totals
counted_pass t = record t { passes = saturated t.passes 1 }

abbrev pub counted_change : Change → Totals → Totals
counted_change result.Empty t = t
counted_change (result.Short found) t = t
counted_change result.Lost t = record t { lost = saturated t.lost 1 }
counted_change result.Repeated t = record t { repeated = saturated t.repeated 1 }
counted_change result.Altered t = t
counted_change result.Inserted t = t
counted_change result.Unchanged t = t
