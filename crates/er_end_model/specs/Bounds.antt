-- How many deliveries two ends need on a line without a loss (this profile).
use Rattle.std.specs.Prelude.{ℕ, ◌+◌, ◌-◌, ◌*◌, ◌/◌, List, length}
use Rattle.std.specs.List.{sum_by}
use Rattle.er_settings.specs.Values.{Settings}

-- the segments of a message of so many octets: its SaPDU has nine octets more, and a segment has the octets of a TPDU but for five; rounded up
abbrev pub count_of_message_segments : Settings → (length : ℕ) → ℕ
count_of_message_segments settings n = (n + 9 + (settings.size - 6)) / (settings.size - 5)

abbrev pub count_of_all_segments : Settings → List (List ℕ) → ℕ
count_of_all_segments settings messages = sum_by (λ message. count_of_message_segments settings (length message)) messages

-- the greatest number of deliveries, where e and r sent these messages: four for each segment, a DT and an AK with the answer of each, and
-- fourteen for the set-up of the four layers
abbrev pub end_bound : Settings → (sent_e sent_r : List (List ℕ)) → ℕ
end_bound settings sent_e sent_r = 14 + 4 * (count_of_all_segments settings sent_e + count_of_all_segments settings sent_r)
