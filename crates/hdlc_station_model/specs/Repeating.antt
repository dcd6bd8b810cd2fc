-- When a station repeats what waits for an answer, by T1 (ISO/IEC 13239, asynchronous balanced mode), and how many passes that takes.
use Rattle.std.specs.Prelude.{◌≡◌, ◌⊎◌, ℕ, ◌+◌, ◌*◌, ◌<◌, true, None}
use Rattle.hdlc_station_model.specs.Stations.{Station}
use Rattle.hdlc_station_model.specs.Events.{is_late}

-- T1 doesn't run, or this moment finds it expired, and the station doesn't give up yet
abbrev pub MayRepeat : (now : ℕ) → Station → Type 0
MayRepeat now s = (s.timer ≡ None) ⊎ ((is_late now s ≡ true) × (s.expiries < s.n2))

-- each waiting frame may be a REJ, at which a window of frames is sent again, each with its answer; each payload that is taken clears the gap
-- mark, so that one more REJ may be said; and each payload is sent for the first time, and answered
abbrev pub passes_bound : (window waiting handed : ℕ) → ℕ
passes_bound window waiting handed = (1 + 2 * window) * (waiting + handed + 2) + 2 * handed
