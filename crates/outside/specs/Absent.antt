-- What the parts tell that a run hasn't (this profile): nothing.
use Rattle.std.specs.Prelude.{◌-◌, ◌^◌, false, None, replicate}
use Rattle.rand_core.specs.Stream.{Stream}
use Rattle.link_trait.specs.States.{CabinetState, WiresState, ClockState}

-- a cabinet of which each fetch may fail
abbrev pub no_files : CabinetState
no_files = record { files = None; asked = None; faults = 2 ^ 64 - 1 }

-- wires without a connection, of which each call may fail
abbrev pub no_wires : WiresState
no_wires = record { calls = None; lines = None; opened = 0; listening = false; faults = 2 ^ 64 - 1; turn_faults = 2 ^ 64 - 1 }

abbrev pub no_answers : ClockState
no_answers = record { answers = None }

-- words that are all 0
abbrev pub no_words : Stream
no_words = record { u32_after = λ calls. 0; u64_after = λ calls. 0; bytes_after = λ calls n. replicate n 0 }
