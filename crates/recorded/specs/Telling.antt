-- What an outside tells whose recording goes first (this profile), by the acts that a program did to it and by what is inside.
use Rattle.std.specs.Prelude.{Some, None, List, count_by}
use Rattle.outside.specs.Acts.{Act, is_sink_fault, is_wires_fault, is_opening_fault}
use Rattle.outside.specs.Doings.{Told}
use Rattle.recorded.specs.Recordings.{octets_written_in}

-- Its sink holds what was taken, which may wait still. Its wires tell no calls and no lines: a call that was refused isn't done inside. Its counts
-- of faults are those of the program's own acts. All else is what is told inside.
abbrev pub told_through : List Act → Told → Told
told_through acts inside = record {
  acts = acts;
  cabinet = inside.cabinet;
  sink = record { held = Some (octets_written_in acts); faults = count_by is_sink_fault acts };
  wires = record {
    calls = None;
    lines = None;
    opened = inside.wires.opened;
    listening = inside.wires.listening;
    faults = count_by is_wires_fault acts;
    turn_faults = count_by is_opening_fault acts;
  };
  clock = inside.clock;
  words = inside.words;
  names = inside.names;
}
