-- Contract: what a handle holds.
use Rattle.std.specs.Prelude.{◌==◌, Bool, if◌then◌else◌, List, Option, None}
use Rattle.safety_automaton.specs.Keys.{KmacEntry}
use Rattle.safety_automaton.specs.Pairs.{entries_if}
use Rattle.er_end.specs.KeptEnds.{KEnd}
use Rattle.er_end_c.specs.declared.handle.CEnd.{CEnd}
use Rattle.er_end_c.specs.declared.held.Held.{Held}
use Rattle.er_end_c.specs.Ties.{open_number}

-- the entries of keys, where there are any
abbrev pub optional_key_entries : Option (List KmacEntry) → List KmacEntry
optional_key_entries keys = entries_if (λ entries. entries) keys

abbrev pub is_handle_open : CEnd → Bool
is_handle_open end = end.open == open_number

-- the end and its keys, where the handle holds one
abbrev pub end_held_in_handle : CEnd → Option Held
end_held_in_handle end = if is_handle_open end then end.slot.held else None

abbrev pub held_with_end : Held → KEnd → Held
held_with_end h k = record h { end = k }

-- the entries that an end finds keys in
abbrev pub key_entries_of_handle : Held → List KmacEntry
key_entries_of_handle h = optional_key_entries h.keys
