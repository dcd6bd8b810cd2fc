-- A list of entries in the place of a key file.
use Rattle.std.specs.Prelude.{◌&&◌, ◌^◌, nat_lt, nat_le, Bool, true, if◌then◌else◌, List, [], ◌∷◌, Option, Some, None, is_none}
use Rattle.safety_automaton.specs.Keys.{KmacEntry}
use Rattle.key_store.specs.declared.key_entry.KeyEntry.{KeyEntry}
use Rattle.key_store.specs.KeyFiles.{first_twice}

-- what an entry of a list says
abbrev pub as_entry : KeyEntry → KmacEntry
as_entry e = record { engine = e.engine; rbc = e.rbc; kmac = e.kmac; first = e.first; last = e.last }

-- the ETCS numbers of an entry are below 2 ^ 24, and its moments at most 10 ^ 15, the first not behind the last
abbrev pub is_in_range : KmacEntry → Bool
is_in_range entry = nat_lt entry.engine (2 ^ 24) && nat_lt entry.rbc (2 ^ 24) && nat_le entry.first entry.last && nat_le entry.last 1000000000000000

abbrev pub are_in_range : List KmacEntry → Bool
are_in_range [] = true
are_in_range (entry ∷ entries) = is_in_range entry && are_in_range entries

-- the entries, where each is in range and no two of one pair have a moment in common
unfoldable pub listed_keys : List KmacEntry → Option (List KmacEntry)
listed_keys entries = if are_in_range entries && is_none (first_twice [] entries) then Some entries else None
