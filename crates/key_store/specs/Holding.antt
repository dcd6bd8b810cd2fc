-- Which entries hold at a moment (this profile): from their first to their last one.
use Rattle.std.specs.Prelude.{ℕ, ◌&&◌, nat_le, Bool}
use Rattle.safety_automaton.specs.Keys.{KmacEntry}

abbrev pub holds_at : ℕ → KmacEntry → Bool
holds_at now entry = nat_le entry.first now && nat_le now entry.last
