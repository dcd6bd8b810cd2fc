-- What a relay carries from one side of a connection to the other (this profile): a function of the script and of what came from that side.
use Rattle.std.specs.Prelude.{ℕ, ◌+◌, nat_lt, Bool, if◌then◌else◌, List, [], ◌++◌}
use Rattle.std.specs.List.{flat_map, list_any}
use Rattle.er_base.specs.declared.side.Side.{Side}
use Rattle.relay_script.specs.declared.script.Script.{Script}
use Rattle.relay_model.specs.Units.{parts_from, parts_of_sent, standing_behind, held_in_standing, units_in}
use Rattle.relay_model.specs.Loads.{Load, loads_from}

-- all that is given of what came so far, in order
unfoldable pub loads_of_sent : Script → Side → (came : List ℕ) → List Load
loads_of_sent script side came = loads_from script.lines side [] (parts_of_sent came)

-- what is given of more octets, where these came before them and the connection is not closed
unfoldable pub loads_behind : Script → Side → (came more : List ℕ) → List Load
loads_behind script side came more = loads_from script.lines side (units_in (parts_of_sent came)) (parts_from (standing_behind came) more)

-- the octets of loads
unfoldable pub octets_of_loads : List Load → List ℕ
octets_of_loads loads = flat_map (λ load. load.octets) loads

abbrev pub closes_behind : List Load → Bool
closes_behind loads = list_any (λ load. load.closes) loads

unfoldable pub given_of_sent : Script → Side → (came : List ℕ) → List ℕ
given_of_sent script side came = octets_of_loads (loads_of_sent script side came)

-- whether a line has closed the connection
unfoldable pub is_closed_by : Script → Side → (came : List ℕ) → Bool
is_closed_by script side came = closes_behind (loads_of_sent script side came)

-- all that is carried where the side sends no more: what is held is given as it is
unfoldable pub carried : Script → Side → (came : List ℕ) → List ℕ
carried script side came =
    given_of_sent script side came ++ (if is_closed_by script side came then [] else held_in_standing (standing_behind came))

-- ---- moments

-- the moment in milliseconds at which a load is due that came at a moment, behind one that is due at a moment of its own: no earlier than that one
abbrev pub due_behind : (newest came : ℕ) → (delay : ℕ) → ℕ
due_behind newest came delay = if nat_lt (came + delay) newest then newest else came + delay
