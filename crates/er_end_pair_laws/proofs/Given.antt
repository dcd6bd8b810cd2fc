-- An event that an end is given: its frames join those that wait.
use Rattle.er_base.specs.declared.side.Side.{Side}
use Rattle.er_end_model.specs.Ends.{Event}
use Rattle.pair_model.specs.Links.{end_of_side, end_did}
use Rattle.er_end_pair_laws.specs.Links.{EndLink, end_behind_event}

abbrev pub give : Side → Event → EndLink → EndLink
give side event l = end_did side (end_behind_event l.moment event (end_of_side l side)) l
