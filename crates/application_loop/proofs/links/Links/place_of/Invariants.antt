-- None of those so far has this number.
use Rattle.std.proofs.Common.{◌≡◌, map, drop}
use Rattle.application_model.specs.Ends.{is_known}
use Rattle.application_loop.specs.Standing.{known_of_link}
use Rattle.application_loop.proofs.links.Links.place_of.Given as goal

abbrev pub invariant-loop-place : goal.invariant-loop-place
invariant-loop-place l =
    is_known l.number (map known_of_link (drop l.place l.self.list.items)) ≡ is_known l.number (map known_of_link l.self.list.items)
