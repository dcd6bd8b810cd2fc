-- Representation: what a user that was let go told that it heard; no claim rests on it.
use Rattle.std.specs.Prelude.{List, Option, None, Some}
use Rattle.er_users.specs.Users.{Mind, Heard}

abbrev pub told_then : Option Mind → Option (List Heard)
told_then None = None
told_then (Some mind) = mind.told
