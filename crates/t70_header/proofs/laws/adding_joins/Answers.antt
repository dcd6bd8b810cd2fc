-- The two laws of joining are proved over the definitions alone.
use Rattle.t70_header.proofs.Joins.{adding_joins, holds_only_what_waits}
use Rattle.t70_header.proofs.laws.adding_joins.Goals as goal

pub returns : goal.returns
returns c = record { joins = adding_joins; rests = holds_only_what_waits }
