-- Of the piece, the octets that were taken stand behind what the writer held.
use Rattle.std.proofs.Common.{◌≤◌, take, length}
use Rattle.std.specs.Io.KnownBytes.{Appends}
use Rattle.er_program.proofs.stdout_sink.octets_taken.Given as goal

abbrev pub invariant-loop : goal.invariant-loop
invariant-loop g l = (l.taken ≤ length l.piece) × Appends (g.W.Write.contents l.initial.writer) (g.W.Write.contents l.writer) (take l.taken l.piece)
