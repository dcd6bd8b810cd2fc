use Rattle.std.proofs.Common.{arith}
use Rattle.er_program.proofs.WholeReads.{read_whole}
use Rattle.er_program.proofs.file_cabinet.all_octets.Goals as goal

pub returns-in-Ok-clause-whole : goal.returns-in-Ok-clause-whole
returns-in-Ok-clause-whole g c =
    read_whole (g.F.Read.remaining c.args.file) 33554432 _ _ c.new-octets.ensures.items
    (rw (← c.take-piece.ensures.inner, ← c.take-piece.ensures.limit) c.in-Ok.ensures.bytes)
    (omega arith)
