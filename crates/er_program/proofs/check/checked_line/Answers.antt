-- The line is that of its words.
use Rattle.std.proofs.Common.{refl}
use Rattle.er_program.proofs.check.checked_line.Goals as goal

pub returns : goal.returns
returns c = rw (c.in_ok-put_line.ensures.ok, c.new-line.ensures.items) refl
