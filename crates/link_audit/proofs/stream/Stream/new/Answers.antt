-- Nothing is kept.
use Rattle.std.proofs.Common.{sym, subst}
use Rattle.hdlc_frames.specs.Deframing.{IsKeptOfStream}
use Rattle.link_audit.proofs.Feeding.{kept_nothing}
use Rattle.link_audit.proofs.stream.Stream.new.Goals as goal

pub invariant_of-result : goal.invariant_of-result
invariant_of-result c = subst IsKeptOfStream (sym c.new.ensures) (kept_nothing c.kept_stands_for_stream.ensures)
