-- The laws of writing are proved over the definitions alone.
use Rattle.x224_tpdu.proofs.RoundTrip.{written_is_spelled, spelled_is_writable, written_is_short, reading_of_written}
use Rattle.x224_tpdu.proofs.laws.writing.Goals as goal

pub returns : goal.returns
returns c = record { spelled = written_is_spelled; writable = spelled_is_writable; short = written_is_short; read_back = reading_of_written }
