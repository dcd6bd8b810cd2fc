-- The test of the length is that of the script.
use Rattle.std.proofs.Common.{length}
use Rattle.std.proofs.lemmas.Bool.{lt-ltb, le-ltb}
use Rattle.er_program.proofs.bits.bits_file.Goals as goal

pub returns-then-octets-gt-MOST_LINE_OCTETS : goal.returns-then-octets-gt-MOST_LINE_OCTETS
returns-then-octets-gt-MOST_LINE_OCTETS g c = record {
  does = rw (lt-ltb 16777216 (length c.args.octets.now) c.if-octets-gt-MOST_LINE_OCTETS.true) c.out_of_form.ensures.does;
}

pub returns : goal.returns
returns g c = record { does = rw (le-ltb 16777216 (length c.args.octets.now) c.if-octets-gt-MOST_LINE_OCTETS.false) c.read_line.ensures.does }
