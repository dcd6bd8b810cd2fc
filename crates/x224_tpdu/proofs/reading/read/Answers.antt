-- The function of octets gives the one answer.
use Rattle.std.proofs.Common.{rules, arith}
use Rattle.std.proofs.lemmas.Grind.{common_steps}
use Rattle.x224_tpdu.specs.Reading.{Reads}
use Rattle.x224_tpdu.proofs.RoundTrip.{reading_is_reads}
use Rattle.x224_tpdu.proofs.reading.read.Goals as goal

pub returns-clause-function : goal.returns-clause-function
returns-clause-function c =
    let exact : Reads c.args.octets.now c.read_parts.result = first_of (search rules, grind (arith, common_steps)) in
    reading_is_reads _ _ exact

pub returns-in_err-parts-clause-function : goal.returns-in_err-parts-clause-function
returns-in_err-parts-clause-function c =
    let exact : Reads c.args.octets.now c.from_residual.result = first_of (search rules, grind (arith, common_steps)) in
    reading_is_reads _ _ exact
