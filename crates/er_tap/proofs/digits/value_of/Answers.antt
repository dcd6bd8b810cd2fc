-- By the table of all octets.
use Rattle.er_tap.proofs.Values.{number_value, letter_value, no_value}
use Rattle.er_tap.proofs.digits.value_of.Goals as goal

pub returns-then-number-lt10 : goal.returns-then-number-lt10
returns-then-number-lt10 c = number_value c.args.digit c.ranges.digit.fits c.if-number-lt10.true

pub returns-then-letter-lt6 : goal.returns-then-letter-lt6
returns-then-letter-lt6 c = letter_value c.args.digit c.ranges.digit.fits c.if-number-lt10.false c.if-letter-lt6.true

pub returns-else-letter-lt6 : goal.returns-else-letter-lt6
returns-else-letter-lt6 c = no_value c.args.digit c.ranges.digit.fits c.if-number-lt10.false c.if-letter-lt6.false
