-- Where memchr finds no LF there is none.
use Rattle.std.proofs.Common.{arith, ap, ◌∙◌, length, take, ◌+◌, ℕ}
use Rattle.std.specs.List.{slice_split}
use Rattle.std.proofs.lemmas.List.{length-take-le, take_all}
use Rattle.application_lines.specs.Streams.{is_feed}
use Rattle.application_lines.proofs.FirstPieces.{none_before, none_at_all, one_piece, two_pieces}
use Rattle.application_lines.proofs.first_piece.first_piece.Goals as goal

pub returns-in-Some-clause-whole : goal.returns-in-Some-clause-whole
returns-in-Some-clause-whole c =
    let found = c.in-Some.ensures in
    let high = found.0.high in
    one_piece (take c.in-Some.place c.args.octets.now) (none_before c.args.octets.now c.in-Some.place (omega (arith, high)) found.0.before)

pub returns-in-Some-clause-pieces : goal.returns-in-Some-clause-pieces
returns-in-Some-clause-pieces c =
    let found = c.in-Some.ensures in
    let high = found.0.high in
    let octets = c.args.octets.now in
    let place = c.in-Some.place in
    ap (λ (n : ℕ). slice_split is_feed (take (n + 1) octets)) (length-take-le place octets (omega (arith, high)))
    ∙ two_pieces octets place high (none_before octets place (omega (arith, high)) found.0.before) found.1

pub returns-in-None-clause-whole : goal.returns-in-None-clause-whole
returns-in-None-clause-whole c = one_piece c.args.octets.now (none_at_all c.args.octets.now c.in-None.ensures)

pub returns-in-None-clause-pieces : goal.returns-in-None-clause-pieces
returns-in-None-clause-pieces c =
    let octets = c.args.octets.now in
    ap (slice_split is_feed) (take_all (length octets) octets (omega arith)) ∙ one_piece octets (none_at_all octets c.in-None.ensures)
