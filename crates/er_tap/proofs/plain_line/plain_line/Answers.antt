-- By the lemma on such a line.
use Rattle.std.proofs.Common.{ℕ, List, sym, ◌≤◌, ◌+◌, ◌-◌, length, drop, arith}
use Rattle.std.proofs.lemmas.List.{take_all, length-drop}
use Rattle.std.proofs.lemmas.Grind.{common_steps}
use Rattle.er_tap.proofs.PlainLines.{says_first}
use Rattle.er_tap.proofs.plain_line.plain_line.Goals as goal

pub returns-clause-says : goal.returns-clause-says
returns-clause-says c =
    let text : List ℕ = c.rest.inside.text.now in
    let octets : List ℕ = c.in-Some-2.octets.items in
    let found = c.in_ok-octets.ensures in
    let parts = c.in-Some-parts_of.ensures in
    let few : length octets ≤ 4096 = grind (arith, common_steps) in
    let past = length-drop (c.in-Some.end + 1) text in
    rw (sym c.rest.view_is, c.new.ensures, take_all (length text - (c.in-Some.end + 1)) (drop (c.in-Some.end + 1) text) (omega (arith, past)))
    (says_first c.printed_lines.ensures c.printed_words.ensures c.spelled_octets.ensures c.rest.inside.before text c.in-Some.end c.in-Some-parts_of.link c.in-Some-parts_of.side
    c.in-Some-parts_of.digits.now octets c.in-Some.ensures parts.line parts.link (rw c.in-Some-2.is at found.some) (rw c.in-Some-2.is at found.digits)
    (rw c.in-Some-2.is at found.octets) few)
