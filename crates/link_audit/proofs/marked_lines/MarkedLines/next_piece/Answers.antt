-- The line at the place, and the lines behind it.
use Rattle.std.proofs.Common.{ℕ, List, ◌+◌, ◌-◌, length, drop, get_or, arith, sym}
use Rattle.std.proofs.lemmas.List.{take_all, drop_more, length-drop}
use Rattle.er_tap.specs.declared.tap_line.TapLine.{TapLine}
use Rattle.link_audit.proofs.Marking.{piece_then, marks_left, same_length}
use Rattle.link_audit.proofs.marked_lines.MarkedLines.next_piece.Goals as goal

pub invariant_of-self : goal.invariant_of-self
invariant_of-self c =
    let lines : List TapLine = c.self.inside.lines.now in
    let marks : List ℕ = c.self.inside.marks.now in
    let next : ℕ = c.in-Some.count + 1 in
    let fewer = length-drop next lines in
    let less = length-drop next marks in
    rw (take_all (length marks - next) (drop next marks) (omega (arith, less)), take_all (length lines - next) (drop next lines) (omega (arith, fewer)))
    (marks_left lines marks next c.self.invariant)

pub returns-clause-piece : goal.returns-clause-piece
returns-clause-piece c =
    let lines : List TapLine = c.self.inside.lines.now in
    let count : ℕ = c.in-Some.count in
    let first : TapLine = get_or lines count c.index-self-count.result in
    let fewer = length-drop (count + 1) lines in
    rw (sym c.self.view_is, c.piece_of.ensures, take_all (length lines - (count + 1)) (drop (count + 1) lines) (omega (arith, fewer)))
    (piece_then c.args.link c.args.side lines (drop (count + 1) lines) first count (rw (sym c.self.view_is) at c.in-Some.ensures.stream)
    (drop_more lines count c.index-self-count.result (rw (sym c.self.view_is) at c.in-Some.ensures.within)))

pub slice_bounds-self-count-2 : goal.slice_bounds-self-count-2
slice_bounds-self-count-2 c =
    let within = rw (sym c.self.view_is) at c.in-Some.ensures.within in
    let same = same_length c.args.link c.args.side c.self.inside.lines.now c.self.inside.marks.now c.self.invariant in
    omega (arith, within, same)

pub slice_bounds-self-start-2 : goal.slice_bounds-self-start-2
slice_bounds-self-start-2 c =
    let within = rw (sym c.self.view_is) at c.in-Some.ensures.within in
    let same = same_length c.args.link c.args.side c.self.inside.lines.now c.self.inside.marks.now c.self.invariant in
    omega (arith, within, same)
