use Rattle.std.proofs.Common.{rules, ◌≡◌, ◌+◌, ◌-◌, ◌<◌, ◌≤◌, List, length, drop, ap, sym, ◌∙◌, arith, vec_len, length-drop}
use Rattle.hdlc_station.specs.Places.{NumberPlace, run_of}
use Rattle.hdlc_station.proofs.Rings.{length-from_head}
use Rattle.hdlc_station.proofs.Runs.{run_goes_on, run_ends, run_within}
use Rattle.hdlc_station.proofs.places.Places.run.Goals as goal

pub loop-i-preserved : goal.loop-i-preserved
loop-i-preserved c =
    let q = c.self.inside in
    let xs = q.places.items in
    let length_xs : length xs ≡ vec_len q.places = search rules in
    let whole = length-from_head q.head xs (omega (arith, length_xs, c.self.invariant)) in
    let counted = ap (λ (ps : List NumberPlace). length ps) c.self.view_is in
    let low : c.loop-i.i < length c.args.self.now = omega (arith, c.loop-i-test.true, c.len-most.ensures, length_xs, whole, counted) in
    let old : length (run_of (drop 1 c.args.self.now)) ≡ (c.loop-i.i - 1) + length (run_of (drop c.loop-i.i c.args.self.now)) = c.loop-i.invariant in
    let more = run_goes_on c.args.self.now c.loop-i.i low (sym c.is_held.ensures ∙ c.if-not-is_held.false) in
    let new : length (run_of (drop 1 c.args.self.now)) ≡ (c.loop-i.i + 1 - 1) + length (run_of (drop (c.loop-i.i + 1) c.args.self.now)) = omega (arith, old, more, c.loop-i.auto.i) in
    new

pub returns-then-not-is_held-clause-value : goal.returns-then-not-is_held-clause-value
returns-then-not-is_held-clause-value c =
    let q = c.self.inside in
    let xs = q.places.items in
    let length_xs : length xs ≡ vec_len q.places = search rules in
    let whole = length-from_head q.head xs (omega (arith, length_xs, c.self.invariant)) in
    let counted = ap (λ (ps : List NumberPlace). length ps) c.self.view_is in
    let low : c.loop-i.i < length c.args.self.now = omega (arith, c.loop-i-test.true, c.len-most.ensures, length_xs, whole, counted) in
    let old : length (run_of (drop 1 c.args.self.now)) ≡ (c.loop-i.i - 1) + length (run_of (drop c.loop-i.i c.args.self.now)) = c.loop-i.invariant in
    let ends = run_ends c.args.self.now c.loop-i.i low (sym c.is_held.ensures ∙ c.if-not-is_held.true) in
    omega (arith, old, ends)

pub returns-clause-value : goal.returns-clause-value
returns-clause-value c =
    let q = c.self.inside in
    let xs = q.places.items in
    let length_xs : length xs ≡ vec_len q.places = search rules in
    let head : q.head < length xs = omega (arith, length_xs, c.self.invariant) in
    let whole = length-from_head q.head xs head in
    let counted = ap (λ (ps : List NumberPlace). length ps) c.self.view_is in
    let some : 1 ≤ c.len-most.result = omega (arith, head, length_xs, c.len-most.ensures) in
    let last = c.loop-i.auto.i-end some in
    let old : length (run_of (drop 1 c.args.self.now)) ≡ (c.loop-i.i - 1) + length (run_of (drop c.loop-i.i c.args.self.now)) = c.loop-i.invariant in
    let none = run_within (drop c.loop-i.i c.args.self.now) in
    let tail = length-drop c.loop-i.i c.args.self.now in
    omega (arith, old, none, tail, last, c.loop-i-test.false, counted, whole, length_xs, c.len-most.ensures)
