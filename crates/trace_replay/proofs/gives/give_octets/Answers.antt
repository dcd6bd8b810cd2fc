-- Nothing yet, one piece more, and all.
use Rattle.std.proofs.Common.{◌≡◌, ◌≤◌, ◌<◌, ℕ, List, [], ◌∷◌, length, drop, subst, arith, ◌+◌}
use Rattle.std.proofs.lemmas.List.{take_all, length-drop}
use Rattle.safety_automaton.specs.Keys.{key_at}
use Rattle.er_end.specs.KeptEnds.{KEnd, used_of}
use Rattle.er_end.specs.Keeping.{Uses}
use Rattle.trace_replay.specs.Takings.{GivesOctetsToEnd}
use Rattle.trace_replay.proofs.Cuts.{heard_none, heard_more}
use Rattle.trace_replay.proofs.gives.give_octets.Goals as goal

uses_some : (uses : Uses) (k : KEnd) (piece : List ℕ) → 0 < length piece → 0 < used_of k piece
uses_some uses k [] some = absurd (let none : ⊥ = omega arith in none)
uses_some uses k (octet ∷ octets) some = uses.one k octet octets

pub loop-used-init : goal.loop-used-init
loop-used-init g c = record {
  within = omega arith;
  heard = λ last m f le. heard_none c.kept_stands_for_stream.ensures last c.args.now c.args.conn _ m _ _ f le;
}

pub loop-used-preserved : goal.loop-used-preserved
loop-used-preserved g c =
    let is = c.behind.ensures in
    let used : c.in_ok-used.field-0 ≡ used_of c.loop-used.end (drop c.loop-used.used c.args.octets.now) = rw is at c.in_ok-used.ensures.used in
    let most = c.used_octets.ensures.most c.loop-used.end (drop c.loop-used.used c.args.octets.now) in
    let left = length-drop c.loop-used.used c.args.octets.now in
    let before : c.loop-used.used ≤ length c.args.octets.now = c.loop-used.invariant.within in
    let within : c.loop-used.used + c.in_ok-used.field-0 ≤ length c.args.octets.now = omega (arith, used, most, left, before) in
    record {
      within = within;
      heard = λ last m f le.
          heard_more c.kept_stands_for_stream.ensures c.standing.ensures.steps c.args.now c.args.conn _ c.args.octets.now m c.loop-used.end c.give_event.new.end
          _ c.loop-used.out.items c.give_event.new.out.items c.loop-used.used c.in_ok-used.field-0
          (c.loop-used.invariant.heard last m f le) used within (rw is at c.in_ok-used.ensures.end) (rw is at c.in_ok-used.ensures.text);
    }

pub loop-used-smaller : goal.loop-used-smaller
loop-used-smaller g c =
    let used : c.in_ok-used.field-0 ≡ used_of c.loop-used.end (drop c.loop-used.used c.args.octets.now) = rw c.behind.ensures at c.in_ok-used.ensures.used in
    let left = length-drop c.loop-used.used c.args.octets.now in
    let test = c.loop-used-test.true in
    let some = uses_some c.used_octets.ensures c.loop-used.end (drop c.loop-used.used c.args.octets.now) (omega (arith, left, test)) in
    omega (arith, used, some, test)

pub returns : goal.returns
returns g c = λ last m f le.
    subst (λ (os : List ℕ). GivesOctetsToEnd c.args.now c.args.conn (key_at (g.K.KeyFinder.entries c.args.keys.now)) os m c.loop-used.end c.args.out.now.items c.loop-used.out.items)
    (take_all c.loop-used.used c.args.octets.now (let stops = c.loop-used-test.false in omega (arith, stops)))
    (c.loop-used.invariant.heard last m f le)
