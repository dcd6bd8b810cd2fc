use Rattle.std.proofs.Common.{◌≡◌, ℕ, ◌∙◌, subst, arith}
use Rattle.hdlc_station_model.specs.Stations.{Station}
use Rattle.hdlc_station.specs.Held.{SelectiveStands}
use Rattle.hdlc_station.specs.Steps.{asks_below}
use Rattle.hdlc_station.proofs.Asking.{asks_more}
use Rattle.hdlc_station.proofs.Moving.{within_more}
use Rattle.hdlc_station.proofs.selective.ask_below.Goals as goal

pub ask-requires-clause-within : goal.ask-requires-clause-within
ask-requires-clause-within c = omega (arith, c.loop-i-test.true, c.requires.within, c.loop-i.invariant.2)

pub ask-requires-clause-room : goal.ask-requires-clause-room
ask-requires-clause-room c = omega (arith, c.loop-i-test.true, c.requires.room, c.loop-i.invariant.1.items, c.loop-i.invariant.1.capacity)

pub loop-i-preserved : goal.loop-i-preserved
loop-i-preserved c =
    let i = c.loop-i.invariant in
    let k = c.args.station.now in (
      λ s before d h. subst (λ (x : Station). SelectiveStands k c.ask.new.places before c.ask.new.out d x) (asks_more c.loop-i.i s)
          (c.ask.ensures.moves (asks_below c.loop-i.i s) before d (i.0 s before d h)),
      within_more k k k c.args.out.now c.loop-i.out c.ask.new.out c.loop-i.i 1 i.1 c.ask.ensures.within,
      c.ask.ensures.count ∙ i.2,
    )

pub returns-clause-moves : goal.returns-clause-moves
returns-clause-moves c = λ s before d h.
    let all : c.loop-i.i ≡ c.args.up = omega (arith, c.loop-i-test.false, c.loop-i.auto.i-end) in
    subst (λ (n : ℕ). SelectiveStands c.args.station.now c.loop-i.places before c.loop-i.out d (asks_below n s)) all (c.loop-i.invariant.0 s before d h)
