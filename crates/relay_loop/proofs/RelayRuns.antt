-- All turns of a relay.
use Rattle.std.proofs.Common.{◌≡◌, ℕ, ◌+◌, ◌<◌, ◌++◌, true, false, codes, List, [], ◌∷◌, length, length-append, append-nil, refl, sym, ◌∙◌, subst, arith, inl, inr, Bool, Option, Result, Ok, Err, OnOk, IfErr}
use Rattle.link_trait.specs.declared.wires.Happening.{Happening}
use Rattle.link_trait.specs.declared.wires.Happening.TheVariants as happening
use Rattle.outside.specs.Acts.{SeenCall, Listened, Turned, Act, Wrote, Called}
use Rattle.outside.specs.Doings.{Told, Did}
use Rattle.relay_script.specs.declared.script.Script.{Script}
use Rattle.relay_loop.specs.declared.fault.RelayFault.{RelayFault}
use Rattle.relay_loop.specs.declared.fault.RelayFault.TheVariants as fault
use Rattle.relay_loop.specs.declared.link.Link.{Link}
use Rattle.relay_loop.specs.RelayLines.{Heading, text_of_line}
use Rattle.relay_loop.specs.RelayDeeds.{RelayDeed, Puts, Flushes, Calls, acts_from, text_left, loop_calls_in, IsLastDone}
use Rattle.relay_loop.specs.Endings.{IsFollowed, AreFollowed, HasAllTurns, HasLastTurn, StopsInTurn, EndsCalls}
use Rattle.relay_loop.specs.Rings.{AreSafe, TurnsOnce, IsFollowedSo, TurnsSo, BreaksInTurn, EndsTurn, RanSoFar, IsLastOf, EndsRun, EndsBeginning}
use Rattle.relay_loop.proofs.Deeds.{performs_then, breaks_then, loop_calls_append, steadily_then}
use Rattle.outside.specs.Chains.{did_then}

-- ---- the beginning

begun_acts : (address : List ℕ) → acts_from [] (Calls (Listened address true) ∷ Puts Heading ∷ Flushes ∷ []) ≡ Called (Listened address true) ∷ Wrote (codes "relay 1\n") true ∷ []
unfolding acts_from text_of_line
begun_acts address = refl

begun_left : (address : List ℕ) → text_left [] (Calls (Listened address true) ∷ Puts Heading ∷ Flushes ∷ []) ≡ []
unfolding text_left
begun_left address = refl

pub ran_begun : (script : Script) (dial address : List ℕ) (s t u : Told) → Did s t (Called (Listened address true) ∷ [])
    → Did t u (Wrote (codes "relay 1\n") true ∷ []) → RanSoFar address 0 script dial s u 0 [] []
ran_begun script dial address s t u listened wrote = record {
  deeds = Calls (Listened address true) ∷ Puts Heading ∷ Flushes ∷ [];
  performs = record {
    did = subst (λ (o : List Act). Did s u o) (sym (begun_acts address))
        (did_then s t u (Called (Listened address true) ∷ []) (Wrote (codes "relay 1\n") true ∷ []) listened wrote);
    left_is = sym (begun_left address);
  };
  turns = record { turned = []; are = refl; followed = tt; count = refl };
  stands = record {
    bound = 0;
    within = omega arith;
    count = refl;
    left = tt;
    dialled = tt;
    holds = record {
      hold = tt;
      below = tt;
      fresh = λ conn more. record { unread = refl; ungiven = refl; unclosed = refl; silent = λ told. refl };
      untold = λ number more. record { of_e = refl; of_r = refl };
      in_order = tt;
      paired = tt;
      known = tt;
      served = tt;
      left = tt;
      dialled = tt;
      crowd = omega arith;
      safe = record { all = tt; own = (tt, (tt, (tt, tt))); waits = (tt, (tt, (tt, tt))) };
    };
  };
  steady = (
    record { all = tt; own = tt; waits = tt },
    (
      record { all = tt; own = (tt, tt); waits = (tt, tt) },
      (record { all = tt; own = (tt, (tt, tt)); waits = (tt, (tt, tt)) }, record { all = tt; own = (tt, (tt, (tt, tt))); waits = (tt, (tt, (tt, tt))) }),
    ),
  );
}

listened_acts : (address : List ℕ) (listens : Bool) → acts_from [] (Calls (Listened address listens) ∷ []) ≡ Called (Listened address listens) ∷ []
unfolding acts_from
listened_acts address listens = refl

-- the listen failed
pub begun_deaf : (script : Script) (dial address : List ℕ) (s t : Told) → Did s t (Called (Listened address false) ∷ [])
    → EndsBeginning (Err fault.Wires) address script dial s t
begun_deaf script dial address s t listened = λ turns. record {
  deeds = Calls (Listened address false) ∷ [];
  last = [];
  is_last = refl;
  did = subst (λ (o : List Act). Did s t (o ++ [])) (sym (listened_acts address false)) listened;
  steady = (record { all = tt; own = tt; waits = tt }, record { all = tt; own = (tt, tt); waits = (tt, tt) });
  calls = inl refl;
}

-- the first line failed
pub begun_sunk : (broke : RelayFault) (script : Script) (dial address : List ℕ) (s t u : Told) → broke ≡ fault.Sink → Did s t (Called (Listened address true) ∷ [])
    → Did t u (Wrote (codes "relay 1\n") false ∷ []) → EndsBeginning (Err broke) address script dial s u
begun_sunk broke script dial address s t u is listened wrote =
    subst (λ (f : RelayFault). EndsBeginning (Err f) address script dial s u) (sym is)
    (λ turns. record {
      deeds = Calls (Listened address true) ∷ [];
      last = Wrote (codes "relay 1\n") false ∷ [];
      is_last = (codes "relay 1\n", refl);
      did = subst (λ (o : List Act). Did s u (o ++ Wrote (codes "relay 1\n") false ∷ [])) (sym (listened_acts address true))
          (did_then s t u (Called (Listened address true) ∷ []) (Wrote (codes "relay 1\n") false ∷ []) listened wrote);
      steady = (record { all = tt; own = tt; waits = tt }, record { all = tt; own = (tt, tt); waits = (tt, tt) });
      calls = inl refl;
    })

-- ---- turn by turn

followed_append : (xs : List SeenCall) (until : Option ℕ) (what : Happening) → AreFollowed xs → IsFollowed what → AreFollowed (xs ++ Turned until what ∷ [])
followed_append [] until what p q = (q, tt)
followed_append (x ∷ xs) until what p q = (p.0, followed_append xs until what p.1 q)

-- one turn more
more_turns : (listen : List ℕ) (count : ℕ) (until : Option ℕ) (what : Happening) (xs ys : List RelayDeed) → HasAllTurns listen count (loop_calls_in xs)
    → loop_calls_in ys ≡ Turned until what ∷ [] → IsFollowed what → HasAllTurns listen (count + 1) (loop_calls_in (xs ++ ys))
more_turns listen count until what xs ys h is followed = record {
  turned = h.turned ++ Turned until what ∷ [];
  are = loop_calls_append xs ys (Listened listen true ∷ h.turned) (Turned until what ∷ []) h.are is;
  followed = followed_append h.turned until what h.followed followed;
  count = length-append h.turned (Turned until what ∷ []) ∙ (let c : length h.turned ≡ count = h.count in omega (arith, c));
}

-- the last turn
last_turn : (listen : List ℕ) (count turns : ℕ) (until : Option ℕ) (what : Happening) (xs ys : List RelayDeed) → HasAllTurns listen count (loop_calls_in xs) → count < turns
    → loop_calls_in ys ≡ Turned until what ∷ [] → HasLastTurn what listen turns (loop_calls_in (xs ++ ys))
last_turn listen count turns until what xs ys h less is = record {
  turned = h.turned;
  until = until;
  are = loop_calls_append xs ys (Listened listen true ∷ h.turned) (Turned until what ∷ []) h.are is;
  followed = h.followed;
  fewer = let c : length h.turned ≡ count = h.count in omega (arith, c, less);
}

-- whether another follows
goes_followed : (goes : Bool) (what : Happening) → goes ≡ true → IsFollowedSo goes what → IsFollowed what
goes_followed goes what is h = subst (λ (b : Bool). IsFollowedSo b what) is h

stops_ended : (goes : Bool) (what : Happening) → goes ≡ false → IsFollowedSo goes what → what ≡ happening.Ended
stops_ended goes what is h = subst (λ (b : Bool). IsFollowedSo b what) is h

pub ran_then : (goes : Bool) (listen : List ℕ) (count : ℕ) (script : Script) (dial : List ℕ) (accepted newest : ℕ) (a b : List Link) (u v : List ℕ) (first s t : Told)
    → goes ≡ true → RanSoFar listen count script dial first s accepted u a → TurnsSo goes script dial accepted newest a b u v s t
    → RanSoFar listen (count + 1) script dial first t newest v b
ran_then goes listen count script dial accepted newest a b u v first s t is r so =
    let once = so.turns in
    record {
      deeds = r.deeds ++ once.deeds;
      performs = performs_then [] u v first s t r.deeds once.deeds r.performs once.performs;
      stands = once.holds r.deeds r.stands;
      steady = steadily_then (AreSafe script dial) [] r.deeds once.deeds r.steady (once.steady r.deeds r.stands);
      turns = more_turns listen count once.until so.what r.deeds once.deeds r.turns once.calls_are (goes_followed goes so.what is so.followed);
    }

-- all turns were done
pub ran_all : {T : Type 0} (value : T) (listen : List ℕ) (count turns : ℕ) (script : Script) (dial : List ℕ) (accepted : ℕ) (a : List Link) (u : List ℕ) (first s : Told)
    → count ≡ turns → RanSoFar listen count script dial first s accepted u a → EndsRun {T = T} (Ok value) listen turns script dial first s
ran_all value listen count turns script dial accepted a u first s all r = record {
  deeds = r.deeds;
  last = [];
  is_last = refl;
  did = subst (λ (o : List Act). Did first s o) (sym (append-nil (acts_from [] r.deeds))) r.performs.did;
  steady = r.steady;
  calls = inl (subst (λ (n : ℕ). HasAllTurns listen n (loop_calls_in r.deeds)) all r.turns);
}

-- the last turn was handled
turned_last : {T : Type 0} (result : Result T RelayFault) (what : Happening) (listen : List ℕ) (count turns : ℕ) (script : Script) (dial : List ℕ) (accepted newest : ℕ)
    (a b : List Link) (u v : List ℕ) (first s t : Told) → IsLastOf result []
    → ((calls : List SeenCall) → HasLastTurn what listen turns calls → EndsCalls result listen turns calls) → count < turns
    → RanSoFar listen count script dial first s accepted u a → TurnsOnce what script dial accepted newest a b u v s t
    → EndsRun result listen turns script dial first t
turned_last result what listen count turns script dial accepted newest a b u v first s t none ends less r once =
    let performs = performs_then [] u v first s t r.deeds once.deeds r.performs once.performs in
    record {
      deeds = r.deeds ++ once.deeds;
      last = [];
      is_last = none;
      did = subst (λ (o : List Act). Did first t o) (sym (append-nil (acts_from [] (r.deeds ++ once.deeds)))) performs.did;
      steady = steadily_then (AreSafe script dial) [] r.deeds once.deeds r.steady (once.steady r.deeds r.stands);
      calls = ends (loop_calls_in (r.deeds ++ once.deeds)) (last_turn listen count turns once.until what r.deeds once.deeds r.turns less once.calls_are);
    }

-- the wires ended
pub ran_ended : {T : Type 0} (value : T) (goes : Bool) (listen : List ℕ) (count turns : ℕ) (script : Script) (dial : List ℕ) (accepted newest : ℕ) (a b : List Link)
    (u v : List ℕ) (first s t : Told) → goes ≡ false → count < turns → RanSoFar listen count script dial first s accepted u a
    → TurnsSo goes script dial accepted newest a b u v s t → EndsRun {T = T} (Ok value) listen turns script dial first t
ran_ended value goes listen count turns script dial accepted newest a b u v first s t is less r so =
    turned_last (Ok value) happening.Ended listen count turns script dial accepted newest a b u v first s t refl (λ calls last. inr last) less r
    (subst (λ (w : Happening). TurnsOnce w script dial accepted newest a b u v s t) (stops_ended goes so.what is so.followed) so.turns)

-- it broke off in a turn
broke_last : {T : Type 0} (broke : RelayFault) (listen : List ℕ) (count turns : ℕ) (script : Script) (dial : List ℕ) (accepted : ℕ) (a : List Link) (u : List ℕ)
    (first s t : Told) → ((acts : List Act) → IsLastDone broke acts → IsLastOf {T = T} (Err broke) acts)
    → ((calls : List SeenCall) → StopsInTurn listen turns calls → EndsCalls {T = T} (Err broke) listen turns calls) → count < turns
    → RanSoFar listen count script dial first s accepted u a → BreaksInTurn broke script dial accepted a u s t
    → EndsRun {T = T} (Err broke) listen turns script dial first t
broke_last broke listen count turns script dial accepted a u first s t lasts ends less r q =
    let once = q.breaks in
    let breaks = breaks_then broke [] u first s t r.deeds once.deeds r.performs once.breaks in
    record {
      deeds = r.deeds ++ once.deeds;
      last = breaks.last;
      is_last = lasts breaks.last breaks.is_last;
      did = breaks.did;
      steady = steadily_then (AreSafe script dial) [] r.deeds once.deeds r.steady (once.steady r.deeds r.stands);
      calls = ends (loop_calls_in (r.deeds ++ once.deeds)) (record {
        what = q.what;
        last = last_turn listen count turns once.until q.what r.deeds once.deeds r.turns less once.calls_are;
      });
    }

pub run_broken : {T : Type 0} (broke : RelayFault) (listen : List ℕ) (count turns : ℕ) (script : Script) (dial : List ℕ) (accepted newest : ℕ) (a b : List Link)
    (u v : List ℕ) (first s t : Told) → count < turns → RanSoFar listen count script dial first s accepted u a
    → EndsTurn (Err broke) script dial accepted newest a b u v s t → EndsRun {T = T} (Err broke) listen turns script dial first t
run_broken fault.Wires listen count turns script dial accepted newest a b u v first s t less r once =
    turned_last (Err fault.Wires) happening.Failed listen count turns script dial accepted newest a b u v first s t refl (λ calls last. inr last) less r once
run_broken fault.Sink listen count turns script dial accepted newest a b u v first s t less r once =
    broke_last fault.Sink listen count turns script dial accepted a u first s t (λ acts is. is) (λ calls stops. inr stops) less r once
run_broken (fault.NoMemory want) listen count turns script dial accepted newest a b u v first s t less r once =
    broke_last (fault.NoMemory want) listen count turns script dial accepted a u first s t (λ acts is. is) (λ calls stops. stops) less r once

-- however the first line ends
pub ends_begun : (result : Result (Unit {0}) RelayFault) (script : Script) (dial address : List ℕ) (s t u : Told) → Did s t (Called (Listened address true) ∷ [])
    → OnOk result (Did t u (Wrote (codes "relay 1\n") true ∷ []))
    → IfErr result (λ broke. (broke ≡ fault.Sink) × Did t u (Wrote (codes "relay 1\n") false ∷ [])) → EndsBeginning result address script dial s u
ends_begun (Ok value) script dial address s t u listened wrote broke = ran_begun script dial address s t u listened wrote
ends_begun (Err fault) script dial address s t u listened wrote broke = begun_sunk fault script dial address s t u broke.0 listened broke.1
