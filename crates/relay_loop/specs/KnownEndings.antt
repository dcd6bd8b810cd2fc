-- Known answers, worked out by hand: how small runs ended.
use Rattle.std.specs.Prelude.{true, false, Ok, Err, Some, None, List, [], ◌∷◌, codes, refl}
use Rattle.std.proofs.Common.{inl, inr, arith}
use Rattle.link_trait.specs.declared.wires.Happening.TheVariants as happening
use Rattle.outside.specs.Acts.{Listened, Turned, Act, Wrote, Called, Asked}
use Rattle.relay_loop.specs.declared.fault.RelayFault.TheVariants as fault
use Rattle.relay_loop.specs.Endings.{loop_calls_in_acts, EndsCalls, EndsWrites}

abbrev pub begun_run : List Act
begun_run = Called (Listened (codes "A") true) ∷ Wrote (codes "relay 1\n") true ∷ Called (Turned None happening.Quiet) ∷ Asked 4 ∷ []

-- one turn was asked for, and done
known_done : EndsCalls {T = Unit {0}} (Ok tt) (codes "A") 1 (loop_calls_in_acts begun_run)
known_done = inl (record { turned = Turned None happening.Quiet ∷ []; are = refl; followed = (tt, tt); count = refl })

abbrev pub ended_run : List Act
ended_run =
    Called (Listened (codes "A") true) ∷ Wrote (codes "relay 1\n") true ∷ Called (Turned None happening.Quiet) ∷ Asked 4
    ∷ Called (Turned (Some 9) happening.Ended) ∷ Asked 9 ∷ []

-- five were asked for, and at the second the wires ended
known_ended : EndsCalls {T = Unit {0}} (Ok tt) (codes "A") 5 (loop_calls_in_acts ended_run)
known_ended = inr (record { turned = Turned None happening.Quiet ∷ []; until = Some 9; are = refl; followed = (tt, tt); fewer = omega arith })

-- the listen failed
known_deaf : EndsCalls {T = Unit {0}} (Err fault.Wires) (codes "A") 5 (loop_calls_in_acts (Called (Listened (codes "A") false) ∷ []))
known_deaf = inl refl

-- the first line's write failed
abbrev pub sunk_run : List Act
sunk_run = Called (Listened (codes "A") true) ∷ Wrote (codes "relay 1\n") false ∷ []

known_sunk : EndsCalls {T = Unit {0}} (Err fault.Sink) (codes "A") 5 (loop_calls_in_acts sunk_run)
known_sunk = inl refl

known_sunk_write : EndsWrites {T = Unit {0}} (Err fault.Sink) sunk_run
known_sunk_write = record { front = Called (Listened (codes "A") true) ∷ []; piece = codes "relay 1\n"; are = refl; none = refl }

-- no write failed
known_unsunk : EndsWrites {T = Unit {0}} (Ok tt) begun_run
known_unsunk = refl
