-- Known answers, worked out by hand: the connections of a small run, and what is claimed of it.
use Rattle.relay_loop.specs.Settled.{SettlesBy}
use Rattle.std.specs.Prelude.{◌≡◌, true, Some, None, List, [], ◌∷◌, ◌++◌, codes, refl}
use Rattle.std.proofs.Common.{inl, inr}
use Rattle.std.specs.Fmt.{digits}
use Rattle.er_base.specs.declared.side.Side.TheVariants.{E, R}
use Rattle.er_base.specs.Hexadecimal.{hex_of}
use Rattle.er_base.specs.LineTexts.{line_text, line_end}
use Rattle.link_trait.specs.Wires as wires
use Rattle.link_trait.specs.declared.wires.Happening.TheVariants as happening
use Rattle.link_trait.specs.declared.wires.WriteAnswer.TheVariants as write_answer
use Rattle.outside.specs.Acts.{Listened, Dialled, Turned, Read, Sent, Closed, Act, Wrote, Called, Asked}
use Rattle.relay_model.specs.Units.{parts_from, standing_from}
use Rattle.relay_model.specs.Loads.{loads_from}
use Rattle.relay_model.specs.Carried.{loads_of_sent, octets_of_loads, given_of_sent, is_closed_by, carried}
use Rattle.relay_loop.specs.RelayLines.{Heading, Opening, Received, Given, SideEnd, Closing, text_of_line}
use Rattle.relay_loop.specs.Connections.{Unreached, Reached, connections_in_acts, AreOwnActs}
use Rattle.relay_loop.specs.Relays.{RelaysSoFar}

-- nobody can be dialled for the second that is accepted
abbrev second_run : List Act
second_run =
    Called (Turned None (happening.Accepted (record { 0 = 3 }))) ∷ Asked 7 ∷ Wrote (codes "> 7 2 open\n") true ∷ Called (Dialled (codes "B") None)
    ∷ Wrote (codes "> 7 2 end r\n< 7 2 closed\n") true ∷ Called (Closed 3) ∷ []

-- of what comes from the first one octet is given on, and the next two when there is room
abbrev passed_run : List Act
passed_run =
    Called (Turned None (happening.Readable (record { 0 = 1 }))) ∷ Asked 6 ∷ Called (Read 1 4096 (wires.Gave (1 ∷ 2 ∷ 3 ∷ [])))
    ∷ Wrote (codes "> 6 1 e " ++ (hex_of (1 ∷ 2 ∷ 3 ∷ []) ++ codes "\n")) true ∷ Wrote (codes "< 6 1 e " ++ (hex_of (1 ∷ 2 ∷ 3 ∷ []) ++ codes "\n")) true
    ∷ Called (Sent 2 (1 ∷ 2 ∷ 3 ∷ []) (write_answer.Some 1)) ∷ Called (Sent 2 (2 ∷ 3 ∷ []) write_answer.NotNow)
    ∷ Called (Turned None (happening.Writable (record { 0 = 2 }))) ∷ Asked 6 ∷ Called (Sent 2 (2 ∷ 3 ∷ []) (write_answer.Some 2)) ∷ second_run

-- the first that is accepted reaches another
abbrev small_run : List Act
small_run =
    Called (Listened (codes "A") true) ∷ Wrote (codes "relay 1\n") true ∷ Called (Turned None (happening.Accepted (record { 0 = 1 }))) ∷ Asked 5
    ∷ Wrote (codes "> 5 1 open\n") true ∷ Called (Dialled (codes "B") (Some 2)) ∷ passed_run

known_connections : connections_in_acts small_run
    ≡ record { number = 2; e = 3; r = Unreached (codes "B") } ∷ record { number = 1; e = 1; r = Reached (codes "B") 2 } ∷ []
known_connections = refl

-- each call belongs to one of them
known_own_second : AreOwnActs (codes "B") (record { number = 1; e = 1; r = Reached (codes "B") 2 } ∷ []) second_run
known_own_second = (tt, (tt, (tt, ((refl, refl), (tt, (inl refl, tt))))))

known_own : AreOwnActs (codes "B") (record { number = 1; e = 1; r = Reached (codes "B") 2 } ∷ []) passed_run
known_own = (tt, (tt, (inl (inl refl), (tt, (tt, (inl (inr refl), (inl (inr refl), (tt, (tt, (inl (inr refl), known_own_second))))))))))

known_run : RelaysSoFar (record { lines = [] }) (codes "B") small_run
unfolding line_text line_end digits text_of_line parts_from standing_from loads_from loads_of_sent octets_of_loads given_of_sent is_closed_by carried
known_run = record {
  lines = Heading ∷ Opening 5 1 ∷ Received 6 1 E (1 ∷ 2 ∷ 3 ∷ []) ∷ Given 6 1 E (1 ∷ 2 ∷ 3 ∷ []) ∷ Opening 7 2 ∷ SideEnd 7 2 R ∷ Closing 7 2 ∷ [];
  written = refl;
  relayed = (
    (refl, record { alone = record { unread = refl; ungiven = refl; closed = λ _. refl }; ended = λ _. refl }),
    (
      (
        refl,
        record {
          opened = refl;
          told_to_r = record { rest = []; is = refl };
          told_to_e = record { rest = []; is = refl };
          carried_of_e = record { rest = []; is = refl };
          carried_of_r = record { rest = []; is = refl };
          closed_e = λ closed. absurd cc closed;
          closed_r = λ closed. absurd cc closed;
        },
      ),
      tt,
    ),
  );
  own = (tt, (tt, (tt, (tt, (tt, ((refl, refl), known_own))))));
}

-- by the next wait all was given
known_settled : SettlesBy (record { lines = [] }) None small_run
unfolding parts_from standing_from loads_from loads_of_sent octets_of_loads given_of_sent is_closed_by carried
known_settled = record {
  settled = (refl, ((λ unfailed room unclosed undelayed. refl, λ unfailed room unclosed undelayed. refl), tt));
  dialled = (tt, (tt, tt));
}

-- what came, and nothing was written
abbrev idle_run : List Act
idle_run =
    Called (Turned None (happening.Accepted (record { 0 = 1 }))) ∷ Called (Dialled (codes "B") (Some 2))
    ∷ Called (Turned None (happening.Readable (record { 0 = 1 }))) ∷ Called (Read 1 4096 (wires.Gave (1 ∷ []))) ∷ []

known_unsettled : SettlesBy (record { lines = [] }) None idle_run → ⊥
unfolding parts_from standing_from loads_from loads_of_sent octets_of_loads given_of_sent is_closed_by carried
known_unsettled settled = let given : [] ≡ 1 ∷ [] = settled.settled.0.0 refl refl refl (inr refl) in let not : ⊥ = cc given in not
