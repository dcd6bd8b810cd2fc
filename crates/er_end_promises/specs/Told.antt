-- What calls told, by kind, among their outcomes.
use Rattle.std.specs.Prelude.{ℕ, List, [], ◌∷◌, ◌++◌}
use Rattle.er_end_model.specs.Outcomes.{Outcome, ConnectedTo, Accepted, Taken, NothingToTake, Refused, WasReleased, Octets}

-- the messages that the user took
abbrev pub messages_taken : List Outcome → List (List ℕ)
messages_taken [] = []
messages_taken (ConnectedTo peer ∷ outcomes) = messages_taken outcomes
messages_taken (Accepted message ∷ outcomes) = messages_taken outcomes
messages_taken (Taken message ∷ outcomes) = message ∷ messages_taken outcomes
messages_taken (NothingToTake ∷ outcomes) = messages_taken outcomes
messages_taken (Refused refusal ∷ outcomes) = messages_taken outcomes
messages_taken (WasReleased release ∷ outcomes) = messages_taken outcomes
messages_taken (Octets octets ∷ outcomes) = messages_taken outcomes

-- the octets that went to the line
abbrev pub octets_for_line : List Outcome → List ℕ
octets_for_line [] = []
octets_for_line (ConnectedTo peer ∷ outcomes) = octets_for_line outcomes
octets_for_line (Accepted message ∷ outcomes) = octets_for_line outcomes
octets_for_line (Taken message ∷ outcomes) = octets_for_line outcomes
octets_for_line (NothingToTake ∷ outcomes) = octets_for_line outcomes
octets_for_line (Refused refusal ∷ outcomes) = octets_for_line outcomes
octets_for_line (WasReleased release ∷ outcomes) = octets_for_line outcomes
octets_for_line (Octets octets ∷ outcomes) = octets ++ octets_for_line outcomes
