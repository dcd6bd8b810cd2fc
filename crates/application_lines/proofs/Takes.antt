-- What a piece says where a stream stands, and where it leads.
use Rattle.std.proofs.Common.{arith, ◌≡◌, ℕ, ◌+◌, ◌<◌, ◌≤◌, nat_lt, Bool, true, false, List, [], ◌∷◌, ◌++◌, length, take, Some, None, refl, sym}
use Rattle.std.specs.List.{slice_split}
use Rattle.std.proofs.lemmas.Bool.{le-ltb, lt-ltb}
use Rattle.er_base.specs.declared.why.Why.TheVariants.{Long}
use Rattle.er_base.specs.Words.{words_of}
use Rattle.application_lines.specs.declared.application_line.ApplicationLine.{ApplicationLine}
use Rattle.application_lines.specs.declared.application_line.ApplicationLine.TheVariants.{Faulty}
use Rattle.application_lines.specs.Requests.{request_said}
use Rattle.application_lines.specs.Streams.{is_feed, next_line_number, request_line_told, pieces_tell}
use Rattle.application_lines.specs.Standings.{LineStanding, at_last_piece, stands_behind_long, says_from, line_standing_from}
use Rattle.application_lines.specs.Taking.{line_standing_kept, cut_length, pieces_cut}

pub record Leads (s : LineStanding) (octets : List ℕ) (next : LineStanding) (lines : List ApplicationLine) : Type 0 where
  pub stands : next ≡ line_standing_from s octets
  pub says : says_from s octets ≡ lines

-- behind a line that is too long
pub passes : (s : LineStanding) (octets piece : List ℕ) (ended : Bool) → s.held ≡ None → slice_split is_feed octets ≡ pieces_cut piece ended
    → Leads s octets (stands_behind_long s.number (pieces_cut piece ended)) []
unfolding says_from line_standing_from pieces_tell
passes s octets piece true none cut = record { stands = rw (none, cut) refl; says = rw (none, cut) refl }
passes s octets piece false none cut = record { stands = rw (none, cut) refl; says = rw (none, cut) refl }

-- its LF came
pub passed : (n : ℕ) (piece : List ℕ) (ended : Bool) → ended ≡ true
    → record { number = next_line_number n; held = Some [] } ≡ stands_behind_long n (pieces_cut piece ended)
unfolding at_last_piece
passed n piece true e = refl
passed n piece false e = absurd (cc)

-- a piece makes the line too long
pub too_long : (s : LineStanding) (octets held piece : List ℕ) → s.held ≡ Some held → slice_split is_feed octets ≡ piece ∷ [] → 4096 < length (held ++ piece)
    → Leads s octets (record { number = s.number; held = None }) (Faulty s.number Long ∷ [])
unfolding says_from line_standing_from pieces_tell at_last_piece
too_long s octets held piece some cut many =
    let t : nat_lt 4096 (length (held ++ piece)) ≡ true = lt-ltb 4096 (length (held ++ piece)) many in
    record { stands = rw (some, cut, t) refl; says = rw (some, cut, t) refl }

-- the line goes on
pub goes_on : (s : LineStanding) (octets held piece : List ℕ) → s.held ≡ Some held → slice_split is_feed octets ≡ piece ∷ [] → length (held ++ piece) ≤ 4096
    → Leads s octets (record { number = s.number; held = Some (held ++ piece) }) []
unfolding says_from line_standing_from pieces_tell at_last_piece
goes_on s octets held piece some cut few =
    let f : nat_lt 4096 (length (held ++ piece)) ≡ false = le-ltb 4096 (length (held ++ piece)) few in
    record { stands = rw (some, cut, f) refl; says = rw (some, cut, f) refl }

-- the line is ended
pub ends : (s : LineStanding) (octets held piece : List ℕ) → s.held ≡ Some held → slice_split is_feed octets ≡ piece ∷ [] ∷ [] → length (held ++ piece) ≤ 4096
    → Leads s octets (record { number = next_line_number s.number; held = Some [] }) (request_line_told s.number (request_said (words_of (held ++ piece))) ∷ [])
unfolding says_from line_standing_from pieces_tell at_last_piece
ends s octets held piece some cut few =
    let f : nat_lt 4096 (length (held ++ piece)) ≡ false = le-ltb 4096 (length (held ++ piece)) few in
    record { stands = rw (some, cut) refl; says = rw (some, cut, f) refl }

-- ---- what the code keeps

pub kept_short : (n : ℕ) (held : List ℕ) (long : Bool) → long ≡ false → line_standing_kept n held long ≡ record { number = n; held = Some held }
kept_short n held true e = absurd (cc)
kept_short n held false e = refl

pub kept_long : (n : ℕ) (held : List ℕ) (long : Bool) → long ≡ true → line_standing_kept n held long ≡ record { number = n; held = None }
kept_long n held true e = refl
kept_long n held false e = absurd (cc)

-- a piece of no octets isn't taken
pub moves_on : (octets piece : List ℕ) (ended : Bool) → (ended ≡ false → piece ≡ octets) → 0 < length octets → 0 < cut_length piece ended
moves_on octets piece true all some = omega arith
moves_on octets piece false all some = rw (all refl) some

pub stands_so : (n m : ℕ) (a b : List ℕ) (s : LineStanding) → n ≡ m → a ≡ b → s ≡ record { number = n; held = Some a }
    → s ≡ record { number = m; held = Some b }
stands_so n m a b s e f g = rw (sym e, sym f) g

-- where an LF follows
pub cut_ended : (octets piece : List ℕ) (ended : Bool) → ended ≡ true
    → slice_split is_feed (take (cut_length piece ended) octets) ≡ pieces_cut piece ended
    → slice_split is_feed (take (length piece + 1) octets) ≡ piece ∷ [] ∷ []
cut_ended octets piece true e cut = cut
cut_ended octets piece false e cut = absurd (cc)
