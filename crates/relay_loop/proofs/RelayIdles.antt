-- Deeds of a relay at no socket.
use Rattle.relay_loop.specs.Settled.{SocketTold}
use Rattle.std.proofs.Common.{◌≡◌, ℕ, false, List, [], ◌∷◌, ◌++◌, Option, refl}
use Rattle.er_base.specs.declared.side.Side.{Side}
use Rattle.er_base.specs.declared.side.Side.TheVariants.{E, R}
use Rattle.link_trait.specs.declared.wires.Happening.{Happening}
use Rattle.outside.specs.Acts.{Dialled, Turned}
use Rattle.relay_script.specs.declared.script.Script.{Script}
use Rattle.relay_loop.specs.declared.link.Link.{Link}
use Rattle.relay_loop.specs.RelayLines.{RelayLine, told_by_line}
use Rattle.relay_loop.specs.Connections.{RelayedConnection}
use Rattle.relay_loop.specs.RelayDeeds.{RelayDeed, Puts, Flushes, Calls, Asks, read_by_deed, given_by_deed, closes_by_deed, octets_told_of, told_by_deed}
use Rattle.relay_loop.specs.Links.{IsUntouched, IsUntold}
use Rattle.relay_loop.specs.Rings.{behind_deed, connections_in, far_conn, AllSafe, IsOwnDeed, AllHold, HoldsRelay, SettlesBefore, AllServed, older_ones}
use Rattle.relay_loop.proofs.Elsewhere.{untouched_append, untold_append, connection_on, own_more, settle_more, connections_on, left_on}
use Rattle.relay_loop.proofs.RelayRings.{are_safe, kept_on, served_stays}

-- nothing is read or given by it, no socket is closed, and no line tells of what is given
pub record IsMute (deed : RelayDeed) : Type 0 where
  pub reads : (conn : ℕ) → read_by_deed conn deed ≡ []
  pub gives : (conn : ℕ) → given_by_deed conn deed ≡ []
  pub closes : (conn : ℕ) → closes_by_deed conn deed ≡ false
  pub sees : (conn : ℕ) (told : SocketTold) → told_by_deed conn told deed ≡ told
  pub tells : (number : ℕ) (side : Side) → octets_told_of number side (deed ∷ []) ≡ []

pub mute_untouched : (deed : RelayDeed) (conn : ℕ) → IsMute deed → IsUntouched conn (deed ∷ [])
mute_untouched deed conn m = record { unread = rw (m.reads conn) refl; ungiven = rw (m.gives conn) refl; unclosed = rw (m.closes conn) refl; silent = m.sees conn }

pub mute_untold : (deed : RelayDeed) (number : ℕ) → IsMute deed → IsUntold number (deed ∷ [])
mute_untold deed number m = record { of_e = m.tells number E; of_r = m.tells number R }

pub all_mute : (script : Script) (done : List RelayDeed) (deed : RelayDeed) (links : List Link) → IsMute deed → AllHold script done links
    → AllHold script (done ++ deed ∷ []) links
all_mute script done deed [] m hold = tt
all_mute script done deed (link ∷ links) m hold = (
  kept_on script done (deed ∷ []) link (mute_untouched deed link.e.0 m) (mute_untouched deed link.r.0 m) (mute_untold deed link.number m) hold.0,
  (hold.1.0, all_mute script done deed links m hold.1.1),
)

pub safe_mute : (script : Script) (dial : List ℕ) (done : List RelayDeed) (deed : RelayDeed) (connections : List RelayedConnection) → IsMute deed
    → AllSafe script dial done connections → AllSafe script dial (done ++ deed ∷ []) connections
safe_mute script dial done deed [] m safe = tt
safe_mute script dial done deed (one ∷ others) m safe = (
  connection_on script dial one.number one.e one.r done (deed ∷ []) (mute_untouched deed one.e m) (mute_untouched deed (far_conn one.e one.r) m)
      (mute_untold deed one.number m) safe.0,
  safe_mute script dial done deed others m safe.1,
)

pub served_mute : (script : Script) (done : List RelayDeed) (deed : RelayDeed) (links : List Link) (connections : List RelayedConnection) → IsMute deed
    → AllServed script done links connections → AllServed script (done ++ deed ∷ []) links connections
served_mute script done deed links connections m served =
    served_stays script links done (deed ∷ []) connections (λ one. mute_untouched deed one.e m) (λ one. mute_untouched deed (far_conn one.e one.r) m) served

pub mute_relay : (script : Script) (dial : List ℕ) (done : List RelayDeed) (deed : RelayDeed) (bound : ℕ) (links : List Link) → IsMute deed
    → ((before : List RelayedConnection) → behind_deed before deed ≡ before) → IsOwnDeed dial (connections_in done) deed → SettlesBefore script done deed
    → HoldsRelay script dial done bound links → HoldsRelay script dial (done ++ deed ∷ []) bound links
mute_relay script dial done deed bound links m still own settled h =
    let same : connections_in (done ++ deed ∷ []) ≡ connections_in done = connections_on done (deed ∷ []) still in
    record {
      hold = all_mute script done deed links m h.hold;
      below = rw same h.below;
      fresh = λ conn more. untouched_append conn done (deed ∷ []) (h.fresh conn more) (mute_untouched deed conn m);
      untold = rw same (λ number more. untold_append number done (deed ∷ []) (h.untold number more) (mute_untold deed number m));
      in_order = rw same h.in_order;
      paired = rw same h.paired;
      known = rw same h.known;
      safe = are_safe script dial (done ++ deed ∷ []) (connections_in done) same (safe_mute script dial done deed (connections_in done) m h.safe.all)
          (own_more dial done deed h.safe.own own) (settle_more script done deed h.safe.waits settled);
      left = rw same (left_on done (deed ∷ []) (older_ones (connections_in done)) h.left);
      dialled = rw same h.dialled;
      crowd = rw same h.crowd;
      served = rw same (served_mute script done deed links (connections_in done) m h.served);
    }

-- ---- mute deeds

pub mute_ask : (moment : ℕ) → IsMute (Asks moment)
mute_ask moment = record { reads = λ conn. refl; gives = λ conn. refl; closes = λ conn. refl; sees = λ conn told. refl; tells = λ number side. refl }

pub mute_flush : IsMute Flushes
mute_flush = record { reads = λ conn. refl; gives = λ conn. refl; closes = λ conn. refl; sees = λ conn told. refl; tells = λ number side. refl }

pub mute_turn : (until : Option ℕ) (what : Happening) → IsMute (Calls (Turned until what))
mute_turn until what = record { reads = λ conn. refl; gives = λ conn. refl; closes = λ conn. refl; sees = λ conn told. refl; tells = λ number side. refl }

pub mute_dial : (address : List ℕ) (answer : Option ℕ) → IsMute (Calls (Dialled address answer))
mute_dial address answer = record { reads = λ conn. refl; gives = λ conn. refl; closes = λ conn. refl; sees = λ conn told. refl; tells = λ number side. refl }

-- a line of what isn't given
pub mute_line : (line : RelayLine) → ((number : ℕ) (side : Side) → told_by_line number side line ≡ []) → IsMute (Puts line)
mute_line line none = record { reads = λ conn. refl; gives = λ conn. refl; closes = λ conn. refl; sees = λ conn told. refl; tells = λ number side. rw (none number side) refl }
