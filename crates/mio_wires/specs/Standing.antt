-- Representation: what stands in the queue of wires over sockets, and which connections are open.
use Rattle.std.specs.Prelude.{◌≡◌, ◌≢◌, ◌<◌, ℕ, List}
use Rattle.std.specs.List.{All, Contains}
use Rattle.std.specs.VecDeque.{deque_len, deque_capacity}
use Rattle.mio_wires.specs.declared.queue.Queue.{Queue}
use Rattle.mio_wires.specs.declared.queue.Seen.{Seen}
use Rattle.mio_wires.specs.declared.queue.Seen.TheVariants as seen
use Rattle.mio_wires.specs.declared.lines.Place.{Place}

-- how many happenings stand in the queue
abbrev pub count : Queue → ℕ
count queue = deque_len queue.seen

-- this happening stands in the queue
abbrev pub StandsIn : Queue → Seen → Type 0
StandsIn queue what = Contains queue.seen.items what

-- one more happening has its place
abbrev pub HasRoomForHappening : Queue → Type 0
HasRoomForHappening queue = deque_len queue.seen < deque_capacity queue.seen

-- the connection of this number is open
abbrev pub IsConnectionOpen : List Place → ℕ → Type 0
IsConnectionOpen places number = (place : Place) × Contains places place × (place.number ≡ number)

-- the connection of this number is open, and has this slot
abbrev pub HasSlot : List Place → ℕ → ℕ → Type 0
HasSlot places number slot = (place : Place) × Contains places place × (place.number ≡ number) × (place.slot ≡ slot)

-- no connection of this number is open
abbrev pub IsClosed : List Place → ℕ → Type 0
IsClosed places number = All (λ place. place.number ≢ number) places

-- a happening is the listener's, of where the application comes, or of a connection that is open
abbrev pub IsOfOpen : List Place → Seen → Type 0
IsOfOpen places seen.Listener = Unit {0}
IsOfOpen places seen.Door = Unit {0}
IsOfOpen places (seen.Readable number) = IsConnectionOpen places number
IsOfOpen places (seen.Writable number) = IsConnectionOpen places number
