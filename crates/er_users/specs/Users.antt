-- The user of a safe connection (this profile): its mind, what it hears, and the relation that says, by the kind of its mind, what
-- it says and which mind it has then. What it heard so far is an optional meaning: a user may tell it.
use Rattle.std.specs.Prelude.{◌≡◌, ℕ, ◌+◌, ◌-◌, ◌^◌, ◌==◌, Bool, List, [], ◌∷◌, ◌++◌, length, Option, None, Some, nat_lt, if◌then◌else◌}
use Rattle.std.specs.Fmt.{decimal}
use Rattle.er_end_model.specs.Outcomes.{SendRefusal}
use Rattle.er_users.specs.Saying.{SpokenByUser}

-- the kinds of users; the last are those that a caller makes
pub data UserKind : Type 0 where
  Echo : UserKind
  Tally : UserKind
  Lister : UserKind
  Silent : UserKind
  Callers : UserKind

-- what a user hears: that the connection was made, with the peer's number; a message; that a text of its own was refused, and why; that it
-- was released
pub data Heard : Type 0 where
  Connected : (peer : ℕ) → Heard
  Message : (text : List ℕ) → Heard
  Refused : (text : List ℕ) (why : SendRefusal) → Heard
  Released : (reason sub : ℕ) (by_peer : Bool) → Heard

-- a user as plain data: its kind, a count, a list of texts, and what it tells that it heard, in order, where it tells that
pub record Mind : Type 0 where
  pub kind : UserKind
  pub count : ℕ
  pub texts : List (List ℕ)
  pub told : Option (List Heard)

-- the mind of a kind as it is made: the four kinds tell nothing
abbrev pub mind_of : UserKind → List (List ℕ) → Mind
mind_of kind texts = record { kind = kind; count = 0; texts = texts; told = None }

-- what is told behind something that was heard: a user that tells what it heard tells this behind it, and one that doesn't never begins to
abbrev pub tells_more : Option (List Heard) → Heard → Option (List Heard)
tells_more None heard = None
tells_more (Some before) heard = Some (before ++ heard ∷ [])

-- the same mind, which heard this
abbrev pub noting : Heard → Mind → Mind
noting heard mind = record mind { told = tells_more mind.told heard }

-- the mind that a user has behind what it heard, and its replies: texts, and the sub-reason with which it leaves
pub record Said : Type 0 where
  pub mind : Mind
  pub texts : List (List ℕ)
  pub leave : Option ℕ

-- this mind, and no reply
abbrev pub quiet : Mind → Said
quiet mind = record { mind = mind; texts = []; leave = None }

-- the same mind, and these texts
abbrev pub says : Mind → List (List ℕ) → Said
says mind texts = record { mind = mind; texts = texts; leave = None }

-- one more; a count stays at 2^64 - 1
abbrev pub counted : ℕ → ℕ
counted n = if nat_lt n (2 ^ 64 - 1) then n + 1 else n

-- the mind with its count one higher
abbrev pub counting : Mind → Mind
counting mind = record mind { count = counted mind.count }

-- an Echo says each message back
abbrev pub echo : Mind → Heard → Said
echo mind (Connected peer) = quiet mind
echo mind (Message text) = says mind (text ∷ [])
echo mind (Refused text why) = quiet mind
echo mind (Released reason sub by_peer) = quiet mind

-- a Tally says how many messages it heard, this one included
abbrev pub tally : Mind → Heard → Said
tally mind (Connected peer) = quiet mind
tally mind (Message text) = says (counting mind) (decimal (counted mind.count) ∷ [])
tally mind (Refused text why) = quiet mind
tally mind (Released reason sub by_peer) = quiet mind

-- a Lister says its texts when it is connected, and leaves with sub-reason 0 at the message that makes the count of messages equal
-- to the count of texts
abbrev pub lister : Mind → Heard → Said
lister mind (Connected peer) = says mind mind.texts
lister mind (Message text) = record {
  mind = counting mind;
  texts = [];
  leave = if counted mind.count == length mind.texts then Some 0 else None;
}
lister mind (Refused text why) = quiet mind
lister mind (Released reason sub by_peer) = quiet mind

-- a kind of a caller's own says anything, and has any mind then: `free`. To a refusal nobody replies, and no mind changes
abbrev pub callers : Mind → Heard → Said → Said
callers mind (Connected peer) free = free
callers mind (Message text) free = free
callers mind (Refused text why) free = quiet mind
callers mind (Released reason sub by_peer) free = free

-- and it tells that it heard this, where it tells what it hears
abbrev pub telling : Mind → Heard → Said → Said
telling mind heard a = record a { mind = record a.mind { told = tells_more mind.told heard } }

-- what a user says to what it hears, by its kind
unfoldable pub said : UserKind → Mind → Heard → Said → Said
said Echo mind heard free = telling mind heard (echo mind heard)
said Tally mind heard free = telling mind heard (tally mind heard)
said Lister mind heard free = telling mind heard (lister mind heard)
said Silent mind heard free = telling mind heard (quiet mind)
said Callers mind heard free = telling mind heard (callers mind heard free)

-- a user of this mind that hears this has that mind then, and these are its replies
abbrev pub Hears : Mind → Heard → Mind → SpokenByUser → Type 0
Hears mind heard now spoken =
    let free : Said = record { mind = now; texts = spoken.texts; leave = spoken.leave } in
    said mind.kind mind heard free ≡ free
