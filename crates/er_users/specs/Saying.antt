-- What a user says in answer to what it hears (this profile): at most eight texts of 1 to 1,023 octets, in their order, and whether
-- it leaves, with which sub-reason.
use Rattle.std.specs.Prelude.{ℕ, ◌≤◌, ◌&&◌, Bool, List, [], ◌++◌, ◌∷◌, length, Option, None, nat_lt, if◌then◌else◌}

pub record SpokenByUser : Type 0 where
  pub texts : List (List ℕ)
  pub leave : Option ℕ

-- nothing was said
abbrev pub nothing : SpokenByUser
nothing = record { texts = []; leave = None }

-- a text has 1 to 1,023 octets
abbrev pub IsText : List ℕ → Type 0
IsText text = (1 ≤ length text) × (length text ≤ 1023)

-- the same as a test
abbrev pub is_text : List ℕ → Bool
is_text text = nat_lt 0 (length text) && nat_lt (length text) 1024

-- one text more may be said
abbrev pub may_say : SpokenByUser → List ℕ → Bool
may_say spoken text = nat_lt (length spoken.texts) 8 && is_text text

-- what was said, and this text behind it, where it may be said
abbrev pub said_more : SpokenByUser → List ℕ → SpokenByUser
said_more spoken text = if may_say spoken text then record spoken { texts = spoken.texts ++ text ∷ [] } else spoken
