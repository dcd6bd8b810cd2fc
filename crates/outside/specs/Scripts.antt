-- What a run is to do to the outside, as a script: its fetches and prints in their order, each behind what the ones before it were answered
-- (this profile). Memory may run out before each of them, and in a fetch, and then nothing more is done; a write that fails ends the run.
use Rattle.std.specs.Prelude.{◌≡◌, ◌⊎◌, ℕ, true, false, List, [], ◌∷◌, ◌++◌, Option, Some, None}
use Rattle.outside.specs.Acts.{Gave, Failed, Spent, Act, Fetched, Wrote, Called, Asked, Drew}
use Rattle.outside.specs.Doings.{Told, Did}

-- how a run ends: with a status, by a write that failed, or for want of memory
pub data End : Type 0 where
  With : (status : ℕ) → End
  Sunk : End
  OutOfMemory : End

pub data Script : Type 1 where
  Ends : (status : ℕ) → Script
  -- a file is asked for; what follows may rest on its octets, None where there is none
  Fetches : (name : List ℕ) → (Option (List ℕ) → Script) → Script
  -- a text of this kind is written, which may be empty: then nothing is asked of the sink
  Prints : (Is : List ℕ → Type 0) → Script → Script
  -- this holds of what was read, and then the rest is done; memory may run out as it is read
  Knowing : (Fact : Type 0) → Script → Script

-- the acts by which a text is printed
abbrev pub printing : List ℕ → List Act
printing [] = []
printing (octet ∷ octets) = Wrote (octet ∷ octets) true ∷ []

-- the acts of a script that begins with a fetch: it gave the file or none, and `Then` says what follows; or memory ran out before it or in it
unfoldable pub IsFetchThen : (name : List ℕ) → (Option (List ℕ) → List Act → Type 0) → List Act → End → Type 0
IsFetchThen name Then [] end = end ≡ OutOfMemory
IsFetchThen name Then (Fetched asked (Gave file) ∷ rest) end = (asked ≡ name) × Then (Some file) rest
IsFetchThen name Then (Fetched asked Failed ∷ rest) end = (asked ≡ name) × Then None rest
IsFetchThen name Then (Fetched asked Spent ∷ rest) end = (asked ≡ name) × (rest ≡ []) × (end ≡ OutOfMemory)
IsFetchThen name Then (Wrote piece done ∷ rest) end = ⊥
IsFetchThen name Then (Called call ∷ rest) end = ⊥
IsFetchThen name Then (Asked moment ∷ rest) end = ⊥
IsFetchThen name Then (Drew word ∷ rest) end = ⊥

-- a text of the kind was printed, and `Then` says what follows
pub record IsPrinted (Is : List ℕ → Type 0) (Then : List Act → Type 0) (acts : List Act) : Type 0 where
  pub text : List ℕ
  pub is : Is text
  pub rest : List Act
  pub acts_are : acts ≡ printing text ++ rest
  pub follows : Then rest

-- the write of a text of the kind failed, and nothing followed
pub record IsUnprinted (Is : List ℕ → Type 0) (acts : List Act) (end : End) : Type 0 where
  pub text : List ℕ
  pub is : Is text
  pub acts_are : acts ≡ Wrote text false ∷ []
  pub sunk : end ≡ Sunk

-- the acts of a script that begins with a print: the text was printed; its write failed; or memory ran out before it
abbrev pub IsPrintThen : (Is : List ℕ → Type 0) → (List Act → Type 0) → List Act → End → Type 0
IsPrintThen Is Then acts end = IsPrinted Is Then acts ⊎ IsUnprinted Is acts end ⊎ ((acts ≡ []) × (end ≡ OutOfMemory))

-- these acts are those of the script, which so ended
unfoldable pub RunsScript : Script → List Act → End → Type 0
RunsScript (Ends status) acts end = (acts ≡ []) × (end ≡ With status)
RunsScript (Fetches name next) acts end = IsFetchThen name (λ file rest. RunsScript (next file) rest end) acts end
RunsScript (Prints Is next) acts end = IsPrintThen Is (λ rest. RunsScript next rest end) acts end
RunsScript (Knowing Fact next) acts end = (Fact × RunsScript next acts end) ⊎ ((acts ≡ []) × (end ≡ OutOfMemory))

-- the script was run: these acts were done, and so it ended
pub record Does (script : Script) (before now : Told) (end : End) : Type 0 where
  pub acts : List Act
  pub did : Did before now acts
  pub runs : RunsScript script acts end

-- where what is left of a script is run, the whole was run: what a loop over the steps of a script carries along
abbrev pub LeadsOn : (whole left : Script) → (before now : Told) → Type 0
LeadsOn whole left before now = (behind : Told) (end : End) → Does left now behind end → Does whole before behind end

-- a script that is one text and a status
abbrev pub says_last : (status : ℕ) → List ℕ → Script
says_last status text = Prints (λ line. line ≡ text) (Ends status)
