-- The outside of the program: cabinets of files, sinks of octets, what they tell and how their faults are
-- counted (this profile). What an object holds is optional: one in memory tells it, a real one doesn't.
use Rattle.std.specs.Prelude.{◌≡◌, ℕ, ◌+◌, ◌-◌, ◌^◌, ◌≤◌, min, List, [], ◌∷◌, ◌++◌, Option, None, Some, Result, Ok, Err, OnErr, nat_lt, if◌then◌else◌}
use Rattle.std.specs.Str.{bytes_eq}
use Rattle.link_trait.specs.declared.cabinet.FetchFault.{FetchFault}
use Rattle.link_trait.specs.declared.cabinet.FetchFault.TheVariants.{Failed, NoMemory}

-- what is told grew by `more`. What isn't told never begins to be told, and it may cease to be told
abbrev pub Grew : {A : Type 0} → Option (List A) → Option (List A) → List A → Type 0
Grew None None more = Unit {0}
Grew None (Some now) more = ⊥
Grew (Some before) None more = Unit {0}
Grew (Some before) (Some now) more = now ≡ before ++ more

-- what is told grew by a beginning of `all`
pub record GrewPart {A : Type 0} (before now : Option (List A)) (all : List A) : Type 0 where
  pub part : List A
  pub rest : List A
  pub is : part ++ rest ≡ all
  pub grew : Grew before now part

-- what is told stayed as it was
abbrev pub HasStayedAsTold : {A : Type 0} → Option A → Option A → Type 0
HasStayedAsTold None None = Unit {0}
HasStayedAsTold None (Some now) = ⊥
HasStayedAsTold (Some before) None = Unit {0}
HasStayedAsTold (Some before) (Some now) = now ≡ before

-- one more; a count stays at 2^64 - 1
abbrev pub counted : ℕ → ℕ
counted n = if nat_lt n (2 ^ 64 - 1) then n + 1 else n

-- a count of faults rose, or it stands at the most that it can be
abbrev pub Rose : ℕ → ℕ → Type 0
Rose before now = min (before + 1) (2 ^ 64 - 1) ≤ now

-- a call's count of faults didn't fall, and it failed only where the count rose
pub record HasCause {T E : Type 0} (before now : ℕ) (result : Result T E) : Type 0 where
  pub later : before ≤ now
  pub failed : OnErr result (Rose before now)

-- a file's octets by its name, the first of that name among name and octets
abbrev pub file_of : List (List ℕ × List ℕ) → List ℕ → Option (List ℕ)
file_of [] name = None
file_of (file ∷ files) name = if bytes_eq name file.0 then Some file.1 else file_of files name

-- where the files are told, these octets are the file of that name
abbrev pub HasFile : Option (List (List ℕ × List ℕ)) → List ℕ → List ℕ → Type 0
HasFile None name octets = Unit {0}
HasFile (Some files) name octets = file_of files name ≡ Some octets

-- a fetch notes the name that it was asked for; where memory ran out, it may have noted it or not
abbrev pub Notes : {T : Type 0} → Result T FetchFault → Option (List (List ℕ)) → Option (List (List ℕ)) → List ℕ → Type 0
Notes (Ok _) before now name = Grew before now (name ∷ [])
Notes (Err Failed) before now name = Grew before now (name ∷ [])
Notes (Err (NoMemory want)) before now name = GrewPart before now (name ∷ [])

-- the count of faults after a fetch: one more where it failed, and want of memory is no fault
abbrev pub faults_after_fetch : {T : Type 0} → Result T FetchFault → ℕ → ℕ
faults_after_fetch (Ok _) faults = faults
faults_after_fetch (Err Failed) faults = counted faults
faults_after_fetch (Err (NoMemory want)) faults = faults

-- the count of faults after a write: one more where it failed
abbrev pub faults_after_write : {T E : Type 0} → Result T E → ℕ → ℕ
faults_after_write (Ok _) faults = faults
faults_after_write (Err _) faults = counted faults
