-- A sink over a writer: what a write does to the octets that the writer holds, where it tells them (this profile).
use Rattle.std.specs.Prelude.{◌≡◌, ◌≢◌, ◌<◌, ℕ, List, Option, Some, None, Result, Ok, Err, take, length}
use Rattle.std.specs.Io.KnownBytes.{Appends}
use Rattle.std.specs.IoError.{error_kind}
use Rattle.std.specs.declared.io.Error.{Error}
use Rattle.std.specs.declared.io.ErrorKind.TheVariants.{Interrupted}
use Rattle.link_trait.specs.declared.sink.Failed.{Failed}

-- the octets that the writer holds, where it tells them, and the count of faults
pub record WriterSink : Type 0 where
  pub contents : Option (List ℕ)
  pub faults : ℕ

-- the first octets of a piece were written, and at least one wasn't
pub record WritesPart (before now : Option (List ℕ)) (piece : List ℕ) : Type 0 where
  pub count : ℕ
  pub left : count < length piece
  pub written : Appends before now (take count piece)

-- a write that is done wrote the whole piece, and one that failed a beginning of it
abbrev pub WritesPiece : Option (List ℕ) → Option (List ℕ) → List ℕ → Result (Unit {0}) Failed → Type 0
WritesPiece before now piece (Ok done) = Appends before now piece
WritesPiece before now piece (Err failed) = WritesPart before now piece

-- by how many octets a write brings the piece further: by those that it took, by none where it was interrupted, so that it is tried again;
-- and no further where it took no octet or gave any other error
abbrev pub IsWriteProgress : Result ℕ Error → Option ℕ → Type 0
IsWriteProgress (Ok taken) (Some count) = (count ≡ taken) × (0 < taken)
IsWriteProgress (Ok taken) None = taken ≡ 0
IsWriteProgress (Err error) (Some count) = (count ≡ 0) × (error_kind error ≡ Interrupted)
IsWriteProgress (Err error) None = error_kind error ≢ Interrupted
