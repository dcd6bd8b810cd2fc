-- Why the octets of a file can't be had: want of memory is told from every other error of the system (this profile).
use Rattle.std.specs.Prelude.{◌≡◌, ◌≢◌}
use Rattle.std.specs.IoError.{error_kind}
use Rattle.std.specs.declared.io.Error.{Error}
use Rattle.std.specs.declared.io.ErrorKind.TheVariants.{OutOfMemory}
use Rattle.er_program.specs.declared.file_cabinet.FileFault.{FileFault}
use Rattle.er_program.specs.declared.file_cabinet.FileFault.TheVariants as fault

abbrev pub IsFaultOf : Error → FileFault → Type 0
IsFaultOf error fault.Long = ⊥
IsFaultOf error (fault.System kept) = error_kind error ≢ OutOfMemory
IsFaultOf error (fault.NoMemory want) = error_kind error ≡ OutOfMemory
