-- Representation: what the reading calls answer, want of memory aside; no claim rests on it.
use Rattle.std.specs.Prelude.{ℕ, ◌==◌, List, length, Result, Ok}
use Rattle.er_base.specs.declared.why.Why.{Why}
use Rattle.er_base.specs.declared.why.Why.TheVariants.{Count}
use Rattle.er_base.specs.Arguments.{◌>>=◌}
use Rattle.er_base.specs.LineFaults.{demand, values_of}
use Rattle.application_lines.specs.declared.request.Request.{Request}
use Rattle.application_lines.specs.declared.request_name.RequestName.{RequestName}
use Rattle.application_lines.specs.Requests.{request_argument_of, request_kinds, request_made}

-- no word stands behind the first one
abbrev pub none_behind : List (List ℕ) → Result (Unit {0}) Why
none_behind words = demand (length words == 0) Count

-- what a line asks for whose first word begins it, from the words behind that
abbrev pub request_behind : RequestName → List (List ℕ) → Result Request Why
request_behind name words =
    demand (length words == length (request_kinds name)) Count
    >>= λ _. (values_of request_argument_of (request_kinds name) words >>= λ values. Ok (request_made name values))
