-- Lemmas: how a run ends without a file; for the proofs of the crates above.
use Rattle.std.proofs.Common.{ℕ, List, Option, Result, Ok, Err}
use Rattle.link_trait.specs.Outside.{Rose}
use Rattle.er_statuses.specs.LastLines.{fetch_line}
use Rattle.er_statuses.specs.Writing.{GivesAnswer, EndsUnfetched}
use Rattle.er_statuses.specs.declared.status.Status.{Status}
use Rattle.er_statuses.specs.declared.stop.Stop.{Stop}
use Rattle.er_statuses.specs.declared.stop.Stop.TheVariants as stop

pub ends_unfetched : (name : List ℕ) (c d : ℕ) (before now : Option (List ℕ)) (f g : ℕ) (r : Result Status Stop)
    → Rose c d → GivesAnswer (record { status = 2; text = fetch_line name }) before now f g r → EndsUnfetched name c d before now f g r
ends_unfetched name c d before now f g (Ok s) rose gives = (rose, gives.0, gives.1, gives.2)
ends_unfetched name c d before now f g (Err stop.Sink) rose gives = (rose, gives.0, gives.1)
ends_unfetched name c d before now f g (Err (stop.NoMemory want)) rose gives = (gives.0, gives.1)
