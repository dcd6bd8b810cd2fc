-- How the answer to a key file ends, from how its parts end.
use Rattle.std.proofs.Common.{ℕ, List, [], Option, Some, None, Result, Ok, Err, refl}
use Rattle.key_store.specs.KeyFiles.{keys_of}
use Rattle.link_trait.specs.Outside.{HasFile}
use Rattle.er_program.specs.Commands.{Migrate}
use Rattle.er_statuses.specs.LastLines.{fetch_line}
use Rattle.er_statuses.specs.Answers.{Answer, Files}
use Rattle.er_program.specs.Answers.{IsKeysAnswer}
use Rattle.er_program.specs.KeyWriting.{GivesOne}
use Rattle.er_statuses.specs.Writing.{GivesAnswer, EndsUnfetched}
use Rattle.er_program.specs.Writing.{EndsCommand}
use Rattle.er_statuses.specs.declared.status.Status.{Status}
use Rattle.er_statuses.specs.declared.stop.Stop.{Stop}
use Rattle.er_statuses.specs.declared.stop.Stop.TheVariants as stop

-- one answer of its kind
pub gives_one : (Is : Answer → Type 0) (a : Answer) (before now : Option (List ℕ)) (f g : ℕ) (r : Result Status Stop)
    → Is a → GivesAnswer a before now f g r → GivesOne Is before now f g r
gives_one Is a before now f g (Ok s) is gives = record { answer = a; is = is; stated = gives.0; printed = gives.1; later = gives.2 }
gives_one Is a before now f g (Err stop.Sink) is gives = record { answer = a; is = is; part = gives.0; rose = gives.1 }
gives_one Is a before now f g (Err (stop.NoMemory want)) is gives = gives

-- ---- the file word

pub ends_migrated : (name file : List ℕ) (files : Files) (c d : ℕ) (before now : Option (List ℕ)) (f g : ℕ) (r : Result Status Stop)
    → HasFile files name file → GivesOne (IsKeysAnswer (keys_of file)) before now f g r → EndsCommand (Migrate name) files c d before now f g r
ends_migrated name file files c d before now f g (Ok s) stands ends = record {
  answer = ends.answer;
  is = record { fetched = Some file; stands = stands; is = ends.is };
  stated = ends.stated;
  printed = ends.printed;
  later = ends.later;
}
ends_migrated name file files c d before now f g (Err stop.Sink) stands ends = record {
  answer = ends.answer;
  is = record { fetched = Some file; stands = stands; is = ends.is };
  part = ends.part;
  rose = ends.rose;
}
ends_migrated name file files c d before now f g (Err (stop.NoMemory want)) stands ends =
    record { text = []; first = refl; printed = ends.0; later = ends.1 }

pub ends_migrate_unfetched : (name : List ℕ) (files : Files) (c d : ℕ) (before now : Option (List ℕ)) (f g : ℕ) (r : Result Status Stop)
    → EndsUnfetched name c d before now f g r → EndsCommand (Migrate name) files c d before now f g r
ends_migrate_unfetched name files c d before now f g (Ok status) ends = record {
  answer = record { status = 2; text = fetch_line name };
  is = record { fetched = None; stands = ends.0; is = refl };
  stated = ends.1;
  printed = ends.2;
  later = ends.3;
}
ends_migrate_unfetched name files c d before now f g (Err stop.Sink) ends = record {
  answer = record { status = 2; text = fetch_line name };
  is = record { fetched = None; stands = ends.0; is = refl };
  part = ends.1;
  rose = ends.2;
}
ends_migrate_unfetched name files c d before now f g (Err (stop.NoMemory want)) ends =
    record { text = []; first = refl; printed = ends.0; later = ends.1 }
