-- Contract: what stays of links at which nothing comes.
use Rattle.std.specs.Prelude.{◌≡◌, List}
use Rattle.std.specs.List.{AllZip}
use Rattle.application_loop.specs.declared.link.Link.{Link}

-- at most it changes what is to be done at it next
pub record StaysAtLink (old new : Link) : Type 0 where
  pub number : new.number ≡ old.number
  pub end : new.end.value ≡ old.end.value
  pub output : new.output.items ≡ old.output.items
  pub peer : new.peer ≡ old.peer
  pub broken : new.broken ≡ old.broken

abbrev pub LinksStay : (old new : List Link) → Type 0
LinksStay old new = AllZip StaysAtLink old new
