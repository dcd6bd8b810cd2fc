-- Representation: what a side of a safe connection of the code tells of an event; no claim rests on it.
use Rattle.std.specs.Prelude.{ℕ, List, [], ◌∷◌, Option, Some, None}
use Rattle.des_block.specs.declared.triple_key.TripleKey.{TripleKey}
use Rattle.safety_automaton.specs.Reports.{KeptSafe, Report, ToldAnswered, ToldConnected, ToldAccepted, ToldReleased, ToldIgnored}
use Rattle.drill_model.specs.Outcomes.{DrillOutcome}
use Rattle.drill_model.specs.Ends.{EndAtLevel}
use Rattle.drill_ends.specs.declared.told.Told.{Told}
use Rattle.drill_ends.specs.declared.told.Told.TheVariants as told
use Rattle.drill_ends.specs.declared.safe_end.Checked.{Checked}
use Rattle.drill_ends.specs.declared.drill_end.DrillEnd.TheVariants as code
use Rattle.drill_ends.specs.KeptEnds.{EndWent}

-- a side went on so, and told its outcomes
abbrev pub SafeWent : KeptSafe → List Told → EndAtLevel × List DrillOutcome → Type 0
SafeWent new list a = EndWent (code.Safe new) list a

-- a text that verified and its keys, where there are both
abbrev pub checked_text : Option (List ℕ) → Option TripleKey → Option Checked
checked_text None session = None
checked_text (Some text) None = None
checked_text (Some text) (Some key) = Some (record { key = key; text = text })

-- what is told of received octets
abbrev pub told_report : Report → Option Checked → List Told
told_report ToldAnswered None = []
told_report ToldAnswered (Some checked) = told.Verified checked.key checked.text ∷ []
told_report (ToldConnected peer) None = []
told_report (ToldConnected peer) (Some checked) = told.Connected peer checked.key checked.text ∷ []
told_report (ToldAccepted user) None = []
told_report (ToldAccepted user) (Some checked) = told.Accepted user checked.key checked.text ∷ []
told_report (ToldReleased release) None = told.Released release ∷ []
told_report (ToldReleased release) (Some checked) = told.Released release ∷ []
told_report ToldIgnored None = []
told_report ToldIgnored (Some checked) = []

-- a text that was sealed
abbrev pub told_sealed : Option (List ℕ) → Option TripleKey → List Told
told_sealed None session = []
told_sealed (Some text) None = []
told_sealed (Some text) (Some key) = told.Sealed key text ∷ []

-- octets that were written
abbrev pub told_written : List ℕ → List Told
told_written [] = []
told_written (octet ∷ octets) = told.Frame (octet ∷ octets) ∷ []
