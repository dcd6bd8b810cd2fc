-- What is claimed of a run of `audit`, by its status (this profile): the lines of the audit were all written, or the key file, the tap or one
-- of its lines is refused, or memory ran out.
use Rattle.std.specs.Prelude.{◌≡◌, ℕ, Bool, List, ◌++◌, Option, Some, None, Ok, Err, codes}
use Rattle.er_base.specs.declared.why.Why.{Why}
use Rattle.er_base.specs.declared.text_fault.TextFault.TheVariants.{At}
use Rattle.er_tap.specs.declared.tap.Tap.{Tap}
use Rattle.er_tap.specs.Files.{tap_of}
use Rattle.safety_automaton.specs.Keys.{KmacEntry, key_at}
use Rattle.key_store.specs.KeyFiles.{keys_of}
use Rattle.link_trait.specs.Outside.{Grew, HasFile}
use Rattle.tap_model.specs.Lines.{TapFault, NoLinkAt, TwiceAt, fault_of_tap_lines}
use Rattle.tap_model.specs.EndTexts.{text_of_audit}
use Rattle.er_statuses.specs.Answers.{Files}
use Rattle.er_program.specs.Answers.{tap_answer}
use Rattle.er_statuses.specs.LastLines.{fault_line, why_word}

-- the file of the first name is a key file with these entries, and that of the second one spells this tap
pub record SpellTap (keys name : List ℕ) (files : Files) (entries : List KmacEntry) (tap : Tap) : Type 0 where
  pub key_file : List ℕ
  pub keys_stand : HasFile files keys key_file
  pub keys_spelled : keys_of key_file ≡ Ok entries
  pub file : List ℕ
  pub stands : HasFile files name file
  pub spelled : tap_of file ≡ Ok tap

-- status 0: the lines of the tap stand in order, and exactly the lines of its audit were written, those of ends where they are asked for
pub record Audited (ends : Bool) (keys name : List ℕ) (files : Files) (before now : Option (List ℕ)) : Type 0 where
  pub entries : List KmacEntry
  pub tap : Tap
  pub spell : SpellTap keys name files entries tap
  pub in_order : fault_of_tap_lines tap.lines ≡ None
  pub written : Grew before now (text_of_audit ends (key_at entries) tap.lines)

-- status 3: the key file is good, and the file of the second name is out of the grammar of taps: its first fault, which is printed alone
pub record IsTapOutOfForm (keys name : List ℕ) (files : Files) (before now : Option (List ℕ)) : Type 0 where
  pub key_file : List ℕ
  pub keys_stand : HasFile files keys key_file
  pub entries : List KmacEntry
  pub keys_spelled : keys_of key_file ≡ Ok entries
  pub file : List ℕ
  pub stands : HasFile files name file
  pub line : ℕ
  pub why : Why
  pub unspelled : tap_of file ≡ Err (At line why)
  pub written : Grew before now (fault_line line (why_word why))

-- the line of a tap's fault: no line before opened the link, or one did
abbrev pub tap_fault_line : TapFault → List ℕ
tap_fault_line (NoLinkAt line n) = fault_line line (codes "nolink")
tap_fault_line (TwiceAt line n) = fault_line line (codes "twice")

-- or a line of the tap doesn't stand in order, the first such, whose line is printed alone
pub record IsTapLineRefused (keys name : List ℕ) (files : Files) (before now : Option (List ℕ)) : Type 0 where
  pub entries : List KmacEntry
  pub tap : Tap
  pub spell : SpellTap keys name files entries tap
  pub fault : TapFault
  pub first : fault_of_tap_lines tap.lines ≡ Some fault
  pub written : Grew before now (tap_fault_line fault)

-- status 7: a beginning of the lines of the audit, where those of the tap stand in order
pub record FirstAuditText (ends : Bool) (keys name : List ℕ) (files : Files) (text : List ℕ) : Type 0 where
  pub entries : List KmacEntry
  pub tap : Tap
  pub spell : SpellTap keys name files entries tap
  pub in_order : fault_of_tap_lines tap.lines ≡ None
  pub rest : List ℕ
  pub is : text ++ rest ≡ text_of_audit ends (key_at entries) tap.lines

-- ---- completeness

-- a tap's status is that of its answer: 0 where it is in its grammar and its lines stand in order
pub record HasTapStatus (ends : Bool) (entries : List KmacEntry) (name : List ℕ) (files : Files) (status : ℕ) : Type 0 where
  pub file : List ℕ
  pub stands : HasFile files name file
  pub is : status ≡ (tap_answer ends entries (tap_of file)).status
