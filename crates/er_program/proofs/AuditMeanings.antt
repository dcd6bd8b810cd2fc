-- What a run of `audit` means by its status, from how it ended.
use Rattle.std.proofs.Common.{◌≡◌, ℕ, Bool, inl, inr, List, Option, Some, None, Result, Ok, Err, refl, arith}
use Rattle.er_base.specs.declared.text_fault.TextFault.{TextFault}
use Rattle.er_base.specs.declared.text_fault.TextFault.TheVariants as text
use Rattle.er_base.specs.declared.why.Why.{Why}
use Rattle.er_tap.specs.declared.tap.Tap.{Tap}
use Rattle.er_tap.specs.Files.{tap_of}
use Rattle.safety_automaton.specs.Keys.{KmacEntry, key_at}
use Rattle.key_store.specs.KeyFiles.{keys_of}
use Rattle.tap_model.specs.Lines.{TapFault, NoLinkAt, TwiceAt, fault_of_tap_lines}
use Rattle.tap_model.specs.EndTexts.{text_of_audit}
use Rattle.link_trait.specs.Outside.{Grew, HasFile}
use Rattle.er_program.specs.Asking.{AskedNames}
use Rattle.er_program.specs.AuditRuns.{SpellTap, HasTapStatus, tap_fault_line}
use Rattle.er_program.specs.Runs.{HasKeyedStatus}
use Rattle.er_program.specs.Commands.{Audit}
use Rattle.er_statuses.specs.LastLines.{fault_line, memory_line, why_word}
use Rattle.er_statuses.specs.Answers.{Files}
use Rattle.er_program.specs.Answers.{lines_answer, tap_answer}
use Rattle.er_program.specs.FileMeans.{FileMeans}

-- ---- the tap

means_out_of_form : (ends : Bool) (keys_name name key_file file : List ℕ) (known : List KmacEntry) (line : ℕ) (why : Why) (files : Files) (p q : AskedNames) (c d f g : ℕ) (before now : Option (List ℕ)) (status : ℕ)
    → HasFile files keys_name key_file → keys_of key_file ≡ Ok known → HasFile files name file → tap_of file ≡ Err (text.At line why)
    → HasKeyedStatus (HasTapStatus ends) keys_name name files status → status ≡ 3 → Grew before now (fault_line line (why_word why))
    → FileMeans (Audit keys_name name ends) files p q c d f g before now status
means_out_of_form ends keys_name name key_file file known line why files p q c d f g before now status keys_stand keys_are stands unspelled has is printed = record {
  known = inr (inr (inr (inl is)));
  done = λ h. absurd (omega arith);
  usage = λ h. absurd (omega arith);
  fetch = λ h. absurd (omega arith);
  refused = λ h. inl (record {
    key_file = key_file;
    keys_stand = keys_stand;
    entries = known;
    keys_spelled = keys_are;
    file = file;
    stands = stands;
    line = line;
    why = why;
    unspelled = unspelled;
    written = printed;
  });
  keys = λ h. absurd (omega arith);
  sink = λ h. absurd (omega arith);
  memory = λ h. absurd (omega arith);
  overfull = λ h. absurd (omega arith);
  unlike = λ h. absurd (omega arith);
  complete = λ good fine. inl has;
}

means_refused : (ends : Bool) (keys_name name : List ℕ) (known : List KmacEntry) (tap : Tap) (why : TapFault) (files : Files) (p q : AskedNames) (c d f g : ℕ) (before now : Option (List ℕ)) (status : ℕ)
    → SpellTap keys_name name files known tap → fault_of_tap_lines tap.lines ≡ Some why → HasKeyedStatus (HasTapStatus ends) keys_name name files status
    → status ≡ 3 → Grew before now (tap_fault_line why) → FileMeans (Audit keys_name name ends) files p q c d f g before now status
means_refused ends keys_name name known tap why files p q c d f g before now status spell first has is printed = record {
  known = inr (inr (inr (inl is)));
  done = λ h. absurd (omega arith);
  usage = λ h. absurd (omega arith);
  fetch = λ h. absurd (omega arith);
  refused = λ h. inr (record { entries = known; tap = tap; spell = spell; fault = why; first = first; written = printed });
  keys = λ h. absurd (omega arith);
  sink = λ h. absurd (omega arith);
  memory = λ h. absurd (omega arith);
  overfull = λ h. absurd (omega arith);
  unlike = λ h. absurd (omega arith);
  complete = λ good fine. inl has;
}

means_all : (ends : Bool) (keys_name name : List ℕ) (known : List KmacEntry) (tap : Tap) (files : Files) (p q : AskedNames) (c d f g : ℕ) (before now : Option (List ℕ)) (status : ℕ)
    → SpellTap keys_name name files known tap → fault_of_tap_lines tap.lines ≡ None → HasKeyedStatus (HasTapStatus ends) keys_name name files status
    → status ≡ 0 → Grew before now (text_of_audit ends (key_at known) tap.lines) → FileMeans (Audit keys_name name ends) files p q c d f g before now status
means_all ends keys_name name known tap files p q c d f g before now status spell in_order has is printed = record {
  known = inl is;
  done = λ h. record { entries = known; tap = tap; spell = spell; in_order = in_order; written = printed };
  usage = λ h. absurd (omega arith);
  fetch = λ h. absurd (omega arith);
  refused = λ h. absurd (omega arith);
  keys = λ h. absurd (omega arith);
  sink = λ h. absurd (omega arith);
  memory = λ h. absurd (omega arith);
  overfull = λ h. absurd (omega arith);
  unlike = λ h. absurd (omega arith);
  complete = λ good fine. inl has;
}

-- by the first line that doesn't stand in order, if there is one
means_lines : (ends : Bool) (keys_name name : List ℕ) (known : List KmacEntry) (tap : Tap) (first : Option TapFault) (files : Files) (p q : AskedNames) (c d f g : ℕ) (before now : Option (List ℕ)) (status : ℕ)
    → SpellTap keys_name name files known tap → fault_of_tap_lines tap.lines ≡ first → HasKeyedStatus (HasTapStatus ends) keys_name name files status
    → status ≡ (lines_answer ends (key_at known) tap.lines first).status → Grew before now (lines_answer ends (key_at known) tap.lines first).text
    → FileMeans (Audit keys_name name ends) files p q c d f g before now status
means_lines ends keys_name name known tap None files p q c d f g before now status spell in_order has is printed =
    means_all ends keys_name name known tap files p q c d f g before now status spell in_order has is printed
means_lines ends keys_name name known tap (Some (NoLinkAt line n)) files p q c d f g before now status spell first has is printed =
    means_refused ends keys_name name known tap (NoLinkAt line n) files p q c d f g before now status spell first has is printed
means_lines ends keys_name name known tap (Some (TwiceAt line n)) files p q c d f g before now status spell first has is printed =
    means_refused ends keys_name name known tap (TwiceAt line n) files p q c d f g before now status spell first has is printed

pub means_tap : (ends : Bool) (keys_name name key_file file : List ℕ) (known : List KmacEntry) (read : Result Tap TextFault) (files : Files) (p q : AskedNames) (c d f g : ℕ) (before now : Option (List ℕ)) (status : ℕ)
    → HasFile files keys_name key_file → keys_of key_file ≡ Ok known → HasFile files name file → tap_of file ≡ read
    → HasKeyedStatus (HasTapStatus ends) keys_name name files status
    → (status ≡ 7 → Grew before now memory_line → FileMeans (Audit keys_name name ends) files p q c d f g before now status)
    → status ≡ (tap_answer ends known read).status → Grew before now (tap_answer ends known read).text
    → FileMeans (Audit keys_name name ends) files p q c d f g before now status
means_tap ends keys_name name key_file file known (Err (text.At line why)) files p q c d f g before now status keys_stand keys_are stands is has forgot stated printed =
    means_out_of_form ends keys_name name key_file file known line why files p q c d f g before now status keys_stand keys_are stands is has stated printed
means_tap ends keys_name name key_file file known (Err (text.NoMemory want)) files p q c d f g before now status keys_stand keys_are stands is has forgot stated printed =
    forgot stated printed
means_tap ends keys_name name key_file file known (Ok tap) files p q c d f g before now status keys_stand keys_are stands is has forgot stated printed =
    means_lines ends keys_name name known tap (fault_of_tap_lines tap.lines) files p q c d f g before now status
    (record {
      key_file = key_file;
      keys_stand = keys_stand;
      keys_spelled = keys_are;
      file = file;
      stands = stands;
      spelled = is;
    })
    refl has stated printed
