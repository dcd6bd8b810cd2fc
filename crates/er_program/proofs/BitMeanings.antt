-- What a run of `bits` means by its status, from how it ended.
use Rattle.std.proofs.Common.{◌≡◌, ℕ, ◌<◌, ◌≤◌, inl, inr, List, [], ◌∷◌, length, Option, Some, None, refl, subst, ◌∙◌, ap, arith}
use Rattle.std.specs.Prelude.{codes}
use Rattle.std.proofs.lemmas.Bool.{cases_lt, lt-ltb, le-ltb}
use Rattle.link_trait.specs.Outside.{Grew, HasFile}
use Rattle.er_program.specs.Commands.{Bits}
use Rattle.er_statuses.specs.LastLines.{fault_line}
use Rattle.er_statuses.specs.Answers.{Answer, Files, HasFetched}
use Rattle.er_program.specs.Answers.{IsFetchedBits, bits_answer}
use Rattle.er_program.specs.BitTexts.{most_line_octets, bits_text}
use Rattle.er_program.specs.FileMeans.{FileMeans}

abbrev Names : Type 0
Names = Option (List (List ℕ))

means_read : (name file : List ℕ) (files : Files) (p q : Names) (c d f g : ℕ) (before now : Option (List ℕ)) (status : ℕ)
    → HasFile files name file → length file ≤ most_line_octets → status ≡ (bits_answer file).status → status ≡ 0 → Grew before now (bits_text file) → FileMeans (Bits name) files p q c d f g before now status
means_read name file files p q c d f g before now status stands short has is printed = record {
  known = inl is;
  done = λ h. record { file = file; stands = stands; short = short; printed = printed };
  usage = λ h. absurd (omega arith);
  fetch = λ h. absurd (omega arith);
  refused = λ h. absurd (omega arith);
  keys = λ h. absurd (omega arith);
  sink = λ h. absurd (omega arith);
  memory = λ h. absurd (omega arith);
  overfull = λ h. absurd (omega arith);
  unlike = λ h. absurd (omega arith);
  complete = λ good fine. inl (file, stands, has);
}

means_long : (name file : List ℕ) (files : Files) (p q : Names) (c d f g : ℕ) (before now : Option (List ℕ)) (status : ℕ)
    → HasFile files name file → most_line_octets < length file → status ≡ (bits_answer file).status → status ≡ 3 → Grew before now (fault_line 0 (codes "long")) → FileMeans (Bits name) files p q c d f g before now status
means_long name file files p q c d f g before now status stands long has is printed = record {
  known = inr (inr (inr (inl is)));
  done = λ h. absurd (omega arith);
  usage = λ h. absurd (omega arith);
  fetch = λ h. absurd (omega arith);
  refused = λ h. record { file = file; stands = stands; long = long; printed = printed };
  keys = λ h. absurd (omega arith);
  sink = λ h. absurd (omega arith);
  memory = λ h. absurd (omega arith);
  overfull = λ h. absurd (omega arith);
  unlike = λ h. absurd (omega arith);
  complete = λ good fine. inl (file, stands, has);
}

means_file : (name file : List ℕ) (files : Files) (p q : Names) (c d f g : ℕ) (before now : Option (List ℕ)) (status : ℕ)
    → HasFile files name file → status ≡ (bits_answer file).status → Grew before now (bits_answer file).text → FileMeans (Bits name) files p q c d f g before now status
means_file name file files p q c d f g before now status stands has printed =
    elim (cases_lt 16777216 (length file)) [
      | inl long ↦
          let is : bits_answer file ≡ record { status = 3; text = fault_line 0 (codes "long") } = rw (lt-ltb 16777216 (length file) long) refl in
          means_long name file files p q c d f g before now status stands long has (has ∙ ap (λ (a : Answer). a.status) is) (subst (λ (a : Answer). Grew before now a.text) is printed)
      | inr short ↦
          let fits : length file ≤ most_line_octets = omega arith in
          let is : bits_answer file ≡ record { status = 0; text = bits_text file } = rw (le-ltb 16777216 (length file) fits) refl in
          means_read name file files p q c d f g before now status stands fits has (has ∙ ap (λ (a : Answer). a.status) is) (subst (λ (a : Answer). Grew before now a.text) is printed)
    ]

-- the name was fetched or not
pub means_bits : (name : List ℕ) (fetched : Option (List ℕ)) (a : Answer) (files : Files) (p q : Names) (c d f g : ℕ) (before now : Option (List ℕ)) (status : ℕ)
    → Grew p q (name ∷ []) → HasFetched name fetched files c d → IsFetchedBits name fetched a
    → status ≡ a.status → Grew before now a.text → FileMeans (Bits name) files p q c d f g before now status
means_bits name None a files p q c d f g before now status asked rose answers stated printed =
    let is : status ≡ 2 = stated ∙ ap (λ (x : Answer). x.status) answers in
    record {
      known = inr (inr (inl is));
      done = λ h. absurd (omega arith);
      usage = λ h. absurd (omega arith);
      fetch = λ h. record { first = []; name = name; rest = []; is = refl; asked_for = asked; rose = rose; printed = rw answers at printed };
      refused = λ h. absurd (omega arith);
      keys = λ h. absurd (omega arith);
      sink = λ h. absurd (omega arith);
      memory = λ h. absurd (omega arith);
      overfull = λ h. absurd (omega arith);
      unlike = λ h. absurd (omega arith);
      complete = λ good fine. absurd (good rose);
    }
means_bits name (Some file) a files p q c d f g before now status asked stands answers stated printed =
    means_file name file files p q c d f g before now status stands (stated ∙ ap (λ (x : Answer). x.status) answers) (subst (λ (x : Answer). Grew before now x.text) answers printed)
