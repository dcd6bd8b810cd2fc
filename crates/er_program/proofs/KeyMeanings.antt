-- What a run that reads a key file alone means by its status, from how it ended.
use Rattle.std.proofs.Common.{◌≡◌, ℕ, inl, inr, List, [], ◌∷◌, Option, Some, None, Result, Ok, Err, refl, subst, ◌∙◌, ap, arith}
use Rattle.safety_automaton.specs.Keys.{KmacEntry}
use Rattle.key_store.specs.declared.key_file_fault.KeyFileFault.{KeyFileFault}
use Rattle.key_store.specs.declared.key_file_fault.KeyFileFault.TheVariants as keys
use Rattle.key_store.specs.KeyFiles.{keys_of}
use Rattle.link_trait.specs.Outside.{Grew, HasFile}
use Rattle.er_program.specs.Commands.{Migrate}
use Rattle.er_statuses.specs.KeyLines.{keys_line}
use Rattle.er_statuses.specs.LastLines.{memory_line}
use Rattle.er_statuses.specs.Answers.{Answer, Files, HasFetched, keys_answer}
use Rattle.er_program.specs.Answers.{IsKeyText, IsKeysAnswer, IsFetchedKeys}
use Rattle.er_program.specs.Runs.{HasKeysStatus}
use Rattle.er_program.specs.FileMeans.{FileMeans}

abbrev Names : Type 0
Names = Option (List (List ℕ))

-- its entries were printed
means_migrated : (name file : List ℕ) (entries : List KmacEntry) (a : Answer) (files : Files) (p q : Names) (c d f g : ℕ) (before now : Option (List ℕ)) (status : ℕ)
    → HasFile files name file → keys_of file ≡ Ok entries → IsKeyText entries a → HasKeysStatus file status → status ≡ 0 → Grew before now a.text
    → FileMeans (Migrate name) files p q c d f g before now status
means_migrated name file entries a files p q c d f g before now status stands spelled text has is printed = record {
  known = inl is;
  done = λ h. record { file = file; stands = stands; entries = entries; spelled = spelled; text = a.text; printed = printed; same = text.same };
  usage = λ h. absurd (omega arith);
  fetch = λ h. absurd (omega arith);
  refused = λ h. absurd (omega arith);
  keys = λ h. absurd (omega arith);
  sink = λ h. absurd (omega arith);
  memory = λ h. absurd (omega arith);
  overfull = λ h. absurd (omega arith);
  unlike = λ h. absurd (omega arith);
  complete = λ good fine. inl (file, stands, has);
}

-- it is refused
means_keyless : (name file : List ℕ) (fault : KeyFileFault) (files : Files) (p q : Names) (c d f g : ℕ) (before now : Option (List ℕ)) (status : ℕ)
    → Grew p q (name ∷ []) → HasFile files name file → keys_of file ≡ Err fault → HasKeysStatus file status → status ≡ 4 → Grew before now (keys_line fault)
    → FileMeans (Migrate name) files p q c d f g before now status
means_keyless name file fault files p q c d f g before now status asked stands unspelled has is printed = record {
  known = inr (inr (inr (inr (inl is))));
  done = λ h. absurd (omega arith);
  usage = λ h. absurd (omega arith);
  fetch = λ h. absurd (omega arith);
  refused = λ h. absurd (omega arith);
  keys = λ h. record { asked_for = asked; file = file; stands = stands; fault = fault; refused = unspelled; printed = printed };
  sink = λ h. absurd (omega arith);
  memory = λ h. absurd (omega arith);
  overfull = λ h. absurd (omega arith);
  unlike = λ h. absurd (omega arith);
  complete = λ good fine. inl (file, stands, has);
}

-- memory ran out
means_forgot : (name file : List ℕ) (files : Files) (p q : Names) (c d f g : ℕ) (before now : Option (List ℕ)) (status : ℕ)
    → status ≡ 7 → Grew before now memory_line → FileMeans (Migrate name) files p q c d f g before now status
means_forgot name file files p q c d f g before now status is printed = record {
  known = inr (inr (inr (inr (inr (inr (inl is))))));
  done = λ h. absurd (omega arith);
  usage = λ h. absurd (omega arith);
  fetch = λ h. absurd (omega arith);
  refused = λ h. absurd (omega arith);
  keys = λ h. absurd (omega arith);
  sink = λ h. absurd (omega arith);
  memory = λ h. record { text = []; first = refl; printed = printed };
  overfull = λ h. absurd (omega arith);
  unlike = λ h. absurd (omega arith);
  complete = λ good fine. inr is;
}

-- by the fault
means_fault : (name file : List ℕ) (fault : KeyFileFault) (files : Files) (p q : Names) (c d f g : ℕ) (before now : Option (List ℕ)) (status : ℕ)
    → Grew p q (name ∷ []) → HasFile files name file → keys_of file ≡ Err fault → HasKeysStatus file status
    → status ≡ (keys_answer fault).status → Grew before now (keys_answer fault).text → FileMeans (Migrate name) files p q c d f g before now status
means_fault name file keys.Document files p q c d f g before now status asked stands un has is printed =
    means_keyless name file keys.Document files p q c d f g before now status asked stands un has is printed
means_fault name file (keys.Field k x) files p q c d f g before now status asked stands un has is printed =
    means_keyless name file (keys.Field k x) files p q c d f g before now status asked stands un has is printed
means_fault name file (keys.Hex k) files p q c d f g before now status asked stands un has is printed =
    means_keyless name file (keys.Hex k) files p q c d f g before now status asked stands un has is printed
means_fault name file (keys.Number k) files p q c d f g before now status asked stands un has is printed =
    means_keyless name file (keys.Number k) files p q c d f g before now status asked stands un has is printed
means_fault name file (keys.Range k) files p q c d f g before now status asked stands un has is printed =
    means_keyless name file (keys.Range k) files p q c d f g before now status asked stands un has is printed
means_fault name file (keys.Twice j k) files p q c d f g before now status asked stands un has is printed =
    means_keyless name file (keys.Twice j k) files p q c d f g before now status asked stands un has is printed
means_fault name file (keys.Version n) files p q c d f g before now status asked stands un has is printed =
    means_keyless name file (keys.Version n) files p q c d f g before now status asked stands un has is printed
means_fault name file (keys.NoMemory want) files p q c d f g before now status asked stands un has is printed =
    means_forgot name file files p q c d f g before now status is printed

-- the file was read
means_file : (name file : List ℕ) (read : Result (List KmacEntry) KeyFileFault) (a : Answer) (files : Files) (p q : Names) (c d f g : ℕ) (before now : Option (List ℕ)) (status : ℕ)
    → Grew p q (name ∷ []) → HasFile files name file → keys_of file ≡ read → IsKeysAnswer read a → HasKeysStatus file status
    → status ≡ a.status → Grew before now a.text → FileMeans (Migrate name) files p q c d f g before now status
means_file name file (Ok entries) a files p q c d f g before now status asked stands is text has stated printed =
    means_migrated name file entries a files p q c d f g before now status stands is text has (stated ∙ text.stated) printed
means_file name file (Err fault) a files p q c d f g before now status asked stands is answers has stated printed =
    means_fault name file fault files p q c d f g before now status asked stands is has (stated ∙ ap (λ (x : Answer). x.status) answers)
    (subst (λ (x : Answer). Grew before now x.text) answers printed)

-- the name was fetched or not
pub means_migrate : (name : List ℕ) (fetched : Option (List ℕ)) (a : Answer) (files : Files) (p q : Names) (c d f g : ℕ) (before now : Option (List ℕ)) (status : ℕ)
    → Grew p q (name ∷ []) → HasFetched name fetched files c d → IsFetchedKeys name fetched a
    → status ≡ a.status → Grew before now a.text → FileMeans (Migrate name) files p q c d f g before now status
means_migrate name None a files p q c d f g before now status asked rose answers stated printed =
    let is : status ≡ 2 = stated ∙ ap (λ (x : Answer). x.status) answers in
    record {
      known = inr (inr (inl is));
      done = λ h. absurd (omega arith);
      usage = λ h. absurd (omega arith);
      fetch = λ h. record { first = []; name = name; rest = []; is = refl; asked_for = asked; rose = rose; printed = rw answers at printed };
      refused = λ h. absurd (omega arith);
      keys = λ h. absurd (omega arith);
      sink = λ h. absurd (omega arith);
      memory = λ h. absurd (omega arith);
      overfull = λ h. absurd (omega arith);
      unlike = λ h. absurd (omega arith);
      complete = λ good fine. absurd (good rose);
    }
means_migrate name (Some file) a files p q c d f g before now status asked stands answers stated printed =
    means_file name file (keys_of file) a files p q c d f g before now status asked stands refl answers
    (record { answer = a; answers = answers; is = stated }) stated printed
