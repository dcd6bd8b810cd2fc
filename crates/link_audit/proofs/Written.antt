-- What was written, line by line.
use Rattle.std.proofs.Common.{◌≡◌, ◌<◌, ◌∙◌, ℕ, Bool, true, false, List, [], ◌∷◌, ◌++◌, length, Result, Ok, Err, arith, refl, sym, ap, append_assoc, subst}
use Rattle.outside.specs.Acts.{Act, Wrote}
use Rattle.outside.specs.Chains.{did_nothing, did_then}
use Rattle.outside.specs.Doings.{Told, Did}
use Rattle.outside.specs.Scripts.{printing}
use Rattle.tap_model.specs.declared.audit_fault.AuditFault.{AuditFault}
use Rattle.tap_model.specs.declared.audit_fault.AuditFault.TheVariants.{NoLink, LinkTwice, Sink, NoMemory}
use Rattle.er_base.specs.declared.side.Side.{Side}
use Rattle.er_base.specs.LineTexts.{line_text}
use Rattle.link_audit.specs.declared.told.Told.{Told as ToldEnd}
use Rattle.link_audit.specs.Counts.{told_words}
use Rattle.link_audit.specs.Writes.{writing, lines_of_told, SankAmong, SpentAmong, WritesLines, LeadsToSameWriting}

writing_then : (xs ys : List (List ℕ)) → writing (xs ++ ys) ≡ writing xs ++ writing ys
unfolding writing
writing_then [] ys = refl
writing_then (line ∷ xs) ys = ap (λ (acts : List Act). printing line ++ acts) (writing_then xs ys) ∙ sym (append_assoc (printing line) (writing xs) (writing ys))

-- nothing was written
pub wrote_none : (t : Told) → Did t t (writing [])
unfolding writing
wrote_none t = did_nothing t

-- memory ran out before the first line
pub spent_before : (lines : List (List ℕ)) (t : Told) → SpentAmong lines t t
spent_before lines t = record { first = []; rest = lines; are = refl; did = wrote_none t }

-- lines behind those that were written
pub writes_then : (a b c : Told) (xs ys : List (List ℕ)) (result : Result (Unit {0}) AuditFault) → Did a b (writing xs) → WritesLines b c ys result
    → WritesLines a c (xs ++ ys) result
writes_then a b c xs ys (Ok done) p q = subst (λ (acts : List Act). Did a c acts) (sym (writing_then xs ys)) (did_then a b c (writing xs) (writing ys) p q)
writes_then a b c xs ys (Err (NoLink line n)) p q = absurd q
writes_then a b c xs ys (Err (LinkTwice line n)) p q = absurd q
writes_then a b c xs ys (Err Sink) p q = record {
  first = xs ++ q.first;
  line = q.line;
  rest = q.rest;
  are = ap (λ (zs : List (List ℕ)). xs ++ zs) q.are ∙ sym (append_assoc xs q.first (q.line ∷ q.rest));
  did =
      subst (λ (acts : List Act). Did a c acts)
      (sym (append_assoc (writing xs) (writing q.first) (Wrote q.line false ∷ [])) ∙ ap (λ (acts : List Act). acts ++ Wrote q.line false ∷ []) (sym (writing_then xs q.first)))
      (did_then a b c (writing xs) (writing q.first ++ Wrote q.line false ∷ []) p q.did);
}
writes_then a b c xs ys (Err (NoMemory want)) p q = record {
  first = xs ++ q.first;
  rest = q.rest;
  are = ap (λ (zs : List (List ℕ)). xs ++ zs) q.are ∙ sym (append_assoc xs q.first q.rest);
  did = subst (λ (acts : List Act). Did a c acts) (sym (writing_then xs q.first)) (did_then a b c (writing xs) (writing q.first) p q.did);
}

-- the same lines in other words
pub writes_as : (before now : Told) (lines other : List (List ℕ)) (result : Result (Unit {0}) AuditFault) → lines ≡ other → WritesLines before now lines result
    → WritesLines before now other result
writes_as before now lines other result is w = subst (λ (t : List (List ℕ)). WritesLines before now t result) is w

pub did_as : (before now : Told) (lines other : List (List ℕ)) → lines ≡ other → Did before now (writing lines) → Did before now (writing other)
did_as before now lines other is w = subst (λ (t : List (List ℕ)). Did before now (writing t)) is w

-- what wasn't written wholly is a beginning of all
pub writes_part : (a b : Told) (xs ys : List (List ℕ)) (fault : AuditFault) → WritesLines a b xs (Err fault) → WritesLines a b (xs ++ ys) (Err fault)
writes_part a b xs ys (NoLink line n) q = absurd q
writes_part a b xs ys (LinkTwice line n) q = absurd q
writes_part a b xs ys Sink q = record {
  first = q.first;
  line = q.line;
  rest = q.rest ++ ys;
  are = ap (λ (zs : List (List ℕ)). zs ++ ys) q.are ∙ append_assoc q.first (q.line ∷ q.rest) ys;
  did = q.did;
}
writes_part a b xs ys (NoMemory want) q = record {
  first = q.first;
  rest = q.rest ++ ys;
  are = ap (λ (zs : List (List ℕ)). zs ++ ys) q.are ∙ append_assoc q.first q.rest ys;
  did = q.did;
}

-- one line was written
pub wrote_alone : (before now : Told) (line : List ℕ) → 0 < length line → Did before now (Wrote line true ∷ []) → Did before now (writing (line ∷ []))
unfolding writing
wrote_alone before now [] some did = absurd (omega (arith, some))
wrote_alone before now (octet ∷ octets) some did = did

-- or the write of it failed
pub sank_alone : (before now : Told) (line : List ℕ) → Did before now (Wrote line false ∷ []) → SankAmong (line ∷ []) before now
unfolding writing
sank_alone before now line did = record { first = []; line = line; rest = []; are = refl; did = did }

-- ---- what is left leads to the end

module _ (a : Told) (all : List (List ℕ)) (here : Told) (xs ys left : List (List ℕ)) (is : left ≡ xs ++ ys) (l : LeadsToSameWriting a all here left) where
  pub leads_then : (mid : Told) → Did here mid (writing xs) → LeadsToSameWriting a all mid ys
  leads_then mid p = λ now result w. l now result (rw is (writes_then here mid now xs ys result p w))

  pub leads_fault : (now : Told) (fault : AuditFault) → WritesLines here now xs (Err fault) → WritesLines a now all (Err fault)
  leads_fault now fault w =
      l now (Err fault) (subst (λ (t : List (List ℕ)). WritesLines here now t (Err fault)) (sym is) (writes_part here now xs ys fault w))

pub leads_end : (a : Told) (all : List (List ℕ)) (here : Told) (left : List (List ℕ)) → left ≡ [] → LeadsToSameWriting a all here left → Did a here (writing all)
leads_end a all here left is l = l here (Ok tt) (rw is (wrote_none here))

-- ---- the end of a side

pub told_none : (ends : Bool) (n : ℕ) (side : Side) (told : ToldEnd) (t : Told) → ends ≡ false → Did t t (writing (lines_of_told ends n side told))
told_none false n side told t none = wrote_none t
told_none true n side told t none = absurd (cc)

pub told_one : (ends : Bool) (n : ℕ) (side : Side) (told : ToldEnd) (before now : Told) (result : Result (Unit {0}) AuditFault) → ends ≡ true
    → WritesLines before now (line_text (told_words n side told) ∷ []) result → WritesLines before now (lines_of_told ends n side told) result
told_one false n side told before now result some w = absurd (cc)
told_one true n side told before now result some w = w
