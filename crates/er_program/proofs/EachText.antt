-- What the sink got by a script of texts, one a thing, and a last text.
use Rattle.std.proofs.Common.{◌≡◌, ℕ, suc, inl, inr, false, List, [], ◌∷◌, ◌++◌, take, IsTrue, IsFalse, refl, sym, ap, subst, ◌∙◌, append_assoc, append-nil, flat_map}
use Rattle.std.specs.List.{list_any}
use Rattle.outside.specs.Acts.{Act, Wrote, is_fetch, is_sink_fault}
use Rattle.outside.specs.SinkTexts.{fetches_none}
use Rattle.outside.specs.Ties.{IsLeft, PutsInSink}
use Rattle.outside.specs.Scripts.{End, With, Sunk, OutOfMemory, printing, says_last, RunsScript}
use Rattle.er_program.specs.FileScripts.{prints_each}

-- the octets of a text that was printed, and of what followed
pub left_behind : (text : List ℕ) (rest : List Act) (all : List ℕ) → IsLeft PutsInSink (printing text ++ rest) all
    → (more : List ℕ) × IsLeft PutsInSink rest more × (all ≡ text ++ more)
unfolding IsLeft
left_behind [] rest all left = (all, left, refl)
left_behind (octet ∷ octets) rest all left = (left.1, left.3, left.4 ∙ ap (λ (first : List ℕ). first ++ left.1) left.2)

pub sink_fault_behind : (text : List ℕ) (rest : List Act) → IsTrue (list_any is_sink_fault rest) → IsTrue (list_any is_sink_fault (printing text ++ rest))
sink_fault_behind [] rest h = h
sink_fault_behind (octet ∷ octets) rest h = h

-- the write of a text failed
pub unprinted : (text behind : List ℕ) (all : List ℕ) → IsLeft PutsInSink (Wrote text false ∷ []) all → (cut : List ℕ) × (all ++ cut ≡ text ++ behind)
unfolding IsLeft
unprinted text behind all left =
    let octets : all ≡ left.0 = left.4 ∙ ap (λ (rest : List ℕ). left.0 ++ rest) left.3 ∙ append-nil left.0 in (
      left.2.0 ++ behind,
      ap (λ (xs : List ℕ). xs ++ (left.2.0 ++ behind)) octets ∙ sym (append_assoc left.0 left.2.0 behind) ∙ ap (λ (xs : List ℕ). xs ++ behind) left.2.1,
    )

-- a text that was printed asks for no file
pub no_fetch_behind : (text : List ℕ) (rest : List Act) → IsFalse (list_any is_fetch rest) → IsFalse (list_any is_fetch (printing text ++ rest))
no_fetch_behind [] rest h = h
no_fetch_behind (octet ∷ octets) rest h = h

module _ {A : Type 0} (line : A → List ℕ) (status : ℕ) (last : List ℕ) where
  -- by how it ended: all of it; a beginning of it, and a write failed; or the texts of some first things
  abbrev pub GotTexts : List A → End → List Act → List ℕ → Type 0
  GotTexts xs (With s) acts all = (s ≡ status) × (all ≡ flat_map line xs ++ last)
  GotTexts xs Sunk acts all = (cut : List ℕ) × (all ++ cut ≡ flat_map line xs ++ last) × IsTrue (list_any is_sink_fault acts)
  GotTexts xs OutOfMemory acts all = (count : ℕ) × (all ≡ flat_map line (take count xs))

  one_more : (x : A) (xs : List A) (end : End) (rest : List Act) (more : List ℕ) → GotTexts xs end rest more
      → GotTexts (x ∷ xs) end (printing (line x) ++ rest) (line x ++ more)
  one_more x xs (With s) rest more got = (got.0, ap (λ (octets : List ℕ). line x ++ octets) got.1 ∙ sym (append_assoc (line x) (flat_map line xs) last))
  one_more x xs Sunk rest more got = (
    got.0,
    append_assoc (line x) more got.0 ∙ ap (λ (octets : List ℕ). line x ++ octets) got.1 ∙ sym (append_assoc (line x) (flat_map line xs) last),
    sink_fault_behind (line x) rest got.2,
  )
  one_more x xs OutOfMemory rest more got = (suc got.0, ap (λ (octets : List ℕ). line x ++ octets) got.1)

  pub got_texts : (xs : List A) (acts : List Act) (end : End) (all : List ℕ) → RunsScript (prints_each line xs (says_last status last)) acts end
      → IsLeft PutsInSink acts all → GotTexts xs end acts all
  unfolding RunsScript IsLeft prints_each
  got_texts [] acts end all (inl p) left =
      let split = left_behind p.text p.rest all (subst (λ (ys : List Act). IsLeft PutsInSink ys all) p.acts_are left) in
      let none : split.0 ≡ [] = subst (λ (ys : List Act). IsLeft PutsInSink ys split.0) p.follows.0 split.1 in
      subst (λ (e : End). GotTexts [] e acts all) (sym p.follows.1)
      (refl, split.2 ∙ ap (λ (more : List ℕ). p.text ++ more) none ∙ append-nil p.text ∙ p.is)
  got_texts [] acts end all (inr (inl p)) left =
      let cut = unprinted p.text [] all (subst (λ (ys : List Act). IsLeft PutsInSink ys all) p.acts_are left) in
      subst (λ (e : End). GotTexts [] e acts all) (sym p.sunk)
      (cut.0, cut.1 ∙ append-nil p.text ∙ p.is, subst (λ (ys : List Act). IsTrue (list_any is_sink_fault ys)) (sym p.acts_are) refl)
  got_texts [] acts end all (inr (inr p)) left =
      let none : all ≡ [] = subst (λ (ys : List Act). IsLeft PutsInSink ys all) p.0 left in
      subst (λ (e : End). GotTexts [] e acts all) (sym p.1) (0, none)
  got_texts (x ∷ xs) acts end all (inl p) left =
      let split = left_behind p.text p.rest all (subst (λ (ys : List Act). IsLeft PutsInSink ys all) p.acts_are left) in
      let got : GotTexts (x ∷ xs) end (printing (line x) ++ p.rest) (line x ++ split.0) = one_more x xs end p.rest split.0 (got_texts xs p.rest end split.0 p.follows split.1) in
      let acts_are : printing (line x) ++ p.rest ≡ acts = sym (p.acts_are ∙ ap (λ (text : List ℕ). printing text ++ p.rest) p.is) in
      let all_are : line x ++ split.0 ≡ all = sym (split.2 ∙ ap (λ (text : List ℕ). text ++ split.0) p.is) in
      subst (λ (ys : List Act). GotTexts (x ∷ xs) end ys all) acts_are (subst (λ (octets : List ℕ). GotTexts (x ∷ xs) end (printing (line x) ++ p.rest) octets) all_are got)
  got_texts (x ∷ xs) acts end all (inr (inl p)) left =
      let cut = unprinted p.text (flat_map line xs ++ last) all (subst (λ (ys : List Act). IsLeft PutsInSink ys all) p.acts_are left) in
      subst (λ (e : End). GotTexts (x ∷ xs) e acts all) (sym p.sunk) (
        cut.0,
        cut.1 ∙ ap (λ (text : List ℕ). text ++ (flat_map line xs ++ last)) p.is ∙ sym (append_assoc (line x) (flat_map line xs) last),
        subst (λ (ys : List Act). IsTrue (list_any is_sink_fault ys)) (sym p.acts_are) refl,
      )
  got_texts (x ∷ xs) acts end all (inr (inr p)) left =
      let none : all ≡ [] = subst (λ (ys : List Act). IsLeft PutsInSink ys all) p.0 left in
      subst (λ (e : End). GotTexts (x ∷ xs) e acts all) (sym p.1) (0, none)

  -- it asks for no file
  pub each_fetches_none : (xs : List A) (acts : List Act) (end : End) → RunsScript (prints_each line xs (says_last status last)) acts end → IsFalse (list_any is_fetch acts)
  unfolding RunsScript prints_each
  each_fetches_none [] acts end runs = fetches_none (λ text. text ≡ last) status acts end runs
  each_fetches_none (x ∷ xs) acts end (inl p) =
      subst (λ (ys : List Act). IsFalse (list_any is_fetch ys)) (sym p.acts_are) (no_fetch_behind p.text p.rest (each_fetches_none xs p.rest end p.follows))
  each_fetches_none (x ∷ xs) acts end (inr (inl p)) = subst (λ (ys : List Act). IsFalse (list_any is_fetch ys)) (sym p.acts_are) refl
  each_fetches_none (x ∷ xs) acts end (inr (inr p)) = subst (λ (ys : List Act). IsFalse (list_any is_fetch ys)) (sym p.0) refl
