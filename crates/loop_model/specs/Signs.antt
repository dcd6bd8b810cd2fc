-- Lemmas: deeds and what comes out of them, one part behind another; on the definitions of the loop, for the proofs of the crates above.
use Rattle.std.proofs.Common.{◌≡◌, ℕ, List, [], ◌∷◌, ◌++◌, refl, sym, ◌∙◌, ap, ap₂, append_assoc}
use Rattle.link_trait.specs.Wires.{Call}
use Rattle.loop_model.specs.Journals.{JournalEntry, entry_text, text}
use Rattle.loop_model.specs.Deeds.{LoopDeed, Printing, Calling, entries_in, calls_in, printings, Sign, Octet, OnWires, octet_signs, signs, text_of, calls_of}
use Rattle.loop_model.specs.Outs.{Out, HasOrder, still, next, changed, prints, makes}

-- ---- deeds

pub entries_parts : (ds es : List LoopDeed) → entries_in (ds ++ es) ≡ entries_in ds ++ entries_in es
unfolding entries_in
entries_parts [] es = refl
entries_parts (Printing x ∷ ds) es = ap (λ z. x ∷ z) (entries_parts ds es)
entries_parts (Calling call ∷ ds) es = entries_parts ds es

pub calls_parts : (ds es : List LoopDeed) → calls_in (ds ++ es) ≡ calls_in ds ++ calls_in es
unfolding calls_in
calls_parts [] es = refl
calls_parts (Printing x ∷ ds) es = calls_parts ds es
calls_parts (Calling call ∷ ds) es = ap (λ z. call ∷ z) (calls_parts ds es)

pub printings_entries : (xs : List JournalEntry) → entries_in (printings xs) ≡ xs
unfolding entries_in
printings_entries [] = refl
printings_entries (x ∷ xs) = ap (λ z. x ∷ z) (printings_entries xs)

pub printings_calls : (xs : List JournalEntry) → calls_in (printings xs) ≡ []
unfolding calls_in
printings_calls [] = refl
printings_calls (x ∷ xs) = printings_calls xs

-- ---- what comes out

pub octets_parts : (os ps : List ℕ) → octet_signs (os ++ ps) ≡ octet_signs os ++ octet_signs ps
octets_parts [] ps = refl
octets_parts (o ∷ os) ps = ap (λ z. Octet o ∷ z) (octets_parts os ps)

pub text_parts : (xs ys : List Sign) → text_of (xs ++ ys) ≡ text_of xs ++ text_of ys
unfolding text_of
text_parts [] ys = refl
text_parts (Octet o ∷ xs) ys = ap (λ z. o ∷ z) (text_parts xs ys)
text_parts (OnWires call ∷ xs) ys = text_parts xs ys

pub calls_of_parts : (xs ys : List Sign) → calls_of (xs ++ ys) ≡ calls_of xs ++ calls_of ys
unfolding calls_of
calls_of_parts [] ys = refl
calls_of_parts (Octet o ∷ xs) ys = calls_of_parts xs ys
calls_of_parts (OnWires call ∷ xs) ys = ap (λ z. call ∷ z) (calls_of_parts xs ys)

pub octets_text : (os : List ℕ) → text_of (octet_signs os) ≡ os
unfolding text_of
octets_text [] = refl
octets_text (o ∷ os) = ap (λ z. o ∷ z) (octets_text os)

pub octets_calls : (os : List ℕ) → calls_of (octet_signs os) ≡ []
unfolding calls_of
octets_calls [] = refl
octets_calls (o ∷ os) = octets_calls os

pub signs_parts : (ds es : List LoopDeed) → signs (ds ++ es) ≡ signs ds ++ signs es
unfolding signs
signs_parts [] es = refl
signs_parts (Printing x ∷ ds) es = ap (λ z. octet_signs (entry_text x) ++ z) (signs_parts ds es) ∙ sym
    (append_assoc (octet_signs (entry_text x)) (signs ds) (signs es))
signs_parts (Calling call ∷ ds) es = ap (λ z. OnWires call ∷ z) (signs_parts ds es)

pub printings_signs : (xs : List JournalEntry) → signs (printings xs) ≡ octet_signs (text xs)
unfolding signs
printings_signs [] = refl
printings_signs (x ∷ xs) = ap (λ z. octet_signs (entry_text x) ++ z) (printings_signs xs) ∙ sym (octets_parts (entry_text x) (text xs))

pub signs_text : (ds : List LoopDeed) → text_of (signs ds) ≡ text (entries_in ds)
unfolding signs text_of entries_in
signs_text [] = refl
signs_text (Printing x ∷ ds) = text_parts (octet_signs (entry_text x)) (signs ds) ∙ ap₂ (λ (y z : List ℕ). y ++ z) (octets_text (entry_text x)) (signs_text ds)
signs_text (Calling call ∷ ds) = signs_text ds

pub signs_calls : (ds : List LoopDeed) → calls_of (signs ds) ≡ calls_in ds
unfolding signs calls_of calls_in
signs_calls [] = refl
signs_calls (Printing x ∷ ds) = calls_of_parts (octet_signs (entry_text x)) (signs ds) ∙ ap₂ (λ (y z : List Call). y ++ z) (octets_calls (entry_text x))
    (signs_calls ds)
signs_calls (Calling call ∷ ds) = ap (λ z. call ∷ z) (signs_calls ds)

-- ---- the order of a part

pub order_still : {S : Type 0} (s : S) → HasOrder (still s)
unfolding entries_in calls_in
order_still s = record { entries = refl; calls = refl }

pub order_next : {S T : Type 0} (a : Out S) (f : S → Out T) → HasOrder a → HasOrder (f a.state) → HasOrder (next a f)
order_next a f p q = record {
  entries = entries_parts a.order (f a.state).order ∙ ap₂ (λ (y z : List JournalEntry). y ++ z) p.entries q.entries;
  calls = calls_parts a.order (f a.state).order ∙ ap₂ (λ (y z : List Call). y ++ z) p.calls q.calls;
}

pub order_changed : {S T : Type 0} (f : S → T) (a : Out S) → HasOrder a → HasOrder (changed f a)
order_changed f a p = record { entries = p.entries; calls = p.calls }

pub order_prints : {S : Type 0} (x : S × List JournalEntry) → HasOrder (prints x)
order_prints x = record { entries = printings_entries x.1; calls = printings_calls x.1 }

pub order_makes : {S : Type 0} (call : Call) (s : S) → HasOrder (makes call s)
unfolding entries_in calls_in
order_makes call s = record { entries = refl; calls = refl }

-- the text of a part is that of what comes out of it, and so are its calls
pub order_text : {S : Type 0} (a : Out S) → HasOrder a → text_of (signs a.order) ≡ text a.entries
order_text a p = signs_text a.order ∙ ap text p.entries

pub order_calls : {S : Type 0} (a : Out S) → HasOrder a → calls_of (signs a.order) ≡ a.calls
order_calls a p = signs_calls a.order ∙ p.calls
