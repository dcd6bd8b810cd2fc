-- Lemmas: deeds that were done or begun, one run of them behind another; for the proofs of the crates above.
use Rattle.std.proofs.Common.{◌≡◌, ◌≤◌, ℕ, false, List, [], ◌∷◌, ◌++◌, length, filter, refl, sym, ◌∙◌, ap, subst, append-nil, append_assoc, arith}
use Rattle.std.proofs.lemmas.List.Elements.{filter-append}
use Rattle.er_base.specs.declared.no_memory.NoMemory.{NoMemory as Want}
use Rattle.link_trait.specs.Wires.{Call}
use Rattle.loop_model.specs.Journals.{JournalEntry, entry_text}
use Rattle.loop_model.specs.Deeds.{LoopDeed, Calling, printings}
use Rattle.outside.specs.Acts.{Act, Fetched, Wrote, Called, Asked, Drew}
use Rattle.outside.specs.Chains.{did_nothing, did_then}
use Rattle.outside.specs.Doings.{Told, Did}
use Rattle.outside.specs.Scripts.{printing}
use Rattle.outside.specs.Seen.{seen_of_call}
use Rattle.loop_session.specs.declared.loop_fault.LoopFault.{LoopFault}
use Rattle.loop_session.specs.declared.loop_fault.LoopFault.TheVariants.{Wires, Sink, NoMemory}
use Rattle.loop_session.specs.Parts.{writes_of_entries, AreBegun, Breaks}
use Rattle.loop_session.specs.Writes.{begun_more, begun_behind}
use Rattle.loop_io.specs.Acting.{acts_of_deed, acts_of_deeds, is_of_deeds, DidDeeds, BeganDeeds}

-- ---- deeds that were done

pub deeds_parts : (xs ys : List LoopDeed) → acts_of_deeds (xs ++ ys) ≡ acts_of_deeds xs ++ acts_of_deeds ys
deeds_parts [] ys = refl
deeds_parts (x ∷ xs) ys = ap (λ (z : List Act). acts_of_deed x ++ z) (deeds_parts xs ys) ∙ sym
    (append_assoc (acts_of_deed x) (acts_of_deeds xs) (acts_of_deeds ys))

pub deeds_none : (a : Told) → DidDeeds a a []
deeds_none a = record { acts = []; did = did_nothing a; are = refl }

pub deeds_then : (a b c : Told) (xs ys : List LoopDeed) → DidDeeds a b xs → DidDeeds b c ys → DidDeeds a c (xs ++ ys)
deeds_then a b c xs ys p q = record {
  acts = p.acts ++ q.acts;
  did = did_then a b c p.acts q.acts p.did q.did;
  are =
      filter-append is_of_deeds p.acts q.acts ∙ ap (λ (z : List Act). z ++ filter is_of_deeds q.acts) p.are
      ∙ ap (λ (z : List Act). acts_of_deeds xs ++ z) q.are ∙ sym (deeds_parts xs ys);
}

pub deeds_call : (a b : Told) (call : Call) → Did a b (Called (seen_of_call call) ∷ []) → DidDeeds a b (Calling call ∷ [])
deeds_call a b call p = record { acts = Called (seen_of_call call) ∷ []; did = p; are = refl }

-- a moment was asked for
pub deeds_asked : (a b : Told) (moment : ℕ) → Did a b (Asked moment ∷ []) → DidDeeds a b []
deeds_asked a b moment p = record { acts = Asked moment ∷ []; did = p; are = refl }

-- a word was drawn
pub deeds_drew : (a b : Told) (word : ℕ) → Did a b (Drew word ∷ []) → DidDeeds a b []
deeds_drew a b word p = record { acts = Drew word ∷ []; did = p; are = refl }

-- the writes of events are deeds
pub deeds_writes : (xs : List JournalEntry) → acts_of_deeds (printings xs) ≡ writes_of_entries xs
deeds_writes [] = refl
deeds_writes (x ∷ xs) = ap (λ (z : List Act). printing (entry_text x) ++ z) (deeds_writes xs)

-- each of them is an act of deeds
writes_stay : (xs : List JournalEntry) → filter is_of_deeds (writes_of_entries xs) ≡ writes_of_entries xs
writes_stay [] = refl
writes_stay (x ∷ xs) = filter-append is_of_deeds (printing (entry_text x)) (writes_of_entries xs) ∙ ap
    (λ (z : List Act). z ++ filter is_of_deeds (writes_of_entries xs)) (one_stays (entry_text x))
    ∙ ap (λ (z : List Act). printing (entry_text x) ++ z) (writes_stay xs)
  where
    one_stays : (line : List ℕ) → filter is_of_deeds (printing line) ≡ printing line
    one_stays [] = refl
    one_stays (octet ∷ octets) = refl

pub deeds_printed : (a b : Told) (xs : List JournalEntry) → Did a b (writes_of_entries xs) → DidDeeds a b (printings xs)
deeds_printed a b xs p = record { acts = writes_of_entries xs; did = p; are = writes_stay xs ∙ sym (deeds_writes xs) }

-- ---- deeds that were begun

pub began_more : (a b : Told) (xs ys : List LoopDeed) (fault : LoopFault) → BeganDeeds a b xs fault → BeganDeeds a b (xs ++ ys) fault
began_more a b xs ys fault p = record {
  acts = p.acts;
  did = p.did;
  begun = subst (λ (z : List Act). AreBegun fault z (filter is_of_deeds p.acts)) (sym (deeds_parts xs ys))
      (begun_more fault (acts_of_deeds xs) (acts_of_deeds ys) (filter is_of_deeds p.acts) p.begun);
}

pub began_behind : (a b c : Told) (xs ys : List LoopDeed) (fault : LoopFault) → DidDeeds a b xs → BeganDeeds b c ys fault → BeganDeeds a c (xs ++ ys) fault
began_behind a b c xs ys fault p q = record {
  acts = p.acts ++ q.acts;
  did = did_then a b c p.acts q.acts p.did q.did;
  begun =
      subst (λ (z : List Act). AreBegun fault z (filter is_of_deeds (p.acts ++ q.acts))) (sym (deeds_parts xs ys))
      (subst (λ (z : List Act). AreBegun fault (acts_of_deeds xs ++ acts_of_deeds ys) z)
      (ap (λ (z : List Act). z ++ filter is_of_deeds q.acts) (sym p.are) ∙ sym (filter-append is_of_deeds p.acts q.acts))
      (begun_behind fault (acts_of_deeds xs) (acts_of_deeds ys) (filter is_of_deeds q.acts) q.begun));
}

-- memory ran out before anything was done
pub began_none : (a : Told) (xs : List LoopDeed) (want : Want) → BeganDeeds a a xs (NoMemory want)
began_none a xs want = record { acts = []; did = did_nothing a; begun = record { done = []; left = acts_of_deeds xs; is = refl; breaks = refl } }

-- memory ran out behind all
pub began_all : (a b : Told) (xs : List LoopDeed) (want : Want) → DidDeeds a b xs → BeganDeeds a b xs (NoMemory want)
began_all a b xs want p = record {
  acts = p.acts;
  did = p.did;
  begun =
      record { done = acts_of_deeds xs; left = []; is = append-nil (acts_of_deeds xs); breaks = p.are };
}

-- no act that isn't of deeds is left
shorter : (xs : List Act) → length (filter is_of_deeds xs) ≤ length xs
shorter [] = omega arith
shorter (Fetched name answer ∷ xs) = (let p = shorter xs in omega (arith, p))
shorter (Wrote piece done ∷ xs) = (let p = shorter xs in omega (arith, p))
shorter (Called call ∷ xs) = (let p = shorter xs in omega (arith, p))
shorter (Asked moment ∷ xs) = (let p = shorter xs in omega (arith, p))
shorter (Drew word ∷ xs) = (let p = shorter xs in omega (arith, p))

too_short : (act : Act) (xs : List Act) → filter is_of_deeds xs ≡ act ∷ xs → ⊥
too_short act xs p = (let q : length (filter is_of_deeds xs) ≡ length (act ∷ xs) = ap (λ (z : List Act). length z) p in let r =
    shorter xs in omega (arith, q, r))

-- a beginning of acts of deeds has no other
first_stays : (xs ys : List Act) → filter is_of_deeds (xs ++ ys) ≡ xs ++ ys → filter is_of_deeds xs ≡ xs
first_stays [] ys p = refl
first_stays (Fetched name answer ∷ xs) ys p = ap (λ (z : List Act). Fetched name answer ∷ z) (first_stays xs ys cc)
first_stays (Wrote piece done ∷ xs) ys p = ap (λ (z : List Act). Wrote piece done ∷ z) (first_stays xs ys cc)
first_stays (Called call ∷ xs) ys p = ap (λ (z : List Act). Called call ∷ z) (first_stays xs ys cc)
first_stays (Asked moment ∷ xs) ys p = absurd (too_short (Asked moment) (xs ++ ys) p)
first_stays (Drew word ∷ xs) ys p = absurd (too_short (Drew word) (xs ++ ys) p)

done_stay : (xs : List JournalEntry) (done left : List Act) → done ++ left ≡ writes_of_entries xs → filter is_of_deeds done ≡ done
done_stay xs done left p = first_stays done left (ap (λ (z : List Act). filter is_of_deeds z) p ∙ writes_stay xs ∙ sym p)

-- a beginning of writes is one of acts of deeds alone
begun_stay : (fault : LoopFault) (xs : List JournalEntry) (acts : List Act) → AreBegun fault (writes_of_entries xs) acts → filter is_of_deeds acts ≡ acts
begun_stay Wires xs acts p = absurd p.breaks
begun_stay Sink xs acts p =
    ap (λ (z : List Act). filter is_of_deeds z) p.breaks.are ∙ filter-append is_of_deeds p.done (Wrote p.breaks.piece false ∷ [])
    ∙ ap (λ (z : List Act). z ++ Wrote p.breaks.piece false ∷ []) (done_stay xs p.done p.left p.is) ∙ sym p.breaks.are
begun_stay (NoMemory want) xs acts p = ap (λ (z : List Act). filter is_of_deeds z) p.breaks ∙ done_stay xs p.done p.left p.is ∙ sym p.breaks

pub began_printing : (a b : Told) (xs : List JournalEntry) (fault : LoopFault) → Breaks a b (writes_of_entries xs) fault → BeganDeeds a b (printings xs) fault
began_printing a b xs fault p = record {
  acts = p.acts;
  did = p.did;
  begun =
      subst (λ (z : List Act). AreBegun fault z (filter is_of_deeds p.acts)) (sym (deeds_writes xs))
      (subst (λ (z : List Act). AreBegun fault (writes_of_entries xs) z) (sym (begun_stay fault xs p.acts p.begun)) p.begun);
}
