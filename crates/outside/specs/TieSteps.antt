-- Lemmas: what a part of the outside tells behind no act, behind an act of another part, and behind one run of acts and then another; for the
-- proofs of the crates above.
use Rattle.std.proofs.Common.{◌≡◌, ◌≤◌, ◌⊎◌, ℕ, Bool, true, false, ◌||◌, inl, inr, ⊎_elim, List, [], ◌∷◌, ◌++◌, map, Option, None, Some, IsTrue, IsFalse, fold}
use Rattle.std.proofs.Common.{filter_map, refl, sym, ap, subst, ◌∙◌, append_assoc, append-nil, true≢false, arith}
use Rattle.std.specs.List.{list_any}
use Rattle.std.proofs.lemmas.List.Folds.{list_any-append}
use Rattle.std.proofs.lemmas.List.Elements.{filter_map-append}
use Rattle.std.proofs.lemmas.List.Sums.{fold-append}
use Rattle.std.proofs.lemmas.List.{map-append}
use Rattle.rand_core.specs.Stream.{Stream, next_u64}
use Rattle.link_trait.specs.Outside.{Grew, HasFile, HasStayedAsTold, Rose}
use Rattle.link_trait.specs.Growth.{grew_nothing, grew_then, kept_same, kept_then}
use Rattle.link_trait.specs.States.{CabinetState, SinkState, WiresState, ClockState}
use Rattle.link_trait.specs.Wires.{Call}
use Rattle.outside.specs.Acts.{Gave, Failed, Spent, SeenCall, Act, Fetched, Wrote, Called, Asked, Drew, call_of_act, moment_of_act}
use Rattle.outside.specs.Acts.{is_fetch, is_write, is_call, is_question, is_opening_act, is_cabinet_fault, is_sink_fault, is_wires_fault, is_opening_fault}
use Rattle.outside.specs.Seen.{seen_of_call, opened_by_call, listening_by_call}
use Rattle.outside.specs.Ties.{IsLeft, GrewBy, Counts, AsksFor, AreFiled, CabinetDid, PutsInSink, SinkDid, GrewSeen, WiresDid, ClockDid, AreDrawn}

-- ---- tests on acts

neither : (a b : Bool) → (a || b) ≡ false → IsFalse a × IsFalse b
neither true b h = absurd (true≢false h)
neither false b h = (refl, h)

either : (a b : Bool) → (a || b) ≡ true → IsTrue a ⊎ IsTrue b
either true b h = inl refl
either false b h = inr h

none_of_both : (is : Act → Bool) (xs ys : List Act) → IsFalse (list_any is (xs ++ ys)) → IsFalse (list_any is xs) × IsFalse (list_any is ys)
none_of_both is xs ys h = neither (list_any is xs) (list_any is ys) (sym (list_any-append is xs ys) ∙ h)

one_of_both : (is : Act → Bool) (xs ys : List Act) → IsTrue (list_any is (xs ++ ys)) → IsTrue (list_any is xs) ⊎ IsTrue (list_any is ys)
one_of_both is xs ys h = either (list_any is xs) (list_any is ys) (sym (list_any-append is xs ys) ∙ h)

never : {A : Type 0} (b : Bool) → b ≡ false → b ≡ true → A
never b p q = absurd (true≢false (sym q ∙ p))

-- ---- what acts leave

pub left_nothing : {A : Type 0} (Leaves : Act → List A → Type 0) → IsLeft Leaves [] []
unfolding IsLeft
left_nothing Leaves = refl

pub left_one : {A : Type 0} (Leaves : Act → List A → Type 0) (act : Act) (all : List A) → Leaves act all → IsLeft Leaves (act ∷ []) all
unfolding IsLeft
left_one Leaves act all p = (all, [], p, refl, sym (append-nil all))

pub left_then : {A : Type 0} (Leaves : Act → List A → Type 0) (xs ys : List Act) (a b : List A) → IsLeft Leaves xs a → IsLeft Leaves ys b
    → IsLeft Leaves (xs ++ ys) (a ++ b)
unfolding IsLeft
left_then {A} Leaves [] ys a b p q = subst (λ (zs : List A). IsLeft Leaves ys (zs ++ b)) (sym p) q
left_then {A} Leaves (x ∷ xs) ys a b p q =
    (p.0, p.1 ++ b, p.2, left_then Leaves xs ys p.1 b p.3 q, ap (λ (zs : List A). zs ++ b) p.4 ∙ append_assoc p.0 p.1 b)

pub grew_by_nothing : {A : Type 0} (Leaves : Act → List A → Type 0) (a : Option (List A)) → GrewBy Leaves a a []
grew_by_nothing Leaves a = record { more = []; left = left_nothing Leaves; grew = grew_nothing a }

-- one act
pub grew_by_one : {A : Type 0} (Leaves : Act → List A → Type 0) (a b : Option (List A)) (act : Act) (all : List A) → Leaves act all → Grew a b all
    → GrewBy Leaves a b (act ∷ [])
grew_by_one Leaves a b act all p q = record { more = all; left = left_one Leaves act all p; grew = q }

-- one act that leaves nothing
grew_by_none : {A : Type 0} (Leaves : Act → List A → Type 0) (a : Option (List A)) (act : Act) → Leaves act [] → GrewBy Leaves a a (act ∷ [])
grew_by_none Leaves a act p = grew_by_one Leaves a a act [] p (grew_nothing a)

grew_by_then : {A : Type 0} (Leaves : Act → List A → Type 0) (a b c : Option (List A)) (xs ys : List Act) → GrewBy Leaves a b xs → GrewBy Leaves b c ys
    → GrewBy Leaves a c (xs ++ ys)
grew_by_then Leaves a b c xs ys p q = record {
  more = p.more ++ q.more;
  left = left_then Leaves xs ys p.more q.more p.left q.left;
  grew = grew_then a b c p.more q.more p.grew q.grew;
}

-- ---- counts of faults

same : (n : ℕ) → n ≤ n
same n = omega arith

later : (x y z : ℕ) → x ≤ y → y ≤ z → x ≤ z
later x y z p q = omega (arith, p, q)

rose_before : (x y z : ℕ) → x ≤ y → Rose y z → Rose x z
rose_before x y z p q = omega (arith, p, q)

rose_behind : (x y z : ℕ) → Rose x y → y ≤ z → Rose x z
rose_behind x y z p q = omega (arith, p, q)

-- none of these acts is such a fault
pub counts_none : (is_fault : Act → Bool) (n : ℕ) (acts : List Act) → IsFalse (list_any is_fault acts) → Counts is_fault n n acts
counts_none is_fault n acts none = record { later = same n; rose = λ h. never (list_any is_fault acts) none h }

counts_then : (is_fault : Act → Bool) (x y z : ℕ) (xs ys : List Act) → Counts is_fault x y xs → Counts is_fault y z ys → Counts is_fault x z (xs ++ ys)
counts_then is_fault x y z xs ys p q = record {
  later = later x y z p.later q.later;
  rose = λ h.
      ⊎_elim (λ (a : IsTrue (list_any is_fault xs)). rose_behind x y z (p.rose a) q.later)
      (λ (b : IsTrue (list_any is_fault ys)). rose_before x y z p.later (q.rose b))
      (one_of_both is_fault xs ys h);
}

-- ---- the cabinet

-- a file that stood there is there now, where anything is told
file_kept : (before now : Option (List (List ℕ × List ℕ))) (name file : List ℕ) → HasStayedAsTold before now → HasFile before name file → HasFile now name file
file_kept None None name file kept has = tt
file_kept None (Some files) name file kept has = absurd kept
file_kept (Some old) None name file kept has = tt
file_kept (Some old) (Some files) name file kept has = rw kept has

filed_kept : (before now : Option (List (List ℕ × List ℕ))) (acts : List Act) → HasStayedAsTold before now → AreFiled before acts → AreFiled now acts
unfolding AreFiled
filed_kept before now [] kept filed = tt
filed_kept before now (Fetched name (Gave octets) ∷ acts) kept filed = (file_kept before now name octets kept filed.0, filed_kept before now acts kept filed.1)
filed_kept before now (Fetched name Failed ∷ acts) kept filed = filed_kept before now acts kept filed
filed_kept before now (Fetched name Spent ∷ acts) kept filed = filed_kept before now acts kept filed
filed_kept before now (Wrote piece done ∷ acts) kept filed = filed_kept before now acts kept filed
filed_kept before now (Called call ∷ acts) kept filed = filed_kept before now acts kept filed
filed_kept before now (Asked moment ∷ acts) kept filed = filed_kept before now acts kept filed
filed_kept before now (Drew word ∷ acts) kept filed = filed_kept before now acts kept filed

filed_then : (files : Option (List (List ℕ × List ℕ))) (xs ys : List Act) → AreFiled files xs → AreFiled files ys → AreFiled files (xs ++ ys)
unfolding AreFiled
filed_then files [] ys p q = q
filed_then files (Fetched name (Gave octets) ∷ xs) ys p q = (p.0, filed_then files xs ys p.1 q)
filed_then files (Fetched name Failed ∷ xs) ys p q = filed_then files xs ys p q
filed_then files (Fetched name Spent ∷ xs) ys p q = filed_then files xs ys p q
filed_then files (Wrote piece done ∷ xs) ys p q = filed_then files xs ys p q
filed_then files (Called call ∷ xs) ys p q = filed_then files xs ys p q
filed_then files (Asked moment ∷ xs) ys p q = filed_then files xs ys p q
filed_then files (Drew word ∷ xs) ys p q = filed_then files xs ys p q

pub cabinet_nothing : (c : CabinetState) → CabinetDid c c []
unfolding AreFiled
cabinet_nothing c = record {
  rests = λ h. refl;
  files = kept_same c.files;
  filed = tt;
  asked = grew_by_nothing AsksFor c.asked;
  faults = counts_none is_cabinet_fault c.faults [] refl;
}

-- one act of another part
cabinet_still : (c : CabinetState) (act : Act) → AreFiled c.files (act ∷ []) → AsksFor act [] → IsFalse (list_any is_cabinet_fault (act ∷ []))
    → CabinetDid c c (act ∷ [])
cabinet_still c act filed asks none = record {
  rests = λ h. refl;
  files = kept_same c.files;
  filed = filed;
  asked = grew_by_none AsksFor c.asked act asks;
  faults = counts_none is_cabinet_fault c.faults (act ∷ []) none;
}

pub cabinet_rests : (c : CabinetState) (act : Act) → IsFalse (is_fetch act) → CabinetDid c c (act ∷ [])
unfolding AreFiled
cabinet_rests c (Fetched name answer) h = absurd (true≢false h)
cabinet_rests c (Wrote piece done) h = cabinet_still c (Wrote piece done) tt refl refl
cabinet_rests c (Called call) h = cabinet_still c (Called call) tt refl refl
cabinet_rests c (Asked moment) h = cabinet_still c (Asked moment) tt refl refl
cabinet_rests c (Drew word) h = cabinet_still c (Drew word) tt refl refl

pub cabinet_then : (a b c : CabinetState) (xs ys : List Act) → CabinetDid a b xs → CabinetDid b c ys → CabinetDid a c (xs ++ ys)
cabinet_then a b c xs ys p q = record {
  rests = λ h. let none = none_of_both is_fetch xs ys h in q.rests none.1 ∙ p.rests none.0;
  files = kept_then a.files b.files c.files p.files q.files;
  filed = filed_then c.files xs ys (filed_kept b.files c.files xs q.files p.filed) q.filed;
  asked = grew_by_then AsksFor a.asked b.asked c.asked xs ys p.asked q.asked;
  faults = counts_then is_cabinet_fault a.faults b.faults c.faults xs ys p.faults q.faults;
}

-- ---- the sink

pub sink_nothing : (k : SinkState) → SinkDid k k []
sink_nothing k = record { rests = λ h. refl; held = grew_by_nothing PutsInSink k.held; faults = counts_none is_sink_fault k.faults [] refl }

sink_still : (k : SinkState) (act : Act) → PutsInSink act [] → IsFalse (list_any is_sink_fault (act ∷ [])) → SinkDid k k (act ∷ [])
sink_still k act puts none = record {
  rests = λ h. refl;
  held = grew_by_none PutsInSink k.held act puts;
  faults = counts_none is_sink_fault k.faults (act ∷ []) none;
}

pub sink_rests : (k : SinkState) (act : Act) → IsFalse (is_write act) → SinkDid k k (act ∷ [])
sink_rests k (Fetched name answer) h = sink_still k (Fetched name answer) refl refl
sink_rests k (Wrote piece done) h = absurd (true≢false h)
sink_rests k (Called call) h = sink_still k (Called call) refl refl
sink_rests k (Asked moment) h = sink_still k (Asked moment) refl refl
sink_rests k (Drew word) h = sink_still k (Drew word) refl refl

pub sink_then : (a b c : SinkState) (xs ys : List Act) → SinkDid a b xs → SinkDid b c ys → SinkDid a c (xs ++ ys)
sink_then a b c xs ys p q = record {
  rests = λ h. let none = none_of_both is_write xs ys h in q.rests none.1 ∙ p.rests none.0;
  held = grew_by_then PutsInSink a.held b.held c.held xs ys p.held q.held;
  faults = counts_then is_sink_fault a.faults b.faults c.faults xs ys p.faults q.faults;
}

-- ---- the wires

grew_seen_nothing : (a : Option (List Call)) → GrewSeen a a []
grew_seen_nothing a = record { more = []; are = refl; grew = grew_nothing a }

grew_seen_then : (a b c : Option (List Call)) (xs ys : List SeenCall) → GrewSeen a b xs → GrewSeen b c ys → GrewSeen a c (xs ++ ys)
grew_seen_then a b c xs ys p q = record {
  more = p.more ++ q.more;
  are = map-append seen_of_call p.more q.more ∙ ap (λ (zs : List SeenCall). zs ++ map seen_of_call q.more) p.are ∙ ap (λ (zs : List SeenCall). xs ++ zs) q.are;
  grew = grew_then a b c p.more q.more p.grew q.grew;
}

fold_then : {B : Type 0} (f : B → SeenCall → B) (x y z : B) (xs ys : List SeenCall) → y ≡ fold f x xs → z ≡ fold f y ys → z ≡ fold f x (xs ++ ys)
fold_then {B} f x y z xs ys p q = q ∙ ap (λ (b : B). fold f b ys) p ∙ sym (fold-append f x xs ys)

pub wires_nothing : (w : WiresState) → WiresDid w w []
wires_nothing w = record {
  rests = λ h. refl;
  calls = grew_seen_nothing w.calls;
  opened = refl;
  listening = refl;
  faults = counts_none is_wires_fault w.faults [] refl;
  turn_faults = counts_none is_opening_fault w.turn_faults [] refl;
  turns_rest = λ h. refl;
}

wires_still : (w : WiresState) (act : Act) → filter_map call_of_act (act ∷ []) ≡ [] → IsFalse (list_any is_wires_fault (act ∷ []))
    → IsFalse (list_any is_opening_fault (act ∷ [])) → WiresDid w w (act ∷ [])
wires_still w act no_call no_fault no_turn = record {
  rests = λ h. refl;
  calls = subst (λ (cs : List SeenCall). GrewSeen w.calls w.calls cs) (sym no_call) (grew_seen_nothing w.calls);
  opened = subst (λ (cs : List SeenCall). w.opened ≡ fold opened_by_call w.opened cs) (sym no_call) refl;
  listening = subst (λ (cs : List SeenCall). w.listening ≡ fold listening_by_call w.listening cs) (sym no_call) refl;
  faults = counts_none is_wires_fault w.faults (act ∷ []) no_fault;
  turn_faults = counts_none is_opening_fault w.turn_faults (act ∷ []) no_turn;
  turns_rest = λ h. refl;
}

pub wires_rest : (w : WiresState) (act : Act) → IsFalse (is_call act) → WiresDid w w (act ∷ [])
wires_rest w (Fetched name answer) h = wires_still w (Fetched name answer) refl refl refl
wires_rest w (Wrote piece done) h = wires_still w (Wrote piece done) refl refl refl
wires_rest w (Called call) h = absurd (true≢false h)
wires_rest w (Asked moment) h = wires_still w (Asked moment) refl refl refl
wires_rest w (Drew word) h = wires_still w (Drew word) refl refl refl

pub wires_then : (a b c : WiresState) (xs ys : List Act) → WiresDid a b xs → WiresDid b c ys → WiresDid a c (xs ++ ys)
wires_then a b c xs ys p q =
    let xcs : List SeenCall = filter_map call_of_act xs in
    let ycs : List SeenCall = filter_map call_of_act ys in
    let both : filter_map call_of_act (xs ++ ys) ≡ xcs ++ ycs = filter_map-append call_of_act xs ys in
    record {
      rests = λ h. let none = none_of_both is_call xs ys h in q.rests none.1 ∙ p.rests none.0;
      calls = subst (λ (cs : List SeenCall). GrewSeen a.calls c.calls cs) (sym both) (grew_seen_then a.calls b.calls c.calls xcs ycs p.calls q.calls);
      opened = subst (λ (cs : List SeenCall). c.opened ≡ fold opened_by_call a.opened cs) (sym both)
          (fold_then opened_by_call a.opened b.opened c.opened xcs ycs p.opened q.opened);
      listening = subst (λ (cs : List SeenCall). c.listening ≡ fold listening_by_call a.listening cs) (sym both)
          (fold_then listening_by_call a.listening b.listening c.listening xcs ycs p.listening q.listening);
      faults = counts_then is_wires_fault a.faults b.faults c.faults xs ys p.faults q.faults;
      turn_faults = counts_then is_opening_fault a.turn_faults b.turn_faults c.turn_faults xs ys p.turn_faults q.turn_faults;
      turns_rest = λ h. let none = none_of_both is_opening_act xs ys h in q.turns_rest none.1 ∙ p.turns_rest none.0;
    }

-- ---- the clock and the random words

pub clock_nothing : (c : ClockState) → ClockDid c c []
clock_nothing c = record { rests = λ h. refl; answers = grew_nothing c.answers }

pub clock_rests : (c : ClockState) (act : Act) → IsFalse (is_question act) → ClockDid c c (act ∷ [])
clock_rests c (Fetched name answer) h = record { rests = λ h. refl; answers = grew_nothing c.answers }
clock_rests c (Wrote piece done) h = record { rests = λ h. refl; answers = grew_nothing c.answers }
clock_rests c (Called call) h = record { rests = λ h. refl; answers = grew_nothing c.answers }
clock_rests c (Asked moment) h = absurd (true≢false h)
clock_rests c (Drew word) h = record { rests = λ h. refl; answers = grew_nothing c.answers }

pub clock_then : (a b c : ClockState) (xs ys : List Act) → ClockDid a b xs → ClockDid b c ys → ClockDid a c (xs ++ ys)
clock_then a b c xs ys p q = record {
  rests = λ h. let none = none_of_both is_question xs ys h in q.rests none.1 ∙ p.rests none.0;
  answers = subst (λ (ms : List ℕ). Grew a.answers c.answers ms) (sym (filter_map-append moment_of_act xs ys))
      (grew_then a.answers b.answers c.answers (filter_map moment_of_act xs) (filter_map moment_of_act ys) p.answers q.answers);
}

pub drawn_nothing : (s : Stream) → AreDrawn s [] s
unfolding AreDrawn
drawn_nothing s = refl

pub drawn_one : (a b : Stream) (word : ℕ) → word ≡ (next_u64 a).0 → b ≡ (next_u64 a).1 → AreDrawn a (word ∷ []) b
unfolding AreDrawn
drawn_one a b word p q = (p, q)

pub drawn_then : (a b c : Stream) (xs ys : List ℕ) → AreDrawn a xs b → AreDrawn b ys c → AreDrawn a (xs ++ ys) c
unfolding AreDrawn
drawn_then a b c [] ys p q = subst (λ (s : Stream). AreDrawn s ys c) p q
drawn_then a b c (x ∷ xs) ys p q = (p.0, drawn_then (next_u64 a).1 b c xs ys p.1 q)
