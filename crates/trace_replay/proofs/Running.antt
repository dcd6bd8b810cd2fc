-- The events one after the other.
use Rattle.std.proofs.Common.{◌≡◌, ◌≤◌, ◌<◌, ◌∙◌, ◌+◌, inl, inr, ℕ, zero, suc, Bool, true, false, if◌then◌else◌, List, [], ◌∷◌, ◌++◌, length, take, drop, slice_get, Option, Some, None, Ok, Err, refl, sym, ap, ap₂, subst, arith, append-nil, append_assoc, length-append, eqb-true, nat_lt}
use Rattle.std.specs.Prelude.{◌==◌}
use Rattle.std.proofs.lemmas.Bool.{cases_Bool, ltb-false, ltb-true}
use Rattle.std.proofs.lemmas.List.{take_at, take_all, take-append-drop}
use Rattle.std.specs.BTreeMap.{BTreeMap}
use Rattle.std.specs.Ordering.{nat_cmp}
use Rattle.er_base.specs.declared.release.Release.{Release}
use Rattle.er_base.specs.LineTexts.{line_text}
use Rattle.er_settings.specs.Values.{Settings}
use Rattle.er_trace.specs.declared.entry.Entry.{Entry}
use Rattle.er_trace.specs.Texts.{header_words}
use Rattle.er_end_model.specs.Steps.{Finds}
use Rattle.er_end.specs.KeptEnds.{KEnd}
use Rattle.trace_model.specs.declared.replay_fault.ReplayFault.{ReplayFault}
use Rattle.trace_model.specs.declared.replay_fault.ReplayFault.TheVariants.{NoConn, ConnTwice, MomentBack, NoKey, Many, Sink, NoMemory}
use Rattle.trace_model.specs.Connections.{end_behind}
use Rattle.trace_model.specs.Checks.{fault_of_trace_event, role_check, role_of, last_moment, is_named, is_opened, connections_opened_in_trace}
use Rattle.trace_model.specs.Printed.{entry_text, entries_text, text_of_trace}
use Rattle.trace_model.specs.Replays.{AreTaken}
use Rattle.trace_replay.specs.declared.connections.Connections.{Connections}
use Rattle.trace_replay.specs.Places.{count_of, AllHold, HoldsOfAllConnections}
use Rattle.trace_replay.specs.Takings.{TakesTraceEvent, Taken}
use Rattle.trace_replay.specs.Standing.{StandsBehind}
use Rattle.trace_replay.specs.Replays.{HasTakenNext, ReplaysNext, HasReplayedFirst, ReplaysAll}
use Rattle.trace_replay.specs.declared.run.Replaying.{Replaying}
use Rattle.trace_replay.specs.Going.{TakenTo, HasReplayedFirstEvents}
use Rattle.trace_replay.proofs.Changes.{place_is}
use Rattle.trace_replay.proofs.Holdings.{last_more, hidden}

-- ---- one event

module _ (s : Settings) (f : Finds) (before : List Entry) (e : Entry) where
  back_fault : nat_lt e.moment (last_moment before) ≡ true → fault_of_trace_event s f before e ≡ Some (MomentBack e.line (last_moment before) e.moment)
  unfolding fault_of_trace_event
  back_fault p = ap (λ (b : Bool). if b then Some (MomentBack e.line (last_moment before) e.moment) else role_check s f before e (role_of e.event)) p

  on_fault : nat_lt e.moment (last_moment before) ≡ false → fault_of_trace_event s f before e ≡ role_check s f before e (role_of e.event)
  unfolding fault_of_trace_event
  on_fault p = ap (λ (b : Bool). if b then Some (MomentBack e.line (last_moment before) e.moment) else role_check s f before e (role_of e.event)) p

  below : (a b : ℕ) → a < b → nat_lt a b ≡ true
  below a b p = elim (cases_Bool (nat_lt a b)) [
    | inl y ↦ y
    | inr y ↦ absurd (let q = ltb-false a b y in let u : ⊥ = omega (arith, p, q) in u)
  ]

  above : (a b : ℕ) → b ≤ a → nat_lt a b ≡ false
  above a b p = elim (cases_Bool (nat_lt a b)) [
    | inl y ↦ absurd (let q = ltb-true a b y in let u : ⊥ = omega (arith, p, q) in u)
    | inr y ↦ y
  ]

  -- the moment goes back
  pub back_refuses : (r new : Replaying) (out now : List ℕ) → StandsBehind s f before r → e.moment < r.last
      → ReplaysNext s f before e new out now (Err (MomentBack e.line r.last e.moment))
  unfolding StandsBehind
  back_refuses r new out now stands p =
      subst (λ (l : ℕ). ReplaysNext s f before e new out now (Err (MomentBack e.line l e.moment))) (sym stands.last)
      (back_fault (below e.moment (last_moment before) (subst (λ (l : ℕ). e.moment < l) stands.last p)))

  -- it doesn't
  pub not_back : (r : Replaying) → StandsBehind s f before r → r.last ≤ e.moment → last_moment before ≤ e.moment
  unfolding StandsBehind
  not_back r stands p = subst (λ (l : ℕ). l ≤ e.moment) stands.last p

  pub connections_hold : (r : Replaying) → StandsBehind s f before r → HoldsOfAllConnections s f before r.connections
  unfolding StandsBehind
  connections_hold r stands = stands.connections

  on_time : last_moment before ≤ e.moment → fault_of_trace_event s f before e ≡ role_check s f before e (role_of e.event)
  on_time p = on_fault (above e.moment (last_moment before) p)

  pub refuses : (c : Connections) (new : Replaying) (out now : List ℕ) (fault : ReplayFault) → last_moment before ≤ e.moment
      → TakesTraceEvent {T = Unit {0}} s f before e c out now (Err fault) → ReplaysNext s f before e new out now (Err fault)
  refuses c new out now (NoConn line conn) p t = on_time p ∙ t
  refuses c new out now (ConnTwice line conn) p t = on_time p ∙ t
  refuses c new out now (MomentBack line was moment) p t = absurd t
  refuses c new out now (NoKey line engine rbc) p t = on_time p ∙ t
  refuses c new out now (Many line live) p t = on_time p ∙ t
  refuses c new out now Sink p t = absurd t
  refuses c new out now (NoMemory want) p t = tt

  pub takes : (new : Replaying) (out now : List ℕ) → last_moment before ≤ e.moment → new.last ≡ e.moment → Taken s f before e new.connections out now
      → HasTakenNext s f before e new out now
  unfolding StandsBehind
  takes new out now p newest t = record {
    taken = on_time p ∙ t.allowed;
    text = t.text;
    stands = record {
      connections = t.holds;
      last = (let more = last_more before e in let at : e.moment ≡ last_moment (before ++ e ∷ []) = omega (arith, more, p) in newest ∙ at);
    };
  }

-- ---- lists

slice_get_here : (p : List Entry) (x : Entry) (q : List Entry) → slice_get (p ++ x ∷ q) (length p) ≡ Some x
slice_get_here [] x q = refl
slice_get_here (y ∷ p) x q = slice_get_here p x q

pub split_at : (xs : List Entry) (n : ℕ) (x : Entry) → slice_get xs n ≡ Some x → xs ≡ take n xs ++ x ∷ drop (suc n) xs
split_at [] n x p = absurd (let u : ⊥ = cc in u)
split_at (y ∷ ys) zero x p = ap (λ (o : Option Entry). or o ∷ ys) p
  where
    or : Option Entry → Entry
    or None = y
    or (Some z) = z
split_at (y ∷ ys) (suc n) x p = ap (λ (l : List Entry). y ∷ l) (split_at ys n x p)

pub take_next : (xs : List Entry) (n : ℕ) (x : Entry) → slice_get xs n ≡ Some x → take (suc n) xs ≡ take n xs ++ x ∷ []
take_next [] n x p = absurd (let u : ⊥ = cc in u)
take_next (y ∷ ys) zero x p = ap (λ (o : Option Entry). or o ∷ []) p
  where
    or : Option Entry → Entry
    or None = y
    or (Some z) = z
take_next (y ∷ ys) (suc n) x p = ap (λ (l : List Entry). y ∷ l) (take_next ys n x p)

take_short : (n : ℕ) (xs : List Entry) → length (take n xs) ≤ n
take_short zero xs = omega arith
take_short (suc n) [] = omega arith
take_short (suc n) (x ∷ xs) = let p = take_short n xs in omega (arith, p)

some_is : (x y : Entry) → Some x ≡ Some y → x ≡ y
some_is x y p = ap (λ (o : Option Entry). or o) p
  where
    or : Option Entry → Entry
    or None = x
    or (Some z) = z

-- ---- all events

module _ (s : Settings) (f : Finds) (entries : List Entry) where
  taken_more : (n : ℕ) (e : Entry) → slice_get entries n ≡ Some e → fault_of_trace_event s f (take n entries) e ≡ None → TakenTo s f entries n → TakenTo s f entries (suc n)
  taken_more n e here none so first x rest is less = elim (cases_Bool (length first == n)) [
    | inl y ↦
        let same : length first ≡ n = eqb-true (length first) n y in
        let front : take n entries ≡ first = ap (λ (l : List Entry). take n l) is ∙ take_at first (x ∷ rest) n same in
        let at : slice_get entries n ≡ Some x =
        ap₂ (λ (l : List Entry) (i : ℕ). slice_get l i) is (sym same) ∙ slice_get_here first x rest in
        let one : e ≡ x = some_is e x (sym here ∙ at) in
        subst (λ (l : List Entry). fault_of_trace_event s f l x ≡ None) front (subst (λ (z : Entry). fault_of_trace_event s f (take n entries) z ≡ None) one none)
    | inr y ↦ so first x rest is (let apart = eqb-apart (length first) n y in omega (arith, less, apart))
  ]
    where
      eqb-apart : (a b : ℕ) → (a == b) ≡ false → a ≡ b → ⊥
      eqb-apart a b p q = let t : (a == b) ≡ true = Rattle.std.proofs.lemmas.Bool.eq-eqb a b q in let u : true ≡ false = sym t ∙ p in (let w : ⊥ = cc in w)

  are_taken : (n : ℕ) → TakenTo s f entries n → AreTaken s f (take n entries)
  are_taken n so first x rest is =
      so first x (rest ++ drop n entries)
      (sym (take-append-drop n entries) ∙ ap (λ (l : List Entry). l ++ drop n entries) is ∙ append_assoc first (x ∷ rest) (drop n entries))
      (let short = take_short n entries in
      let long : length (take n entries) ≡ length first + suc (length rest) = ap (λ (l : List Entry). length l) is ∙ length-append first (x ∷ rest) in
      omega (arith, short, long))

  entries_more : (b xs : List Entry) (e : Entry) → entries_text s f b (xs ++ e ∷ []) ≡ entries_text s f b xs ++ entry_text s f (b ++ xs) e
  unfolding entries_text
  entries_more b [] e = append-nil (entry_text s f b e) ∙ ap (λ (l : List Entry). entry_text s f l e) (sym (append-nil b))
  entries_more b (x ∷ xs) e =
      ap (λ (t : List ℕ). entry_text s f b x ++ t)
      (entries_more (b ++ x ∷ []) xs e ∙ ap (λ (l : List Entry). entries_text s f (b ++ x ∷ []) xs ++ entry_text s f l e) (append_assoc b (x ∷ []) xs))
      ∙ sym (append_assoc (entry_text s f b x) (entries_text s f (b ++ x ∷ []) xs) (entry_text s f (b ++ x ∷ xs) e))

  texts_more : (n : ℕ) (e : Entry) → slice_get entries n ≡ Some e
      → entries_text s f [] (take (suc n) entries) ≡ entries_text s f [] (take n entries) ++ entry_text s f (take n entries) e
  texts_more n e here = ap (λ (l : List Entry). entries_text s f [] l) (take_next entries n e here) ∙ entries_more [] (take n entries) e

  none_held : (c : Connections) → c.live.entries ≡ [] → c.over.entries ≡ [] → AllHold s f [] c
  unfolding end_behind is_named is_opened connections_opened_in_trace count_of last_moment
  none_held c live over = record {
    keeps = λ conn.
        subst (λ p. Rattle.trace_replay.specs.Places.KeepsConnection 0 p None false false)
        (sym (place_is c conn None None (ap (λ (l : List (ℕ × KEnd)). Rattle.std.specs.Map.lookup (Rattle.std.specs.BTreeMap.is_at (nat_cmp conn)) l) live)
        (ap (λ (l : List (ℕ × Option Release)). Rattle.std.specs.Map.lookup (Rattle.std.specs.BTreeMap.is_at (nat_cmp conn)) l) over)))
        (refl, refl, refl);
    apart = tt;
    count = ap (λ (l : List (ℕ × KEnd)). length l) live;
  }

  pub none_behind : (r : Replaying) → r.connections.live.entries ≡ [] → r.connections.over.entries ≡ [] → r.last ≡ 0 → StandsBehind s f [] r
  unfolding StandsBehind last_moment
  none_behind r live over last = record { connections = hidden s f [] r.connections (none_held r.connections live over); last = last }

  pub went_none : (r : Replaying) (start : List ℕ) → StandsBehind s f [] r → HasReplayedFirstEvents s f entries 0 r start start
  unfolding entries_text
  went_none r start stands = record {
    stands = stands;
    taken = λ first x rest is less. absurd (let u : ⊥ = omega (arith, less) in u);
    text = sym (append-nil start);
  }

  went_more : (n : ℕ) (e : Entry) (r new : Replaying) (start out now front text : List ℕ) → HasReplayedFirstEvents s f entries n r start out
      → slice_get entries n ≡ Some e → HasTakenNext s f (take n entries) e new front text → front ≡ [] → now ≡ out ++ text
      → HasReplayedFirstEvents s f entries (suc n) new start now
  went_more n e r new start out now front text w here t none more = record {
    stands = subst (λ (l : List Entry). StandsBehind s f l new) (sym (take_next entries n e here)) t.stands;
    taken = taken_more n e here t.taken w.taken;
    text =
        more
        ∙ ap (λ (l : List ℕ). out ++ l) (t.text ∙ ap (λ (l : List ℕ). l ++ entry_text s f (take n entries) e) none)
        ∙ ap (λ (l : List ℕ). l ++ entry_text s f (take n entries) e) w.text
        ∙ append_assoc start (entries_text s f [] (take n entries)) (entry_text s f (take n entries) e)
        ∙ ap (λ (l : List ℕ). start ++ l) (sym (texts_more n e here));
  }

  pub went_next : (n : ℕ) (e : Entry) (r new : Replaying) (start out now front text : List ℕ) → HasReplayedFirstEvents s f entries n r start out
      → slice_get entries n ≡ Some e → HasTakenNext s f (take n entries) e new front text → front ≡ [] → now ≡ out ++ text
      → HasReplayedFirstEvents s f entries (n + 1) new start now
  went_next n e r new start out now front text w here t none more =
      let plus : suc n ≡ n + 1 = omega arith in
      subst (λ (k : ℕ). HasReplayedFirstEvents s f entries k new start now) plus (went_more n e r new start out now front text w here t none more)

  abbrev pub header : List ℕ
  header = line_text (header_words s)

  -- what was made, with the header
  with_header : (n : ℕ) (r : Replaying) (start mid out : List ℕ) → HasReplayedFirstEvents s f entries n r mid out → mid ≡ start ++ header
      → out ≡ start ++ text_of_trace s f (take n entries)
  with_header n r start mid out w head =
      w.text ∙ ap (λ (l : List ℕ). l ++ entries_text s f [] (take n entries)) head ∙ append_assoc start header (entries_text s f [] (take n entries))

  -- the end
  pub went_end : (n : ℕ) (r : Replaying) (start mid out : List ℕ) → HasReplayedFirstEvents s f entries n r mid out → length entries ≤ n → mid ≡ start ++ header
      → ReplaysAll s f entries start out (Ok tt)
  went_end n r start mid out w all head =
      let whole : take n entries ≡ entries = take_all n entries all in
      record {
        taken = subst (λ (l : List Entry). AreTaken s f l) whole (are_taken n w.taken);
        text = with_header n r start mid out w head ∙ ap (λ (l : List Entry). start ++ text_of_trace s f l) whole;
      }

  -- an event that isn't taken
  pub went_err : (n : ℕ) (e : Entry) (r new : Replaying) (start mid out front text : List ℕ) (fault : ReplayFault) → HasReplayedFirstEvents s f entries n r mid out
      → slice_get entries n ≡ Some e → mid ≡ start ++ header → ReplaysNext s f (take n entries) e new front text (Err fault) → ReplaysAll s f entries start out (Err fault)
  went_err n e r new start mid out front text fault w here head next = by fault next
    where
      refuse : (fault : ReplayFault) → fault_of_trace_event s f (take n entries) e ≡ Some fault → HasReplayedFirst s f entries fault start out
      refuse fault refused = record {
        first = record {
          first = take n entries;
          entry = e;
          rest = drop (suc n) entries;
          is = split_at entries n e here;
          taken = are_taken n w.taken;
          refused = refused;
        };
        text = with_header n r start mid out w head;
      }

      by : (fault : ReplayFault) → ReplaysNext s f (take n entries) e new front text (Err fault) → ReplaysAll s f entries start out (Err fault)
      by (NoConn line conn) next = refuse (NoConn line conn) next
      by (ConnTwice line conn) next = refuse (ConnTwice line conn) next
      by (MomentBack line was moment) next = refuse (MomentBack line was moment) next
      by (NoKey line engine rbc) next = refuse (NoKey line engine rbc) next
      by (Many line live) next = refuse (Many line live) next
      by Sink next = absurd next
      by (NoMemory want) next = tt
