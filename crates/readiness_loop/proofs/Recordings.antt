-- Recorded before it goes: what holds of the one order of a loop holds of all acts of its outside.
use Rattle.std.proofs.Common.{◌≡◌, ◌≢◌, ℕ, inl, inr, true, false, List, [], ◌∷◌, ◌++◌, filter, refl, sym, ◌∙◌, ap, ap₂, subst, append-nil, append_assoc, true≢false, IsFalse}
use Rattle.std.specs.List.{list_any}
use Rattle.std.proofs.lemmas.Bool.{cases_Bool}
use Rattle.std.proofs.lemmas.List.Elements.{filter-append}
use Rattle.link_trait.specs.Wires.{Call, Listens, Dials, Turns, Reads, Writes, Closes, given_by, given_of}
use Rattle.link_trait.specs.declared.wires.WriteAnswer.{WriteAnswer}
use Rattle.link_trait.specs.declared.wires.WriteAnswer.TheVariants as write
use Rattle.outside.specs.Acts.{SeenCall, Listened, Dialled, Turned, Read, Sent, Closed, Act, Fetched, Wrote, Called, Asked, Drew, is_fetch, is_opening_call}
use Rattle.outside.specs.Chains.{did_nothing, did_then}
use Rattle.outside.specs.Doings.{Told, Did}
use Rattle.outside.specs.Scripts.{printing}
use Rattle.outside.specs.Seen.{seen_of_call}
use Rattle.loop_model.specs.Journals.{JournalEntry, entry_text, text}
use Rattle.loop_model.specs.Deeds.{LoopDeed, Printing, Calling, entries_in, calls_in}
use Rattle.loop_model.specs.Orderings.{GivesTold, IsSilentOnConnection}
use Rattle.loop_model.specs.Parts.{of, is_at, calls_at}
use Rattle.loop_model.specs.Signs.{entries_parts}
use Rattle.loop_model.specs.Laws.{octets_of_entries, IsBeginning}
use Rattle.loop_session.specs.declared.loop_fault.LoopFault.{LoopFault}
use Rattle.loop_session.specs.declared.loop_fault.LoopFault.TheVariants.{Wires, Sink, NoMemory}
use Rattle.loop_session.specs.Parts.{AreBegun, Breaks}
use Rattle.loop_io.specs.Acting.{acts_of_deeds, is_of_deeds, DidDeeds, BeganDeeds}
use Rattle.loop_io.specs.DeedSteps.{deeds_parts}
use Rattle.readiness_loop.specs.Recorded.{pieces_in, given_in_call, given_to_connection, is_act_at, AreQuiet, AreToldBefore, IsClosedLast, IsRecordedFirst}
use Rattle.readiness_loop.proofs.Tellings.{same_first, silent_front}

-- ---- places in a list

-- a place in a list is its first, or one behind that
data Peeled {A : Type 0} (x : A) (xs done : List A) (y : A) (rest : List A) : Type 0 where
  Here : done ≡ [] → y ≡ x → rest ≡ xs → Peeled x xs done y rest
  Behind : (more : List A) → done ≡ x ∷ more → more ++ y ∷ rest ≡ xs → Peeled x xs done y rest

peel : {A : Type 0} (x : A) (xs done : List A) (y : A) (rest : List A) → done ++ y ∷ rest ≡ x ∷ xs → Peeled x xs done y rest
peel x xs [] y rest p = let s = same_first y x rest xs p in Here refl s.0 s.1
peel x xs (d ∷ done) y rest p = let s = same_first d x (done ++ y ∷ rest) xs p in Behind done (ap (λ z. z ∷ done) s.0) s.1

no_place : {A : Type 0} (done : List A) (y : A) (rest : List A) → done ++ y ∷ rest ≡ [] → ⊥
no_place [] y rest p = cc p
no_place (d ∷ done) y rest p = cc p

-- a place in a list is its last, or one before that
data IsLastOr {A : Type 0} (done : List A) (y : A) (rest xs : List A) : Type 0 where
  Last : rest ≡ [] → IsLastOr done y rest xs
  Before : (more : List A) → done ++ y ∷ more ≡ xs → IsLastOr done y rest xs

last_more : {A : Type 0} (d x : A) (done : List A) (y : A) (rest xs : List A) → d ≡ x → IsLastOr done y rest xs → IsLastOr (d ∷ done) y rest (x ∷ xs)
last_more d x done y rest xs e (Last p) = Last p
last_more d x done y rest xs e (Before more p) = Before more (ap (λ z. d ∷ z) p ∙ ap (λ z. z ∷ xs) e)

last_or : {A : Type 0} (done : List A) (y : A) (rest xs : List A) (x : A) → done ++ y ∷ rest ≡ xs ++ x ∷ [] → IsLastOr done y rest xs
last_or [] y rest [] x p = Last (same_first y x rest [] p).1
last_or [] y rest (z ∷ zs) x p = Before zs (ap (λ w. w ∷ zs) (same_first y z rest (zs ++ x ∷ []) p).0)
last_or (d ∷ done) y rest [] x p = absurd (no_place done y rest (same_first d x (done ++ y ∷ rest) [] p).1)
last_or (d ∷ done) y rest (z ∷ zs) x p = let s = same_first d z (done ++ y ∷ rest) (zs ++ x ∷ []) p in last_more d z done y rest zs s.0 (last_or done y rest zs x s.1)

-- ---- acts of deeds alone, each write as if it was done

abbrev pub kept : List Act → List Act
kept [] = []
kept (Fetched name answer ∷ acts) = Fetched name answer ∷ kept acts
kept (Wrote piece done ∷ acts) = Wrote piece true ∷ kept acts
kept (Called call ∷ acts) = Called call ∷ kept acts
kept (Asked moment ∷ acts) = kept acts
kept (Drew word ∷ acts) = kept acts

kept_parts : (xs ys : List Act) → kept (xs ++ ys) ≡ kept xs ++ kept ys
kept_parts [] ys = refl
kept_parts (Fetched name answer ∷ xs) ys = ap (λ (z : List Act). Fetched name answer ∷ z) (kept_parts xs ys)
kept_parts (Wrote piece done ∷ xs) ys = ap (λ (z : List Act). Wrote piece true ∷ z) (kept_parts xs ys)
kept_parts (Called call ∷ xs) ys = ap (λ (z : List Act). Called call ∷ z) (kept_parts xs ys)
kept_parts (Asked moment ∷ xs) ys = kept_parts xs ys
kept_parts (Drew word ∷ xs) ys = kept_parts xs ys

kept_filter : (xs : List Act) → kept (filter is_of_deeds xs) ≡ kept xs
kept_filter [] = refl
kept_filter (Fetched name answer ∷ xs) = ap (λ (z : List Act). Fetched name answer ∷ z) (kept_filter xs)
kept_filter (Wrote piece done ∷ xs) = ap (λ (z : List Act). Wrote piece true ∷ z) (kept_filter xs)
kept_filter (Called call ∷ xs) = ap (λ (z : List Act). Called call ∷ z) (kept_filter xs)
kept_filter (Asked moment ∷ xs) = kept_filter xs
kept_filter (Drew word ∷ xs) = kept_filter xs

kept_printing : (line : List ℕ) (acts : List Act) → kept (printing line ++ acts) ≡ printing line ++ kept acts
kept_printing [] acts = refl
kept_printing (octet ∷ octets) acts = refl

kept_deeds : (ds : List LoopDeed) → kept (acts_of_deeds ds) ≡ acts_of_deeds ds
kept_deeds [] = refl
kept_deeds (Printing x ∷ ds) = kept_printing (entry_text x) (acts_of_deeds ds) ∙ ap (λ (z : List Act). printing (entry_text x) ++ z) (kept_deeds ds)
kept_deeds (Calling call ∷ ds) = ap (λ (z : List Act). Called (seen_of_call call) ∷ z) (kept_deeds ds)

pieces_kept : (xs : List Act) → pieces_in (kept xs) ≡ pieces_in xs
unfolding pieces_in
pieces_kept [] = refl
pieces_kept (Fetched name answer ∷ xs) = pieces_kept xs
pieces_kept (Wrote piece done ∷ xs) = ap (λ (z : List ℕ). piece ++ z) (pieces_kept xs)
pieces_kept (Called call ∷ xs) = pieces_kept xs
pieces_kept (Asked moment ∷ xs) = pieces_kept xs
pieces_kept (Drew word ∷ xs) = pieces_kept xs

given_kept : (conn : ℕ) (xs : List Act) → given_to_connection conn (kept xs) ≡ given_to_connection conn xs
unfolding given_to_connection
given_kept conn [] = refl
given_kept conn (Fetched name answer ∷ xs) = given_kept conn xs
given_kept conn (Wrote piece done ∷ xs) = given_kept conn xs
given_kept conn (Called call ∷ xs) = ap (λ (z : List ℕ). given_in_call conn call ++ z) (given_kept conn xs)
given_kept conn (Asked moment ∷ xs) = given_kept conn xs
given_kept conn (Drew word ∷ xs) = given_kept conn xs

untouched_kept : (conn : ℕ) (xs : List Act) → filter (is_act_at conn) (kept xs) ≡ [] → filter (is_act_at conn) xs ≡ []
untouched_kept conn [] p = refl
untouched_kept conn (Fetched name answer ∷ xs) p = untouched_kept conn xs p
untouched_kept conn (Wrote piece done ∷ xs) p = untouched_kept conn xs p
untouched_kept conn (Called call ∷ xs) p =
    elim (cases_Bool (is_act_at conn (Called call))) [
      | inl e ↦ absurd (let q : Called call ∷ filter (is_act_at conn) (kept xs) ≡ [] = rw e at p in cc q)
      | inr e ↦ (let q = untouched_kept conn xs (rw e at p) in rw e q)
    ]
untouched_kept conn (Asked moment ∷ xs) p = untouched_kept conn xs p
untouched_kept conn (Drew word ∷ xs) p = untouched_kept conn xs p

quiet_rest : (xs : List Act) → filter is_of_deeds xs ≡ [] → AreQuiet xs
quiet_rest [] p = tt
quiet_rest (Fetched name answer ∷ xs) p = absurd (cc p)
quiet_rest (Wrote piece done ∷ xs) p = absurd (cc p)
quiet_rest (Called call ∷ xs) p = absurd (cc p)
quiet_rest (Asked moment ∷ xs) p = quiet_rest xs p
quiet_rest (Drew word ∷ xs) p = quiet_rest xs p

-- ---- the acts of deeds, and the deeds

pieces_printing : (line : List ℕ) (acts : List Act) → pieces_in (printing line ++ acts) ≡ line ++ pieces_in acts
unfolding pieces_in
pieces_printing [] acts = refl
pieces_printing (octet ∷ octets) acts = refl

pieces_deeds : (ds : List LoopDeed) → pieces_in (acts_of_deeds ds) ≡ text (entries_in ds)
unfolding pieces_in entries_in
pieces_deeds [] = refl
pieces_deeds (Printing x ∷ ds) = pieces_printing (entry_text x) (acts_of_deeds ds) ∙ ap (λ (z : List ℕ). entry_text x ++ z) (pieces_deeds ds)
pieces_deeds (Calling call ∷ ds) = pieces_deeds ds

given_printing : (conn : ℕ) (line : List ℕ) (acts : List Act) → given_to_connection conn (printing line ++ acts) ≡ given_to_connection conn acts
unfolding given_to_connection
given_printing conn [] acts = refl
given_printing conn (octet ∷ octets) acts = refl

given_seen : (conn : ℕ) (call : Call) → given_in_call conn (seen_of_call call) ≡ given_by conn call
given_seen conn (Listens address listens) = refl
given_seen conn (Dials address opened) = refl
given_seen conn (Turns until what) = refl
given_seen conn (Reads other size waits reading) = refl
given_seen conn (Writes other piece (write.Some n)) = refl
given_seen conn (Writes other piece write.NotNow) = refl
given_seen conn (Writes other piece write.Failed) = refl
given_seen conn (Closes other) = refl

given_deeds : (conn : ℕ) (ds : List LoopDeed) → given_to_connection conn (acts_of_deeds ds) ≡ given_of conn (calls_in ds)
unfolding given_to_connection given_of calls_in
given_deeds conn [] = refl
given_deeds conn (Printing x ∷ ds) = given_printing conn (entry_text x) (acts_of_deeds ds) ∙ given_deeds conn ds
given_deeds conn (Calling call ∷ ds) = ap₂ (λ (y z : List ℕ). y ++ z) (given_seen conn call) (given_deeds conn ds)

seen_at : (conn : ℕ) (call : Call) → is_act_at conn (Called (seen_of_call call)) ≡ is_at conn call
seen_at conn (Listens address listens) = refl
seen_at conn (Dials address opened) = refl
seen_at conn (Turns until what) = refl
seen_at conn (Reads other size waits reading) = refl
seen_at conn (Writes other piece answer) = refl
seen_at conn (Closes other) = refl

none_at_printing : (conn : ℕ) (line : List ℕ) (acts : List Act) → filter (is_act_at conn) (printing line ++ acts) ≡ filter (is_act_at conn) acts
none_at_printing conn [] acts = refl
none_at_printing conn (octet ∷ octets) acts = refl

none_at_deeds : (conn : ℕ) (ds : List LoopDeed) → calls_at conn (calls_in ds) ≡ [] → filter (is_act_at conn) (acts_of_deeds ds) ≡ []
unfolding calls_at calls_in
none_at_deeds conn [] p = refl
none_at_deeds conn (Printing x ∷ ds) p = none_at_printing conn (entry_text x) (acts_of_deeds ds) ∙ none_at_deeds conn ds p
none_at_deeds conn (Calling call ∷ ds) p =
    elim (cases_Bool (is_at conn call)) [
      | inl e ↦ absurd (let q : call ∷ calls_at conn (calls_in ds) ≡ [] = rw e at p in cc q)
      | inr e ↦ (let q = none_at_deeds conn ds (rw e at p) in rw (seen_at conn call, e) q)
    ]

-- a call among the acts of deeds is one of the deeds
record CallPlace (done : List Act) (seen : SeenCall) (rest : List Act) (ds : List LoopDeed) : Type 0 where
  first : List LoopDeed
  call : Call
  behind : List LoopDeed
  is : first ++ Calling call ∷ behind ≡ ds
  seen_is : seen_of_call call ≡ seen
  done_is : acts_of_deeds first ≡ done
  rest_is : acts_of_deeds behind ≡ rest

call_place : (ds : List LoopDeed) (done rest : List Act) (seen : SeenCall) → done ++ Called seen ∷ rest ≡ acts_of_deeds ds → CallPlace done seen rest ds
call_place [] done rest seen p = absurd (no_place done (Called seen) rest p)
call_place (Printing x ∷ ds) done rest seen p = at (entry_text x) refl done p (λ more q. call_place ds more rest seen q)
  where
    at : (line : List ℕ) → entry_text x ≡ line → (done : List Act) → done ++ Called seen ∷ rest ≡ printing line ++ acts_of_deeds ds
        → ((more : List Act) → more ++ Called seen ∷ rest ≡ acts_of_deeds ds → CallPlace more seen rest ds) → CallPlace done seen rest (Printing x ∷ ds)
    at [] e done p further =
        let q = further done p in
        record {
          first = Printing x ∷ q.first;
          call = q.call;
          behind = q.behind;
          is = ap (λ z. Printing x ∷ z) q.is;
          seen_is = q.seen_is;
          done_is = ap (λ (z : List ℕ). printing z ++ acts_of_deeds q.first) e ∙ q.done_is;
          rest_is = q.rest_is;
        }
    at (octet ∷ octets) e [] p further = absurd (let s = (same_first (Called seen) (Wrote (octet ∷ octets) true) rest (acts_of_deeds ds) p).0 in cc s)
    at (octet ∷ octets) e (d ∷ done) p further =
        let s = same_first d (Wrote (octet ∷ octets) true) (done ++ Called seen ∷ rest) (acts_of_deeds ds) p in
        let q = further done s.1 in
        record {
          first = Printing x ∷ q.first;
          call = q.call;
          behind = q.behind;
          is = ap (λ z. Printing x ∷ z) q.is;
          seen_is = q.seen_is;
          done_is = ap (λ (z : List ℕ). printing z ++ acts_of_deeds q.first) e ∙ ap (λ (z : List Act). Wrote (octet ∷ octets) true ∷ z) q.done_is ∙ ap (λ z. z ∷ done) (sym s.0);
          rest_is = q.rest_is;
        }
call_place (Calling call ∷ ds) [] rest seen p =
    let s = same_first (Called seen) (Called (seen_of_call call)) rest (acts_of_deeds ds) p in
    record { first = []; call = call; behind = ds; is = refl; seen_is = same_call seen (seen_of_call call) s.0; done_is = refl; rest_is = sym s.1 }
  where
    same_call : (x y : SeenCall) → Called x ≡ Called y → y ≡ x
    same_call x y p = cc
call_place (Calling call ∷ ds) (d ∷ done) rest seen p =
    let s = same_first d (Called (seen_of_call call)) (done ++ Called seen ∷ rest) (acts_of_deeds ds) p in
    let q = call_place ds done rest seen s.1 in
    record {
      first = Calling call ∷ q.first;
      call = q.call;
      behind = q.behind;
      is = ap (λ z. Calling call ∷ z) q.is;
      seen_is = q.seen_is;
      done_is = ap₂ (λ (y : Act) (z : List Act). y ∷ z) (sym s.0) q.done_is;
      rest_is = q.rest_is;
    }

-- a beginning of the acts of deeds are the acts of some of them
record Front (acts : List Act) (ds : List LoopDeed) : Type 0 where
  first : List LoopDeed
  behind : List LoopDeed
  is : first ++ behind ≡ ds
  acts_are : acts_of_deeds first ≡ acts

front : (ds : List LoopDeed) (acts more : List Act) → acts ++ more ≡ acts_of_deeds ds → Front acts ds
front ds [] more p = record { first = []; behind = ds; is = refl; acts_are = refl }
front [] (act ∷ acts) more p = absurd (cc p)
front (Printing x ∷ ds) (act ∷ acts) more p = at (entry_text x) refl p (λ xs q. front ds xs more q)
  where
    at : (line : List ℕ) → entry_text x ≡ line → act ∷ acts ++ more ≡ printing line ++ acts_of_deeds ds → ((xs : List Act) → xs ++ more ≡ acts_of_deeds ds → Front xs ds) → Front (act ∷ acts) (Printing x ∷ ds)
    at [] e p further =
        let q = further (act ∷ acts) p in
        record { first = Printing x ∷ q.first; behind = q.behind; is = ap (λ z. Printing x ∷ z) q.is; acts_are = ap (λ (z : List ℕ). printing z ++ acts_of_deeds q.first) e ∙ q.acts_are }
    at (octet ∷ octets) e p further =
        let s = same_first act (Wrote (octet ∷ octets) true) (acts ++ more) (acts_of_deeds ds) p in
        let q = further acts s.1 in
        record {
          first = Printing x ∷ q.first;
          behind = q.behind;
          is = ap (λ z. Printing x ∷ z) q.is;
          acts_are = ap (λ (z : List ℕ). printing z ++ acts_of_deeds q.first) e ∙ ap (λ (z : List Act). Wrote (octet ∷ octets) true ∷ z) q.acts_are ∙ ap (λ z. z ∷ acts) (sym s.0);
        }
front (Calling call ∷ ds) (act ∷ acts) more p =
    let s = same_first act (Called (seen_of_call call)) (acts ++ more) (acts_of_deeds ds) p in
    let q = front ds acts more s.1 in
    record { first = Calling call ∷ q.first; behind = q.behind; is = ap (λ z. Calling call ∷ z) q.is; acts_are = ap₂ (λ (y : Act) (z : List Act). y ∷ z) (sym s.0) q.acts_are }

-- no write of theirs failed
none_failed : (ds : List LoopDeed) (done rest : List Act) (piece : List ℕ) → done ++ Wrote piece false ∷ rest ≡ acts_of_deeds ds → ⊥
none_failed [] done rest piece p = no_place done (Wrote piece false) rest p
none_failed (Printing x ∷ ds) done rest piece p = at (entry_text x) done p (λ more q. none_failed ds more rest piece q)
  where
    at : (line : List ℕ) (done : List Act) → done ++ Wrote piece false ∷ rest ≡ printing line ++ acts_of_deeds ds → ((more : List Act) → more ++ Wrote piece false ∷ rest ≡ acts_of_deeds ds → ⊥) → ⊥
    at [] done p further = further done p
    at (octet ∷ octets) [] p further = (let s = (same_first (Wrote piece false) (Wrote (octet ∷ octets) true) rest (acts_of_deeds ds) p).0 in cc s)
    at (octet ∷ octets) (d ∷ done) p further = further done (same_first d (Wrote (octet ∷ octets) true) (done ++ Wrote piece false ∷ rest) (acts_of_deeds ds) p).1
none_failed (Calling call ∷ ds) [] rest piece p = (let s = (same_first (Wrote piece false) (Called (seen_of_call call)) rest (acts_of_deeds ds) p).0 in cc s)
none_failed (Calling call ∷ ds) (d ∷ done) rest piece p = none_failed ds done rest piece (same_first d (Called (seen_of_call call)) (done ++ Wrote piece false ∷ rest) (acts_of_deeds ds) p).1

-- no file is asked for
unfetched_kept : (xs : List Act) → IsFalse (list_any is_fetch (kept xs)) → IsFalse (list_any is_fetch xs)
unfetched_kept [] p = refl
unfetched_kept (Fetched name answer ∷ xs) p = absurd (true≢false p)
unfetched_kept (Wrote piece done ∷ xs) p = unfetched_kept xs p
unfetched_kept (Called call ∷ xs) p = unfetched_kept xs p
unfetched_kept (Asked moment ∷ xs) p = unfetched_kept xs p
unfetched_kept (Drew word ∷ xs) p = unfetched_kept xs p

unfetched_front : (xs ys : List Act) → IsFalse (list_any is_fetch (xs ++ ys)) → IsFalse (list_any is_fetch xs)
unfetched_front [] ys p = refl
unfetched_front (Fetched name answer ∷ xs) ys p = absurd (true≢false p)
unfetched_front (Wrote piece done ∷ xs) ys p = unfetched_front xs ys p
unfetched_front (Called call ∷ xs) ys p = unfetched_front xs ys p
unfetched_front (Asked moment ∷ xs) ys p = unfetched_front xs ys p
unfetched_front (Drew word ∷ xs) ys p = unfetched_front xs ys p

unfetched_printing : (line : List ℕ) (acts : List Act) → IsFalse (list_any is_fetch acts) → IsFalse (list_any is_fetch (printing line ++ acts))
unfetched_printing [] acts p = p
unfetched_printing (octet ∷ octets) acts p = p

unfetched_deeds : (ds : List LoopDeed) → IsFalse (list_any is_fetch (acts_of_deeds ds))
unfetched_deeds [] = refl
unfetched_deeds (Printing x ∷ ds) = unfetched_printing (entry_text x) (acts_of_deeds ds) (unfetched_deeds ds)
unfetched_deeds (Calling call ∷ ds) = unfetched_deeds ds

unfetched_so : (ds : List LoopDeed) (acts more : List Act) → kept acts ++ more ≡ acts_of_deeds ds → IsFalse (list_any is_fetch acts)
unfetched_so ds acts more p = unfetched_kept acts (unfetched_front (kept acts) more (subst (λ (z : List Act). IsFalse (list_any is_fetch z)) (sym p) (unfetched_deeds ds)))

-- ---- deeds in order, and acts that did them or a beginning of them

-- what is given is told of before, and a close is the last of its connection
pub record InOrder (ds : List LoopDeed) : Type 0 where
  pub told : (conn : ℕ) (done rest : List LoopDeed) → done ++ rest ≡ ds → GivesTold conn done
  pub last : (conn : ℕ) (done rest : List LoopDeed) → done ++ Calling (Closes conn) ∷ rest ≡ ds → IsSilentOnConnection conn rest

-- behind a write that failed nothing is done
abbrev FailsLast : List Act → Type 0
FailsLast acts = (piece : List ℕ) (done rest : List Act) → done ++ Wrote piece false ∷ rest ≡ acts → AreQuiet rest

pub record CameSoFar (before now : Told) (ds : List LoopDeed) : Type 0 where
  pub acts : List Act
  pub did : Did before now acts
  pub more : List Act
  pub is : kept acts ++ more ≡ acts_of_deeds ds
  pub failed : (piece : List ℕ) (done rest : List Act) → done ++ Wrote piece false ∷ rest ≡ acts → AreQuiet rest

-- a failed write among all acts is one among those of deeds
failed_place : (piece : List ℕ) (done rest acts : List Act) → done ++ Wrote piece false ∷ rest ≡ acts
    → filter is_of_deeds done ++ Wrote piece false ∷ filter is_of_deeds rest ≡ filter is_of_deeds acts
failed_place piece done rest acts p = sym (filter-append is_of_deeds done (Wrote piece false ∷ rest)) ∙ ap (λ (z : List Act). filter is_of_deeds z) p

pub came_all : (a b : Told) (ds : List LoopDeed) → DidDeeds a b ds → CameSoFar a b ds
came_all a b ds p = record {
  acts = p.acts;
  did = p.did;
  more = [];
  is = append-nil (kept p.acts) ∙ sym (kept_filter p.acts) ∙ ap (λ (z : List Act). kept z) p.are ∙ kept_deeds ds;
  failed = λ piece done rest e. absurd (none_failed ds (filter is_of_deeds done) (filter is_of_deeds rest) piece (failed_place piece done rest p.acts e ∙ p.are));
}

-- the acts of deeds up to where a part broke off, with those that are left
whole_begun : (ds : List LoopDeed) (done left : List Act) → done ++ left ≡ acts_of_deeds ds → kept done ++ kept left ≡ acts_of_deeds ds
whole_begun ds done left p = sym (kept_parts done left) ∙ ap (λ (z : List Act). kept z) p ∙ kept_deeds ds

pub came_some : (a b : Told) (ds : List LoopDeed) (fault : LoopFault) → BeganDeeds a b ds fault → CameSoFar a b ds
came_some a b ds Wires p = absurd p.begun.breaks
came_some a b ds Sink p =
    let f = p.begun.breaks in
    record {
      acts = p.acts;
      did = p.did;
      more = kept f.rest;
      is =
          ap (λ (z : List Act). z ++ kept f.rest) (sym (kept_filter p.acts) ∙ ap (λ (z : List Act). kept z) f.are ∙ kept_parts p.begun.done (Wrote f.piece false ∷ []))
          ∙ append_assoc (kept p.begun.done) (Wrote f.piece true ∷ []) (kept f.rest)
          ∙ ap (λ (z : List Act). kept p.begun.done ++ kept z) (sym f.next) ∙ whole_begun ds p.begun.done p.begun.left p.begun.is;
      failed = λ piece done rest e. at piece done rest (last_or (filter is_of_deeds done) (Wrote piece false) (filter is_of_deeds rest) p.begun.done (Wrote f.piece false) (failed_place piece done rest p.acts e ∙ f.are));
    }
  where
    at : (piece : List ℕ) (done rest : List Act) → IsLastOr (filter is_of_deeds done) (Wrote piece false) (filter is_of_deeds rest) p.begun.done → AreQuiet rest
    at piece done rest (Last none) = quiet_rest rest none
    at piece done rest (Before more q) =
        absurd (none_failed ds (filter is_of_deeds done) (more ++ p.begun.left) piece
        (sym (append_assoc (filter is_of_deeds done) (Wrote piece false ∷ more) p.begun.left) ∙ ap (λ (z : List Act). z ++ p.begun.left) q ∙ p.begun.is))
came_some a b ds (NoMemory want) p = record {
  acts = p.acts;
  did = p.did;
  more = kept p.begun.left;
  is = ap (λ (z : List Act). z ++ kept p.begun.left) (sym (kept_filter p.acts) ∙ ap (λ (z : List Act). kept z) p.begun.breaks) ∙ whole_begun ds p.begun.done p.begun.left p.begun.is;
  failed = λ piece done rest e.
      absurd (none_failed ds (filter is_of_deeds done) (filter is_of_deeds rest ++ p.begun.left) piece
      (sym (append_assoc (filter is_of_deeds done) (Wrote piece false ∷ filter is_of_deeds rest) p.begun.left)
      ∙ ap (λ (z : List Act). z ++ p.begun.left) (failed_place piece done rest p.acts e ∙ p.begun.breaks) ∙ p.begun.is));
}

-- ---- behind the first call and the header

-- a place behind both
record InRun (first : SeenCall) (header : List ℕ) (acts done : List Act) (y : Act) (rest : List Act) : Type 0 where
  more : List Act
  is : done ≡ Called first ∷ (printing header ++ more)
  at : more ++ y ∷ rest ≡ acts

in_run : (first : SeenCall) (header : List ℕ) (acts done : List Act) (y : Act) (rest : List Act) → y ≢ Called first → ((line : List ℕ) → y ≢ Wrote line true)
    → done ++ y ∷ rest ≡ Called first ∷ (printing header ++ acts) → InRun first header acts done y rest
in_run first header acts done y rest no_first no_line p = behind_first (peel (Called first) (printing header ++ acts) done y rest p)
  where
    behind_header : (line : List ℕ) (more : List Act) → more ++ y ∷ rest ≡ printing line ++ acts → (behind : List Act) × (more ≡ printing line ++ behind) × (behind ++ y ∷ rest ≡ acts)
    behind_header [] more q = (more, refl, q)
    behind_header (octet ∷ octets) more q = at (peel (Wrote (octet ∷ octets) true) acts more y rest q)
      where
        at : Peeled (Wrote (octet ∷ octets) true) acts more y rest → (behind : List Act) × (more ≡ Wrote (octet ∷ octets) true ∷ behind) × (behind ++ y ∷ rest ≡ acts)
        at (Here none same left) = absurd (no_line (octet ∷ octets) same)
        at (Behind behind same left) = (behind, same, left)

    behind_first : Peeled (Called first) (printing header ++ acts) done y rest → InRun first header acts done y rest
    behind_first (Here none same left) = absurd (no_first same)
    behind_first (Behind more same left) =
        let q = behind_header header more left in
        record { more = q.0; is = same ∙ ap (λ (z : List Act). Called first ∷ z) q.1; at = q.2 }

opens_nothing : (conn : ℕ) (first : SeenCall) → is_opening_call first ≡ true → given_in_call conn first ≡ []
opens_nothing conn (Listened address listens) p = refl
opens_nothing conn (Dialled address opened) p = refl
opens_nothing conn (Turned until what) p = refl
opens_nothing conn (Read other size reading) p = absurd (true≢false (sym p))
opens_nothing conn (Sent other piece answer) p = absurd (true≢false (sym p))
opens_nothing conn (Closed other) p = absurd (true≢false (sym p))

-- another call than the first
other_call : (first call : SeenCall) → is_opening_call first ≡ true → is_opening_call call ≡ false → Called call ≢ Called first
other_call first call p q same = true≢false (sym p ∙ ap is_opening_call (sym (calls_same call first same)) ∙ q)
  where
    calls_same : (x y : SeenCall) → Called x ≡ Called y → x ≡ y
    calls_same x y p = cc

no_write : (call : SeenCall) (line : List ℕ) → Called call ≢ Wrote line true
no_write call line p = cc p

pieces_before : (first : SeenCall) (header : List ℕ) (more done : List Act) → done ≡ Called first ∷ (printing header ++ more) → pieces_in done ≡ header ++ pieces_in more
unfolding pieces_in
pieces_before first header more done p = ap pieces_in p ∙ pieces_printing header more

given_before : (conn : ℕ) (first : SeenCall) (header : List ℕ) (more : List Act) → is_opening_call first ≡ true
    → given_to_connection conn (Called first ∷ (printing header ++ more)) ≡ given_to_connection conn more
unfolding given_to_connection
given_before conn first header more p = ap (λ (z : List ℕ). z ++ given_to_connection conn (printing header ++ more)) (opens_nothing conn first p) ∙ given_printing conn header more

closing_call : (call : Call) (conn : ℕ) → seen_of_call call ≡ Closed conn → call ≡ Closes conn
closing_call (Listens address listens) conn p = absurd (cc p)
closing_call (Dials address opened) conn p = absurd (cc p)
closing_call (Turns until what) conn p = absurd (cc p)
closing_call (Reads other size waits reading) conn p = absurd (cc p)
closing_call (Writes other piece answer) conn p = absurd (cc p)
closing_call (Closes other) conn p = cc

-- a place among the acts, and the deeds before and behind it
place_in : (a b : Told) (ds : List LoopDeed) (came : CameSoFar a b ds) (seen : SeenCall) (more rest : List Act) → more ++ Called seen ∷ rest ≡ came.acts → CallPlace (kept more) seen (kept rest ++ came.more) ds
place_in a b ds came seen more rest p =
    call_place ds (kept more) (kept rest ++ came.more) seen
    (sym (append_assoc (kept more) (Called seen ∷ kept rest) came.more) ∙ ap (λ (z : List Act). z ++ came.more) (sym (kept_parts more (Called seen ∷ rest)) ∙ ap (λ (z : List Act). kept z) p) ∙ came.is)

no_entry : (call : Call) → entries_in (Calling call ∷ []) ≡ []
unfolding entries_in
no_entry call = refl

given_there : (a b : Told) (ds : List LoopDeed) → InOrder ds → (came : CameSoFar a b ds) (first : SeenCall) (header : List ℕ) → is_opening_call first ≡ true
    → (conn : ℕ) (piece : List ℕ) (answer : WriteAnswer) (done rest : List Act) → InRun first header came.acts done (Called (Sent conn piece answer)) rest
    → AreToldBefore header conn done (given_to_connection conn (done ++ Called (Sent conn piece answer) ∷ []))
unfolding given_to_connection
given_there a b ds ordered came first header opens conn piece answer done rest r =
    let sent = Called (Sent conn piece answer) in
    let q = place_in a b ds came (Sent conn piece answer) r.more rest r.at in
    let upto : List LoopDeed = q.first ++ Calling q.call ∷ [] in
    let told = ordered.told conn upto q.behind (append_assoc q.first (Calling q.call ∷ []) q.behind ∙ q.is) in
    let acts_are : acts_of_deeds upto ≡ kept (r.more ++ sent ∷ []) =
    deeds_parts q.first (Calling q.call ∷ []) ∙ ap₂ (λ (y : List Act) (z : SeenCall). y ++ Called z ∷ []) q.done_is q.seen_is ∙ sym (kept_parts r.more (sent ∷ [])) in
    let given : given_of conn (calls_in upto) ≡ given_to_connection conn (done ++ sent ∷ []) =
    sym (given_deeds conn upto) ∙ ap (given_to_connection conn) acts_are ∙ given_kept conn (r.more ++ sent ∷ [])
    ∙ sym (given_before conn first header (r.more ++ sent ∷ []) opens)
    ∙ ap (given_to_connection conn) (ap (λ (z : List Act). Called first ∷ z) (sym (append_assoc (printing header) r.more (sent ∷ []))) ∙ ap (λ (z : List Act). z ++ sent ∷ []) (sym r.is)) in
    let events : entries_in q.first ≡ entries_in upto = sym (entries_parts q.first (Calling q.call ∷ []) ∙ ap (λ (z : List JournalEntry). entries_in q.first ++ z) (no_entry q.call) ∙ append-nil (entries_in q.first)) in
    record {
      events = entries_in upto;
      written = pieces_before first header r.more done r.is ∙ ap (λ (z : List ℕ). header ++ z) (sym (pieces_kept r.more) ∙ ap pieces_in (sym q.done_is) ∙ pieces_deeds q.first ∙ ap text events);
      told = subst (λ (z : List ℕ). IsBeginning z (octets_of_entries (of conn (entries_in upto)))) given told;
    }

closed_there : (a b : Told) (ds : List LoopDeed) → InOrder ds → (came : CameSoFar a b ds) (first : SeenCall) (header : List ℕ)
    → (conn : ℕ) (done rest : List Act) → InRun first header came.acts done (Called (Closed conn)) rest → IsClosedLast header conn done rest
closed_there a b ds ordered came first header conn done rest r =
    let q = place_in a b ds came (Closed conn) r.more rest r.at in
    let closes = closing_call q.call conn q.seen_is in
    let silent = ordered.last conn q.first q.behind (ap (λ (z : Call). q.first ++ Calling z ∷ q.behind) (sym closes) ∙ q.is) in
    let f = front q.behind (kept rest) came.more (sym q.rest_is) in
    let quiet = silent_front conn f.first f.behind (subst (λ (z : List LoopDeed). IsSilentOnConnection conn z) (sym f.is) silent) in
    record {
      events = entries_in q.first;
      written = pieces_before first header r.more done r.is ∙ ap (λ (z : List ℕ). header ++ z) (sym (pieces_kept r.more) ∙ ap pieces_in (sym q.done_is) ∙ pieces_deeds q.first);
      later = entries_in f.first;
      behind = sym (pieces_kept rest) ∙ ap pieces_in (sym f.acts_are) ∙ pieces_deeds f.first;
      others = quiet.0;
      untouched = untouched_kept conn rest (ap (λ (z : List Act). filter (is_act_at conn) z) (sym f.acts_are) ∙ none_at_deeds conn f.first quiet.1);
    }

-- all of it
pub recorded_run : (header : List ℕ) (a l m b : Told) (first : SeenCall) (ds : List LoopDeed) → is_opening_call first ≡ true → Did a l (Called first ∷ []) → Did l m (printing header) → InOrder ds → CameSoFar m b ds
    → IsRecordedFirst header a b
recorded_run header a l m b first ds opens p q ordered came = record {
  acts = Called first ∷ (printing header ++ came.acts);
  did = did_then a l b (Called first ∷ []) (printing header ++ came.acts) p (did_then l m b (printing header) came.acts q came.did);
  given = λ conn piece answer done rest e.
      given_there m b ds ordered came first header opens conn piece answer done rest
      (in_run first header came.acts done (Called (Sent conn piece answer)) rest (other_call first (Sent conn piece answer) opens refl) (no_write (Sent conn piece answer)) e);
  closed = λ conn done rest e.
      closed_there m b ds ordered came first header conn done rest (in_run first header came.acts done (Called (Closed conn)) rest (other_call first (Closed conn) opens refl) (no_write (Closed conn)) e);
  failed = λ piece done rest e.
      let r = in_run first header came.acts done (Wrote piece false) rest (λ z. cc z) (λ line z. cc z) e in
      came.failed piece r.more rest r.at;
  unfetched = unfetched_printing header came.acts (unfetched_so ds came.acts came.more came.is);
}

-- ---- before that

-- nothing was done
pub recorded_nothing : (header : List ℕ) (a : Told) → IsRecordedFirst header a a
recorded_nothing header a = record {
  acts = [];
  did = did_nothing a;
  given = λ conn piece answer done rest e. absurd (no_place done (Called (Sent conn piece answer)) rest e);
  closed = λ conn done rest e. absurd (no_place done (Called (Closed conn)) rest e);
  failed = λ piece done rest e. absurd (no_place done (Wrote piece false) rest e);
  unfetched = refl;
}

-- acts that go to no connection
abbrev AreHere : List Act → Type 0
AreHere [] = Unit {0}
AreHere (Fetched name answer ∷ acts) = AreHere acts
AreHere (Wrote piece done ∷ acts) = AreHere acts
AreHere (Called call ∷ acts) = (is_opening_call call ≡ true) × AreHere acts
AreHere (Asked moment ∷ acts) = AreHere acts
AreHere (Drew word ∷ acts) = AreHere acts

call_here : (done : List Act) (call : SeenCall) (rest : List Act) → AreHere (done ++ Called call ∷ rest) → is_opening_call call ≡ true
call_here [] call rest p = p.0
call_here (Fetched name answer ∷ done) call rest p = call_here done call rest p
call_here (Wrote piece was ∷ done) call rest p = call_here done call rest p
call_here (Called other ∷ done) call rest p = call_here done call rest p.1
call_here (Asked moment ∷ done) call rest p = call_here done call rest p
call_here (Drew word ∷ done) call rest p = call_here done call rest p

recorded_here : (header : List ℕ) (a b : Told) (acts : List Act) → Did a b acts → AreHere acts → FailsLast acts → IsFalse (list_any is_fetch acts) → IsRecordedFirst header a b
recorded_here header a b acts p here fails unfetched = record {
  acts = acts;
  did = p;
  given = λ conn piece answer done rest e. absurd (true≢false (sym (call_here done (Sent conn piece answer) rest (subst AreHere (sym e) here))));
  closed = λ conn done rest e. absurd (true≢false (sym (call_here done (Closed conn) rest (subst AreHere (sym e) here))));
  failed = fails;
  unfetched = unfetched;
}

-- the first call alone
pub recorded_call : (header : List ℕ) (a l : Told) (first : SeenCall) → is_opening_call first ≡ true → Did a l (Called first ∷ []) → IsRecordedFirst header a l
recorded_call header a l first opens p = recorded_here header a l (Called first ∷ []) p (opens, tt) (λ piece done rest e. at piece done rest (peel (Called first) [] done (Wrote piece false) rest e)) refl
  where
    at : (piece : List ℕ) (done rest : List Act) → Peeled (Called first) [] done (Wrote piece false) rest → AreQuiet rest
    at piece done rest (Here none same left) = absurd (cc same)
    at piece done rest (Behind more same left) = absurd (no_place more (Wrote piece false) rest left)

-- how the header broke off
pub data HeaderBegun (header : List ℕ) (acts : List Act) : Type 0 where
  NoneOfIt : acts ≡ [] → HeaderBegun header acts
  AllOfIt : acts ≡ printing header → HeaderBegun header acts
  FailedAt : acts ≡ Wrote header false ∷ [] → HeaderBegun header acts

header_ends : (line : List ℕ) (done left acts : List Act) → done ++ left ≡ printing line → acts ≡ done → HeaderBegun line acts
header_ends line [] left acts p q = NoneOfIt q
header_ends [] (d ∷ done) left acts p q = absurd (cc p)
header_ends (octet ∷ octets) (d ∷ []) left acts p q = AllOfIt (q ∙ ap (λ z. z ∷ []) (same_first d (Wrote (octet ∷ octets) true) left [] p).0)
header_ends (octet ∷ octets) (d ∷ e ∷ done) left acts p q = absurd (let s = (same_first d (Wrote (octet ∷ octets) true) (e ∷ done ++ left) [] p).1 in cc s)

header_fails : (line : List ℕ) (done left rest acts : List Act) (piece : List ℕ) → done ++ left ≡ printing line → left ≡ Wrote piece true ∷ rest → acts ≡ done ++ Wrote piece false ∷ [] → HeaderBegun line acts
header_fails [] done left rest acts piece p q r = absurd (no_place done (Wrote piece true) rest (ap (λ (z : List Act). done ++ z) (sym q) ∙ p))
header_fails (octet ∷ octets) [] left rest acts piece p q r =
    let s = (same_first (Wrote piece true) (Wrote (octet ∷ octets) true) rest [] (sym q ∙ p)).0 in
    FailedAt (r ∙ ap (λ (z : List ℕ). Wrote z false ∷ []) (same_piece piece (octet ∷ octets) s))
  where
    same_piece : (x y : List ℕ) → Wrote x true ≡ Wrote y true → x ≡ y
    same_piece x y p = cc
header_fails (octet ∷ octets) (d ∷ done) left rest acts piece p q r =
    absurd (no_place done (Wrote piece true) rest (ap (λ (z : List Act). done ++ z) (sym q) ∙ (same_first d (Wrote (octet ∷ octets) true) (done ++ left) [] p).1))

pub header_begun : (line : List ℕ) (fault : LoopFault) (acts : List Act) → AreBegun fault (printing line) acts → HeaderBegun line acts
header_begun line Wires acts p = absurd p.breaks
header_begun line Sink acts p = header_fails line p.done p.left p.breaks.rest acts p.breaks.piece p.is p.breaks.next p.breaks.are
header_begun line (NoMemory want) acts p = header_ends line p.done p.left acts p.is p.breaks

-- the header broke off
pub recorded_header : (header : List ℕ) (a l m : Told) (first : SeenCall) (fault : LoopFault) → is_opening_call first ≡ true → Did a l (Called first ∷ []) → Breaks l m (printing header) fault → IsRecordedFirst header a m
recorded_header header a l m first fault opens p q =
    recorded_here header a m (Called first ∷ q.acts) (did_then a l m (Called first ∷ []) q.acts p q.did) (opens, here q.acts (header_begun header fault q.acts q.begun))
    (λ piece done rest e. fails q.acts (header_begun header fault q.acts q.begun) piece done rest e) (unfetched q.acts (header_begun header fault q.acts q.begun))
  where
    unfetched : (acts : List Act) → HeaderBegun header acts → IsFalse (list_any is_fetch acts)
    unfetched acts (NoneOfIt e) = subst (λ (z : List Act). IsFalse (list_any is_fetch z)) (sym e) refl
    unfetched acts (AllOfIt e) = subst (λ (z : List Act). IsFalse (list_any is_fetch z)) (sym (e ∙ sym (append-nil (printing header)))) (unfetched_printing header [] refl)
    unfetched acts (FailedAt e) = subst (λ (z : List Act). IsFalse (list_any is_fetch z)) (sym e) refl

    here_printing : (line : List ℕ) → AreHere (printing line)
    here_printing [] = tt
    here_printing (octet ∷ octets) = tt

    here : (acts : List Act) → HeaderBegun header acts → AreHere acts
    here acts (NoneOfIt e) = subst AreHere (sym e) tt
    here acts (AllOfIt e) = subst AreHere (sym e) (here_printing header)
    here acts (FailedAt e) = subst AreHere (sym e) tt

    none_printed : (line : List ℕ) (piece : List ℕ) (done rest : List Act) → done ++ Wrote piece false ∷ rest ≡ printing line → ⊥
    none_printed [] piece done rest e = no_place done (Wrote piece false) rest e
    none_printed (octet ∷ octets) piece [] rest e = (let s = (same_first (Wrote piece false) (Wrote (octet ∷ octets) true) rest [] e).0 in cc s)
    none_printed (octet ∷ octets) piece (d ∷ done) rest e = no_place done (Wrote piece false) rest (same_first d (Wrote (octet ∷ octets) true) (done ++ Wrote piece false ∷ rest) [] e).1

    behind : (acts : List Act) → HeaderBegun header acts → (piece : List ℕ) (done rest : List Act) → done ++ Wrote piece false ∷ rest ≡ acts → AreQuiet rest
    behind acts (NoneOfIt e) piece done rest same = absurd (no_place done (Wrote piece false) rest (same ∙ e))
    behind acts (AllOfIt e) piece done rest same = absurd (none_printed header piece done rest (same ∙ e))
    behind acts (FailedAt e) piece done rest same = at (peel (Wrote header false) [] done (Wrote piece false) rest (same ∙ e))
      where
        at : Peeled (Wrote header false) [] done (Wrote piece false) rest → AreQuiet rest
        at (Here none is left) = subst AreQuiet (sym left) tt
        at (Behind more is left) = absurd (no_place more (Wrote piece false) rest left)

    fails : (acts : List Act) → HeaderBegun header acts → (piece : List ℕ) (done rest : List Act) → done ++ Wrote piece false ∷ rest ≡ Called first ∷ acts → AreQuiet rest
    fails acts h piece done rest e = at (peel (Called first) acts done (Wrote piece false) rest e)
      where
        at : Peeled (Called first) acts done (Wrote piece false) rest → AreQuiet rest
        at (Here none same left) = absurd (cc same)
        at (Behind more same left) = behind acts h piece more rest left
