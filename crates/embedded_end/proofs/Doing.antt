-- What one call comes to at a side, and calls one after the other.
use Rattle.std.proofs.Common.{◌≡◌, ◌∙◌, ℕ, List, [], ◌∷◌, ◌++◌, length, take, drop, refl, sym, ap, subst, append-nil, append_assoc, take-append-drop, arith}
use Rattle.std.specs.Prelude.{◌-◌, slice_get}
use Rattle.std.proofs.lemmas.List.{take_rest}
use Rattle.std.specs.Option.{option_to_list}
use Rattle.er_end_model.specs.Ends.{Event, Take, Opening, Moment}
use Rattle.er_end_model.specs.Outcomes.{Outcome}
use Rattle.er_end_model.specs.Origins.{octets_brought_by_event}
use Rattle.er_end.specs.Inboxes.{first_in}
use Rattle.er_end.specs.KeptEnds.{KEnd, kept_opened, kept_end_behind_event, tells, waiting_in}
use Rattle.er_end.specs.Standing.{event_of, kept_run, kept_outcomes}
use Rattle.er_end_promises.specs.Told.{messages_taken, octets_for_line}
use Rattle.er_end_promises.specs.Calls.{IsEventDone, taken_at_event, octets_used, CallsTellDeeds, CallsInTurn}
use Rattle.er_end_promises.specs.Order.{TakenBeginsAccepted}
use Rattle.er_end_promises.specs.Verified.{AcceptedWereBrought}
use Rattle.embedded_end.specs.declared.side.Side.{Side}
use Rattle.embedded_end.specs.Sides.{text_of_messages, UserGot, SideDid, SideHeard, UserGoesOn, IsSideOf, UserHasAccepted}

text-append : (ms ns : List (List ℕ)) → text_of_messages (ms ++ ns) ≡ text_of_messages ms ++ text_of_messages ns
text-append [] ns = refl
text-append (m ∷ ms) ns = ap (λ z. m ++ z) (text-append ms ns) ∙ sym (append_assoc m (text_of_messages ms) (text_of_messages ns))

abbrev one : ℕ → Event → List Moment
one now event = record { now = now; event = event } ∷ []

-- ---- one call

pub did_one : (now : ℕ) (event : Event) (old new : Side) (line user : List ℕ) → new.end.value ≡ kept_end_behind_event now event old.end.value
    → new.to_line.items ≡ old.to_line.items ++ line → line ≡ octets_for_line (tells now event old.end.value)
    → new.to_user.items ≡ old.to_user.items ++ user → user ≡ text_of_messages (messages_taken (tells now event old.end.value)) → SideDid (one now event) old new
did_one now event old new line user is out line_is got user_is =
    let told : tells now event old.end.value ≡ kept_outcomes (one now event) old.end.value = sym (append-nil (tells now event old.end.value)) in
    record {
      got = record { end = is; user = got ∙ ap (λ z. old.to_user.items ++ z) (user_is ∙ ap (λ (xs : List Outcome). text_of_messages (messages_taken xs)) told) };
      line = out ∙ ap (λ z. old.to_line.items ++ z) (line_is ∙ ap (λ (xs : List Outcome). octets_for_line xs) told);
    }

-- what a call told for the line that was done
pub line_of : CallsTellDeeds → (now : ℕ) (event : Event) (k : KEnd) → IsEventDone event k → (kept_end_behind_event now event k).core.line.out ≡ octets_for_line (tells now event k)
line_of deeds now event k done = sym (deeds.done now event k done).line

-- a call that is no take gives the user nothing
pub none_for_user : CallsTellDeeds → (now : ℕ) (event : Event) (k : KEnd) → taken_at_event event (waiting_in k) ≡ [] → [] ≡ text_of_messages (messages_taken (tells now event k))
none_for_user deeds now event k none = sym (ap (λ (ms : List (List ℕ)). text_of_messages ms) (deeds.taken now event k ∙ none))

first_text : (waits : List (List ℕ)) → first_in waits ≡ text_of_messages (option_to_list (slice_get waits 0))
first_text [] = refl
first_text (m ∷ ms) = sym (append-nil m)

-- a take gives the first that waits
pub first_for_user : CallsTellDeeds → (now : ℕ) (k : KEnd) → first_in (waiting_in k) ≡ text_of_messages (messages_taken (tells now Take k))
first_for_user deeds now k = first_text (waiting_in k) ∙ sym (ap (λ (ms : List (List ℕ)). text_of_messages ms) (deeds.taken now Take k))

none_waits : (waits : List (List ℕ)) → length waits ≡ 0 → waits ≡ []
none_waits [] e = refl
none_waits (m ∷ ms) e = absurd (omega arith)

-- one that found none
pub did_nothing : CallsTellDeeds → (now : ℕ) (old new : Side) → new.end.value ≡ kept_end_behind_event now Take old.end.value → new.to_line.items ≡ old.to_line.items
    → new.to_user.items ≡ old.to_user.items → length (waiting_in old.end.value) ≡ 0 → SideDid (one now Take) old new
did_nothing deeds now old new is line user none =
    let k : KEnd = old.end.value in
    let empty : waiting_in k ≡ [] = none_waits (waiting_in k) none in
    did_one now Take old new [] [] is (line ∙ sym (append-nil old.to_line.items)) (sym (deeds.nothing now k empty)) (user ∙ sym (append-nil old.to_user.items))
    (ap first_in (sym empty) ∙ first_for_user deeds now k)

none_left : (octets : List ℕ) → length octets ≡ 0 → octets ≡ []
none_left [] e = refl
none_left (o ∷ octets) e = absurd (omega arith)

-- one call, by the octets that it used
pub heard_by : (now : ℕ) (event : Event) (old new : Side) (octets : List ℕ) → SideDid (one now event) old new
    → octets_brought_by_event (event_of old.end.value event) ≡ octets → SideHeard octets old new
heard_by now event old new octets did is =
    record { calls = one now event; did = did; used = append-nil (octets_brought_by_event (event_of old.end.value event)) ∙ is }

-- ---- calls one after the other

-- a side heard what came before these octets
pub record HeardTo (octets rest : List ℕ) (old new : Side) : Type 0 where
  pub before : List ℕ
  pub is : before ++ rest ≡ octets
  pub heard : SideHeard before old new

user_behind : CallsInTurn → (calls later : List Moment) (a b c : Side) → UserGot calls a b → UserGot later b c → UserGot (calls ++ later) a c
user_behind turn calls later a b c h g =
    let k : KEnd = a.end.value in
    let k' : KEnd = kept_run calls k in
    let told = kept_outcomes calls k in
    let then_told = kept_outcomes later k' in
    let is = ap (λ (x : KEnd). kept_outcomes later x) h.end in
    record {
      end = g.end ∙ ap (λ (x : KEnd). kept_run later x) h.end ∙ sym (turn.end calls later k);
      user = g.user ∙ ap (λ (xs : List Outcome). b.to_user.items ++ text_of_messages (messages_taken xs)) is
          ∙ ap (λ z. z ++ text_of_messages (messages_taken then_told)) h.user
          ∙ append_assoc a.to_user.items (text_of_messages (messages_taken told)) (text_of_messages (messages_taken then_told))
          ∙ ap (λ z. a.to_user.items ++ z)
          (sym (text-append (messages_taken told) (messages_taken then_told))
          ∙ ap (λ (ms : List (List ℕ)). text_of_messages ms) (sym (turn.taken told then_told) ∙ ap (λ (xs : List Outcome). messages_taken xs) (sym (turn.told calls later k))));
    }

did_behind : CallsInTurn → (calls later : List Moment) (a b c : Side) → SideDid calls a b → SideDid later b c → SideDid (calls ++ later) a c
did_behind turn calls later a b c h g =
    let k : KEnd = a.end.value in
    let k' : KEnd = kept_run calls k in
    let told = kept_outcomes calls k in
    let then_told = kept_outcomes later k' in
    let is = ap (λ (x : KEnd). kept_outcomes later x) h.got.end in
    record {
      got = user_behind turn calls later a b c h.got g.got;
      line = g.line ∙ ap (λ (xs : List Outcome). b.to_line.items ++ octets_for_line xs) is
          ∙ ap (λ z. z ++ octets_for_line then_told) h.line
          ∙ append_assoc a.to_line.items (octets_for_line told) (octets_for_line then_told)
          ∙ ap (λ z. a.to_line.items ++ z) (sym (turn.line told then_told) ∙ ap (λ (xs : List Outcome). octets_for_line xs) (sym (turn.told calls later k)));
    }

-- octets that one side heard, and then more
pub heard_behind : CallsInTurn → (a b c : Side) (octets later : List ℕ) → SideHeard octets a b → SideHeard later b c → SideHeard (octets ++ later) a c
heard_behind turn a b c octets later h g =
    record {
      calls = h.calls ++ g.calls;
      did = did_behind turn h.calls g.calls a b c h.did g.did;
      used = turn.used h.calls g.calls a.end.value ∙ ap (λ (k : KEnd). octets_used h.calls a.end.value ++ octets_used g.calls k) (sym h.did.got.end)
          ∙ ap (λ z. z ++ octets_used g.calls b.end.value) h.used ∙ ap (λ z. octets ++ z) g.used;
    }

-- octets up to a place, a call that uses none, and so on to the next place
pub heard_to : CallsInTurn → (a b c d : Side) (octets rest : List ℕ) (used : ℕ) (before : List ℕ) → before ++ rest ≡ octets → SideHeard before a b → SideHeard (take used rest) b c → SideHeard [] c d
    → HeardTo octets (take (length rest - used) (drop used rest)) a d
heard_to turn a b c d octets rest used before is h g e =
    record {
      before = before ++ take used rest;
      is = ap (λ z. (before ++ take used rest) ++ z) (take_rest rest used) ∙ append_assoc before (take used rest) (drop used rest) ∙ ap (λ z. before ++ z) (take-append-drop used rest) ∙ is;
      heard = subst (λ (os : List ℕ). SideHeard os a d) (append-nil (before ++ take used rest))
          (heard_behind turn a c d (before ++ take used rest) [] (heard_behind turn a b c before (take used rest) h g) e);
    }

pub heard_none : (a : Side) → SideHeard [] a a
heard_none a = record {
  calls = [];
  did = record { got = record { end = refl; user = sym (append-nil a.to_user.items) }; line = sym (append-nil a.to_line.items) };
  used = refl;
}

pub heard_all : (a b : Side) (octets rest : List ℕ) → HeardTo octets rest a b → length rest ≡ 0 → SideHeard octets a b
heard_all a b octets rest h none =
    subst (λ (os : List ℕ). SideHeard os a b) (sym (append-nil h.before) ∙ ap (λ z. h.before ++ z) (sym (none_left rest none)) ∙ h.is) h.heard

pub user_goes_behind : CallsInTurn → (a b c : Side) → UserGoesOn a b → UserGoesOn b c → UserGoesOn a c
user_goes_behind turn a b c h g = (h.0 ++ g.0, user_behind turn h.0 g.0 a b c h.1 g.1)

pub user_of : (octets : List ℕ) (a b : Side) → SideHeard octets a b → UserGoesOn a b
user_of octets a b h = (h.calls, h.did.got)

-- ---- from the opening on

pub user_has_accepted : CallsInTurn → TakenBeginsAccepted → AcceptedWereBrought → (opening : Opening) (a b : Side) → IsSideOf opening a → UserGoesOn a b
    → UserHasAccepted opening b
user_has_accepted turn begins brought opening a b h g =
    let k : KEnd = kept_opened opening in
    let calls : List Moment = h.calls ++ g.0 in
    let told = kept_outcomes h.calls k in
    let then_told = kept_outcomes g.0 (kept_run h.calls k) in
    let is : b.end.value ≡ kept_run calls k = g.1.end ∙ ap (λ (x : KEnd). kept_run g.0 x) h.end ∙ sym (turn.end h.calls g.0 k) in
    let user : b.to_user.items ≡ text_of_messages (messages_taken (kept_outcomes calls k)) =
    g.1.user ∙ ap (λ (x : KEnd). a.to_user.items ++ text_of_messages (messages_taken (kept_outcomes g.0 x))) h.end
    ∙ ap (λ z. z ++ text_of_messages (messages_taken then_told)) h.user
    ∙ sym (text-append (messages_taken told) (messages_taken then_told))
    ∙ ap (λ (ms : List (List ℕ)). text_of_messages ms) (sym (turn.taken told then_told) ∙ ap (λ (xs : List Outcome). messages_taken xs) (sym (turn.told h.calls g.0 k))) in
    record {
      calls = calls;
      end = is;
      begins = ap (λ (ms : List (List ℕ)). text_of_messages ms) (begins opening calls)
          ∙ text-append (messages_taken (kept_outcomes calls k)) (waiting_in (kept_run calls k))
          ∙ ap (λ z. z ++ text_of_messages (waiting_in (kept_run calls k))) (sym user)
          ∙ ap (λ (x : KEnd). b.to_user.items ++ text_of_messages (waiting_in x)) (sym is);
      brought = brought opening calls h.allowed;
    }
