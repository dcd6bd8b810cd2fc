-- The functions on what is kept are the model's steps.
use Rattle.std.proofs.Common.{◌≡◌, ℕ, ◌+◌, ◌-◌, ◌%◌, ◌<◌, ◌≤◌, zero, suc, min, nat_lt, nat_le, eqb, not, ◌&&◌, if◌then◌else◌, inl, inr, Bool, true, false, List, [], ◌∷◌, ◌++◌, length, drop, map, get_or, Option, Some, None, is_some, MatchOption, Result, Ok, Err, refl, sym, ◌∙◌, ap, subst, arith, length-append, length-drop}
use Rattle.std.proofs.lemmas.Bool.{cases_Bool, cases_lt, lt-ltb, le-ltb, ltb-true, leb-true, leb-false, eq-eqb, ne_eqb, and_parts}
use Rattle.er_settings.specs.Values.{Settings}
use Rattle.er_settings.specs.Ranges.{AllAllowed}
use Rattle.x224_tpdu.specs.declared.fault.TpFault.{TpFault}
use Rattle.x224_tpdu.specs.Spelling.{TransportPdu, connection_request, connection_confirm, disconnect_request, disconnect_confirm, data_tpdu, acknowledgement, tpdu_error}
use Rattle.x224_tpdu.specs.Writing.{written_octets}
use Rattle.x224_tpdu.specs.Spellings.{IsSize, IsWritable}
use Rattle.x224_tpdu.specs.Function.{reading}
use Rattle.x224_tpdu.specs.ReadingLaws.{IsInRange, ReadingIsInRange}
use Rattle.x224_class2.specs.Segments.{Segment, segments_of, messages_behind, messages_in, text_so_far}
use Rattle.x224_class2.specs.Tpdus.{GivenTpdu, Cr, Cc, Dt, Ak, pdu_given}
use Rattle.x224_class2.specs.Refusals.{dr_reason, protocol_error, tpdu_refused, message_too_long}
use Rattle.x224_class2.specs.Transport.{Transport, ReceptionDeed, Nothing, Disconnected, Refused, is_new, is_calling, is_called, is_open, is_over, side_made, after_connect, after_accept, after_hand, after_taken, waiting_count, untaken_count, refusal_of_tpdu, on_request, on_confirm, on_disconnect, is_expected, on_data, on_acknowledgement, on_reading, reception, TpduTurn, Rest, Opening, Acknowledgement, Data, turn_among, ack_of, turn_of, tpdu_at, state_behind, with_given, next_tpdu, after_next}
use Rattle.x224_class2.specs.Kept.{KeptTransport, distance, kept_made, kept_after_connect, kept_after_accept, kept_after_hand, kept_after_taken, kept_over, kept_on_request, kept_on_confirm, kept_on_disconnect, kept_is_expected, kept_with_data, kept_on_data, kept_on_acknowledgement, kept_on_reading, kept_reception, first_or, is_nonempty, kept_ack, kept_turn, next_segment, waiting_behind, kept_tpdu_at, kept_behind, kept_next_tpdu, kept_after_next, octets_next}
use Rattle.x224_class2.specs.Standing.{last_numbers, segments_of_all, kept_of, CanWrite, HasNoneEarly, IsSound, StandsForTransport}
use Rattle.x224_class2.specs.declared.stage.Stage.{Stage}
use Rattle.x224_class2.specs.declared.stage.Stage.TheVariants as stages
use Rattle.x224_class2.proofs.Allowed.{credit_most, size_named, size_most}
use Rattle.x224_class2.proofs.Segmenting.{messages-append, text-append, messages_of_segments, messages_of_all, text_of_all, all_push, next_of_all, goes_on_at, ends_at, drop-append_within, drop_nil, carried-append, segments_carried, carried_at}
use Rattle.x224_class2.proofs.Acknowledging.{ack_most, ack_rises, ack_push, ack_is, lasts_last, lasts_more, length_lasts, lasts_room}
use Rattle.x224_class2.proofs.Numbers.{distance_is, distance_back, distance_below, named_some, named_none}

-- the number as it is shown
abbrev seven_bits : ℕ → ℕ
seven_bits n = n % 128

-- a side that was made
least_size : (n : ℕ) → IsSize n → 128 ≤ n
least_size n h =
    elim h [
      | inl e ↦ omega (arith, e)
      | inr (inl e) ↦ omega (arith, e)
      | inr (inr (inl e)) ↦ omega (arith, e)
      | inr (inr (inr (inl e))) ↦ omega (arith, e)
      | inr (inr (inr (inr (inl e)))) ↦ omega (arith, e)
      | inr (inr (inr (inr (inr (inl e))))) ↦ omega (arith, e)
      | inr (inr (inr (inr (inr (inr e))))) ↦ omega (arith, e)
    ]

pub made_stands : (is_caller : Bool) (settings : Settings) → AllAllowed settings → StandsForTransport (kept_made is_caller settings) (side_made is_caller settings)
made_stands is_caller settings h =
    let named : IsSize settings.size = size_named settings.modulo settings.size h.size in
    record {
      is = refl;
      sound = record {
        credit = credit_most settings.modulo settings.credit h.credit;
        size = omega (arith, least_size settings.size named);
        early = refl;
        given = omega arith;
        acked = omega arith;
        edge_least = omega arith;
        edge_most = omega arith;
        waits = refl;
        taken = omega arith;
        newest = omega arith;
        granted = omega arith;
        can_write = record { is_size = named; most = size_most settings.modulo settings.size h.size; user = tt; carried = tt };
      };
    }

-- connect and accept
none_when_new : (stage : Stage) (ss : List Segment) → is_new stage ≡ true → HasNoneEarly stage ss → ss ≡ []
none_when_new stages.New ss e h = h
none_when_new stages.Calling ss e h = h
none_when_new stages.Called ss e h = h
none_when_new stages.Open ss e h = absurd cc
none_when_new stages.Over ss e h = absurd cc

none_when_calling : (stage : Stage) (ss : List Segment) → is_calling stage ≡ true → HasNoneEarly stage ss → ss ≡ []
none_when_calling stages.New ss e h = h
none_when_calling stages.Calling ss e h = h
none_when_calling stages.Called ss e h = h
none_when_calling stages.Open ss e h = absurd cc
none_when_calling stages.Over ss e h = absurd cc

with_user : (t : Transport) (user : List ℕ) → length user ≤ 32 → IsSound t → CanWrite t.size (Some user) t.segments
with_user t user short s = record { is_size = s.can_write.is_size; most = s.can_write.most; user = short; carried = s.can_write.carried }

pub connect_stands : (k : KeptTransport) (t : Transport) (user : List ℕ) → StandsForTransport k t → is_new t.stage ≡ true → length user ≤ 32 → StandsForTransport (kept_after_connect k user) (after_connect t user)
connect_stands k t user s new short = record {
  is = ap (λ (j : KeptTransport). kept_after_connect j user) s.is;
  sound = record {
    credit = s.sound.credit;
    size = s.sound.size;
    early = none_when_new t.stage t.segments new s.sound.early;
    given = s.sound.given;
    acked = s.sound.acked;
    edge_least = s.sound.edge_least;
    edge_most = s.sound.edge_most;
    waits = s.sound.waits;
    taken = s.sound.taken;
    newest = s.sound.newest;
    granted = s.sound.granted;
    can_write = with_user t user short s.sound;
  };
}

pub accept_stands : (k : KeptTransport) (t : Transport) (user : List ℕ) → StandsForTransport k t → is_called t.stage ≡ true → length user ≤ 32 → StandsForTransport (kept_after_accept k user) (after_accept t user)
accept_stands k t user s called short = record {
  is = ap (λ (j : KeptTransport). kept_after_accept j user) s.is;
  sound = record {
    credit = s.sound.credit;
    size = s.sound.size;
    early = tt;
    given = s.sound.given;
    acked = s.sound.acked;
    edge_least = s.sound.edge_least;
    edge_most = s.sound.edge_most;
    waits = s.sound.waits;
    taken = s.sound.taken;
    newest = s.sound.newest;
    granted = s.sound.granted;
    can_write = with_user t user short s.sound;
  };
}

-- hand
early_open : (stage : Stage) (ss : List Segment) → is_open stage ≡ true → HasNoneEarly stage ss
early_open stages.New ss e = absurd cc
early_open stages.Calling ss e = absurd cc
early_open stages.Called ss e = absurd cc
early_open stages.Open ss e = tt
early_open stages.Over ss e = absurd cc

text_of_waits : (size : ℕ) (ss : List Segment) → ss ≡ segments_of_all size (messages_in ss) → text_so_far ss ≡ []
text_of_waits size ss w = ap (λ (xs : List Segment). text_so_far xs) w ∙ text_of_all size (messages_in ss)

waiting_push : (t : Transport) (m : List ℕ) → IsSound t → messages_in (drop t.given (t.segments ++ segments_of t.size m)) ≡ messages_in (drop t.given t.segments) ++ m ∷ []
waiting_push t m s =
    rw (drop-append_within t.given t.segments (segments_of t.size m) s.given, messages-append [] (drop t.given t.segments) (segments_of t.size m), text_of_waits t.size (drop t.given t.segments) s.waits, messages_of_segments t.size m) refl

pub hand_stands : (k : KeptTransport) (t : Transport) (message : List ℕ) → StandsForTransport k t → is_open t.stage ≡ true → 0 < length message → StandsForTransport (kept_after_hand k message) (after_hand t message)
hand_stands k t m s is_made some =
    let pushed = waiting_push t m s.sound in
    record {
      is = ap (λ (j : KeptTransport). kept_after_hand j m) s.is ∙ ap (λ (w : List (List ℕ)). record (kept_of t) { waiting = w }) (sym pushed);
      sound = record {
        credit = s.sound.credit;
        size = s.sound.size;
        early = early_open t.stage (t.segments ++ segments_of t.size m) is_made;
        given = omega (arith, s.sound.given, length-append t.segments (segments_of t.size m));
        acked = s.sound.acked;
        edge_least = s.sound.edge_least;
        edge_most = s.sound.edge_most;
        waits = drop-append_within t.given t.segments (segments_of t.size m) s.sound.given ∙ ap (λ (ss : List Segment). ss ++ segments_of t.size m) s.sound.waits ∙ sym (all_push t.size (messages_in (drop t.given t.segments)) m) ∙ ap (λ (ms : List (List ℕ)). segments_of_all t.size ms) (sym pushed);
        taken = s.sound.taken;
        newest = s.sound.newest;
        granted = s.sound.granted;
        can_write = record {
          is_size = s.sound.can_write.is_size;
          most = s.sound.can_write.most;
          user = s.sound.can_write.user;
          carried = carried-append (t.size - 5) t.segments (segments_of t.size m) s.sound.can_write.carried (segments_carried t.size m s.sound.size some);
        };
      };
    }

-- taken
map_behind : (n : ℕ) (ns : List ℕ) → drop 1 (map seven_bits (drop n ns)) ≡ map seven_bits (drop (n + 1) ns)
map_behind zero [] = refl
map_behind zero (x ∷ ns) = refl
map_behind (suc n) [] = ap (λ (ns : List ℕ). map seven_bits ns) (sym (drop_nil {A = ℕ} (suc n + 1)))
map_behind (suc n) (x ∷ ns) = let e : suc n + 1 ≡ suc (n + 1) = omega arith in rw e (map_behind n ns)

pub taken_stands : (k : KeptTransport) (t : Transport) → StandsForTransport k t → 0 < untaken_count t → StandsForTransport (kept_after_taken k) (after_taken t)
taken_stands k t s some = record {
  is = ap (λ (j : KeptTransport). kept_after_taken j) s.is ∙ ap (λ (ns : List ℕ). record (kept_of t) { lasts = ns }) (map_behind t.taken (last_numbers 0 t.contents));
  sound = record {
    credit = s.sound.credit;
    size = s.sound.size;
    early = s.sound.early;
    given = s.sound.given;
    acked = s.sound.acked;
    edge_least = s.sound.edge_least;
    edge_most = s.sound.edge_most;
    waits = s.sound.waits;
    taken = omega arith;
    newest = omega (arith, s.sound.newest, ack_rises t.taken t.contents);
    granted = s.sound.granted;
    can_write = s.sound.can_write;
  };
}

-- the counts
length_map : (ns : List ℕ) → length (map seven_bits ns) ≡ length ns
length_map [] = refl
length_map (n ∷ ns) = ap (λ (m : ℕ). suc m) (length_map ns)

length_untaken : (t : Transport) → length (map seven_bits (drop t.taken (last_numbers 0 t.contents))) ≡ untaken_count t
length_untaken t = length_map (drop t.taken (last_numbers 0 t.contents)) ∙ length-drop t.taken (last_numbers 0 t.contents) ∙ ap (λ (n : ℕ). n - t.taken) (length_lasts 0 [] t.contents)

pub counts_stand : (k : KeptTransport) (t : Transport) → StandsForTransport k t → (length k.lasts ≡ untaken_count t) × (length k.waiting ≡ waiting_count t)
counts_stand k t s = (ap (λ (j : KeptTransport). length j.lasts) s.is ∙ length_untaken t, ap (λ (j : KeptTransport). length j.waiting) s.is)

-- a reception: what is kept stands, and the deed is the same
record Agrees (x : KeptTransport × ReceptionDeed) (y : Transport × ReceptionDeed) : Type 0 where
  state : StandsForTransport x.0 y.0
  deed : x.1 ≡ y.1

-- two tests that are one
agrees_if : (c d : Bool) (x x' : KeptTransport × ReceptionDeed) (y y' : Transport × ReceptionDeed) → c ≡ d → (d ≡ true → Agrees x y) → (d ≡ false → Agrees x' y') → Agrees (if c then x else x') (if d then y else y')
agrees_if c true x x' y y' e h g = rw e (h refl)
agrees_if c false x x' y y' e h g = rw e (g refl)

sound_over : (t : Transport) → IsSound t → IsSound (record t { stage = stages.Over })
sound_over t s = record {
  credit = s.credit;
  size = s.size;
  early = tt;
  given = s.given;
  acked = s.acked;
  edge_least = s.edge_least;
  edge_most = s.edge_most;
  waits = s.waits;
  taken = s.taken;
  newest = s.newest;
  granted = s.granted;
  can_write = s.can_write;
}

ends : (t : Transport) (deed : ReceptionDeed) → IsSound t → Agrees (kept_over (kept_of t), deed) (record t { stage = stages.Over }, deed)
ends t deed s = record { state = record { is = refl; sound = sound_over t s }; deed = refl }

-- a CR or CC comes: no message was handed yet
waits_none : (size g : ℕ) (ss : List Segment) → ss ≡ [] → drop g ss ≡ segments_of_all size (messages_in (drop g ss))
waits_none size g ss e = rw (e, drop_nil {A = Segment} g) refl

opened : (t t' : Transport) (credit : ℕ) → IsSound t → credit < 16 → t.segments ≡ [] → 6 ≤ t'.size → HasNoneEarly t'.stage t'.segments → CanWrite t'.size t'.due t'.segments
    → (t' ≡ record t { stage = t'.stage; size = t'.size; edge = credit }) → IsSound t'
opened t t' credit s c none size early write e =
    let g : t.given ≡ 0 = omega (arith, s.given, ap (λ (ss : List Segment). length ss) none) in
    let a : t.acked ≡ 0 = omega (arith, s.acked, g) in
    record {
      credit = rw e s.credit;
      size = size;
      early = early;
      given = rw e s.given;
      acked = rw e s.acked;
      edge_least = rw e (omega (arith, g));
      edge_most = rw e (omega (arith, a, c));
      waits = rw e (waits_none t'.size t.given t.segments none);
      taken = rw e s.taken;
      newest = rw e s.newest;
      granted = rw e s.granted;
      can_write = write;
    }

least_of : (a b : ℕ) → 128 ≤ a → 6 ≤ b → 6 ≤ min (min a 1024) b
least_of a b h g = omega arith

least_most : (a b : ℕ) → min (min a 1024) b ≤ 1024
least_most a b = omega arith

min_is_size : (a b : ℕ) → IsSize a → IsSize b → IsSize (min a b)
min_is_size a b h g =
    elim (cases_lt a b) [
      | inl less ↦ (let e : min a b ≡ a = omega (arith, less) in rw e h)
      | inr more ↦ (let e : min a b ≡ b = omega (arith, more) in rw e g)
    ]

least_is_size : (a b : ℕ) → IsSize a → IsSize b → IsSize (min (min a 1024) b)
least_is_size a b h g = min_is_size (min a 1024) b (min_is_size a 1024 h (inr (inr (inr (inl refl))))) g

with_size : (t : Transport) (size : ℕ) → IsSize size → size ≤ 1024 → t.segments ≡ [] → IsSound t → CanWrite size t.due t.segments
with_size t size is most none s = record { is_size = is; most = most; user = s.can_write.user; carried = rw none tt }

request_agrees : (t : Transport) (credit dst src size : ℕ) (user : List ℕ) → IsSound t → credit < 16 → IsSize size → Agrees (kept_on_request (kept_of t) credit dst src size user) (on_request t credit dst src size user)
request_agrees t credit dst src size user s c z =
    agrees_if _ (not t.is_caller && is_new t.stage && eqb dst 0 && eqb src 1) _ _ _ _ refl
    (λ e. record { state = comes (and_parts _ _ (and_parts _ _ (and_parts _ _ e).0).0).1; deed = refl })
    (λ e. ends t (Refused tpdu_refused protocol_error) s)
  where
    comes : is_new t.stage ≡ true → StandsForTransport (record (kept_of t) { stage = stages.Called; size = min (min size 1024) t.size; edge = credit }) (record t { stage = stages.Called; size = min (min size 1024) t.size; edge = credit })
    comes new =
        let none : t.segments ≡ [] = none_when_new t.stage t.segments new s.early in
        let shown : credit ≡ credit % 128 = omega arith in
        record {
          is = ap (λ (n : ℕ). record (kept_of t) { stage = stages.Called; size = min (min size 1024) t.size; edge = n }) shown;
          sound = opened t (record t { stage = stages.Called; size = min (min size 1024) t.size; edge = credit }) credit s c none (least_of size t.size (least_size size z) s.size) none (with_size t (min (min size 1024) t.size) (least_is_size size t.size z s.can_write.is_size) (least_most size t.size) none s) refl;
        }

confirm_agrees : (t : Transport) (credit dst src size : ℕ) (user : List ℕ) → IsSound t → credit < 16 → IsSize size → Agrees (kept_on_confirm (kept_of t) credit dst src size user) (on_confirm t credit dst src size user)
confirm_agrees t credit dst src size user s c z =
    agrees_if _ (is_calling t.stage && eqb dst 1 && eqb src 1 && nat_le size t.size) _ _ _ _ refl
    (λ e. record { state = comes (and_parts _ _ (and_parts _ _ (and_parts _ _ e).0).0).0 (leb-true _ _ (and_parts _ _ e).1); deed = refl })
    (λ e. ends t (Refused tpdu_refused protocol_error) s)
  where
    comes : is_calling t.stage ≡ true → size ≤ t.size → StandsForTransport (record (kept_of t) { stage = stages.Open; size = size; edge = credit }) (record t { stage = stages.Open; size = size; edge = credit })
    comes calling fits =
        let none : t.segments ≡ [] = none_when_calling t.stage t.segments calling s.early in
        let shown : credit ≡ credit % 128 = omega arith in
        let least : 6 ≤ size = omega (arith, least_size size z) in
        record {
          is = ap (λ (n : ℕ). record (kept_of t) { stage = stages.Open; size = size; edge = n }) shown;
          sound = opened t (record t { stage = stages.Open; size = size; edge = credit }) credit s c none least tt (with_size t size z (omega (arith, fits, s.can_write.most)) none s) refl;
        }

disconnect_agrees : (t : Transport) (dst src : ℕ) (user : List ℕ) → IsSound t → Agrees (kept_on_disconnect (kept_of t) dst src user) (on_disconnect t dst src user)
disconnect_agrees t dst src user s =
    agrees_if _ (not (is_new t.stage) && eqb dst 1 && eqb src 1) _ _ _ _ refl (λ e. ends t (Disconnected user) s) (λ e. ends t (Refused tpdu_refused protocol_error) s)

-- a DT comes
untaken_most : (t : Transport) → IsSound t → length t.contents < t.newest + t.credit → length (map seven_bits (drop t.taken (last_numbers 0 t.contents))) < 15
untaken_most t s h =
    omega (arith, s.credit, s.newest, h, lasts_room 0 t.taken t.contents, length_map (drop t.taken (last_numbers 0 t.contents)))

one_test : (a x x' y e : Bool) → x' ≡ x → (x ≡ true → y ≡ true) → (a && x' && y && e) ≡ (a && x && e)
one_test true true x' y e p h = rw (p, h refl) refl
one_test true false x' y e p h = rw p refl
one_test false x x' y e p h = refl

granted_test : (t : Transport) → IsSound t → nat_lt (distance (t.newest % 128) (length t.contents % 128)) t.credit ≡ nat_lt (length t.contents) (t.newest + t.credit)
granted_test t s =
    let a = ack_most t.taken t.contents in
    let d : distance (t.newest % 128) (length t.contents % 128) ≡ length t.contents - t.newest = distance_is t.newest (length t.contents) (omega (arith, s.newest, a)) (omega (arith, s.granted, s.credit)) in
    elim (cases_lt (length t.contents) (t.newest + t.credit)) [
      | inl h ↦
          (let l : nat_lt (length t.contents - t.newest) t.credit ≡ true = lt-ltb _ _ (omega (arith, h, s.newest, a)) in
          let r : nat_lt (length t.contents) (t.newest + t.credit) ≡ true = lt-ltb _ _ h in
          rw (d, l, r) refl)
      | inr h ↦
          (let l : nat_lt (length t.contents - t.newest) t.credit ≡ false = le-ltb _ _ (omega (arith, h, s.newest, a)) in
          let r : nat_lt (length t.contents) (t.newest + t.credit) ≡ false = le-ltb _ _ h in
          rw (d, l, r) refl)
    ]

same_expectation : (t : Transport) (dst number : ℕ) (user : List ℕ) → IsSound t → kept_is_expected (kept_of t) dst number user ≡ is_expected t dst number user
same_expectation t dst number user s =
    one_test (is_open t.stage && eqb dst 1 && eqb number (length t.contents % 128)) (nat_lt (length t.contents) (t.newest + t.credit)) _ _ (nat_le (length user) (t.size - 5)) (granted_test t s)
    (λ e. lt-ltb _ _ (untaken_most t s (ltb-true _ _ e)))

expected_granted : (t : Transport) (dst number : ℕ) (user : List ℕ) → is_expected t dst number user ≡ true → length t.contents < t.newest + t.credit
expected_granted t dst number user e = ltb-true _ _ (and_parts _ _ (and_parts _ _ e).0).1

abbrev with_content : Transport → Bool → List ℕ → Transport
with_content t last user = record t { contents = t.contents ++ (last, user) ∷ [] }

sound_content : (t : Transport) (last : Bool) (user : List ℕ) → IsSound t → length t.contents < t.newest + t.credit → IsSound (with_content t last user)
sound_content t last user s h = record {
  credit = s.credit;
  size = s.size;
  early = s.early;
  given = s.given;
  acked = s.acked;
  edge_least = s.edge_least;
  edge_most = s.edge_most;
  waits = s.waits;
  taken = rw (messages-append [] t.contents ((last, user) ∷ [])) (omega (arith, s.taken, length-append (messages_in t.contents) (messages_behind (text_so_far t.contents) ((last, user) ∷ []))));
  newest = omega (arith, s.newest, ack_push t.taken t.contents (last, user));
  granted = omega (arith, h, length-append t.contents ((last, user) ∷ []));
  can_write = s.can_write;
}

map_push : (ns : List ℕ) (n : ℕ) → map seven_bits (ns ++ n ∷ []) ≡ map seven_bits ns ++ seven_bits n ∷ []
map_push [] n = refl
map_push (m ∷ ns) n = ap (λ (xs : List ℕ). seven_bits m ∷ xs) (map_push ns n)

next_number : (t : Transport) (s : Segment) → (length t.contents % 128 + 1) % 128 ≡ length (t.contents ++ s ∷ []) % 128
next_number t s = let e : length (t.contents ++ s ∷ []) ≡ length t.contents + 1 = length-append t.contents (s ∷ []) in rw e (omega arith)

kept_three : (k : KeptTransport) (r r' : ℕ) (l l' : List ℕ) (x x' : List ℕ) → r ≡ r' → l ≡ l' → x ≡ x' → record k { received = r; lasts = l; text = x } ≡ record k { received = r'; lasts = l'; text = x' }
kept_three k r r' l l' x x' p q o = cc

data_kept : (t : Transport) (last : Bool) (user : List ℕ) → IsSound t → kept_with_data (kept_of t) last user ≡ kept_of (with_content t last user)
data_kept t true user s =
    let few : t.taken ≤ length (last_numbers 0 t.contents) = omega (arith, s.taken, length_lasts 0 [] t.contents) in
    let counted : 0 + length t.contents ≡ length t.contents = omega arith in
    kept_three (kept_of t) _ _ _ _ _ _ (next_number t (true, user))
    (sym (rw (lasts_last 0 t.contents user, drop-append_within t.taken (last_numbers 0 t.contents) ((0 + length t.contents) ∷ []) few, map_push (drop t.taken (last_numbers 0 t.contents)) (0 + length t.contents), counted) refl))
    (sym (text-append [] t.contents ((true, user) ∷ [])))
data_kept t false user s =
    kept_three (kept_of t) _ _ _ _ _ _ (next_number t (false, user))
    (sym (rw (lasts_more 0 t.contents user) refl))
    (sym (text-append [] t.contents ((false, user) ∷ [])))

data_agrees : (t : Transport) (dst : ℕ) (last : Bool) (number : ℕ) (user : List ℕ) → IsSound t → Agrees (kept_on_data (kept_of t) dst last number user) (on_data t dst last number user)
data_agrees t dst last number user s =
    agrees_if (not (kept_is_expected (kept_of t) dst number user)) (not (is_expected t dst number user)) _ _ _ _ (ap (λ (b : Bool). not b) (same_expectation t dst number user s))
    (λ e. ends t (Refused tpdu_refused protocol_error) s)
    (λ e. agrees_if _ (nat_lt 1032 (length (text_so_far t.contents ++ user))) _ _ _ _ refl
    (λ f. ends t (Refused message_too_long protocol_error) s)
    (λ f. record { state = record { is = data_kept t last user s; sound = sound_content t last user s (expected_granted t dst number user (not_false _ e)) }; deed = refl }))
  where
    not_false : (b : Bool) → not b ≡ false → b ≡ true
    not_false true e = refl
    not_false false e = absurd cc

-- an AK comes
abbrev acknowledged : Transport → (n credit : ℕ) → Transport
acknowledged t n credit = record t { acked = n; edge = n + credit }

-- an AK is accepted or refused by three tests
agrees_by : (a b d : Bool) (x x' : KeptTransport × ReceptionDeed) (y : Transport × ReceptionDeed) → (a ≡ true → b ≡ true → d ≡ true → Agrees x y) → (a ≡ false → Agrees x' y) → (a ≡ true → b ≡ false → Agrees x' y) → (a ≡ true → b ≡ true → d ≡ false → Agrees x' y) → Agrees (if a && b && d then x else x') y
agrees_by true true true x x' y all none_a none_b none_d = all refl refl refl
agrees_by true true false x x' y all none_a none_b none_d = none_d refl refl refl
agrees_by true false d x x' y all none_a none_b none_d = none_b refl refl
agrees_by false b d x x' y all none_a none_b none_d = none_a refl

acknowledgement_agrees : (t : Transport) (credit dst number : ℕ) → IsSound t → credit < 16 → number < 128 → Agrees (kept_on_acknowledgement (kept_of t) credit dst number) (on_acknowledgement t credit dst number)
acknowledgement_agrees t credit dst number s c n =
    let u : ℕ = distance (t.acked % 128) number in
    let back : (t.acked + u) % 128 ≡ number = distance_back t.acked number n in
    let below : u < 128 = distance_below (t.acked % 128) number in
    let ahead : distance (t.acked % 128) (t.given % 128) ≡ t.given - t.acked = distance_is t.acked t.given s.acked (omega (arith, s.edge_least, s.edge_most)) in
    let room : distance (t.acked % 128) (t.edge % 128) ≡ t.edge - t.acked = distance_is t.acked t.edge (omega (arith, s.acked, s.edge_least)) (omega (arith, s.edge_most)) in
    let P : Transport × ReceptionDeed → Type 0 = λ y. Agrees (kept_over (kept_of t), Refused tpdu_refused protocol_error) y in
    let Q : Transport × ReceptionDeed → Type 0 = λ y. Agrees (record (kept_of t) { acked = number; edge = (number + credit) % 128 }, Nothing) y in
    let over : P (refusal_of_tpdu t tpdu_refused protocol_error) = ends t (Refused tpdu_refused protocol_error) s in
    agrees_by (is_open t.stage && eqb dst 1) (nat_le u (distance (t.acked % 128) (t.given % 128))) (nat_le (distance (t.acked % 128) (t.edge % 128)) (u + credit)) _ _ (on_acknowledgement t credit dst number)
    (λ a b d.
    let up : u ≤ t.given - t.acked = leb-true _ _ (rw ahead at b) in
    let high : t.edge - t.acked ≤ u + credit = leb-true _ _ (rw room at d) in
    let keeps : nat_lt ((t.acked + u) + credit) t.edge ≡ false = le-ltb _ _ (omega (arith, high)) in
    let e : on_acknowledgement t credit dst number ≡ (acknowledged t (t.acked + u) credit, Nothing) = rw (a, named_some u t.acked (t.given - t.acked) number back up below, keeps) refl in
    subst Q (sym e) (accepted t (t.acked + u) credit number s c back (omega (arith, up, s.acked)) (omega (arith, high, s.edge_least))))
    (λ a. let e : on_acknowledgement t credit dst number ≡ refusal_of_tpdu t tpdu_refused protocol_error = rw a refl in subst P (sym e) over)
    (λ a b.
    let up : t.given - t.acked < u = leb-false _ _ (rw ahead at b) in
    let e : on_acknowledgement t credit dst number ≡ refusal_of_tpdu t tpdu_refused protocol_error = rw (a, named_none u t.acked (t.given - t.acked) number back up below) refl in
    subst P (sym e) over)
    (λ a b d.
    let up : u ≤ t.given - t.acked = leb-true _ _ (rw ahead at b) in
    let low : u + credit < t.edge - t.acked = leb-false _ _ (rw room at d) in
    let lowers : nat_lt ((t.acked + u) + credit) t.edge ≡ true = lt-ltb _ _ (omega (arith, low)) in
    let e : on_acknowledgement t credit dst number ≡ refusal_of_tpdu t tpdu_refused protocol_error = rw (a, named_some u t.acked (t.given - t.acked) number back up below, lowers) refl in
    subst P (sym e) over)
  where
    accepted : (t : Transport) (n credit number : ℕ) → IsSound t → credit < 16 → n % 128 ≡ number → n ≤ t.given → t.given ≤ n + credit → Agrees (record (kept_of t) { acked = number; edge = (number + credit) % 128 }, Nothing) (acknowledged t n credit, Nothing)
    accepted t n credit number s c shown most least =
        let edge : (number + credit) % 128 ≡ (n + credit) % 128 = omega (arith, shown) in
        record {
          state = record {
            is = rw (edge, shown) refl;
            sound = record {
              credit = s.credit;
              size = s.size;
              early = s.early;
              given = s.given;
              acked = most;
              edge_least = least;
              edge_most = omega arith;
              waits = s.waits;
              taken = s.taken;
              newest = s.newest;
              granted = s.granted;
              can_write = s.can_write;
            };
          };
          deed = refl;
        }

-- what was read comes
abbrev InRange : Result TransportPdu TpFault → Type 0
InRange (Ok p) = IsInRange p
InRange (Err fault) = Unit {0}

reading_agrees : (t : Transport) (answer : Result TransportPdu TpFault) → IsSound t → InRange answer → Agrees (kept_on_reading (kept_of t) answer) (on_reading t answer)
reading_agrees t (Ok (connection_request credit dst src size user)) s r = request_agrees t credit dst src size user s r.0.0 r.0.1
reading_agrees t (Ok (connection_confirm credit dst src size user)) s r = confirm_agrees t credit dst src size user s r.0.0 r.0.1
reading_agrees t (Ok (disconnect_request dst src reason user)) s r = disconnect_agrees t dst src user s
reading_agrees t (Ok (disconnect_confirm dst src)) s r = ends t (Refused tpdu_refused protocol_error) s
reading_agrees t (Ok (data_tpdu dst last number user)) s r = data_agrees t dst last number user s
reading_agrees t (Ok (acknowledgement credit dst number)) s r = acknowledgement_agrees t credit dst number s r.0.0 r.0.1
reading_agrees t (Ok (tpdu_error dst cause)) s r = ends t (Refused tpdu_refused protocol_error) s
reading_agrees t (Err fault) s r = ends t (Refused tpdu_refused (dr_reason fault)) s

answer_in_range : ReadingIsInRange → (octets : List ℕ) (answer : Result TransportPdu TpFault) → reading octets ≡ answer → InRange answer
answer_in_range law octets (Ok p) e = law octets p e
answer_in_range law octets (Err fault) e = tt

pub reception_stands : ReadingIsInRange → (k : KeptTransport) (t : Transport) (octets : List ℕ) → StandsForTransport k t → StandsForTransport (kept_reception k octets).0 (reception t octets).0 × ((kept_reception k octets).1 ≡ (reception t octets).1)
reception_stands law k t octets s =
    let both : Agrees (kept_reception (kept_of t) octets) (reception t octets) = agrees_if _ (is_over t.stage) _ _ _ _ refl
    (λ e. record { state = record { is = refl; sound = s.sound }; deed = refl })
    (λ e. reading_agrees t (reading octets) s.sound (answer_in_range law octets (reading octets) refl)) in
    let all : Agrees (kept_reception k octets) (reception t octets) = subst (λ (j : KeptTransport). Agrees (kept_reception j octets) (reception t octets)) (sym s.is) both in
    (all.state, all.deed)

-- the next TPDU
nonempty_some : (size g : ℕ) (ss : List Segment) (ms : List (List ℕ)) → drop g ss ≡ segments_of_all size ms → 6 ≤ size → is_nonempty ms ≡ nat_lt g (length ss)
nonempty_some size g ss [] e h = sym (le-ltb _ _ (ends_at g ss e))
nonempty_some size g ss (m ∷ ms) e h = sym (lt-ltb _ _ (goes_on_at g ss _ _ (true, []) (e ∙ next_of_all size m ms h)).2)

owed_test : (a n : ℕ) → n ≤ a → a < n + 128 → not (eqb (a % 128) (n % 128)) ≡ nat_lt n a
owed_test a n h g =
    elim (cases_lt n a) [
      | inl above ↦
          (let l : eqb (a % 128) (n % 128) ≡ false = ne_eqb _ _ (λ e. absurd (omega (arith, e, above))) in
          let r : nat_lt n a ≡ true = lt-ltb _ _ above in
          rw (l, r) refl)
      | inr below ↦
          (let same : a ≡ n = omega (arith, below, h) in
          let l : eqb (a % 128) (n % 128) ≡ true = eq-eqb _ _ (ap seven_bits same) in
          let r : nat_lt n a ≡ false = le-ltb _ _ below in
          rw (l, r) refl)
    ]

first_shown : (d : ℕ) (ns : List ℕ) → first_or (d % 128) (map seven_bits ns) ≡ first_or d ns % 128
first_shown d [] = refl
first_shown d (n ∷ ns) = refl

ack_shown : (t : Transport) → kept_ack (kept_of t) ≡ ack_of t % 128
ack_shown t =
    let is : 0 + ack_of t ≡ first_or (0 + length t.contents) (drop t.taken (last_numbers 0 t.contents)) = ack_is 0 t.taken t.contents in
    let counted : 0 + length t.contents ≡ length t.contents = omega arith in
    let plain : 0 + ack_of t ≡ ack_of t = omega arith in
    first_shown (length t.contents) (drop t.taken (last_numbers 0 t.contents)) ∙ ap seven_bits (sym (rw (counted, plain) at is))

edge_test : (t : Transport) → IsSound t → not (eqb (t.given % 128) (t.edge % 128)) ≡ nat_lt t.given t.edge
edge_test t s =
    elim (cases_lt t.given t.edge) [
      | inl above ↦
          (let l : eqb (t.given % 128) (t.edge % 128) ≡ false = ne_eqb _ _ (λ e. absurd (omega (arith, e, above, s.acked, s.edge_most))) in
          let r : nat_lt t.given t.edge ≡ true = lt-ltb _ _ above in
          rw (l, r) refl)
      | inr below ↦
          (let same : t.given ≡ t.edge = omega (arith, below, s.edge_least) in
          let l : eqb (t.given % 128) (t.edge % 128) ≡ true = eq-eqb _ _ (ap seven_bits same) in
          let r : nat_lt t.given t.edge ≡ false = le-ltb _ _ below in
          rw (l, r) refl)
    ]

turn_same : (t : Transport) → IsSound t → kept_turn (kept_of t) ≡ turn_of t
turn_same t s =
    let most = ack_most t.taken t.contents in
    let owed : not (eqb (kept_ack (kept_of t)) (t.newest % 128)) ≡ nat_lt t.newest (ack_of t) =
    ap (λ (n : ℕ). not (eqb n (t.newest % 128))) (ack_shown t) ∙ owed_test (ack_of t) t.newest s.newest (omega (arith, most, s.granted, s.credit)) in
    let some : is_nonempty (messages_in (drop t.given t.segments)) ≡ nat_lt t.given (length t.segments) = nonempty_some t.size t.given t.segments (messages_in (drop t.given t.segments)) s.waits s.size in
    rw (owed, some, edge_test t s) refl

-- behind a turn
record NextAgrees (k : KeptTransport) (t : Transport) (a b : Option GivenTpdu) : Type 0 where
  state : StandsForTransport k t
  octets : octets_next a ≡ octets_next b
  some : is_some a ≡ is_some b

twice_shown : (n : ℕ) → n % 128 % 128 ≡ n % 128
twice_shown n = omega arith

turn_by : (due : Option (List ℕ)) (owed a b : Bool) → turn_among due owed (a && b) ≡ Data → (a ≡ true) × (b ≡ true)
turn_by (Some user) owed a b e = absurd cc
turn_by None true a b e = absurd cc
turn_by None false true true e = (refl, refl)
turn_by None false true false e = absurd cc
turn_by None false false b e = absurd cc

data_turn : (t : Transport) → turn_of t ≡ Data → (t.given < length t.segments) × (t.given < t.edge)
data_turn t e =
    elim (cases_Bool (is_over t.stage)) [
      | inl over ↦ (let rest : turn_of t ≡ Rest = rw over refl in absurd cc)
      | inr live ↦
          (let among : turn_of t ≡ turn_among t.due (nat_lt t.newest (ack_of t)) (nat_lt t.given (length t.segments) && nat_lt t.given t.edge) = rw live refl in
          let both = turn_by t.due (nat_lt t.newest (ack_of t)) (nat_lt t.given (length t.segments)) (nat_lt t.given t.edge) (sym among ∙ e) in
          (ltb-true _ _ both.0, ltb-true _ _ both.1))
    ]

segment_is : (t : Transport) (ms : List (List ℕ)) → IsSound t → drop t.given t.segments ≡ segments_of_all t.size ms → t.given < length t.segments
    → (get_or t.segments t.given (true, []) ≡ next_segment t.size ms) × (drop (suc t.given) t.segments ≡ segments_of_all t.size (waiting_behind t.size ms))
segment_is t [] s w h = absurd (omega (arith, h, ends_at t.given t.segments w))
segment_is t (m ∷ ms) s w h =
    let there = goes_on_at t.given t.segments _ _ (true, []) (w ∙ next_of_all t.size m ms s.size) in
    (there.0, there.1)

behind_rest : (t : Transport) → IsSound t → NextAgrees (kept_behind (kept_of t) Rest) (with_given (state_behind t Rest) (tpdu_at t Rest)) (kept_tpdu_at (kept_of t) Rest) (tpdu_at t Rest)
behind_rest t s = record { state = record { is = refl; sound = s }; octets = refl; some = refl }

behind_opening : (t : Transport) (user : List ℕ) → IsSound t → NextAgrees (kept_behind (kept_of t) (Opening user)) (with_given (state_behind t (Opening user)) (tpdu_at t (Opening user))) (kept_tpdu_at (kept_of t) (Opening user)) (tpdu_at t (Opening user))
behind_opening t user s = record {
  state = record {
    is = refl;
    sound = record {
      credit = s.credit;
      size = s.size;
      early = s.early;
      given = s.given;
      acked = s.acked;
      edge_least = s.edge_least;
      edge_most = s.edge_most;
      waits = s.waits;
      taken = s.taken;
      newest = s.newest;
      granted = s.granted;
      can_write = record { is_size = s.can_write.is_size; most = s.can_write.most; user = tt; carried = s.can_write.carried };
    };
  };
  octets = refl;
  some = refl;
}

behind_acknowledgement : (t : Transport) → IsSound t → NextAgrees (kept_behind (kept_of t) Acknowledgement) (with_given (state_behind t Acknowledgement) (tpdu_at t Acknowledgement)) (kept_tpdu_at (kept_of t) Acknowledgement) (tpdu_at t Acknowledgement)
behind_acknowledgement t s = record {
  state = record {
    is = ap (λ (n : ℕ). record (kept_of t) { newest = n }) (ack_shown t);
    sound = record {
      credit = s.credit;
      size = s.size;
      early = s.early;
      given = s.given;
      acked = s.acked;
      edge_least = s.edge_least;
      edge_most = s.edge_most;
      waits = s.waits;
      taken = s.taken;
      newest = omega arith;
      granted = omega (arith, s.newest, s.granted);
      can_write = s.can_write;
    };
  };
  octets = ap (λ (n : ℕ). written_octets (acknowledgement t.credit 1 n)) (ap seven_bits (ack_shown t) ∙ twice_shown (ack_of t));
  some = refl;
}

behind_data : (t : Transport) → IsSound t → (t.given < length t.segments) × (t.given < t.edge) → NextAgrees (kept_behind (kept_of t) Data) (with_given (state_behind t Data) (tpdu_at t Data)) (kept_tpdu_at (kept_of t) Data) (tpdu_at t Data)
behind_data t s h =
    let ms : List (List ℕ) = messages_in (drop t.given t.segments) in
    let one : t.given + 1 ≡ suc t.given = omega arith in
    let next = segment_is t ms s s.waits h.0 in
    let left : drop (t.given + 1) t.segments ≡ segments_of_all t.size (waiting_behind t.size ms) = rw one next.1 in
    let same : messages_in (drop (t.given + 1) t.segments) ≡ waiting_behind t.size ms = ap (λ (ss : List Segment). messages_in ss) left ∙ messages_of_all t.size (waiting_behind t.size ms) in
    let number : (t.given % 128 + 1) % 128 ≡ (t.given + 1) % 128 = omega arith in
    let is : record (kept_of t) { given = (t.given % 128 + 1) % 128; waiting = waiting_behind t.size ms } ≡ record (kept_of t) { given = (t.given + 1) % 128; waiting = messages_in (drop (t.given + 1) t.segments) } =
    kept_two (kept_of t) _ _ _ _ number (sym same) in
    record {
      state = record {
        is = is;
        sound = record {
          credit = s.credit;
          size = s.size;
          early = s.early;
          given = omega (arith, h.0);
          acked = omega (arith, s.acked);
          edge_least = omega (arith, h.1);
          edge_most = s.edge_most;
          waits = left ∙ ap (λ (xs : List (List ℕ)). segments_of_all t.size xs) (sym same);
          taken = s.taken;
          newest = s.newest;
          granted = s.granted;
          can_write = s.can_write;
        };
      };
      octets = same_data _ _ _ _ (twice_shown t.given) (sym next.0);
      some = refl;
    }
  where
    kept_two : (k : KeptTransport) (g g' : ℕ) (w w' : List (List ℕ)) → g ≡ g' → w ≡ w' → record k { given = g; waiting = w } ≡ record k { given = g'; waiting = w' }
    kept_two k g g' w w' p q = cc

    same_data : (n n' : ℕ) (x y : Segment) → n ≡ n' → x ≡ y → written_octets (data_tpdu 1 x.0 n x.1) ≡ written_octets (data_tpdu 1 y.0 n' y.1)
    same_data n n' x y p q = rw (p, q) refl

behind_turn : (t : Transport) (turn : TpduTurn) → IsSound t → turn_of t ≡ turn → NextAgrees (kept_behind (kept_of t) turn) (with_given (state_behind t turn) (tpdu_at t turn)) (kept_tpdu_at (kept_of t) turn) (tpdu_at t turn)
behind_turn t Rest s e = behind_rest t s
behind_turn t (Opening user) s e = behind_opening t user s
behind_turn t Acknowledgement s e = behind_acknowledgement t s
behind_turn t Data s e = behind_data t s (data_turn t e)

pub next_stands : (k : KeptTransport) (t : Transport) → StandsForTransport k t → StandsForTransport (kept_after_next k) (after_next t) × (octets_next (kept_next_tpdu k) ≡ octets_next (next_tpdu t)) × (is_some (kept_next_tpdu k) ≡ is_some (next_tpdu t))
next_stands k t s =
    let turned : NextAgrees (kept_behind (kept_of t) (turn_of t)) (after_next t) (kept_tpdu_at (kept_of t) (turn_of t)) (next_tpdu t) = behind_turn t (turn_of t) s.sound refl in
    let by_kept : NextAgrees (kept_after_next (kept_of t)) (after_next t) (kept_next_tpdu (kept_of t)) (next_tpdu t) =
    subst (λ (turn : TpduTurn). NextAgrees (kept_behind (kept_of t) turn) (after_next t) (kept_tpdu_at (kept_of t) turn) (next_tpdu t)) (sym (turn_same t s.sound)) turned in
    let all : NextAgrees (kept_after_next k) (after_next t) (kept_next_tpdu k) (next_tpdu t) =
    subst (λ (j : KeptTransport). NextAgrees (kept_after_next j) (after_next t) (kept_next_tpdu j) (next_tpdu t)) (sym s.is) by_kept in
    (all.state, all.octets, all.some)

-- what is given can be written
opening_by : (due : Option (List ℕ)) (owed granted : Bool) (user : List ℕ) → turn_among due owed granted ≡ Opening user → due ≡ Some user
opening_by (Some x) owed granted user e = cc
opening_by None true granted user e = absurd cc
opening_by None false true user e = absurd cc
opening_by None false false user e = absurd cc

opening_turn : (t : Transport) (user : List ℕ) → turn_of t ≡ Opening user → t.due ≡ Some user
opening_turn t user e =
    elim (cases_Bool (is_over t.stage)) [
      | inl over ↦ (let rest : turn_of t ≡ Rest = rw over refl in absurd cc)
      | inr live ↦
          (let among : turn_of t ≡ turn_among t.due (nat_lt t.newest (ack_of t)) (nat_lt t.given (length t.segments) && nat_lt t.given t.edge) = rw live refl in
          opening_by t.due _ _ user (sym among ∙ e))
    ]

turn_writable : (t : Transport) (turn : TpduTurn) (tpdu : GivenTpdu) → IsSound t → turn_of t ≡ turn → tpdu_at t turn ≡ Some tpdu → IsWritable (pdu_given tpdu)
turn_writable t Rest tpdu s e f = absurd cc
turn_writable t (Opening user) tpdu s e f =
    let short : MatchOption (Some user) (Unit {0}) (λ user. length user ≤ 32) = rw (opening_turn t user e) at s.can_write.user in
    opening t.is_caller (subst (λ (o : Option GivenTpdu). o ≡ Some tpdu) refl f) short
  where
    opening : (c : Bool) → Some (if c then Cr t.credit t.size user else Cc t.credit t.size user) ≡ Some tpdu → length user ≤ 32 → IsWritable (pdu_given tpdu)
    opening true g short = let same : Cr t.credit t.size user ≡ tpdu = cc in subst (λ (x : GivenTpdu). IsWritable (pdu_given x)) same (((omega (arith, s.credit), omega arith, omega arith), omega arith, short), s.can_write.is_size, λ h. absurd cc)
    opening false g short = let same : Cc t.credit t.size user ≡ tpdu = cc in subst (λ (x : GivenTpdu). IsWritable (pdu_given x)) same (((omega (arith, s.credit), omega arith, omega arith), omega arith, short), s.can_write.is_size, λ h. absurd cc)
turn_writable t Acknowledgement tpdu s e f =
    let same : Ak t.credit (ack_of t) ≡ tpdu = cc in
    subst (λ (x : GivenTpdu). IsWritable (pdu_given x)) same (((omega (arith, s.credit), omega arith, omega arith), omega arith, omega arith), tt, λ h. absurd cc)
turn_writable t Data tpdu s e f =
    let next : Segment = get_or t.segments t.given (true, []) in
    let within = carried_at (t.size - 5) t.given t.segments (true, []) s.can_write.carried (data_turn t e).0 in
    let same : Dt next.0 t.given next.1 ≡ tpdu = cc in
    subst (λ (x : GivenTpdu). IsWritable (pdu_given x)) same (((omega arith, omega arith), omega (arith, within.0), omega (arith, within.1, s.can_write.most)), tt, λ h. absurd cc)

pub next_is_writable : (k : KeptTransport) (t : Transport) (tpdu : GivenTpdu) → StandsForTransport k t → next_tpdu t ≡ Some tpdu → IsWritable (pdu_given tpdu)
next_is_writable k t tpdu s e = turn_writable t (turn_of t) tpdu s.sound refl e
