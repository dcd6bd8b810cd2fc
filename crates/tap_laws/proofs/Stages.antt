-- One step of a safety side, and how far it is then.
use Rattle.std.proofs.Common.{◌≡◌, ◌∙◌, inl, inr, ℕ, Bool, List, [], ◌∷◌, ◌++◌, Option, Some, None, Ok, refl, sym, ap, ap₂, subst, arith, append_assoc, append-nil}
use Rattle.std.specs.Option.{option_to_list}
use Rattle.er_base.specs.declared.release.Release.{Release}
use Rattle.des_block.specs.declared.triple_key.TripleKey.{TripleKey}
use Rattle.cbc_mac.specs.Mac.{mac_of}
use Rattle.session_keys.specs.Session.{session_of}
use Rattle.sapdu.specs.Spelling.{SafetyPdu, Au1, Au2, Dt, read_of}
use Rattle.safety_automaton.specs.declared.role.Role.{Role}
use Rattle.safety_automaton.specs.Safety.{Safety, Connection, Phase, Ready, WaitAu1, WaitAu2, WaitAu3, WaitAr, Connected, Released, SafetyEvent, Received, SafetyOutcome, SentAu1, SentAu2, SentAu3, SentAr, ReceivedAr, AcceptedDt, SentDt, Refused, ReleasedLocally, ReleasedByPeer, NothingDone, flag_of, other_role, peer_flag, session_in, message_text}
use Rattle.safety_automaton.specs.Rules.{IsReceived, IsStep, AtReceived, AtDisconnect, AtConnect}
use Rattle.er_end_model.specs.Laws.{accepted_safety_message}
use Rattle.er_end_model.specs.Steps.{Finds}
use Rattle.er_end_model.specs.Ends.{Opening, Call, Answer}
use Rattle.tap_model.specs.Given.{received_in}
use Rattle.tap_laws.specs.Progress.{etcs_number_of_end, role_of_opened_end, flag_to, IsKmacFound, IsFirstSetUpText, AreMessages, GotNone, GotOne, GotAll, Got, GotsNone, GotsOne, GotsAll, session_got, IsBeginningPhase, WaitsForSecondText, Stage, Begins, Waits, Speaks, Gone}

-- one more message
one_more : (session : TripleKey) (flag : Bool) (me : ℕ) (text user : List ℕ) (texts users : List (List ℕ))
    → read_of text ≡ Ok (Dt user (mac_of session (message_text flag me user)), flag) → AreMessages session flag me texts users
    → AreMessages session flag me (texts ++ text ∷ []) (users ++ user ∷ [])
one_more session flag me text user [] [] e h = (e, tt)
one_more session flag me text user [] (u ∷ users) e h = absurd h
one_more session flag me text user (t ∷ texts) [] e h = absurd h
one_more session flag me text user (t ∷ texts) (u ∷ users) e h = (h.0, one_more session flag me text user texts users e h.1)

pub begins_session : (o : Opening) (phase : Phase) → IsBeginningPhase o phase → session_in phase ≡ None
begins_session (Call settings own peer kmac rb now) phase (inl e) = ap session_in e
begins_session (Call settings own peer kmac rb now) phase (inr e) = ap session_in e
begins_session (Answer settings own ra now) phase e = ap session_in e

pub waits_session : (o : Opening) (c : Connection) (phase : Phase) → WaitsForSecondText o c phase → session_in phase ≡ Some c.session
waits_session (Call settings own peer kmac rb now) c phase e = ap session_in e
waits_session (Answer settings own ra now) c phase e = ap session_in e

module _ (finds : Finds) (o : Opening) (g a t : List (List ℕ)) where
  -- how far it was, at any stage, and the session keys that it knows
  record Was (phase : Phase) : Type 0 where
    front : List (List ℕ)
    rest : List (List ℕ)
    is : g ≡ front ++ rest
    got : Got finds o front a t
    knows : session_in phase ≡ session_got finds o front a t got

  was : (phase : Phase) → Stage finds o phase g a t → Was phase
  was phase (Begins b n) = record { front = g; rest = []; is = sym (append-nil g); got = GotsNone n; knows = begins_session o phase b }
  was phase (Waits c w n) = record { front = g; rest = []; is = sym (append-nil g); got = GotsOne c n; knows = waits_session o c phase w }
  was phase (Speaks c s n) = record { front = g; rest = []; is = sym (append-nil g); got = GotsAll c n; knows = ap session_in s }
  was phase (Gone release session p front rest e got k) = record { front = front; rest = rest; is = e; got = got; knows = ap session_in p ∙ k }

  -- a side that is released then
  pub leaves : (phase next : Phase) (release : Release) (session : Option TripleKey) (more : List (List ℕ)) → next ≡ Released release session → session ≡ session_in phase
      → Stage finds o phase g a t → Stage finds o next (g ++ more) (a ++ []) t
  leaves phase next release session more e same stage =
      let w = was phase stage in
      subst (λ (b : List (List ℕ)). Stage finds o next (g ++ more) b t) (sym (append-nil a))
      (Gone release session e w.front (w.rest ++ more) (ap (λ (z : List (List ℕ)). z ++ more) w.is ∙ append_assoc w.front w.rest more) w.got (same ∙ w.knows))

  -- a side that stays as it is, and was given nothing
  pub stays : (phase next : Phase) → next ≡ phase → Stage finds o phase g a t → Stage finds o next (g ++ []) (a ++ []) t
  stays phase next e stage =
      subst (λ (p : Phase). Stage finds o p (g ++ []) (a ++ []) t) (sym e)
      (subst (λ (z : List (List ℕ)). Stage finds o phase z (a ++ []) t) (sym (append-nil g))
      (subst (λ (z : List (List ℕ)). Stage finds o phase g z t) (sym (append-nil a)) stage))

-- ---- phases

-- before the first text, before the second, connected, released
abbrev pub level : Phase → ℕ
level (Ready peer kmac rb) = 0
level (WaitAu1 ra) = 0
level (WaitAu2 peer kmac rb) = 0
level (WaitAu3 connection) = 1
level (WaitAr connection) = 1
level (Connected peer session) = 2
level (Released release session) = 3

level_as : (phase other : Phase) → phase ≡ other → level phase ≡ level other
level_as phase other e = ap level e

begins_level : (o : Opening) (phase : Phase) → IsBeginningPhase o phase → level phase ≡ 0
begins_level (Call settings own peer kmac rb now) phase (inl e) = ap level e
begins_level (Call settings own peer kmac rb now) phase (inr e) = ap level e
begins_level (Answer settings own ra now) phase e = ap level e

waits_level : (o : Opening) (c : Connection) (phase : Phase) → WaitsForSecondText o c phase → level phase ≡ 1
waits_level (Call settings own peer kmac rb now) c phase e = ap level e
waits_level (Answer settings own ra now) c phase e = ap level e

not_both : (p : Phase) (m n : ℕ) → level p ≡ m → level p ≡ n → (m ≡ n → ⊥) → ⊥
not_both p m n a b differ = differ (sym a ∙ b)

module _ (finds : Finds) (o : Opening) (phase : Phase) (g a t : List (List ℕ)) where
  begins_of : level phase ≡ 0 → Stage finds o phase g a t → IsBeginningPhase o phase × GotNone g a t
  begins_of l (Begins b n) = (b, n)
  begins_of l (Waits c w n) = absurd (let z = sym l ∙ waits_level o c phase w in omega (arith, z))
  begins_of l (Speaks c e n) = absurd (let z = sym l ∙ ap level e in omega (arith, z))
  begins_of l (Gone release session e front rest is got k) = absurd (let z = sym l ∙ ap level e in omega (arith, z))

  waits_of : level phase ≡ 1 → Stage finds o phase g a t → (c : Connection) × WaitsForSecondText o c phase × GotOne finds o c g a t
  waits_of l (Begins b n) = absurd (let z = sym l ∙ begins_level o phase b in omega (arith, z))
  waits_of l (Waits c w n) = (c, w, n)
  waits_of l (Speaks c e n) = absurd (let z = sym l ∙ ap level e in omega (arith, z))
  waits_of l (Gone release session e front rest is got k) = absurd (let z = sym l ∙ ap level e in omega (arith, z))

  pub speaks_of : level phase ≡ 2 → Stage finds o phase g a t → (c : Connection) × (phase ≡ Connected c.peer c.session) × GotAll finds o c g a
  speaks_of l (Begins b n) = absurd (let z = sym l ∙ begins_level o phase b in omega (arith, z))
  speaks_of l (Waits c w n) = absurd (let z = sym l ∙ waits_level o c phase w in omega (arith, z))
  speaks_of l (Speaks c e n) = (c, e, n)
  speaks_of l (Gone release session e front rest is got k) = absurd (let z = sym l ∙ ap level e in omega (arith, z))

-- ---- what the texts say

-- an AU1 at a side that waits for it
au1_came : (finds : Finds) (o : Opening) (phase : Phase) (c : Connection) (kmac : TripleKey) (octets : List ℕ) (me : ℕ) (flag : Bool) → me ≡ etcs_number_of_end o → flag ≡ flag_to o
    → phase ≡ WaitAu1 c.ra → read_of octets ≡ Ok (Au1 c.peer 1 c.rb, flag) → IsKmacFound finds c.peer me kmac → c.session ≡ session_of kmac c.ra c.rb → IsBeginningPhase o phase
    → IsFirstSetUpText finds o c octets × ((next : Phase) → next ≡ WaitAu3 c → WaitsForSecondText o c next)
au1_came finds (Call settings own peer key rb now) phase c kmac octets me flag m f p r found keys (inl b) = absurd (let z = sym b ∙ p in cc)
au1_came finds (Call settings own peer key rb now) phase c kmac octets me flag m f p r found keys (inr b) = absurd (let z = sym b ∙ p in cc)
au1_came finds (Answer settings own ra now) phase c kmac octets me flag m f p r found keys b = (
  record {
    kmac = kmac;
    read = r ∙ ap (λ (z : Bool). Ok (Au1 c.peer 1 c.rb, z)) f;
    own = let z = sym p ∙ b in cc;
    found = subst (λ (n : ℕ). IsKmacFound finds c.peer n kmac) m found;
    keys = keys;
  },
  λ next e. e,
)

-- an AU2 at a side that waits for it
au2_came : (finds : Finds) (o : Opening) (phase : Phase) (c : Connection) (kmac : TripleKey) (octets : List ℕ) (mac : ℕ) (flag : Bool) → flag ≡ flag_to o
    → phase ≡ WaitAu2 c.peer kmac c.rb → read_of octets ≡ Ok (Au2 c.peer 1 c.ra mac, flag) → c.session ≡ session_of kmac c.ra c.rb → IsBeginningPhase o phase
    → IsFirstSetUpText finds o c octets × ((next : Phase) → next ≡ WaitAr c → WaitsForSecondText o c next)
au2_came finds (Call settings own peer key rb now) phase c kmac octets mac flag f p r keys (inl b) = absurd (let z = sym b ∙ p in cc)
au2_came finds (Call settings own peer key rb now) phase c kmac octets mac flag f p r keys (inr b) =
    let z : WaitAu2 c.peer kmac c.rb ≡ WaitAu2 peer key rb = sym p ∙ b in
    let same : kmac ≡ key = cc in (
      record {
        mac = mac;
        read = r ∙ ap (λ (z : Bool). Ok (Au2 c.peer 1 c.ra mac, z)) f;
        called = cc;
        own = cc;
        keys = keys ∙ ap (λ (k : TripleKey). session_of k c.ra c.rb) same;
      },
      λ next e. e,
    )
au2_came finds (Answer settings own ra now) phase c kmac octets mac flag f p r keys b = absurd (let z = sym b ∙ p in cc)

waited_au3 : (o : Opening) (c d : Connection) (phase : Phase) → phase ≡ WaitAu3 d → WaitsForSecondText o c phase → d ≡ c
waited_au3 (Call settings own peer kmac rb now) c d phase p w = absurd (let z = sym p ∙ w in cc)
waited_au3 (Answer settings own ra now) c d phase p w = let z = sym p ∙ w in cc

waited_ar : (o : Opening) (c d : Connection) (phase : Phase) → phase ≡ WaitAr d → WaitsForSecondText o c phase → d ≡ c
waited_ar (Call settings own peer kmac rb now) c d phase p w = let z = sym p ∙ w in cc
waited_ar (Answer settings own ra now) c d phase p w = absurd (let z = sym p ∙ w in cc)

still_begins : (o : Opening) (phase next : Phase) (peer rb : ℕ) (kmac : TripleKey) → phase ≡ Ready peer kmac rb → next ≡ WaitAu2 peer kmac rb → IsBeginningPhase o phase → IsBeginningPhase o next
still_begins (Call settings own called key own_rb now) phase next peer rb kmac p n (inl b) =
    let z : Ready peer kmac rb ≡ Ready called key own_rb = sym p ∙ b in
    let e : WaitAu2 peer kmac rb ≡ WaitAu2 called key own_rb = cc in inr (n ∙ e)
still_begins (Call settings own called key own_rb now) phase next peer rb kmac p n (inr b) = absurd (let z = sym b ∙ p in cc)
still_begins (Answer settings own ra now) phase next peer rb kmac p n b = absurd (let z = sym b ∙ p in cc)

-- ---- a step

module _ (key_of : ℕ → ℕ → Option TripleKey) (finds : Finds) (keyed : (engine rbc : ℕ) (kmac : TripleKey) → key_of engine rbc ≡ Some kmac → IsKmacFound finds engine rbc kmac)
    (o : Opening) (s : Safety) (me : s.me ≡ etcs_number_of_end o) (role : s.role ≡ role_of_opened_end o) (event : SafetyEvent) (next : Safety) (g a t : List (List ℕ)) where
  abbrev Before : Type 0
  Before = Stage finds o s.phase g a t

  abbrev After : SafetyOutcome → Type 0
  After outcome = Stage finds o next.phase (g ++ received_in event) (a ++ option_to_list (accepted_safety_message outcome)) t

  flag_is : peer_flag s ≡ flag_to o
  flag_is = ap (λ (r : Role). flag_of (other_role r)) role

  -- what came with an event that is octets
  came : (pdu : SafetyPdu) (r : IsReceived s event pdu) (before : List (List ℕ)) → g ≡ before → g ++ received_in event ≡ before ++ r.octets ∷ []
  came pdu r before e = ap₂ (λ (x y : List (List ℕ)). x ++ y) e (ap received_in r.event_is)

  nothing_came : (given : List (List ℕ)) → received_in event ≡ [] → g ≡ given → g ++ received_in event ≡ given
  nothing_came given e is = ap₂ (λ (x y : List (List ℕ)). x ++ y) is e ∙ append-nil given

  none_more : (b : List (List ℕ)) → a ≡ b → a ++ [] ≡ b
  none_more b e = append-nil a ∙ e

  -- the same stage, where nothing came and the phase stays
  unmoved : received_in event ≡ [] → next ≡ s → Before → Stage finds o next.phase (g ++ received_in event) (a ++ []) t
  unmoved none same before =
      subst (λ (z : List (List ℕ)). Stage finds o next.phase (g ++ z) (a ++ []) t) (sym none)
      (stays finds o g a t s.phase next.phase (ap (λ (n : Safety). n.phase) same) before)

  -- the first text came
  first_came : (c : Connection) (octets : List ℕ) → event ≡ Received octets → IsFirstSetUpText finds o c octets → WaitsForSecondText o c next.phase → GotNone g a t
      → Stage finds o next.phase (g ++ received_in event) (a ++ []) t
  first_came c octets e is waits none =
      Waits c waits (record {
        first = octets;
        is_first = is;
        given_is = ap₂ (λ (x y : List (List ℕ)). x ++ y) none.given_is (ap received_in e);
        accepted_is = none_more [] none.accepted_is;
        sent_is = none.sent_is;
      })

  -- the second came
  second_came : (c d : Connection) (octets : List ℕ) → event ≡ Received octets → d ≡ c → next.phase ≡ Connected d.peer d.session → GotOne finds o c g a t
      → Stage finds o next.phase (g ++ received_in event) (a ++ []) t
  second_came c d octets e same connected one =
      Speaks c (connected ∙ ap (λ (z : Connection). Connected z.peer z.session) same) (record {
        first = one.first;
        second = octets;
        texts = [];
        is_first = one.is_first;
        given_is = ap₂ (λ (x y : List (List ℕ)). x ++ y) one.given_is (ap received_in e);
        messages = subst (λ (z : List (List ℕ)). AreMessages c.session (flag_to o) (etcs_number_of_end o) [] z) (sym (none_more [] one.accepted_is)) tt;
      })

  phase_of : (next : Safety) (phase : Phase) → next ≡ record s { phase = phase } → next.phase ≡ phase
  phase_of next phase e = ap (λ (n : Safety). n.phase) e

  -- a message came
  message_came : (peer : ℕ) (session : TripleKey) (user verified : List ℕ) (octets : List ℕ) → event ≡ Received octets → s.phase ≡ Connected peer session → next ≡ s
      → read_of octets ≡ Ok (Dt user (mac_of session verified), peer_flag s) → verified ≡ message_text (peer_flag s) s.me user
      → Before → Stage finds o next.phase (g ++ received_in event) (a ++ user ∷ []) t
  message_came peer session user verified octets e connected same read text before =
      let b = speaks_of finds o s.phase g a t (ap level connected) before in
      let c : Connection = b.0 in
      let got : GotAll finds o c g a = b.2 in
      let z : Connected peer session ≡ Connected c.peer c.session = sym connected ∙ b.1 in
      let keys : session ≡ c.session = cc in
      let seal : mac_of session verified ≡ mac_of c.session (message_text (flag_to o) (etcs_number_of_end o) user) =
      ap₂ (λ (k : TripleKey) (x : List ℕ). mac_of k x) keys (text ∙ ap₂ (λ (f : Bool) (n : ℕ). message_text f n user) flag_is me) in
      Speaks c (ap (λ (n : Safety). n.phase) same ∙ b.1) (record {
        first = got.first;
        second = got.second;
        texts = got.texts ++ octets ∷ [];
        is_first = got.is_first;
        given_is = ap₂ (λ (x y : List (List ℕ)). x ++ y) got.given_is (ap received_in e);
        messages =
            one_more c.session (flag_to o) (etcs_number_of_end o) octets user got.texts a
            (read ∙ ap₂ (λ (m : ℕ) (f : Bool). Ok (Dt user m, f)) seal flag_is) got.messages;
      })

  pub step_stage : (outcome : SafetyOutcome) → IsStep key_of s event next outcome → Before → After outcome
  step_stage (SentAu1 octets) row before =
      let b = begins_of finds o s.phase g a t (ap level row.waits) before in
      Begins (still_begins o s.phase next.phase row.peer row.rb row.kmac row.waits (ap (λ (n : Safety). n.phase) row.next_is) b.0) (record {
        given_is = nothing_came [] (ap received_in row.event_is) b.1.given_is;
        accepted_is = none_more [] b.1.accepted_is;
        sent_is = b.1.sent_is;
      })
  step_stage (SentAu2 session sealed octets) row before =
      let b = begins_of finds o s.phase g a t (ap level row.waits) before in
      let c : Connection = row.connection in
      let f =
      au1_came finds o s.phase c row.kmac row.received.octets s.me (peer_flag s) me flag_is row.waits row.received.read (keyed c.peer s.me row.kmac row.found) row.keys_are b.0 in
      first_came c row.received.octets row.received.event_is f.0 (f.1 next.phase (ap (λ (n : Safety). n.phase) row.next_is)) b.1
  step_stage (SentAu3 session verified sealed octets) row before =
      let b = begins_of finds o s.phase g a t (ap level row.waits) before in
      let c : Connection = row.connection in
      let f =
      au2_came finds o s.phase c row.kmac row.received.octets (mac_of session verified) (peer_flag s) flag_is row.waits row.received.read row.keys_are b.0 in
      first_came c row.received.octets row.received.event_is f.0 (f.1 next.phase (ap (λ (n : Safety). n.phase) row.next_is)) b.1
  step_stage (SentAr connection verified sealed octets) row before =
      let b = waits_of finds o s.phase g a t (ap level row.waits) before in
      second_came b.0 connection row.received.octets row.received.event_is (waited_au3 o b.0 connection s.phase row.waits b.1) (ap (λ (n : Safety). n.phase) row.next_is) b.2
  step_stage (ReceivedAr connection verified) row before =
      let b = waits_of finds o s.phase g a t (ap level row.waits) before in
      second_came b.0 connection row.received.octets row.received.event_is (waited_ar o b.0 connection s.phase row.waits b.1) (ap (λ (n : Safety). n.phase) row.next_is) b.2
  step_stage (AcceptedDt session user verified) row before =
      message_came row.peer session user verified row.received.octets row.received.event_is row.connected row.next_is row.received.read row.verified_is before
  step_stage (SentDt session user sealed octets) row before = unmoved (ap received_in row.event_is) row.next_is before
  step_stage (Refused refusal) row before = unmoved (ap received_in row.event_is) row.next_is before
  step_stage (ReleasedLocally release octets) row before =
      leaves finds o g a t s.phase next.phase release _ (received_in event) (ap (λ (n : Safety). n.phase) row.releases.next_is) refl before
  step_stage (ReleasedByPeer release) row before =
      leaves finds o g a t s.phase next.phase release _ (received_in event) (ap (λ (n : Safety). n.phase) row.next_is) refl before
  step_stage NothingDone (AtReceived octets release session e phase same) before =
      leaves finds o g a t s.phase next.phase release session (received_in event) (ap (λ (n : Safety). n.phase) same ∙ phase) (sym (ap session_in phase)) before
  step_stage NothingDone (AtDisconnect sub release session e phase same) before = unmoved (ap received_in e) same before
  step_stage NothingDone (AtConnect e ready same) before = unmoved (ap received_in e) same before
