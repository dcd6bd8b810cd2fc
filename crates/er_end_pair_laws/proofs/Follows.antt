-- What a side of the safety layer does at what it receives, as far as the end rests on it.
use Rattle.std.proofs.Common.{◌≡◌, ℕ, ◌<◌, ◌≤◌, Bool, true, false, not, List, [], ◌∷◌, length, Option, Ok, refl, sym, ◌∙◌, ap, subst, arith}
use Rattle.er_base.specs.declared.release.Release.{Release}
use Rattle.des_block.specs.declared.triple_key.TripleKey.{TripleKey}
use Rattle.cbc_mac.specs.Mac.{mac_of}
use Rattle.sapdu.specs.Spelling.{SafetyPdu, Au1, Au2, Au3, Ar, Dt, spelling, read_of}
use Rattle.safety_automaton.specs.Safety.{Safety, Connection, Phase, Ready, WaitAu1, WaitAu2, WaitAu3, WaitAr, Connected, Released, Received, SafetyOutcome, SentAu1, SentAu2, SentAu3, SentAr, ReceivedAr, AcceptedDt, SentDt, Refused, ReleasedLocally, ReleasedByPeer, NothingDone, peer_flag, au2_text, au3_text, ar_text, message_text, octets_sent_in_outcome, step}
use Rattle.safety_automaton.specs.Rules.{IsOpen, IsReceived, IsStep, StaysIdle, AtReceived, AtDisconnect, AtConnect}
use Rattle.er_end_pair_laws.specs.Openings.{EndLinkOpening, Agree}
use Rattle.er_end_pair_laws.specs.LawsBelow.{SafetyLaws}
use Rattle.er_end_pair_laws.proofs.Constants.{side_in, own_number, flag_at, session, connection_at, greeting, opening_text, sealed_text, users_of, users_of_reading, Sendable}

-- ---- what is spelled is read

pub reads_au3 : SafetyLaws → (key : TripleKey) (text : List ℕ) (flag : Bool) → read_of (spelling (Au3 (mac_of key text)) flag) ≡ Ok (Au3 (mac_of key text), flag)
reads_au3 laws key text flag = laws.back (Au3 (mac_of key text)) flag (record { user = tt; octets = laws.below key text })

pub reads_ar : SafetyLaws → (key : TripleKey) (text : List ℕ) (flag : Bool) → read_of (spelling (Ar (mac_of key text)) flag) ≡ Ok (Ar (mac_of key text), flag)
reads_ar laws key text flag = laws.back (Ar (mac_of key text)) flag (record { user = tt; octets = laws.below key text })

pub reads_dt : SafetyLaws → (user : List ℕ) (key : TripleKey) (text : List ℕ) (flag : Bool) → Sendable user
    → read_of (spelling (Dt user (mac_of key text)) flag) ≡ Ok (Dt user (mac_of key text), flag)
reads_dt laws user key text flag h = laws.back (Dt user (mac_of key text)) flag (record { user = h.0; octets = (h.1, laws.below key text) })

pub reads_au1 : SafetyLaws → (s : EndLinkOpening) → read_of (greeting s true) ≡ Ok (Au1 s.engine 1 s.rb, false)
reads_au1 laws s = laws.back (Au1 s.engine 1 s.rb) false (record { user = tt; octets = (s.engine_fits, omega arith, s.rb_fits) })

pub reads_au2 : SafetyLaws → (s : EndLinkOpening) → read_of (greeting s false) ≡ Ok (Au2 s.rbc 1 s.ra (mac_of (session s) (au2_text true s.engine s.rbc 1 s.ra s.rb)), true)
reads_au2 laws s =
    laws.back (Au2 s.rbc 1 s.ra (mac_of (session s) (au2_text true s.engine s.rbc 1 s.ra s.rb))) true
    (record { user = tt; octets = (s.rbc_fits, omega arith, s.ra_fits, laws.below (session s) (au2_text true s.engine s.rbc 1 s.ra s.rb)) })

-- ---- what is exact where the keys agree

-- the text that a phase waits for, the phase being one of a side whose keys agree
abbrev pub Awaits : EndLinkOpening → Bool → Phase → List ℕ → Type 0
Awaits s c (Ready peer kmac rb) text = ⊥
Awaits s c (WaitAu1 ra) text = (c ≡ false) × (ra ≡ s.ra) × (text ≡ greeting s true)
Awaits s c (WaitAu2 peer kmac rb) text = (c ≡ true) × (peer ≡ s.rbc) × (kmac ≡ s.kmac) × (rb ≡ s.rb) × (text ≡ greeting s false)
Awaits s c (WaitAu3 connection) text = (c ≡ false) × (connection ≡ connection_at s false) × (text ≡ opening_text s true)
Awaits s c (WaitAr connection) text = (c ≡ true) × (connection ≡ connection_at s true) × (text ≡ opening_text s false)
Awaits s c (Connected peer key) text = (peer ≡ own_number s (not c)) × (key ≡ session s) × ((user : List ℕ) × Sendable user × (text ≡ sealed_text s (not c) user))
Awaits s c (Released release known) text = ⊥

-- what comes of it
abbrev pub Exact : EndLinkOpening → Bool → Phase → List ℕ → Safety → SafetyOutcome → Type 0
Exact s c (Ready peer kmac rb) text next outcome = ⊥
Exact s c (WaitAu1 ra) text next outcome =
    (sealed : List ℕ) × (next ≡ side_in s c (WaitAu3 (connection_at s c))) × (outcome ≡ SentAu2 (session s) sealed (greeting s false))
Exact s c (WaitAu2 peer kmac rb) text next outcome =
    (verified : List ℕ) × (sealed : List ℕ) × (next ≡ side_in s c (WaitAr (connection_at s c))) × (outcome ≡ SentAu3 (session s) verified sealed (opening_text s true))
Exact s c (WaitAu3 connection) text next outcome =
    (verified : List ℕ) × (sealed : List ℕ) × (next ≡ side_in s c (Connected (own_number s (not c)) (session s))) × (outcome ≡ SentAr connection verified sealed (opening_text s false))
Exact s c (WaitAr connection) text next outcome =
    (verified : List ℕ) × (next ≡ side_in s c (Connected (own_number s (not c)) (session s))) × (outcome ≡ ReceivedAr connection verified)
Exact s c (Connected peer key) text next outcome =
    (user : List ℕ) × (verified : List ℕ) × (next ≡ side_in s c (Connected peer key)) × (outcome ≡ AcceptedDt (session s) user verified) × (text ≡ sealed_text s (not c) user)
Exact s c (Released release known) text next outcome = ⊥

abbrev pub answer_of : EndLinkOpening → (now : ℕ) → Bool → Phase → List ℕ → Safety × SafetyOutcome
answer_of s now c p text = step (s.finder now) (side_in s c p) (Received text)

abbrev IsExact : EndLinkOpening → ℕ → Bool → Phase → List ℕ → Type 0
IsExact s now c p text = Exact s c p text (answer_of s now c p text).0 (answer_of s now c p text).1

exact_au1 : SafetyLaws → (s : EndLinkOpening) (now : ℕ) → Agree s → IsExact s now false (WaitAu1 s.ra) (greeting s true)
exact_au1 laws s now agree =
    let sealed : List ℕ = au2_text true s.engine s.rbc 1 s.ra s.rb in
    let e = laws.each (s.finder now) (side_in s false (WaitAu1 s.ra)) (Received (greeting s true)) (side_in s false (WaitAu3 (connection_at s false)))
    (SentAu2 (session s) sealed (greeting s false)) (record {
      connection = connection_at s false;
      kmac = s.kmac;
      waits = refl;
      received = record { octets = greeting s true; event_is = refl; read = reads_au1 laws s };
      found = agree now;
      me_is = refl;
      keys_are = refl;
      session_is = refl;
      next_is = refl;
      sealed_is = refl;
      octets_is = refl;
    }) in
    (sealed, ap (λ (a : Safety × SafetyOutcome). a.0) e, ap (λ (a : Safety × SafetyOutcome). a.1) e)

exact_au2 : SafetyLaws → (s : EndLinkOpening) (now : ℕ) → IsExact s now true (WaitAu2 s.rbc s.kmac s.rb) (greeting s false)
exact_au2 laws s now =
    let verified : List ℕ = au2_text true s.engine s.rbc 1 s.ra s.rb in
    let sealed : List ℕ = au3_text false s.rbc s.ra s.rb in
    let e = laws.each (s.finder now) (side_in s true (WaitAu2 s.rbc s.kmac s.rb)) (Received (greeting s false)) (side_in s true (WaitAr (connection_at s true)))
    (SentAu3 (session s) verified sealed (opening_text s true)) (record {
      connection = connection_at s true;
      kmac = s.kmac;
      waits = refl;
      received = record { octets = greeting s false; event_is = refl; read = reads_au2 laws s };
      me_is = refl;
      keys_are = refl;
      session_is = refl;
      next_is = refl;
      verified_is = refl;
      sealed_is = refl;
      octets_is = refl;
    }) in
    (verified, sealed, ap (λ (a : Safety × SafetyOutcome). a.0) e, ap (λ (a : Safety × SafetyOutcome). a.1) e)

exact_au3 : SafetyLaws → (s : EndLinkOpening) (now : ℕ) → IsExact s now false (WaitAu3 (connection_at s false)) (opening_text s true)
exact_au3 laws s now =
    let verified : List ℕ = au3_text false s.rbc s.ra s.rb in
    let sealed : List ℕ = ar_text true s.engine in
    let e = laws.each (s.finder now) (side_in s false (WaitAu3 (connection_at s false))) (Received (opening_text s true))
    (side_in s false (Connected s.engine (session s)))
    (SentAr (connection_at s false) verified sealed (opening_text s false)) (record {
      waits = refl;
      received = record { octets = opening_text s true; event_is = refl; read = reads_au3 laws (session s) verified false };
      next_is = refl;
      verified_is = refl;
      sealed_is = refl;
      octets_is = refl;
    }) in
    (verified, sealed, ap (λ (a : Safety × SafetyOutcome). a.0) e, ap (λ (a : Safety × SafetyOutcome). a.1) e)

exact_ar : SafetyLaws → (s : EndLinkOpening) (now : ℕ) → IsExact s now true (WaitAr (connection_at s true)) (opening_text s false)
exact_ar laws s now =
    let verified : List ℕ = ar_text true s.engine in
    let e = laws.each (s.finder now) (side_in s true (WaitAr (connection_at s true))) (Received (opening_text s false))
    (side_in s true (Connected s.rbc (session s)))
    (ReceivedAr (connection_at s true) verified) (record {
      waits = refl;
      received = record { octets = opening_text s false; event_is = refl; read = reads_ar laws (session s) verified true };
      next_is = refl;
      verified_is = refl;
    }) in
    (verified, ap (λ (a : Safety × SafetyOutcome). a.0) e, ap (λ (a : Safety × SafetyOutcome). a.1) e)

-- the flag of the other side is the one that a side expects
pub peers_flag : (s : EndLinkOpening) (c : Bool) (p : Phase) → flag_at (not c) ≡ peer_flag (side_in s c p)
peers_flag s true p = refl
peers_flag s false p = refl

same_not : (s : EndLinkOpening) (c : Bool) → own_number s (not (not c)) ≡ own_number s c
same_not s true = refl
same_not s false = refl

exact_dt : SafetyLaws → (s : EndLinkOpening) (now : ℕ) (c : Bool) (user : List ℕ) → Sendable user
    → IsExact s now c (Connected (own_number s (not c)) (session s)) (sealed_text s (not c) user)
exact_dt laws s now c user sendable =
    let p : Phase = Connected (own_number s (not c)) (session s) in
    let text : List ℕ = message_text (flag_at (not c)) (own_number s (not (not c))) user in
    let e = laws.each (s.finder now) (side_in s c p) (Received (sealed_text s (not c) user)) (side_in s c p) (AcceptedDt (session s) user text) (record {
      peer = own_number s (not c);
      connected = refl;
      received = record {
        octets = sealed_text s (not c) user;
        event_is = refl;
        read = reads_dt laws user (session s) text (flag_at (not c)) sendable ∙ ap (λ (f : Bool). Ok (Dt user (mac_of (session s) text), f)) (peers_flag s c p);
      };
      next_is = refl;
      verified_is = ap (λ (f : Bool). message_text f (own_number s (not (not c))) user) (peers_flag s c p) ∙ ap (λ (n : ℕ). message_text (peer_flag (side_in s c p)) n user) (same_not s c);
    }) in
    (user, text, ap (λ (a : Safety × SafetyOutcome). a.0) e, ap (λ (a : Safety × SafetyOutcome). a.1) e, refl)

exact : SafetyLaws → (s : EndLinkOpening) (now : ℕ) → Agree s → (c : Bool) (p : Phase) (text : List ℕ) → Awaits s c p text → IsExact s now c p text
exact laws s now agree c (Ready peer kmac rb) text h = absurd h
exact laws s now agree c (WaitAu1 ra) text h =
    subst (λ (c : Bool). IsExact s now c (WaitAu1 ra) text) (sym h.0)
    (subst (λ (n : ℕ). IsExact s now false (WaitAu1 n) text) (sym h.1)
    (subst (λ (t : List ℕ). IsExact s now false (WaitAu1 s.ra) t) (sym h.2) (exact_au1 laws s now agree)))
exact laws s now agree c (WaitAu2 peer kmac rb) text h =
    subst (λ (c : Bool). IsExact s now c (WaitAu2 peer kmac rb) text) (sym h.0)
    (subst (λ (n : ℕ). IsExact s now true (WaitAu2 n kmac rb) text) (sym h.1)
    (subst (λ (k : TripleKey). IsExact s now true (WaitAu2 s.rbc k rb) text) (sym h.2)
    (subst (λ (n : ℕ). IsExact s now true (WaitAu2 s.rbc s.kmac n) text) (sym h.3)
    (subst (λ (t : List ℕ). IsExact s now true (WaitAu2 s.rbc s.kmac s.rb) t) (sym h.4) (exact_au2 laws s now)))))
exact laws s now agree c (WaitAu3 connection) text h =
    subst (λ (c : Bool). IsExact s now c (WaitAu3 connection) text) (sym h.0)
    (subst (λ (n : Connection). IsExact s now false (WaitAu3 n) text) (sym h.1)
    (subst (λ (t : List ℕ). IsExact s now false (WaitAu3 (connection_at s false)) t) (sym h.2) (exact_au3 laws s now)))
exact laws s now agree c (WaitAr connection) text h =
    subst (λ (c : Bool). IsExact s now c (WaitAr connection) text) (sym h.0)
    (subst (λ (n : Connection). IsExact s now true (WaitAr n) text) (sym h.1)
    (subst (λ (t : List ℕ). IsExact s now true (WaitAr (connection_at s true)) t) (sym h.2) (exact_ar laws s now)))
exact laws s now agree c (Connected peer key) text h =
    subst (λ (n : ℕ). IsExact s now c (Connected n key) text) (sym h.0)
    (subst (λ (k : TripleKey). IsExact s now c (Connected (own_number s (not c)) k) text) (sym h.1)
    (subst (λ (t : List ℕ). IsExact s now c (Connected (own_number s (not c)) (session s)) t) (sym h.2.2) (exact_dt laws s now c h.2.0 h.2.1)))
exact laws s now agree c (Released release known) text h = absurd h

-- ---- what comes of a text in any case

abbrev pub Follows : EndLinkOpening → Bool → Phase → List ℕ → Safety → SafetyOutcome → Type 0
Follows s c p text next (SentAu2 key sealed octets) =
    (connection : Connection) × (p ≡ WaitAu1 connection.ra) × (next ≡ side_in s c (WaitAu3 connection)) × (users_of text ≡ []) × (0 < length octets) × (length octets ≤ 32)
    × (Agree s → (connection ≡ connection_at s c) × (octets ≡ greeting s false))
Follows s c p text next (SentAu3 key verified sealed octets) =
    (connection : Connection) × (kmac : TripleKey) × (p ≡ WaitAu2 connection.peer kmac connection.rb) × (next ≡ side_in s c (WaitAr connection)) × (users_of text ≡ []) × (users_of octets ≡ [])
    × (0 < length octets) × (length octets ≤ 32) × (Agree s → (connection ≡ connection_at s c) × (octets ≡ opening_text s true))
Follows s c p text next (SentAr connection verified sealed octets) =
    (p ≡ WaitAu3 connection) × (next ≡ side_in s c (Connected connection.peer connection.session)) × (users_of text ≡ []) × (users_of octets ≡ [])
    × (0 < length octets) × (length octets ≤ 32) × (Agree s → (connection.peer ≡ own_number s (not c)) × (connection.session ≡ session s) × (octets ≡ opening_text s false))
Follows s c p text next (ReceivedAr connection verified) =
    (p ≡ WaitAr connection) × (next ≡ side_in s c (Connected connection.peer connection.session)) × (users_of text ≡ [])
    × (Agree s → (connection.peer ≡ own_number s (not c)) × (connection.session ≡ session s))
Follows s c p text next (AcceptedDt key user verified) =
    (peer : ℕ) × (p ≡ Connected peer key) × (next ≡ side_in s c p) × (users_of text ≡ user ∷ []) × (Agree s → text ≡ sealed_text s (not c) user)
Follows s c p text next (ReleasedLocally release octets) = (length octets ≤ 32) × (Agree s → ⊥)
Follows s c p text next (ReleasedByPeer release) = Agree s → ⊥
Follows s c p text next _ = ⊥

no_local : (s : EndLinkOpening) (c : Bool) (p : Phase) (text : List ℕ) (next : Safety) (release : Release) (octets : List ℕ) → Exact s c p text next (ReleasedLocally release octets) → ⊥
no_local s c (Ready peer kmac rb) text next release octets h = h
no_local s c (WaitAu1 ra) text next release octets h = let e = h.2 in cc
no_local s c (WaitAr connection) text next release octets h = let e = h.2 in cc
no_local s c (Released r known) text next release octets h = h
no_local s c _ text next release octets h = let e = h.3 in cc

no_peers : (s : EndLinkOpening) (c : Bool) (p : Phase) (text : List ℕ) (next : Safety) (release : Release) → Exact s c p text next (ReleasedByPeer release) → ⊥
no_peers s c (Ready peer kmac rb) text next release h = h
no_peers s c (WaitAu1 ra) text next release h = let e = h.2 in cc
no_peers s c (WaitAr connection) text next release h = let e = h.2 in cc
no_peers s c (Released r known) text next release h = h
no_peers s c _ text next release h = let e = h.3 in cc

text_is : (text octets : List ℕ) → Received text ≡ Received octets → text ≡ octets
text_is text octets e = cc

-- the user octets of a text that was received as this SaPDU
received_users : (s : EndLinkOpening) (c : Bool) (p : Phase) (text : List ℕ) (pdu : SafetyPdu) → IsReceived (side_in s c p) (Received text) pdu
    → users_of text ≡ users_of_reading (Ok (pdu, peer_flag (side_in s c p)))
received_users s c p text pdu h =
    ap users_of (text_is text h.octets h.event_is) ∙ ap users_of_reading h.read

phase_same : (s : EndLinkOpening) (c : Bool) (p q : Phase) → side_in s c p ≡ side_in s c q → p ≡ q
phase_same s c p q e = ap (λ (x : Safety). x.phase) e

pub some_octets : (octets : List ℕ) (pdu : SafetyPdu) (flag : Bool) → octets ≡ spelling pdu flag → 0 < length octets
some_octets octets pdu flag e = subst (λ (t : List ℕ). 0 < length t) (sym e) (omega arith)

au2_facts : (s : EndLinkOpening) (c : Bool) (text : List ℕ) (next : Safety) (connection : Connection) (ra : ℕ) (key : TripleKey) (sealed octets : List ℕ) → next ≡ side_in s c (WaitAu3 connection)
    → Exact s c (WaitAu1 ra) text next (SentAu2 key sealed octets) → (connection ≡ connection_at s c) × (octets ≡ greeting s false)
au2_facts s c text next connection ra key sealed octets e h =
    let q : WaitAu3 connection ≡ WaitAu3 (connection_at s c) = phase_same s c (WaitAu3 connection) (WaitAu3 (connection_at s c)) (sym e ∙ h.1) in
    let o : SentAu2 key sealed octets ≡ SentAu2 (session s) h.0 (greeting s false) = h.2 in
    (cc, cc)

au3_facts : (s : EndLinkOpening) (c : Bool) (text : List ℕ) (next : Safety) (connection : Connection) (peer rb : ℕ) (kmac key : TripleKey) (verified sealed octets : List ℕ) → next ≡ side_in s c (WaitAr connection)
    → Exact s c (WaitAu2 peer kmac rb) text next (SentAu3 key verified sealed octets) → (connection ≡ connection_at s c) × (octets ≡ opening_text s true)
au3_facts s c text next connection peer rb kmac key verified sealed octets e h =
    let q : WaitAr connection ≡ WaitAr (connection_at s c) = phase_same s c (WaitAr connection) (WaitAr (connection_at s c)) (sym e ∙ h.2) in
    let o : SentAu3 key verified sealed octets ≡ SentAu3 (session s) h.0 h.1 (opening_text s true) = h.3 in
    (cc, cc)

connected_facts : (s : EndLinkOpening) (c : Bool) (next : Safety) (connection : Connection) → next ≡ side_in s c (Connected connection.peer connection.session)
    → next ≡ side_in s c (Connected (own_number s (not c)) (session s)) → (connection.peer ≡ own_number s (not c)) × (connection.session ≡ session s)
connected_facts s c next connection e h =
    let q : Connected connection.peer connection.session ≡ Connected (own_number s (not c)) (session s) = phase_same s c _ _ (sym e ∙ h) in
    (cc, cc)

ar_octets : (connection other : Connection) (v v' t t' o o' : List ℕ) → SentAr connection v t o ≡ SentAr other v' t' o' → o ≡ o'
ar_octets connection other v v' t t' o o' e = cc

dt_users : (key key' : TripleKey) (u u' v v' : List ℕ) → AcceptedDt key u v ≡ AcceptedDt key' u' v' → u ≡ u'
dt_users key key' u u' v v' e = cc

not_open : (p : Phase) (release : Release) (known : Option TripleKey) → IsOpen p → p ≡ Released release known → ⊥
not_open p release known h e = subst IsOpen e h

no_idle : (s : EndLinkOpening) (c : Bool) (p : Phase) (text : List ℕ) (next : Safety) → IsOpen p → StaysIdle (side_in s c p) (Received text) next → ⊥
no_idle s c p text next h (AtReceived octets release known e r n) = not_open p release known h r
no_idle s c p text next h (AtDisconnect sub release known e r n) = cc
no_idle s c p text next h (AtConnect e r n) = cc

follows_by : SafetyLaws → (s : EndLinkOpening) (now : ℕ) (c : Bool) (p : Phase) (text : List ℕ) (next : Safety) (o : SafetyOutcome) → IsOpen p
    → IsStep (s.finder now) (side_in s c p) (Received text) next o → length (octets_sent_in_outcome o) ≤ 21 → (Agree s → Exact s c p text next o) → Follows s c p text next o
follows_by laws s now c p text next (SentAu1 octets) live h few agreed = absurd (let e = h.event_is in let u : ⊥ = cc in u)
follows_by laws s now c p text next (SentAu2 key sealed octets) live h few agreed = (
  h.connection,
  h.waits,
  h.next_is,
  received_users s c p text _ h.received,
  some_octets octets (Au2 (own_number s c) 1 h.connection.ra (mac_of key sealed)) (flag_at c) h.octets_is,
  omega arith,
  λ a. au2_facts s c text next h.connection h.connection.ra key sealed octets h.next_is
      (subst (λ (q : Phase). Exact s c q text next (SentAu2 key sealed octets)) h.waits (agreed a)),
)
follows_by laws s now c p text next (SentAu3 key verified sealed octets) live h few agreed = (
  h.connection,
  h.kmac,
  h.waits,
  h.next_is,
  received_users s c p text _ h.received,
  ap users_of h.octets_is ∙ ap users_of_reading (reads_au3 laws key sealed (flag_at c)),
  some_octets octets (Au3 (mac_of key sealed)) (flag_at c) h.octets_is,
  omega arith,
  λ a. au3_facts s c text next h.connection h.connection.peer h.connection.rb h.kmac key verified sealed octets h.next_is
      (subst (λ (q : Phase). Exact s c q text next (SentAu3 key verified sealed octets)) h.waits (agreed a)),
)
follows_by laws s now c p text next (SentAr connection verified sealed octets) live h few agreed = (
  h.waits,
  h.next_is,
  received_users s c p text _ h.received,
  ap users_of h.octets_is ∙ ap users_of_reading (reads_ar laws connection.session sealed (flag_at c)),
  some_octets octets (Ar (mac_of connection.session sealed)) (flag_at c) h.octets_is,
  omega arith,
  λ a.
      let x = subst (λ (q : Phase). Exact s c q text next (SentAr connection verified sealed octets)) h.waits (agreed a) in
      let f = connected_facts s c next connection h.next_is x.2 in
      (f.0, f.1, ar_octets _ _ _ _ _ _ _ _ x.3),
)
follows_by laws s now c p text next (ReceivedAr connection verified) live h few agreed = (
  h.waits,
  h.next_is,
  received_users s c p text _ h.received,
  λ a.
      let x = subst (λ (q : Phase). Exact s c q text next (ReceivedAr connection verified)) h.waits (agreed a) in
      connected_facts s c next connection h.next_is x.1,
)
follows_by laws s now c p text next (AcceptedDt key user verified) live h few agreed = (
  h.peer,
  h.connected,
  h.next_is,
  received_users s c p text _ h.received,
  λ a.
      let x = subst (λ (q : Phase). Exact s c q text next (AcceptedDt key user verified)) h.connected (agreed a) in
      x.4 ∙ ap (sealed_text s (not c)) (sym (dt_users _ _ _ _ _ _ x.3)),
)
follows_by laws s now c p text next (SentDt key user sealed octets) live h few agreed = absurd (let e = h.event_is in let u : ⊥ = cc in u)
follows_by laws s now c p text next (Refused refusal) live h few agreed = absurd (let e = h.event_is in let u : ⊥ = cc in u)
follows_by laws s now c p text next (ReleasedLocally release octets) live h few agreed =
    (omega arith, λ a. no_local s c p text next release octets (agreed a))
follows_by laws s now c p text next (ReleasedByPeer release) live h few agreed = λ a. no_peers s c p text next release (agreed a)
follows_by laws s now c p text next NothingDone live h few agreed = no_idle s c p text next live h

-- a side that isn't released receives a text; where the keys agree it is the text for which it waits
pub follows : SafetyLaws → (s : EndLinkOpening) (now : ℕ) (c : Bool) (p : Phase) (text : List ℕ) → IsOpen p → (Agree s → Awaits s c p text)
    → Follows s c p text (answer_of s now c p text).0 (answer_of s now c p text).1
follows laws s now c p text live awaits =
    follows_by laws s now c p text (answer_of s now c p text).0 (answer_of s now c p text).1 live
    (laws.only (s.finder now) (side_in s c p) (Received text)) (laws.few (s.finder now) (side_in s c p) (Received text))
    (λ a. exact laws s now a c p text (awaits a))
