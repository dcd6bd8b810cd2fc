-- A step of a safety side whose phase is that of its link's numbers: each text that it verifies was sealed before, where those that it waits for
-- were. It is the same rule for a live end of a line that loses and repeats as for one that doesn't.
use Rattle.std.proofs.Common.{◌≡◌, ℕ, ◌||◌, Bool, true, false, not, List, [], ◌++◌, map, refl, sym, ap, ap₂, subst, ◌∙◌}
use Rattle.std.specs.Prelude.{Option, is_some}
use Rattle.std.specs.Option.{option_to_list}
use Rattle.std.specs.List.{AllByRecursion}
use Rattle.std.proofs.lemmas.Bool.{or_left}
use Rattle.er_base.specs.declared.side.Side.TheVariants.{E, R}
use Rattle.des_block.specs.declared.triple_key.TripleKey.{TripleKey}
use Rattle.safety_automaton.specs.declared.role.Role.{Role}
use Rattle.safety_automaton.specs.declared.role.Role.TheVariants.{Initiator, Responder}
use Rattle.safety_automaton.specs.Safety.{Safety, Connection, Phase, Ready, WaitAu2, WaitAu3, WaitAr, Connected, Released, SafetyEvent, SafetyOutcome, SentAu1, SentAu2, SentAu3, SentAr, ReceivedAr, AcceptedDt, SentDt, Refused, ReleasedLocally, ReleasedByPeer, NothingDone, flag_of, other_role, session_in, au2_text, au3_text, ar_text, message_text}
use Rattle.safety_automaton.specs.Rules.{StaysIdle, AtReceived, AtDisconnect, AtConnect, IsStep}
use Rattle.safety_pair_laws.specs.Facts.{MarkedFact, at_side, facts_of, is_sealing, was_sealed, mistrusts, marked_from}
use Rattle.er_end_model.specs.Steps.{is_connected}
use Rattle.er_end_pair_laws.specs.Phases.{connection_of, IsEnginesPhase, IsCentres}
use Rattle.er_end_pair_laws.specs.Ordered.{IsEngine, IsCentre}
use Rattle.drill_model.specs.StackReports.{user_by}
use Rattle.session_keys.specs.Session.{session_of}
use Rattle.drill_laws.proofs.Stacked.{Numbers}
use Rattle.drill_laws.proofs.StackSaying.{sent_by_step}
use Rattle.drill_laws.proofs.Sealing.{IsSealed, IsUnforged, self_sealing, sealed_still, sealed_now, none_mistrusted}

-- ---- the session keys and the texts of a link

abbrev pub key : Numbers → TripleKey
key k = session_of k.ke k.ra k.rb

abbrev pub text_au2 : Numbers → List ℕ
text_au2 k = au2_text (flag_of Responder) k.engine k.rbc 1 k.ra k.rb

abbrev pub text_au3 : Numbers → List ℕ
text_au3 k = au3_text (flag_of Initiator) k.rbc k.ra k.rb

abbrev pub text_ar : Numbers → List ℕ
text_ar k = ar_text (flag_of Responder) k.engine

-- of messages of the engine's user, and of the radio block centre's
abbrev pub text_e : Numbers → List ℕ → List ℕ
text_e k user = message_text (flag_of Initiator) k.rbc user

abbrev pub text_r : Numbers → List ℕ → List ℕ
text_r k user = message_text (flag_of Responder) k.engine user

-- ---- one step

no_key : false ≡ true → ⊥
no_key e = cc

idle_is : (s : Safety) (event : SafetyEvent) (next : Safety) → StaysIdle s event next → next ≡ s
idle_is s event next (AtReceived octets release session event_is phase_is next_is) = next_is
idle_is s event next (AtDisconnect sub release session event_is phase_is next_is) = next_is
idle_is s event next (AtConnect event_is ready next_is) = next_is

known_at : (s : Safety) (p : Phase) → s.phase ≡ p → is_some (session_in s.phase) ≡ is_some (session_in p)
known_at s p is = ap (λ (q : Phase). is_some (session_in q)) is

connected_at : (s : Safety) (p : Phase) → s.phase ≡ p → is_connected s.phase ≡ is_connected p
connected_at s p is = ap is_connected is

module _ (k : Numbers) where
  abbrev pub Engine : Safety → Type 0
  Engine s = IsEngine k.engine k.rbc k.ke k.ra k.rb s

  abbrev pub Centre : Safety → Type 0
  Centre s = IsCentre k.engine k.rbc k.ke k.ra k.rb s

  e_at : (s : Safety) (p : Phase) → Engine s → s.phase ≡ p → IsEnginesPhase k.engine k.rbc k.ke k.ra k.rb p
  e_at s p a is = subst (λ (q : Phase). IsEnginesPhase k.engine k.rbc k.ke k.ra k.rb q) is a.is

  r_at : (s : Safety) (p : Phase) → Centre s → s.phase ≡ p → IsCentres k.engine k.rbc k.ke k.ra k.rb p
  r_at s p a is = subst (λ (q : Phase). IsCentres k.engine k.rbc k.ke k.ra k.rb q) is a.is

  -- ---- one fact

  sealing_is : (own : TripleKey) (text wanted : List ℕ) → own ≡ key k → text ≡ wanted
      → (is_sealing (key k) wanted (record { key = own; text = text }) || false) ≡ true
  sealing_is own text wanted own_is text_is =
      ap₂ (λ (a : TripleKey) (b : List ℕ). is_sealing (key k) wanted (record { key = a; text = b }) || false) own_is text_is
      ∙ or_left (is_sealing (key k) wanted (record { key = key k; text = wanted })) false (self_sealing (key k) wanted)

  verified_is : (own : TripleKey) (text wanted : List ℕ) (seen : List MarkedFact) → own ≡ key k → text ≡ wanted → IsSealed (key k) wanted seen
      → not (was_sealed own text seen) ≡ false
  verified_is own text wanted seen own_is text_is sealed =
      ap₂ (λ (a : TripleKey) (b : List ℕ). not (was_sealed a b seen)) own_is text_is ∙ ap not sealed

  or_false_is : (a b : Bool) → a ≡ false → b ≡ false → (a || b) ≡ false
  or_false_is a b e f = ap₂ (λ (x y : Bool). x || y) e f

  -- what it accepts was sealed
  abbrev pub Came : (text_of : List ℕ → List ℕ) → List MarkedFact → SafetyOutcome → Type 0
  Came text_of seen outcome = AllByRecursion (λ user. IsSealed (key k) (text_of user) seen) (option_to_list (user_by outcome))

  -- ---- a step of the engine's side

  abbrev KnownSo : Safety → List ℕ → List MarkedFact → Type 0
  KnownSo s text seen = is_some (session_in s.phase) ≡ true → IsSealed (key k) text seen

  abbrev ConnectedSo : Safety → List ℕ → List MarkedFact → Type 0
  ConnectedSo s text seen = is_connected s.phase ≡ true → IsSealed (key k) text seen

  pub record EngineGoes (next : Safety) (outcome : SafetyOutcome) (seen more : List MarkedFact) : Type 0 where
    pub unforged : IsUnforged more
    pub au3 : KnownSo next (text_au3 k) (seen ++ more)
    pub sent : AllByRecursion (λ user. IsSealed (key k) (text_e k user) (seen ++ more)) (sent_by_step outcome)

  -- the side stays as it is, and no fact came
  engine_same : (e next : Safety) (outcome : SafetyOutcome) (seen : List MarkedFact) → next ≡ e → sent_by_step outcome ≡ [] → KnownSo e (text_au3 k) seen
      → EngineGoes next outcome seen []
  engine_same e next outcome seen same none au3 = record {
    unforged = refl;
    au3 = λ known. sealed_still (key k) (text_au3 k) seen [] (au3 (sym (ap (λ (s : Safety). is_some (session_in s.phase)) same) ∙ known));
    sent = subst (AllByRecursion (λ user. IsSealed (key k) (text_e k user) (seen ++ []))) (sym none) tt;
  }

  abbrev e_news : List MarkedFact → SafetyEvent → SafetyOutcome → List MarkedFact
  e_news seen event outcome = marked_from seen (map (at_side E) (facts_of event outcome))

  pub e_goes : (key_of : ℕ → ℕ → Option TripleKey) (e next : Safety) (seen : List MarkedFact) (event : SafetyEvent) (outcome : SafetyOutcome)
      → IsStep key_of e event next outcome → Engine e → Engine next → Came (text_r k) seen outcome → IsUnforged seen
      → KnownSo next (text_au2 k) seen → ConnectedSo next (text_ar k) seen → KnownSo e (text_au3 k) seen
      → EngineGoes next outcome seen (e_news seen event outcome)
  e_goes key_of e next seen event (SentAu1 octets) row before after came unforged au2 ar au3 =
      let phase : next.phase ≡ WaitAu2 row.peer row.kmac row.rb = ap (λ (s : Safety). s.phase) row.next_is in
      record { unforged = refl; au3 = λ known. absurd (no_key (sym (known_at next (WaitAu2 row.peer row.kmac row.rb) phase) ∙ known)); sent = tt }
  e_goes key_of e next seen event (SentAu2 session sealed octets) row before after came unforged au2 ar au3 =
      absurd (e_at next (WaitAu3 row.connection) after (ap (λ (s : Safety). s.phase) row.next_is))
  e_goes key_of e next seen event (SentAu3 session verified sealed octets) row before after came unforged au2 ar au3 =
      let c : Connection = row.connection in
      let phase : next.phase ≡ WaitAr c = ap (λ (s : Safety). s.phase) row.next_is in
      let c_is : c ≡ connection_of k.engine k.rbc k.ke k.ra k.rb = e_at next (WaitAr c) after phase in
      let own : session ≡ key k = row.session_is ∙ ap (λ (x : Connection). x.session) c_is in
      let au2_is : verified ≡ text_au2 k =
      row.verified_is ∙ ap₂ (λ (role : Role) (me : ℕ). au2_text (flag_of (other_role role)) me c.peer 1 c.ra c.rb) before.role before.me
      ∙ ap (λ (x : Connection). au2_text (flag_of Responder) k.engine x.peer 1 x.ra x.rb) c_is in
      let au3_is : sealed ≡ text_au3 k =
      row.sealed_is ∙ ap₂ (λ (role : Role) (x : Connection). au3_text (flag_of role) x.peer x.ra x.rb) before.role c_is in
      let more : List MarkedFact = e_news seen event (SentAu3 session verified sealed octets) in
      record {
        unforged = or_false_is (not (was_sealed session verified seen)) false (verified_is session verified (text_au2 k) seen own au2_is (au2 (known_at next (WaitAr c) phase))) refl;
        au3 = λ known. sealed_now (key k) (text_au3 k) seen more (sealing_is session sealed (text_au3 k) own au3_is);
        sent = tt;
      }
  e_goes key_of e next seen event (SentAr c verified sealed octets) row before after came unforged au2 ar au3 =
      absurd (e_at e (WaitAu3 c) before row.waits)
  e_goes key_of e next seen event (ReceivedAr c verified) row before after came unforged au2 ar au3 =
      let c_is : c ≡ connection_of k.engine k.rbc k.ke k.ra k.rb = e_at e (WaitAr c) before row.waits in
      let own : c.session ≡ key k = ap (λ (x : Connection). x.session) c_is in
      let ar_is : verified ≡ text_ar k =
      row.verified_is ∙ ap₂ (λ (role : Role) (me : ℕ). ar_text (flag_of (other_role role)) me) before.role before.me in
      let phase : next.phase ≡ Connected c.peer c.session = ap (λ (s : Safety). s.phase) row.next_is in
      let more : List MarkedFact = e_news seen event (ReceivedAr c verified) in
      record {
        unforged = or_false_is (not (was_sealed c.session verified seen) || mistrusts E seen) false
            (or_false_is (not (was_sealed c.session verified seen)) (mistrusts E seen)
            (verified_is c.session verified (text_ar k) seen own ar_is (ar (connected_at next (Connected c.peer c.session) phase))) (none_mistrusted E seen unforged)) refl;
        au3 = λ known. sealed_still (key k) (text_au3 k) seen more (au3 (known_at e (WaitAr c) row.waits));
        sent = tt;
      }
  e_goes key_of e next seen event (AcceptedDt session user verified) row before after came unforged au2 ar au3 =
      let knows = e_at e (Connected row.peer session) before row.connected in
      let message : verified ≡ text_r k user =
      row.verified_is ∙ ap₂ (λ (role : Role) (me : ℕ). message_text (flag_of (other_role role)) me user) before.role before.me in
      let more : List MarkedFact = e_news seen event (AcceptedDt session user verified) in
      record {
        unforged = or_false_is (not (was_sealed session verified seen)) false (verified_is session verified (text_r k user) seen knows.1 message came.0) refl;
        au3 = λ known. sealed_still (key k) (text_au3 k) seen more (au3 (known_at e (Connected row.peer session) row.connected));
        sent = tt;
      }
  e_goes key_of e next seen event (SentDt session user sealed octets) row before after came unforged au2 ar au3 =
      let knows = e_at e (Connected row.peer session) before row.connected in
      let message : sealed ≡ text_e k user =
      row.sealed_is ∙ ap₂ (λ (role : Role) (peer : ℕ). message_text (flag_of role) peer user) before.role knows.0 in
      let more : List MarkedFact = e_news seen event (SentDt session user sealed octets) in
      record {
        unforged = refl;
        au3 = λ known. sealed_still (key k) (text_au3 k) seen more (au3 (known_at e (Connected row.peer session) row.connected));
        sent = (sealed_now (key k) (text_e k user) seen more (sealing_is session sealed (text_e k user) knows.1 message), tt);
      }
  e_goes key_of e next seen event (Refused refusal) row before after came unforged au2 ar au3 =
      engine_same e next (Refused refusal) seen row.next_is refl au3
  e_goes key_of e next seen event (ReleasedLocally release octets) row before after came unforged au2 ar au3 =
      absurd (e_at next (Released release (session_in e.phase)) after (ap (λ (s : Safety). s.phase) row.releases.next_is))
  e_goes key_of e next seen event (ReleasedByPeer release) row before after came unforged au2 ar au3 =
      absurd (e_at next (Released release (session_in e.phase)) after (ap (λ (s : Safety). s.phase) row.next_is))
  e_goes key_of e next seen event NothingDone row before after came unforged au2 ar au3 =
      engine_same e next NothingDone seen (idle_is e event next row) refl au3

  -- ---- a step of the radio block centre's side

  pub record CentreGoes (next : Safety) (outcome : SafetyOutcome) (seen more : List MarkedFact) : Type 0 where
    pub unforged : IsUnforged more
    pub au2 : KnownSo next (text_au2 k) (seen ++ more)
    pub ar : ConnectedSo next (text_ar k) (seen ++ more)
    pub sent : AllByRecursion (λ user. IsSealed (key k) (text_r k user) (seen ++ more)) (sent_by_step outcome)

  centre_same : (r next : Safety) (outcome : SafetyOutcome) (seen : List MarkedFact) → next ≡ r → sent_by_step outcome ≡ [] → KnownSo r (text_au2 k) seen
      → ConnectedSo r (text_ar k) seen → CentreGoes next outcome seen []
  centre_same r next outcome seen same none au2 ar = record {
    unforged = refl;
    au2 = λ known. sealed_still (key k) (text_au2 k) seen [] (au2 (sym (ap (λ (s : Safety). is_some (session_in s.phase)) same) ∙ known));
    ar = λ connected. sealed_still (key k) (text_ar k) seen [] (ar (sym (ap (λ (s : Safety). is_connected s.phase) same) ∙ connected));
    sent = subst (AllByRecursion (λ user. IsSealed (key k) (text_r k user) (seen ++ []))) (sym none) tt;
  }

  abbrev r_news : List MarkedFact → SafetyEvent → SafetyOutcome → List MarkedFact
  r_news seen event outcome = marked_from seen (map (at_side R) (facts_of event outcome))

  pub r_goes : (key_of : ℕ → ℕ → Option TripleKey) (r next : Safety) (seen : List MarkedFact) (event : SafetyEvent) (outcome : SafetyOutcome)
      → IsStep key_of r event next outcome → Centre r → Centre next → Came (text_e k) seen outcome → IsUnforged seen
      → ConnectedSo next (text_au3 k) seen → KnownSo r (text_au2 k) seen → ConnectedSo r (text_ar k) seen
      → CentreGoes next outcome seen (r_news seen event outcome)
  r_goes key_of r next seen event (SentAu1 octets) row before after came unforged au3 au2 ar = absurd (r_at r (Ready row.peer row.kmac row.rb) before row.waits)
  r_goes key_of r next seen event (SentAu2 session sealed octets) row before after came unforged au3 au2 ar =
      let c : Connection = row.connection in
      let phase : next.phase ≡ WaitAu3 c = ap (λ (s : Safety). s.phase) row.next_is in
      let c_is : c ≡ connection_of k.rbc k.engine k.ke k.ra k.rb = r_at next (WaitAu3 c) after phase in
      let own : session ≡ key k = row.session_is ∙ ap (λ (x : Connection). x.session) c_is in
      let au2_is : sealed ≡ text_au2 k =
      row.sealed_is ∙ ap₂ (λ (role : Role) (me : ℕ). au2_text (flag_of role) c.peer me 1 c.ra c.rb) before.role before.me
      ∙ ap (λ (x : Connection). au2_text (flag_of Responder) x.peer k.rbc 1 x.ra x.rb) c_is in
      let more : List MarkedFact = r_news seen event (SentAu2 session sealed octets) in
      record {
        unforged = refl;
        au2 = λ known. sealed_now (key k) (text_au2 k) seen more (sealing_is session sealed (text_au2 k) own au2_is);
        ar = λ connected. absurd (no_key (sym (connected_at next (WaitAu3 c) phase) ∙ connected));
        sent = tt;
      }
  r_goes key_of r next seen event (SentAu3 session verified sealed octets) row before after came unforged au3 au2 ar =
      absurd (r_at r (WaitAu2 row.connection.peer row.kmac row.connection.rb) before row.waits)
  r_goes key_of r next seen event (SentAr c verified sealed octets) row before after came unforged au3 au2 ar =
      let c_is : c ≡ connection_of k.rbc k.engine k.ke k.ra k.rb = r_at r (WaitAu3 c) before row.waits in
      let own : c.session ≡ key k = ap (λ (x : Connection). x.session) c_is in
      let au3_is : verified ≡ text_au3 k =
      row.verified_is ∙ ap₂ (λ (role : Role) (me : ℕ). au3_text (flag_of (other_role role)) me c.ra c.rb) before.role before.me
      ∙ ap (λ (x : Connection). au3_text (flag_of Initiator) k.rbc x.ra x.rb) c_is in
      let ar_is : sealed ≡ text_ar k = row.sealed_is ∙ ap₂ (λ (role : Role) (x : Connection). ar_text (flag_of role) x.peer) before.role c_is in
      let phase : next.phase ≡ Connected c.peer c.session = ap (λ (s : Safety). s.phase) row.next_is in
      let more : List MarkedFact = r_news seen event (SentAr c verified sealed octets) in
      record {
        unforged = or_false_is (not (was_sealed c.session verified seen) || mistrusts R seen) false
            (or_false_is (not (was_sealed c.session verified seen)) (mistrusts R seen)
            (verified_is c.session verified (text_au3 k) seen own au3_is (au3 (connected_at next (Connected c.peer c.session) phase))) (none_mistrusted R seen unforged)) refl;
        au2 = λ known. sealed_still (key k) (text_au2 k) seen more (au2 (known_at r (WaitAu3 c) row.waits));
        ar = λ connected. sealed_now (key k) (text_ar k) seen more (sealing_is c.session sealed (text_ar k) own ar_is);
        sent = tt;
      }
  r_goes key_of r next seen event (ReceivedAr c verified) row before after came unforged au3 au2 ar = absurd (r_at r (WaitAr c) before row.waits)
  r_goes key_of r next seen event (AcceptedDt session user verified) row before after came unforged au3 au2 ar =
      let knows = r_at r (Connected row.peer session) before row.connected in
      let message : verified ≡ text_e k user =
      row.verified_is ∙ ap₂ (λ (role : Role) (me : ℕ). message_text (flag_of (other_role role)) me user) before.role before.me in
      let more : List MarkedFact = r_news seen event (AcceptedDt session user verified) in
      record {
        unforged = or_false_is (not (was_sealed session verified seen)) false (verified_is session verified (text_e k user) seen knows.1 message came.0) refl;
        au2 = λ known. sealed_still (key k) (text_au2 k) seen more (au2 (known_at r (Connected row.peer session) row.connected));
        ar = λ connected. sealed_still (key k) (text_ar k) seen more (ar (connected_at r (Connected row.peer session) row.connected));
        sent = tt;
      }
  r_goes key_of r next seen event (SentDt session user sealed octets) row before after came unforged au3 au2 ar =
      let knows = r_at r (Connected row.peer session) before row.connected in
      let message : sealed ≡ text_r k user =
      row.sealed_is ∙ ap₂ (λ (role : Role) (peer : ℕ). message_text (flag_of role) peer user) before.role knows.0 in
      let more : List MarkedFact = r_news seen event (SentDt session user sealed octets) in
      record {
        unforged = refl;
        au2 = λ known. sealed_still (key k) (text_au2 k) seen more (au2 (known_at r (Connected row.peer session) row.connected));
        ar = λ connected. sealed_still (key k) (text_ar k) seen more (ar (connected_at r (Connected row.peer session) row.connected));
        sent = (sealed_now (key k) (text_r k user) seen more (sealing_is session sealed (text_r k user) knows.1 message), tt);
      }
  r_goes key_of r next seen event (Refused refusal) row before after came unforged au3 au2 ar =
      centre_same r next (Refused refusal) seen row.next_is refl au2 ar
  r_goes key_of r next seen event (ReleasedLocally release octets) row before after came unforged au3 au2 ar =
      absurd (r_at next (Released release (session_in r.phase)) after (ap (λ (s : Safety). s.phase) row.releases.next_is))
  r_goes key_of r next seen event (ReleasedByPeer release) row before after came unforged au3 au2 ar =
      absurd (r_at next (Released release (session_in r.phase)) after (ap (λ (s : Safety). s.phase) row.next_is))
  r_goes key_of r next seen event NothingDone row before after came unforged au3 au2 ar =
      centre_same r next NothingDone seen (idle_is r event next row) refl au2 ar
