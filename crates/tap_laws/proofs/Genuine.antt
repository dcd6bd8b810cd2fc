-- A good message of a tap: what it was read as, and that its side sent it, if either side sealed its text.
use Rattle.std.proofs.Common.{◌≡◌, ◌∙◌, ◌⊎◌, ◌<◌, inl, inr, ℕ, zero, suc, ◌+◌, Bool, true, false, List, [], ◌∷◌, ◌++◌, length, slice_index_or, Option, Some, None, Ok, Err, refl, sym, ap, ap₂, subst, arith}
use Rattle.std.specs.Prelude.{◌==◌, nat_le, Any}
use Rattle.std.specs.List.{AllByRecursion}
use Rattle.std.proofs.lemmas.Bool.{eqb-true}
use Rattle.er_base.specs.declared.side.Side.{Side}
use Rattle.er_base.specs.declared.side.Side.TheVariants.{E, R}
use Rattle.des_block.specs.declared.triple_key.TripleKey.{TripleKey}
use Rattle.cbc_mac.specs.Mac.{mac_of}
use Rattle.sapdu.specs.Spelling.{Au1, Au2, Au3, Ar, Dt, Di, read_of}
use Rattle.sapdu.specs.Sealed.{sealed_text}
use Rattle.safety_automaton.specs.Safety.{same_flag, message_text}
use Rattle.safety_automaton.specs.Laws.{TextsTell}
use Rattle.safety_pair_laws.specs.Facts.{Fact, Sent, Sealed, Verified, Connected, Accepted, SideFact, MarkedFact, marked}
use Rattle.safety_pair_laws.specs.Openings.{PairOpening, OfKeys, flag_from}
use Rattle.safety_pair_laws.specs.Authentic.{Sends, WasSent, Seals, EitherSealed, IsSetUpSealing, IsAuthentic, Authentic}
use Rattle.drill_model.specs.Outcomes.{Occurrence, facts_in}
use Rattle.drill_model.specs.Claims.{LawfulAt, IsLawfulHistory}
use Rattle.drill_model.specs.Links.{Link, LinkOpening}
use Rattle.drill_model.specs.Worlds.{history_on, world_run}
use Rattle.drill_laws.specs.Laws.{LawfulAlways}
use Rattle.tap_model.specs.declared.audit_verdict.AuditVerdict.{AuditVerdict}
use Rattle.tap_model.specs.declared.audit_verdict.AuditVerdict.TheVariants.{Flag, Unexpected, NoKey, Mac}
use Rattle.tap_model.specs.Hearing.{heard, items}
use Rattle.tap_model.specs.Lines.{stream_of}
use Rattle.tap_model.specs.Verdicts.{SafetySession, Known, Read, verdict_where_broken, receiver_of, first_verdict_of, audit_verdict_on_item, judged, judged_from, user_read, good_user}
use Rattle.tap_model.specs.Texts.{known_at}
use Rattle.tap_laws.specs.Genuine.{sealed_message, GoodIsGenuine, facts_at_link, GoodIsSentBefore, GoodIsSent}
use Rattle.tap_laws.proofs.Judging.{no_user, sealed_is}

-- ---- what a good message was read as

-- a DT of this side, whose MAC is right under the keys of a session
record IsRight (known : Known) (session : Option SafetySession) (side : Side) (own user : List ℕ) (mac : ℕ) (flag : Bool) : Type 0 where
  s : SafetySession
  session_is : session ≡ Some s
  user_is : own ≡ user
  flag_is : flag ≡ flag_from side
  mac_is : mac ≡ mac_of s.keys (message_text flag (receiver_of known side) own)

-- by the tests of its flag and its place, where there is no session
without_session : (own user : List ℕ) (mac : ℕ) (flag a b : Bool) (more : List (Option AuditVerdict))
    → good_user (Ok (Dt own mac, flag)) (first_verdict_of (verdict_where_broken a Flag ∷ verdict_where_broken b Unexpected ∷ None ∷ None ∷ Some NoKey ∷ more)) ≡ user ∷ [] → ⊥
without_session own user mac flag true true more e = cc
without_session own user mac flag true false more e = cc
without_session own user mac flag false b more e = cc

-- and of its MAC, where there is one
tests_passed : (own user : List ℕ) (mac : ℕ) (flag a b c : Bool)
    → good_user (Ok (Dt own mac, flag)) (first_verdict_of (verdict_where_broken a Flag ∷ verdict_where_broken b Unexpected ∷ None ∷ None ∷ None ∷ verdict_where_broken c Mac ∷ [])) ≡ user ∷ []
    → (own ≡ user) × (a ≡ true) × (c ≡ true)
tests_passed own user mac flag true true true e = (cc, refl, refl)
tests_passed own user mac flag true true false e = absurd cc
tests_passed own user mac flag true false c e = absurd cc
tests_passed own user mac flag false b c e = absurd cc

flag_of_side : (side : Side) (flag : Bool) → same_flag flag (flag_from side) ≡ true → flag ≡ flag_from side
flag_of_side E true e = absurd cc
flag_of_side E false e = refl
flag_of_side R true e = refl
flag_of_side R false e = absurd cc

mac_of_message : (s : SafetySession) (user : List ℕ) (mac to : ℕ) (flag : Bool) → (mac == mac_of s.keys (sealed_text (Dt user mac) flag to s.ra s.rb)) ≡ true
    → mac ≡ mac_of s.keys (message_text flag to user)
mac_of_message s user mac to flag e =
    eqb-true mac (mac_of s.keys (sealed_text (Dt user mac) flag to s.ra s.rb)) e ∙ ap (λ (t : List ℕ). mac_of s.keys t) (sealed_is user mac flag to s.ra s.rb)

dt_right : (known : Known) (session : Option SafetySession) (side : Side) (place : ℕ) (own user : List ℕ) (mac : ℕ) (flag : Bool)
    → good_user (Ok (Dt own mac, flag)) (audit_verdict_on_item (record known { session = session }) side place (Ok (Dt own mac, flag))) ≡ user ∷ []
    → IsRight known session side own user mac flag
unfolding audit_verdict_on_item
dt_right known None E place own user mac flag e = absurd (without_session own user mac flag (same_flag flag false) (nat_le 2 place) _ e)
dt_right known None R place own user mac flag e = absurd (without_session own user mac flag (same_flag flag true) (nat_le 2 place) _ e)
dt_right known (Some s) E place own user mac flag e =
    let t = tests_passed own user mac flag (same_flag flag false) (nat_le 2 place) (mac == mac_of s.keys (sealed_text (Dt own mac) flag known.rbc s.ra s.rb)) e in
    record { s = s; session_is = refl; user_is = t.0; flag_is = flag_of_side E flag t.1; mac_is = mac_of_message s own mac known.rbc flag t.2 }
dt_right known (Some s) R place own user mac flag e =
    let t = tests_passed own user mac flag (same_flag flag true) (nat_le 2 place) (mac == mac_of s.keys (sealed_text (Dt own mac) flag known.engine s.ra s.rb)) e in
    record { s = s; session_is = refl; user_is = t.0; flag_is = flag_of_side R flag t.1; mac_is = mac_of_message s own mac known.engine flag t.2 }

-- what a good message was read as, in the words of the law
record IsReadAsRight (known : Known) (side : Side) (read : Read) (user : List ℕ) : Type 0 where
  s : SafetySession
  session_is : known.session ≡ Some s
  read_is : read ≡ Ok (Dt user (mac_of s.keys (sealed_message known side user)), flag_from side)

abbrev dt_read : (user : List ℕ) (mac : ℕ) (flag : Bool) → Read
dt_read user mac flag = Ok (Dt user mac, flag)

same_read : (own user : List ℕ) (mac right : ℕ) (flag own_flag : Bool) → own ≡ user → mac ≡ right → flag ≡ own_flag
    → dt_read own mac flag ≡ dt_read user right own_flag
same_read own user mac right flag own_flag a b c = ap (λ (x : List ℕ). dt_read x mac flag) a ∙ ap (λ (n : ℕ). dt_read user n flag) b ∙ ap (λ (f : Bool). dt_read user right f) c

as_right : (known : Known) (side : Side) (own user : List ℕ) (mac : ℕ) (flag : Bool) → IsRight known known.session side own user mac flag
    → IsReadAsRight known side (Ok (Dt own mac, flag)) user
as_right known side own user mac flag is =
    let text : message_text flag (receiver_of known side) own ≡ sealed_message known side user =
    ap₂ (λ (f : Bool) (x : List ℕ). message_text f (receiver_of known side) x) is.flag_is is.user_is in
    record {
      s = is.s;
      session_is = is.session_is;
      read_is =
          same_read own user mac (mac_of is.s.keys (sealed_message known side user)) flag (flag_from side) is.user_is
          (is.mac_is ∙ ap (λ (t : List ℕ). mac_of is.s.keys t) text) is.flag_is;
    }

no_message : (read : Read) (v : AuditVerdict) (user : List ℕ) → user_read read ≡ [] → good_user read v ≡ user ∷ [] → ⊥
no_message read v user e good = let z : user ∷ [] ≡ [] = sym good ∙ no_user read v e in cc

read_right : (known : Known) (side : Side) (place : ℕ) (read : Read) (user : List ℕ) → good_user read (audit_verdict_on_item known side place read) ≡ user ∷ []
    → IsReadAsRight known side read user
read_right known side place (Err fault) user e = absurd (no_message (Err fault) _ user refl e)
read_right known side place (Ok (Au1 id feature rb, flag)) user e = absurd (no_message (Ok (Au1 id feature rb, flag)) _ user refl e)
read_right known side place (Ok (Au2 id feature ra mac, flag)) user e = absurd (no_message (Ok (Au2 id feature ra mac, flag)) _ user refl e)
read_right known side place (Ok (Au3 mac, flag)) user e = absurd (no_message (Ok (Au3 mac, flag)) _ user refl e)
read_right known side place (Ok (Ar mac, flag)) user e = absurd (no_message (Ok (Ar mac, flag)) _ user refl e)
read_right known side place (Ok (Dt own mac, flag)) user e = as_right known side own user mac flag (dt_right known known.session side place own user mac flag e)
read_right known side place (Ok (Di reason sub, flag)) user e = absurd (no_message (Ok (Di reason sub, flag)) _ user refl e)

-- ---- lists of facts

-- of each what holds of it wherever it stands
all_of : (P : MarkedFact → Type 0) (xs : List MarkedFact) → ((before after : List MarkedFact) (x : MarkedFact) → xs ≡ before ++ x ∷ after → P x) → AllByRecursion P xs
all_of P [] h = tt
all_of P (x ∷ xs) h = (h [] xs x refl, all_of P xs (λ before after y e. h (x ∷ before) after y (ap (λ (zs : List MarkedFact). x ∷ zs) e)))

pub all_at : (P : MarkedFact → Type 0) (xs : List MarkedFact) (k : ℕ) (x : MarkedFact) → k < length xs → slice_index_or xs k x ≡ x → AllByRecursion P xs → P x
all_at P [] k x inside is all = absurd (omega arith)
all_at P (y ∷ xs) zero x inside is all = subst P is all.0
all_at P (y ∷ xs) (suc k) x inside is all = all_at P xs k x (omega arith) is all.1

-- one of which P holds, where Q holds of all
any_with : (P Q S : MarkedFact → Type 0) (xs : List MarkedFact) → ((x : MarkedFact) → P x → Q x → S x) → AllByRecursion Q xs → Any P xs → Any S xs
any_with P Q S xs f all h = (h.0, h.1, h.2, h.3, f h.1 h.4 (all_at Q xs h.0 h.1 h.2 h.3 all))

-- ---- who sealed the text of a message

-- what a side seals
abbrev SealsOwn : PairOpening → Side → Fact → Type 0
SealsOwn opening side (Sent user key text) = (to : ℕ) × (text ≡ message_text (flag_from side) to user)
SealsOwn opening side (Sealed key text) = IsSetUpSealing opening side key text
SealsOwn opening side (Verified heard key text) = Unit {0}
SealsOwn opening side (Connected heard connection text) = Unit {0}
SealsOwn opening side (Accepted heard user key text) = Unit {0}

seals_own : (opening : PairOpening) (before : List MarkedFact) (side : Side) (fact : Fact) (forged : Bool) → IsAuthentic opening before side fact forged → SealsOwn opening side fact
seals_own opening before side (Sent user key text) forged h = (_, h.1.text_is)
seals_own opening before side (Sealed key text) forged h = h.1
seals_own opening before side (Verified heard key text) forged h = tt
seals_own opening before side (Connected heard connection text) forged h = tt
seals_own opening before side (Accepted heard user key text) forged h = tt

same_side : (a b : Side) → flag_from a ≡ flag_from b → a ≡ b
same_side E E e = refl
same_side E R e = absurd cc
same_side R E e = absurd cc
same_side R R e = refl

module _ (tell : TextsTell) (opening : PairOpening) where
  -- no text of a set-up is that of a message
  of_set_up : (found : Side) (key : TripleKey) (sealed : List ℕ) (flag : Bool) (to : ℕ) (user : List ℕ) → IsSetUpSealing opening found key sealed → sealed ≡ message_text flag to user → ⊥
  of_set_up E key sealed flag to user honest is =
      let c = honest.connection in tell.au3_message false flag c.peer to c.ra c.rb user (sym honest.text_is ∙ is)
  of_set_up R key sealed flag to user honest is =
      let c = honest.connection in
      elim honest.text_is [
        | inl au2 ↦ tell.au2_message true flag c.peer to c.me 1 c.ra c.rb user (sym au2 ∙ is)
        | inr ar ↦ tell.ar_message true flag c.peer to user (sym ar ∙ is)
      ]

  module _ (side : Side) (key : TripleKey) (to : ℕ) (user : List ℕ) where
    abbrev text : List ℕ
    text = message_text (flag_from side) to user

    sent_one : (found : Side) (fact : Fact) → Seals key text fact ⊎ ((other : List ℕ) × Sends other key text fact) → SealsOwn opening found fact → (found ≡ side) × Sends user key text fact
    sent_one found (Sent sent own sealed) (inl seals) honest = absurd seals
    sent_one found (Sent sent own sealed) (inr sends) honest =
        let s : (sent ≡ sends.0) × (own ≡ key) × (sealed ≡ text) = sends.1 in
        let same = tell.message (flag_from found) (flag_from side) honest.0 to sent user (sym honest.1 ∙ s.2) in
        (same_side found side same.flag, (same.users, s.1, s.2))
    sent_one found (Sealed own sealed) (inl seals) honest = absurd (of_set_up found own sealed (flag_from side) to user honest seals.1)
    sent_one found (Sealed own sealed) (inr sends) honest = absurd sends.1
    sent_one found (Verified heard own sealed) (inl seals) honest = absurd seals
    sent_one found (Verified heard own sealed) (inr sends) honest = absurd sends.1
    sent_one found (Connected heard c sealed) (inl seals) honest = absurd seals
    sent_one found (Connected heard c sealed) (inr sends) honest = absurd sends.1
    sent_one found (Accepted heard sent own sealed) (inl seals) honest = absurd seals
    sent_one found (Accepted heard sent own sealed) (inr sends) honest = absurd sends.1

    was_sent : (facts : List SideFact) → Authentic opening facts → EitherSealed key text (marked facts) → WasSent side user key text (marked facts)
    was_sent facts authentic either =
        any_with (λ m. Seals key text m.fact ⊎ ((other : List ℕ) × Sends other key text m.fact)) (λ m. SealsOwn opening m.side m.fact) (λ m. (m.side ≡ side) × Sends user key text m.fact) (marked facts)
        (λ m either honest. sent_one m.side m.fact either honest)
        (all_of (λ m. SealsOwn opening m.side m.fact) (marked facts) (λ before after m e. seals_own opening before m.side m.fact m.forged (authentic before after m e))) either

-- ---- of a link

good_is_genuine : TextsTell → (opening : PairOpening) (facts : List SideFact) → Authentic opening facts → (known : Known) (side : Side) (place : ℕ) (item : List ℕ)
    → GoodIsGenuine known side (marked facts) (judged known side place item)
good_is_genuine tell opening facts authentic known side place item user good =
    let r = read_right known side place (read_of item) user good in
    record { session = r.s; known_is = r.session_is; read = r.read_is; sent = was_sent tell opening side r.s.keys (receiver_of known side) user facts authentic }

pub good_is_sent_before : TextsTell → LawfulAlways → GoodIsSentBefore
good_is_sent_before tell lawful plan steps n l at engine rbc ke kr ra rb is =
    let history : List Occurrence = history_on n (world_run plan steps).1 in
    let here : LawfulAt (Some l) history = subst (λ (x : Option Link). LawfulAt x history) at (lawful plan steps n) in
    let authentic : Authentic (OfKeys engine rbc ke kr ra rb) (facts_in history) = subst (λ (x : LinkOpening). IsLawfulHistory x history) is here in
    good_is_genuine tell (OfKeys engine rbc ke kr ra rb) (facts_in history) authentic

all_genuine : (known : Known) (side : Side) (facts : List MarkedFact) → ((place : ℕ) (item : List ℕ) → GoodIsGenuine known side facts (judged known side place item))
    → (place : ℕ) (heard : List (List ℕ)) → AllByRecursion (GoodIsGenuine known side facts) (judged_from known side place heard)
unfolding judged_from
all_genuine known side facts h place [] = tt
all_genuine known side facts h place (item ∷ rest) = (h place item, all_genuine known side facts h (place + 1) rest)

pub good_is_sent : GoodIsSentBefore → GoodIsSent
good_is_sent before plan steps n l at engine rbc ke kr ra rb is finds lines m o side =
    all_genuine (known_at finds m o lines) side (facts_at_link n plan steps) (before plan steps n l at engine rbc ke kr ra rb is (known_at finds m o lines) side) 0
    (items (heard side (stream_of m side lines)))
