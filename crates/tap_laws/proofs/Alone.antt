-- An audit knows the session keys under which an end accepted messages, where it has the end's KMAC and a stream of its own side that tells its
-- random number.
use Rattle.std.proofs.Common.{◌≡◌, ◌∙◌, ℕ, false, List, [], Option, Some, Ok, refl, sym, ap, ap₂}
use Rattle.er_base.specs.declared.side.Side.{Side}
use Rattle.er_base.specs.declared.side.Side.TheVariants.{E, R}
use Rattle.des_block.specs.declared.triple_key.TripleKey.{TripleKey}
use Rattle.er_settings.specs.Values.{Settings}
use Rattle.session_keys.specs.Session.{session_of}
use Rattle.t70_header.specs.JoiningLaws.{WrappedIsJoined}
use Rattle.sapdu.specs.Spelling.{Au1, read_of}
use Rattle.er_end_model.specs.Steps.{Finds}
use Rattle.er_end_model.specs.Ends.{Opening, Call, Answer, End, Moment, opened, end_run}
use Rattle.tap_model.specs.Hearing.{heard, items}
use Rattle.tap_model.specs.Given.{received, octets_of_moments, sender_to, settings_of_opening, IsCallerStartedFirst, HasHeardStreamTexts}
use Rattle.tap_model.specs.Verdicts.{Read, Known, known_of, rb_in, ra_in, random_number_in_item, first_number, session_with, receiver_of}
use Rattle.tap_laws.specs.LookingUp.{AllLookUp}
use Rattle.tap_laws.specs.Progress.{etcs_number_of_end, FirstAu1, FirstAu2}
use Rattle.tap_laws.specs.LawsBelow.{LawsOfOneEnd}
use Rattle.tap_laws.specs.OneEnd.{known_beside, Tells, FindsOwn, AcceptedIsGood}
use Rattle.tap_laws.proofs.KeysTell.{same_keys}
use Rattle.tap_laws.proofs.Finding.{Agreed, finds_end}
use Rattle.tap_laws.proofs.Agreeing.{HasHead, front_head, items_front, head_number, all_head, given_head}

-- the first text that was given is the first item that is heard
pub item_head : WrappedIsJoined → (side : Side) (stream : List ℕ) (given : List (List ℕ)) (z : End) (x : List ℕ) → HasHeardStreamTexts side stream given z → HasHead x given
    → HasHead x (items (heard side stream))
item_head wrapped side stream given z x h head =
    front_head x (heard side stream).texts (items (heard side stream)) (given_head wrapped side stream given z x h head) (items_front (heard side stream))

module _ (wrapped : WrappedIsJoined) (finds : Finds) (engine rbc : ℕ) (kmac : TripleKey) (came own : List ℕ) (given : List (List ℕ)) (z : End) where
  -- of an end that calls its peer told Ra, in the AU2 that it was given first
  pub agreed_calling : (settings : Settings) (me peer : ℕ) (key : TripleKey) (rb now : ℕ) → kmac ≡ key → HasHeardStreamTexts R came given z
      → ((z.core.upper.accepted ≡ [] → ⊥) → Tells (first_number rb_in (items (heard E own))) rb)
      → Agreed (known_of engine rbc (Some kmac) (items (heard E own)) (items (heard R came))) finds (Call settings me peer key rb now) given z.core.upper.accepted
  agreed_calling settings me peer key rb now same h tells c front is got some =
      let au2 : FirstAu2 peer key rb c got.first = got.is_first in
      let head : HasHead got.first given = all_head finds (Call settings me peer key rb now) c front given z.core.upper.accepted got is in
      let w : Tells (first_number rb_in (items (heard E own))) rb = tells some in
      let a : first_number ra_in (items (heard R came)) ≡ Some c.ra =
      head_number ra_in got.first (items (heard R came)) (item_head wrapped R came given z got.first h head) ∙ ap (λ (r : Read). random_number_in_item ra_in r) au2.read in (
        record { ra = c.ra; rb = w.told; keys = session_of kmac c.ra w.told },
        ap₂ (λ (x y : Option ℕ). session_with (Some kmac) x y) a w.is,
        same_keys kmac c.ra w.told c.ra rb refl w.same ∙ ap₂ (λ (k : TripleKey) (n : ℕ). session_of k c.ra n) same (sym au2.own) ∙ sym au2.keys,
      )

  -- of one that answers it told Rb, in the AU1
  pub agreed_answering : (settings : Settings) (me ra now : ℕ)
      → ((at id rb : ℕ) (first : List ℕ) (found : TripleKey) → HasHead first given → read_of first ≡ Ok (Au1 id 1 rb, false) → finds at id me ≡ Some found → found ≡ kmac)
      → HasHeardStreamTexts E came given z → ((z.core.upper.accepted ≡ [] → ⊥) → Tells (first_number ra_in (items (heard R own))) ra)
      → Agreed (known_of engine rbc (Some kmac) (items (heard E came)) (items (heard R own))) finds (Answer settings me ra now) given z.core.upper.accepted
  agreed_answering settings me ra now same h tells c front is got some =
      let au1 : FirstAu1 finds me ra c got.first = got.is_first in
      let head : HasHead got.first given = all_head finds (Answer settings me ra now) c front given z.core.upper.accepted got is in
      let w : Tells (first_number ra_in (items (heard R own))) ra = tells some in
      let b : first_number rb_in (items (heard E came)) ≡ Some c.rb =
      head_number rb_in got.first (items (heard E came)) (item_head wrapped E came given z got.first h head) ∙ ap (λ (r : Read). random_number_in_item rb_in r) au1.read in
      let k : au1.kmac ≡ kmac = same au1.found.0 c.peer c.rb got.first au1.kmac head au1.read au1.found.1 in (
        record { ra = w.told; rb = c.rb; keys = session_of kmac w.told c.rb },
        ap₂ (λ (x y : Option ℕ). session_with (Some kmac) x y) w.is b,
        same_keys kmac w.told c.rb ra c.rb w.same refl ∙ ap₂ (λ (x : TripleKey) (n : ℕ). session_of x n c.rb) (sym k) (sym au1.own) ∙ sym au1.keys,
      )

-- ---- over its events

module _ (low : LawsOfOneEnd) (o : Opening) (finds : Finds) (events : List Moment) (basic : (settings_of_opening o).modulo ≡ 8) (first : IsCallerStartedFirst o events)
    (looks : AllLookUp finds events) where
  abbrev m : End
  m = end_run events (opened o)

  abbrev came : List ℕ
  came = octets_of_moments events

  abbrev given : List (List ℕ)
  given = received events (opened o)

  found : (known : Known) → receiver_of known (sender_to o) ≡ etcs_number_of_end o → Agreed known finds o given m.core.upper.accepted → FindsOwn o known events
  found known receiver agreed =
      let f = finds_end known finds o receiver came given m (low.heard_is o events basic first) (low.sides o finds events looks) (low.live o events) agreed in
      record { prefix = f.prefix; all = f.all }

pub accepted_is_good : LawsOfOneEnd → AcceptedIsGood
accepted_is_good low (Call settings me peer key rb now) finds events basic first looks engine rbc kmac is own tells =
    let o : Opening = Call settings me peer key rb now in
    let came : List ℕ = octets_of_moments events in
    let m : End = end_run events (opened o) in
    found low o finds events basic first looks (known_beside engine rbc kmac o came own) is.engine_is
    (agreed_calling low.wrapped finds engine rbc kmac came own (received events (opened o)) m settings me peer key rb now is.kmac_is (low.heard_is o events basic first) tells)
accepted_is_good low (Answer settings me ra now) finds events basic first looks engine rbc kmac is own tells =
    let o : Opening = Answer settings me ra now in
    let came : List ℕ = octets_of_moments events in
    let m : End = end_run events (opened o) in
    let given : List (List ℕ) = received events (opened o) in
    let h : HasHeardStreamTexts E came given m = low.heard_is o events basic first in
    let same : (at id rb : ℕ) (x : List ℕ) (k : TripleKey) → HasHead x given → read_of x ≡ Ok (Au1 id 1 rb, false) → finds at id me ≡ Some k → k ≡ kmac =
    λ at id rb x k head read find. let t = given_head low.wrapped E came given m x h head in is.kmac_is at id rb x t.0 k t.1 read find in
    found low o finds events basic first looks (known_beside engine rbc kmac o came own) is.rbc_is
    (agreed_answering low.wrapped finds engine rbc kmac came own given m settings me ra now same h tells)
