-- Frames and events behind each other.
use Rattle.std.proofs.Common.{◌≡◌, ◌∙◌, ◌≤◌, ℕ, Bool, List, [], ◌++◌, length, Some, sym, ap, subst, arith, append_assoc, append-nil, length-append}
use Rattle.er_base.specs.declared.release.Release.{Release}
use Rattle.tap_model.specs.Hearing.{ReadFrame, Hearing}
use Rattle.tap_model.specs.Ears.{hearing_of_frames}
use Rattle.tap_hearing.proofs.Noting.{Noted}
use Rattle.tap_hearing.proofs.Sorting.{pieces}
use Rattle.tap_hearing.proofs.Stations.{sender}
use Rattle.tap_hearing.proofs.Following.{ear_at, Listens}
use Rattle.tap_hearing.proofs.Going.{with_texts, Goes, Lives, Left}

-- an end that is released is given nothing more, and takes nothing more
pub record Rests (n : Noted) (given : List (List ℕ)) (p : Noted) : Type 0 where
  pub released : p.released ≡ n.released
  pub none : given ≡ []
  pub taken : p.line.taken ≡ n.line.taken

both_texts : (g h : List (List ℕ)) (heard : Hearing) → with_texts g (with_texts h heard) ≡ with_texts (g ++ h) heard
both_texts g h heard = ap (λ (ts : List (List ℕ)). record heard { texts = ts }) (sym (append_assoc g h heard.texts))

lengths : (g h s t : List (List ℕ)) → length g ≤ length s → length h ≤ length t → length (g ++ h) ≤ length (s ++ t)
lengths g h s t a b = let c = length-append g h in let d = length-append s t in omega (arith, a, b, c, d)

module _ (opened calling : Bool) (m : Noted) (fs : List ReadFrame) (g : List (List ℕ)) (n : Noted) (hs : List ReadFrame) (h : List (List ℕ)) (p : Noted) where
  abbrev All : Type 0
  All = Goes opened calling m (fs ++ hs) (g ++ h) p

  lives_then : (now : Bool) (took : List (List ℕ))
      → ((rest : List ReadFrame) → hearing_of_frames (sender calling) (ear_at opened m) (fs ++ rest) ≡ with_texts g (hearing_of_frames (sender calling) (ear_at now n) rest))
      → ((rest : List ReadFrame) → pieces (sender calling) (ear_at opened m) (fs ++ rest) ≡ took ++ pieces (sender calling) (ear_at now n) rest)
      → n.line.taken ≡ m.line.taken ++ took → length g ≤ length took → Goes now calling n hs h p → All
  lives_then now took heard counted taken few (Lives later more l heard' counted' taken' few') =
      Lives later (took ++ more) l
      (λ rest. ap (λ (r : List ReadFrame). hearing_of_frames (sender calling) (ear_at opened m) r) (append_assoc fs hs rest)
      ∙ heard (hs ++ rest) ∙ ap (λ (t : Hearing). with_texts g t) (heard' rest) ∙ both_texts g h (hearing_of_frames (sender calling) (ear_at later p) rest))
      (λ rest. ap (λ (r : List ReadFrame). pieces (sender calling) (ear_at opened m) r) (append_assoc fs hs rest)
      ∙ counted (hs ++ rest) ∙ ap (λ (ps : List (List ℕ)). took ++ ps) (counted' rest) ∙ sym (append_assoc took more (pieces (sender calling) (ear_at later p) rest)))
      (taken' ∙ ap (λ (ts : List (List ℕ)). ts ++ more) taken ∙ append_assoc m.line.taken took more)
      (lengths g h took more few few')
  lives_then now took heard counted taken few (Left why more r heard' counted' taken' few') =
      Left why (took ++ more) r
      (λ rest. (
        (heard' rest).0,
        ap (λ (q : List ReadFrame). (hearing_of_frames (sender calling) (ear_at opened m) q).texts) (append_assoc fs hs rest)
            ∙ ap (λ (t : Hearing). t.texts) (heard (hs ++ rest)) ∙ ap (λ (ts : List (List ℕ)). g ++ ts) (heard' rest).1 ∙ sym (append_assoc g h (heard' rest).0),
      ))
      (λ rest. (
        (counted' rest).0,
        ap (λ (q : List ReadFrame). pieces (sender calling) (ear_at opened m) q) (append_assoc fs hs rest)
            ∙ counted (hs ++ rest) ∙ ap (λ (ps : List (List ℕ)). took ++ ps) (counted' rest).1 ∙ sym (append_assoc took more (counted' rest).0),
      ))
      (taken' ∙ ap (λ (ts : List (List ℕ)). ts ++ more) taken ∙ append_assoc m.line.taken took more)
      (lengths g h took more few few')

  pub then_goes : ((now : Bool) → Listens now calling n → Goes now calling n hs h p) → ((why : Release) → n.released ≡ Some why → Rests n h p)
      → Goes opened calling m fs g n → All
  then_goes later rests (Lives now took l heard counted taken few) = lives_then now took heard counted taken few (later now l)
  then_goes later rests (Left why took r heard counted taken few) =
      let q : Rests n h p = rests why r in
      subst (λ (given : List (List ℕ)). Goes opened calling m (fs ++ hs) given p) (ap (λ (z : List (List ℕ)). g ++ z) (sym q.none))
      (subst (λ (given : List (List ℕ)). Goes opened calling m (fs ++ hs) given p) (sym (append-nil g))
      (Left why took (q.released ∙ r)
      (λ rest. (
        (heard (hs ++ rest)).0,
        ap (λ (z : List ReadFrame). (hearing_of_frames (sender calling) (ear_at opened m) z).texts) (append_assoc fs hs rest) ∙ (heard (hs ++ rest)).1,
      ))
      (λ rest. (
        (counted (hs ++ rest)).0,
        ap (λ (z : List ReadFrame). pieces (sender calling) (ear_at opened m) z) (append_assoc fs hs rest) ∙ (counted (hs ++ rest)).1,
      ))
      (q.taken ∙ taken) few))
