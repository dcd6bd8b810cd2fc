-- Lemmas: what is written of a reply is what a step of the model sends, for the proofs of the kinds of station.
use Rattle.std.specs.Prelude.{◌≡◌, ℕ, zero, suc, ◌+◌, ◌-◌, ◌%◌, ◌≤◌, Bool, false, not, List, [], ◌++◌, length, Option}
use Rattle.std.proofs.Common.{refl, sym, ap, ap₂, ◌∙◌, subst, arith, append_assoc, append-nil, get_or-drop}
use Rattle.std.proofs.lemmas.List.{flat_map_more}
use Rattle.std.proofs.lemmas.Grind.{flat_map-append}
use native.Mathlib.Nat.{mod-add-mod}
use Rattle.er_base.specs.Stored.{Stored}
use Rattle.hdlc_frames.specs.declared.controls.Control.TheVariants as control
use Rattle.hdlc_station_model.specs.declared.phase.Phase.{Phase}
use Rattle.hdlc_station_model.specs.Frames.{Frame, Srej, modulo, address_of, sent_octets}
use Rattle.hdlc_station_model.specs.Stations.{Station, Deed, puts}
use Rattle.hdlc_station_model.specs.Sending.{info_at, frames_again}
use Rattle.hdlc_station.specs.Kept.{KeptStation, kept_of, octets_of_sent_frames, Stands}
use Rattle.hdlc_station.specs.declared.heard.Reply.{Reply}
use Rattle.hdlc_station.specs.declared.heard.Reply.TheVariants as reply
use Rattle.hdlc_station.specs.Replies.{frame_text, info_text, info_text_of, info_texts, info_texts_of, reply_text, frame_count_of_reply}

module _ (k : KeptStation) (before : List ℕ) (out out' : Stored) (d : Deed) (s : Station) where
  -- nothing is written
  pub silent : Stands k before out d s → out'.items ≡ out.items ++ [] → Stands k before out' d s
  silent h e = record { is = h.is; order = h.order; given = h.given; deed = h.deed; text = e ∙ append-nil out.items ∙ h.text }

  -- a frame is
  pub put : (f : Frame) → Stands k before out d s → out'.items ≡ out.items ++ sent_octets k.calling k.extended f → Stands k before out' d (puts f s)
  put f h e = record {
    is = h.is;
    order = h.order;
    given = h.given;
    deed = h.deed;
    text = e ∙ ap (λ (os : List ℕ). os ++ sent_octets k.calling k.extended f) h.text ∙ flat_map_more (sent_octets k.calling k.extended) before s.said f;
  }

  -- a reply of one frame is
  pub saying : (f : Frame) (r : Reply) → reply_text (kept_of s) r ≡ sent_octets s.calling s.extended f
      → Stands k before out d s → out'.items ≡ out.items ++ reply_text k r → Stands k before out' d (puts f s)
  saying f r same h e =
      put f h (e ∙ ap (λ (os : List ℕ). out.items ++ os) (subst (λ (q : KeptStation). reply_text q r ≡ sent_octets q.calling q.extended f) (sym h.is) same))

pub srej_said : (s : Station) (up : ℕ) → reply_text (kept_of s) (reply.SelectiveReject up) ≡ sent_octets s.calling s.extended (Srej (length s.taken + up))
srej_said s up = ap (λ (nr : ℕ). frame_text s.extended (address_of s.calling) (control.Srej nr) false []) (mod-add-mod (length s.taken) (modulo s.extended) up)

-- ---- I frames

pub info_said : (k : KeptStation) (s : Station) (i : ℕ) → k ≡ kept_of s → info_text k i ≡ sent_octets k.calling k.extended (info_at s (s.acked + i))
info_said k s i is =
    subst (λ (q : KeptStation). info_text q i ≡ sent_octets q.calling q.extended (info_at s (s.acked + i))) (sym is)
    (ap₂ (λ (ns : ℕ) (p : List ℕ). frame_text s.extended (address_of (not s.calling)) (control.Info ns (length s.taken % modulo s.extended)) false p)
    (mod-add-mod s.acked (modulo s.extended) i) (get_or-drop s.acked s.handed i []))

again_said : (k : KeptStation) (s : Station) (n : ℕ) → k ≡ kept_of s → info_texts k 0 n ≡ octets_of_sent_frames k.calling k.extended (frames_again n s)
again_said k s zero is = refl
again_said k s (suc n) is =
    ap₂ (λ (xs ys : List ℕ). xs ++ ys) (again_said k s n is) (ap (λ (i : ℕ). info_text k i) (omega arith) ∙ info_said k s n is)
    ∙ flat_map_more (sent_octets k.calling k.extended) [] (frames_again n s) (info_at s (s.acked + n))

-- every frame from V(A) to V(S) - 1
pub says_again : (k : KeptStation) (before : List ℕ) (out out' : Stored) (d : Deed) (s : Station) → Stands k before out d s
    → out'.items ≡ out.items ++ info_texts k 0 k.ahead
    → Stands k before out' d (record s { said = s.said ++ frames_again (s.sent - s.acked) s })
says_again k before out out' d s h e =
    let count : k.ahead ≡ s.sent - s.acked = ap (λ (q : KeptStation). q.ahead) h.is in
    record {
      is = h.is;
      order = h.order;
      given = h.given;
      deed = h.deed;
      text = e
          ∙ ap₂ (λ (xs ys : List ℕ). xs ++ ys) h.text (ap (λ (n : ℕ). info_texts k 0 n) count ∙ again_said k s (s.sent - s.acked) h.is)
          ∙ append_assoc before (octets_of_sent_frames k.calling k.extended s.said)
          (octets_of_sent_frames k.calling k.extended (frames_again (s.sent - s.acked) s))
          ∙ ap (λ (os : List ℕ). before ++ os) (sym (flat_map-append (sent_octets k.calling k.extended) s.said (frames_again (s.sent - s.acked) s)));
    }

-- I frames from one on, and those behind them
module _ (calling extended : Bool) (va vr : ℕ) (ring : List (List ℕ)) (first : ℕ) where
  pub infos_append : (c n : ℕ) → info_texts_of calling extended va vr ring first (c + n)
      ≡ info_texts_of calling extended va vr ring first c ++ info_texts_of calling extended va vr ring (first + c) n
  infos_append c zero =
      let none : c + 0 ≡ c = omega arith in
      ap (λ (m : ℕ). info_texts_of calling extended va vr ring first m) none ∙ sym (append-nil (info_texts_of calling extended va vr ring first c))
  infos_append c (suc n) =
      let more : c + suc n ≡ suc (c + n) = omega arith in
      let place : (c + n) + first ≡ n + (first + c) = omega arith in
      ap (λ (m : ℕ). info_texts_of calling extended va vr ring first m) more
      ∙ ap₂ (λ (xs : List ℕ) (i : ℕ). xs ++ info_text_of calling extended va vr ring i) (infos_append c n) place
      ∙ append_assoc (info_texts_of calling extended va vr ring first c) (info_texts_of calling extended va vr ring (first + c) n)
      (info_text_of calling extended va vr ring (n + (first + c)))

  pub infos_more : (c : ℕ) → info_texts_of calling extended va vr ring first (c + 1)
      ≡ info_texts_of calling extended va vr ring first c ++ info_text_of calling extended va vr ring (first + c)
  infos_more c =
      let place : 0 + (first + c) ≡ first + c = omega arith in
      infos_append c 1 ∙ ap (λ (i : ℕ). info_texts_of calling extended va vr ring first c ++ info_text_of calling extended va vr ring i) place

-- ---- a reply

-- it doesn't depend on what the phase and T1 are
pub same_text : (k : KeptStation) (phase : Phase) (timer : Option ℕ) (r : Reply) → reply_text (record k { phase = phase; timer = timer }) r ≡ reply_text k r
same_text k phase timer reply.Nothing = refl
same_text k phase timer reply.Ready = refl
same_text k phase timer reply.Reject = refl
same_text k phase timer (reply.SelectiveReject up) = refl
same_text k phase timer reply.SetUp = refl
same_text k phase timer reply.Disconnect = refl
same_text k phase timer reply.Disconnected = refl
same_text k phase timer (reply.Agreed bit) = refl
same_text k phase timer reply.Again = refl

-- how many frames it has

pub few_frames : (k : KeptStation) (r : Reply) → frame_count_of_reply k r ≤ k.ahead + 1
few_frames k reply.Nothing = omega arith
few_frames k reply.Ready = omega arith
few_frames k reply.Reject = omega arith
few_frames k (reply.SelectiveReject up) = omega arith
few_frames k reply.SetUp = omega arith
few_frames k reply.Disconnect = omega arith
few_frames k reply.Disconnected = omega arith
few_frames k (reply.Agreed bit) = omega arith
few_frames k reply.Again = omega arith

pub frames_within : (k : KeptStation) (r : Reply) → 1 ≤ k.window → k.ahead ≤ k.window → frame_count_of_reply k r ≤ k.window
frames_within k reply.Nothing some near = omega arith
frames_within k reply.Ready some near = omega arith
frames_within k reply.Reject some near = omega arith
frames_within k (reply.SelectiveReject up) some near = omega arith
frames_within k reply.SetUp some near = omega arith
frames_within k reply.Disconnect some near = omega arith
frames_within k reply.Disconnected some near = omega arith
frames_within k (reply.Agreed bit) some near = omega arith
frames_within k reply.Again some near = omega arith
