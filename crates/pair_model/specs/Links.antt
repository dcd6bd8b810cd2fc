-- Two ends of one kind over two lines: e is the end that calls, r the one that is called. Each line is the list of the frames that wait on
-- it, each as octets. What an end does with an event is its kind's to say (this profile).
use Rattle.std.specs.Prelude.{ℕ, Bool, true, List, [], ◌++◌}
use Rattle.er_base.specs.declared.side.Side.{Side}
use Rattle.er_base.specs.declared.side.Side.TheVariants.{E, R}

-- what ends of a kind do with each event at a moment: the end behind it, and the frames that it sends at it
pub record EndKind (A : Type 0) : Type 0 where
  -- an end that calls begins
  pub start : (now : ℕ) → A → A × List (List ℕ)
  -- octets come from the peer
  pub receive : (now : ℕ) → (octets : List ℕ) → A → A × List (List ℕ)
  -- the user sends, takes a message, and releases with a sub-reason
  pub send : (now : ℕ) → (user : List ℕ) → A → A × List (List ℕ)
  pub take : (now : ℕ) → A → A × List (List ℕ)
  pub release : (now : ℕ) → (sub : ℕ) → A → A × List (List ℕ)
  -- the moment has come
  pub tick : (now : ℕ) → A → A × List (List ℕ)
  -- whether that moment finds a timer of the end expired
  pub is_late : (now : ℕ) → A → Bool

pub record PairLink (A : Type 0) : Type 0 where
  pub e : A
  pub r : A
  -- the frames that e sent and that wait, the first to be passed first, and those of r
  pub from_e : List (List ℕ)
  pub from_r : List (List ℕ)
  pub moment : ℕ
  -- the deliveries so far
  pub passes : ℕ
  -- whether no frame that waited was altered, and none was put in
  pub order_kept : Bool
  -- whether besides none was lost or repeated, no user released, and no tick found an expired timer
  pub loss_free : Bool

abbrev pub end_of_side : {A : Type 0} → PairLink A → Side → A
end_of_side l E = l.e
end_of_side l R = l.r

abbrev pub frames_from : {A : Type 0} → PairLink A → Side → List (List ℕ)
frames_from l E = l.from_e
frames_from l R = l.from_r

abbrev pub with_frames_from : {A : Type 0} → Side → List (List ℕ) → PairLink A → PairLink A
with_frames_from E frames l = record l { from_e = frames }
with_frames_from R frames l = record l { from_r = frames }

-- an end did this: its frames join those that wait
abbrev pub end_did : {A : Type 0} → Side → A × List (List ℕ) → PairLink A → PairLink A
end_did E a l = record l { e = a.0; from_e = l.from_e ++ a.1 }
end_did R a l = record l { r = a.0; from_r = l.from_r ++ a.1 }

-- two ends that were just made, at a moment; the one that calls begins
abbrev pub opened_pair_link : {A : Type 0} → EndKind A → (moment : ℕ) → (e r : A) → PairLink A
opened_pair_link kind moment e r =
    end_did E (kind.start moment e) (record {
      e = e;
      r = r;
      from_e = [];
      from_r = [];
      moment = moment;
      passes = 0;
      order_kept = true;
      loss_free = true;
    })
