-- What brings a station of either kind up.
use Rattle.std.proofs.Common.{if◌then◌else◌, ◌≡◌, inl, inr, ℕ, Bool, true, false, ◌||◌, List, [], ◌∷◌, refl, sym, ap, subst, ◌∙◌, true≢false}
use Rattle.std.specs.Prelude.{length}
use Rattle.std.proofs.lemmas.Bool.{cond_both, or_parts, ltb-false}
use Rattle.std.proofs.Common.{arith}
use Rattle.er_base.specs.Octets.{AreOctets}
use Rattle.hdlc_frames.specs.declared.controls.Control.{Control}
use Rattle.hdlc_frames.specs.declared.controls.Control.TheVariants as control
use Rattle.hdlc_frames.specs.Framing.{Verdict, Frame as Found, BadFcs, TooShort, TooLong, Aborted}
use Rattle.hdlc_frames.specs.Laws.{ControlIsTable}
use Rattle.hdlc_station_model.specs.declared.phase.Phase.{Phase}
use Rattle.hdlc_station_model.specs.declared.phase.Phase.TheVariants.{Idle, Setting, Up, Down}
use Rattle.hdlc_station_model.specs.Stations.{Station, is_down, sees}
use Rattle.hdlc_station_model.specs.Sending.{sends_waiting, refuses_frame}
use Rattle.hdlc_station_model.specs.Receiving.{strays, is_some_octets, errs, row_idle, row_setting}
use Rattle.hdlc_station_model.specs.Selective.{selective_row_setting, receives_as}
use Rattle.hdlc_station_model.specs.Causes.{Comes, IsSetUp, IsOfOctets}
use Rattle.hdlc_station_laws.specs.Received.{BringsUp, IsCalled, IsAnswered, Leads, Stays, Rises, Ends, FramesBringUp}
use Rattle.hdlc_station_laws.proofs.Hearing.{hears_as, received, error_as, row_as, outcome_as, comes_to, on_frame}
use Rattle.hdlc_station_laws.proofs.Sending.{more_said}
use Rattle.hdlc_station_laws.proofs.Counting.{receives_both}

-- ---- a frame that brings up does

abbrev IsBroughtUp : Station → Type 0
IsBroughtUp t = (t.phase ≡ Up) × (t.deed.up ≡ true)

brought_then : (y : Station) → IsBroughtUp y → IsBroughtUp (sends_waiting y)
brought_then y h = (ap (λ (t : Station). t.phase) (more_said y) ∙ h.0, ap (λ (t : Station). t.deed.up) (more_said y) ∙ h.1)

-- a live station comes to the outcome of a frame
brought_by : ControlIsTable → (selective : Bool) (now : ℕ) (s : Station) (a : ℕ) (b : List ℕ) (c : Control) (i : List ℕ) → AreOctets b → Comes s a b c i
    → is_down s.phase ≡ false → IsBroughtUp (outcome_as selective (sees now s) c i) → IsBroughtUp (receives_as selective now (Found a b) s)
brought_by law selective now s a b c i octets comes live h =
    subst IsBroughtUp (sym (received selective now (Found a b) s))
    (cond_both (is_down s.phase) s (sends_waiting (hears_as selective (Found a b) (sees now s))) IsBroughtUp (λ down. absurd (true≢false (sym down ∙ live)))
    (λ e. subst (λ (y : Station). IsBroughtUp (sends_waiting y)) (sym (comes_to law selective now s a b c i octets comes)) (brought_then (outcome_as selective (sees now s) c i) h)))

called_error : (selective : Bool) (c : Control) → IsSetUp c → error_as selective false c [] ≡ false
called_error true (control.Info ns nr) set = absurd set
called_error true (control.Rr nr) set = absurd set
called_error true (control.Rnr nr) set = absurd set
called_error true (control.Rej nr) set = absurd set
called_error true (control.Srej nr) set = absurd set
called_error true (control.Sabm poll) set = refl
called_error true (control.Sabme poll) set = refl
called_error true (control.Disc poll) set = absurd set
called_error true control.Ua set = absurd set
called_error true control.Dm set = absurd set
called_error true control.Frmr set = absurd set
called_error false (control.Info ns nr) set = absurd set
called_error false (control.Rr nr) set = absurd set
called_error false (control.Rnr nr) set = absurd set
called_error false (control.Rej nr) set = absurd set
called_error false (control.Srej nr) set = absurd set
called_error false (control.Sabm poll) set = refl
called_error false (control.Sabme poll) set = refl
called_error false (control.Disc poll) set = absurd set
called_error false control.Ua set = absurd set
called_error false control.Dm set = absurd set
called_error false control.Frmr set = absurd set

idle_row : (selective : Bool) (x : Station) (c : Control) (i : List ℕ) → row_as selective Idle x c i ≡ row_idle x c i
idle_row true x c i = refl
idle_row false x c i = refl

idle_up : (x : Station) (c : Control) → IsSetUp c → IsBroughtUp (row_idle x c [])
idle_up x (control.Info ns nr) set = absurd set
idle_up x (control.Rr nr) set = absurd set
idle_up x (control.Rnr nr) set = absurd set
idle_up x (control.Rej nr) set = absurd set
idle_up x (control.Srej nr) set = absurd set
idle_up x (control.Sabm poll) set = (refl, refl)
idle_up x (control.Sabme poll) set = (refl, refl)
idle_up x (control.Disc poll) set = absurd set
idle_up x control.Ua set = absurd set
idle_up x control.Dm set = absurd set
idle_up x control.Frmr set = absurd set

called_outcome : (selective : Bool) (x : Station) (c : Control) → x.phase ≡ Idle → x.calling ≡ false → IsSetUp c → IsBroughtUp (outcome_as selective x c [])
called_outcome selective x c idle called set =
    subst IsBroughtUp
    (sym (ap (λ (calling : Bool). if error_as selective calling c [] then errs x.phase x else row_as selective x.phase x c []) called
    ∙ ap (λ (b : Bool). if b then errs x.phase x else row_as selective x.phase x c []) (called_error selective c set)
    ∙ ap (λ (p : Phase). row_as selective p x c []) idle ∙ idle_row selective x c []))
    (idle_up x c set)

answered_outcome : (selective : Bool) (x : Station) → x.phase ≡ Setting → IsBroughtUp (outcome_as selective x control.Ua [])
answered_outcome true x setting = subst IsBroughtUp (sym (ap (λ (p : Phase). row_as true p x control.Ua []) setting)) (refl, refl)
answered_outcome false x setting = subst IsBroughtUp (sym (ap (λ (p : Phase). row_as false p x control.Ua []) setting)) (refl, refl)

brings_up : ControlIsTable → (selective : Bool) (now : ℕ) (v : Verdict) (s : Station) → IsOfOctets v → BringsUp s v → IsBroughtUp (receives_as selective now v s)
brings_up law selective now v s octets (IsCalled a b c is idle called comes set) =
    subst (λ (w : Verdict). IsBroughtUp (receives_as selective now w s)) (sym is)
    (brought_by law selective now s a b c [] (subst IsOfOctets is octets) comes (ap is_down idle) (called_outcome selective (sees now s) c idle called set))
brings_up law selective now v s octets (IsAnswered a b is setting comes) =
    subst (λ (w : Verdict). IsBroughtUp (receives_as selective now w s)) (sym is)
    (brought_by law selective now s a b control.Ua [] (subst IsOfOctets is octets) comes (ap is_down setting) (answered_outcome selective (sees now s) setting))

-- ---- and nothing else

leads_then : (s : Station) (v : Verdict) (y : Station) → Leads s v y → Leads s v (sends_waiting y)
leads_then s v y (Stays same) = Stays (ap (λ (t : Station). t.phase) (more_said y) ∙ same)
leads_then s v y (Rises by up told) = Rises by (ap (λ (t : Station). t.phase) (more_said y) ∙ up) (ap (λ (t : Station). t.deed.up) (more_said y) ∙ told)
leads_then s v y (Ends down) = Ends (ap (λ (t : Station). t.phase) (more_said y) ∙ down)

erred : (p : Phase) (s : Station) (v : Verdict) (x : Station) → x.phase ≡ s.phase → Leads s v (errs p x)
erred Idle s v x e = cond_both x.calling (refuses_frame x) (strays x) (Leads s v) (λ calls. Ends refl) (λ called. Stays e)
erred Setting s v x e = Ends refl
erred Up s v x e = Ends refl
erred Down s v x e = Stays e

has_no : (i : List ℕ) → is_some_octets i ≡ false → i ≡ []
has_no [] e = refl
has_no (o ∷ os) e = absurd (let few = ltb-false 0 (length (o ∷ os)) e in omega arith)

-- the set-up frame at a station that was called
risen : (s : Station) (v : Verdict) (a : ℕ) (b : List ℕ) (c : Control) (i : List ℕ) (y : Station) → v ≡ Found a b → s.phase ≡ Idle → Comes s a b c i → IsSetUp c
    → (s.calling || is_some_octets i) ≡ false → IsBroughtUp y → Leads s v y
risen s v a b c i y is idle comes set right h =
    let parts = or_parts s.calling (is_some_octets i) right in
    Rises (IsCalled a b c is idle parts.0 (subst (λ (j : List ℕ). Comes s a b c j) (has_no i parts.1) comes) set) h.0 h.1

idle_leads : (selective : Bool) (now : ℕ) (s : Station) (v : Verdict) (a : ℕ) (b : List ℕ) (c : Control) (i : List ℕ) → v ≡ Found a b → s.phase ≡ Idle → Comes s a b c i
    → error_as selective s.calling c i ≡ false → Leads s v (row_idle (sees now s) c i)
idle_leads selective now s v a b (control.Info ns nr) i is idle comes right = Stays refl
idle_leads selective now s v a b (control.Rr nr) i is idle comes right = Stays refl
idle_leads selective now s v a b (control.Rnr nr) i is idle comes right = Stays refl
idle_leads selective now s v a b (control.Rej nr) i is idle comes right = Stays refl
idle_leads selective now s v a b (control.Srej nr) i is idle comes right = Stays refl
idle_leads true now s v a b (control.Sabm poll) i is idle comes right = risen s v a b (control.Sabm poll) i (row_idle (sees now s) (control.Sabm poll) i) is idle comes tt right (refl, refl)
idle_leads false now s v a b (control.Sabm poll) i is idle comes right = risen s v a b (control.Sabm poll) i (row_idle (sees now s) (control.Sabm poll) i) is idle comes tt right (refl, refl)
idle_leads true now s v a b (control.Sabme poll) i is idle comes right = risen s v a b (control.Sabme poll) i (row_idle (sees now s) (control.Sabme poll) i) is idle comes tt right (refl, refl)
idle_leads false now s v a b (control.Sabme poll) i is idle comes right = risen s v a b (control.Sabme poll) i (row_idle (sees now s) (control.Sabme poll) i) is idle comes tt right (refl, refl)
idle_leads selective now s v a b (control.Disc poll) i is idle comes right = Stays refl
idle_leads selective now s v a b control.Ua i is idle comes right = Stays refl
idle_leads selective now s v a b control.Dm i is idle comes right = Stays refl
idle_leads selective now s v a b control.Frmr i is idle comes right = Stays refl

-- UA at one that sent the set-up frame
answered : (s : Station) (v : Verdict) (a : ℕ) (b : List ℕ) (i : List ℕ) (y : Station) → v ≡ Found a b → s.phase ≡ Setting → Comes s a b control.Ua i → is_some_octets i ≡ false
    → IsBroughtUp y → Leads s v y
answered s v a b i y is setting comes right h = Rises (IsAnswered a b is setting (subst (λ (j : List ℕ). Comes s a b control.Ua j) (has_no i right) comes)) h.0 h.1

setting_leads : (now : ℕ) (s : Station) (v : Verdict) (a : ℕ) (b : List ℕ) (c : Control) (i : List ℕ) → v ≡ Found a b → s.phase ≡ Setting → Comes s a b c i
    → error_as false s.calling c i ≡ false → Leads s v (row_setting (sees now s) c i)
setting_leads now s v a b (control.Info ns nr) i is setting comes right = Stays refl
setting_leads now s v a b (control.Rr nr) i is setting comes right = Stays refl
setting_leads now s v a b (control.Rnr nr) i is setting comes right = Stays refl
setting_leads now s v a b (control.Rej nr) i is setting comes right = Stays refl
setting_leads now s v a b (control.Srej nr) i is setting comes right = Ends refl
setting_leads now s v a b (control.Sabm poll) i is setting comes right = Ends refl
setting_leads now s v a b (control.Sabme poll) i is setting comes right = Ends refl
setting_leads now s v a b (control.Disc poll) i is setting comes right = Ends refl
setting_leads now s v a b control.Ua i is setting comes right = answered s v a b i (row_setting (sees now s) control.Ua i) is setting comes right (refl, refl)
setting_leads now s v a b control.Dm i is setting comes right = Ends refl
setting_leads now s v a b control.Frmr i is setting comes right = Ends refl

selective_setting_leads : (now : ℕ) (s : Station) (v : Verdict) (a : ℕ) (b : List ℕ) (c : Control) (i : List ℕ) → v ≡ Found a b → s.phase ≡ Setting → Comes s a b c i
    → error_as true s.calling c i ≡ false → Leads s v (selective_row_setting (sees now s) c i)
selective_setting_leads now s v a b (control.Info ns nr) i is setting comes right = Stays refl
selective_setting_leads now s v a b (control.Rr nr) i is setting comes right = Stays refl
selective_setting_leads now s v a b (control.Rnr nr) i is setting comes right = Stays refl
selective_setting_leads now s v a b (control.Rej nr) i is setting comes right = Ends refl
selective_setting_leads now s v a b (control.Srej nr) i is setting comes right = Stays refl
selective_setting_leads now s v a b (control.Sabm poll) i is setting comes right = Ends refl
selective_setting_leads now s v a b (control.Sabme poll) i is setting comes right = Ends refl
selective_setting_leads now s v a b (control.Disc poll) i is setting comes right = Ends refl
selective_setting_leads now s v a b control.Ua i is setting comes right = answered s v a b i (selective_row_setting (sees now s) control.Ua i) is setting comes right (refl, refl)
selective_setting_leads now s v a b control.Dm i is setting comes right = Ends refl
selective_setting_leads now s v a b control.Frmr i is setting comes right = Ends refl

-- in Idle and Setting, by the row; the phase of the others is known of each call
begin_leads : ControlIsTable → (selective : Bool) (now : ℕ) (v : Verdict) (s : Station) → IsOfOctets v
    → ((a : ℕ) (b : List ℕ) (c : Control) (i : List ℕ) → v ≡ Found a b → Comes s a b c i → error_as selective s.calling c i ≡ false
    → Leads s v (row_as selective s.phase (sees now s) c i)) → Leads s v (hears_as selective v (sees now s))
begin_leads law selective now (Found a b) s octets row =
    on_frame law selective now s a b octets (Leads s (Found a b)) (λ never. Stays refl) (λ never. erred s.phase s (Found a b) (sees now s) refl)
    (λ c i comes. cond_both (error_as selective s.calling c i) (errs s.phase (sees now s)) (row_as selective s.phase (sees now s) c i) (Leads s (Found a b))
    (λ wrong. erred s.phase s (Found a b) (sees now s) refl) (λ right. row a b c i refl comes right))
begin_leads law true now BadFcs s octets row = Stays refl
begin_leads law true now TooShort s octets row = Stays refl
begin_leads law true now TooLong s octets row = Stays refl
begin_leads law true now Aborted s octets row = Stays refl
begin_leads law false now BadFcs s octets row = Stays refl
begin_leads law false now TooShort s octets row = Stays refl
begin_leads law false now TooLong s octets row = Stays refl
begin_leads law false now Aborted s octets row = Stays refl

call_leads : (selective : Bool) (now : ℕ) (v : Verdict) (s : Station) → Leads s v (hears_as selective v (sees now s)) → Leads s v (receives_as selective now v s)
call_leads selective now v s h =
    subst (Leads s v) (sym (received selective now v s))
    (cond_both (is_down s.phase) s (sends_waiting (hears_as selective v (sees now s))) (Leads s v) (λ down. Stays refl) (λ live. leads_then s v (hears_as selective v (sees now s)) h))

leads : ControlIsTable → (selective : Bool) (now : ℕ) (v : Verdict) (s : Station) (p : Phase) → s.phase ≡ p → IsOfOctets v → Leads s v (receives_as selective now v s)
leads law selective now v s Idle e octets =
    call_leads selective now v s
    (begin_leads law selective now v s octets
    (λ a b c i is comes right.
    subst (Leads s v) (sym (ap (λ (p : Phase). row_as selective p (sees now s) c i) e ∙ idle_row selective (sees now s) c i)) (idle_leads selective now s v a b c i is e comes right)))
leads law true now v s Setting e octets =
    call_leads true now v s
    (begin_leads law true now v s octets
    (λ a b c i is comes right. subst (Leads s v) (sym (ap (λ (p : Phase). row_as true p (sees now s) c i) e)) (selective_setting_leads now s v a b c i is e comes right)))
leads law false now v s Setting e octets =
    call_leads false now v s
    (begin_leads law false now v s octets
    (λ a b c i is comes right. subst (Leads s v) (sym (ap (λ (p : Phase). row_as false p (sees now s) c i) e)) (setting_leads now s v a b c i is e comes right)))
leads law selective now v s Up e octets = elim ((receives_both selective now v s).called.moves) [
  | inl same ↦ Stays same
  | inr (inl down) ↦ Ends down
  | inr (inr (inl up)) ↦ Stays (up.0 ∙ sym e)
  | inr (inr (inr setting)) ↦ let g : Up ≡ Idle = sym e ∙ setting.1 in absurd cc
]
leads law selective now v s Down e octets = elim ((receives_both selective now v s).called.moves) [
  | inl same ↦ Stays same
  | inr (inl down) ↦ Ends down
  | inr (inr (inl up)) ↦ elim up.1 [ inl idle ↦ let g : Down ≡ Idle = sym e ∙ idle in absurd cc | inr setting ↦ let g : Down ≡ Setting = sym e ∙ setting in absurd cc ]
  | inr (inr (inr setting)) ↦ let g : Down ≡ Idle = sym e ∙ setting.1 in absurd cc
]

pub frames_bring_up : ControlIsTable → FramesBringUp
frames_bring_up law selective now v s octets = (brings_up law selective now v s octets, leads law selective now v s s.phase refl octets)
