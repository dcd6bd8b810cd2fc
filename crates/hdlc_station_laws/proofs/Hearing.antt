-- A call at which a frame comes, whichever kind the station is of: the row that a frame comes to, and what stands for one that is none.
use Rattle.std.proofs.Common.{if◌then◌else◌, ◌≡◌, ℕ, Bool, true, false, List, Option, Some, None, refl, sym, ap, subst, ◌∙◌, true≢false}
use Rattle.std.proofs.lemmas.Bool.{cond_both}
use Rattle.std.proofs.lemmas.Option.{none-some}
use Rattle.er_base.specs.Octets.{AreOctets}
use Rattle.hdlc_frames.specs.declared.controls.Control.{Control}
use Rattle.hdlc_frames.specs.ControlOctets.{control_of}
use Rattle.hdlc_frames.specs.Framing.{Verdict, Frame}
use Rattle.hdlc_frames.specs.Laws.{ControlIsTable}
use Rattle.hdlc_station_model.specs.declared.phase.Phase.{Phase}
use Rattle.hdlc_station_model.specs.Frames.{modulo}
use Rattle.hdlc_station_model.specs.Stations.{Station, is_down, sees}
use Rattle.hdlc_station_model.specs.Sending.{sends_waiting}
use Rattle.hdlc_station_model.specs.Receiving.{strays, is_known_address, is_addressed, is_error, errs, row_of_phase, hears, hears_control}
use Rattle.hdlc_station_model.specs.Selective.{is_selective_error, selective_row, selective_hears, selective_hears_control, receives_as}
use Rattle.hdlc_station_model.specs.Causes.{Comes, command_or_response}
use Rattle.hdlc_station_laws.specs.Busy.{IsForStation}
use Rattle.hdlc_station_laws.proofs.Numbers.{addressed, is_known, may_bear}

abbrev pub hears_as : (selective : Bool) → Verdict → Station → Station
hears_as true verdict s = selective_hears verdict s
hears_as false verdict s = hears verdict s

pub received : (selective : Bool) (now : ℕ) (verdict : Verdict) (s : Station)
    → receives_as selective now verdict s ≡ (if is_down s.phase then s else sends_waiting (hears_as selective verdict (sees now s)))
received true now verdict s = refl
received false now verdict s = refl

-- ---- the row of a frame

abbrev pub error_as : (selective calling : Bool) → Control → List ℕ → Bool
error_as true calling c i = is_selective_error calling c i
error_as false calling c i = is_error calling c i

abbrev pub row_as : (selective : Bool) → Phase → Station → Control → List ℕ → Station
row_as true p x c i = selective_row p x c i
row_as false p x c i = row_of_phase p x c i

abbrev pub outcome_as : (selective : Bool) → Station → Control → List ℕ → Station
outcome_as selective x c i = if error_as selective x.calling c i then errs x.phase x else row_as selective x.phase x c i

reads : ControlIsTable → (s : Station) (a : ℕ) (b : List ℕ) (c : Control) (i : List ℕ) → AreOctets b → Comes s a b c i → control_of (modulo s.extended) b ≡ Some (c, i)
reads law s a b c i octets x = (law (modulo s.extended) b octets c i).1 x.reads

-- a frame that is read comes to its error or its row
pub comes_to : ControlIsTable → (selective : Bool) (now : ℕ) (s : Station) (a : ℕ) (b : List ℕ) (c : Control) (i : List ℕ) → AreOctets b → Comes s a b c i
    → hears_as selective (Frame a b) (sees now s) ≡ outcome_as selective (sees now s) c i
comes_to law true now s a b c i octets x =
    ap (λ (t : Bool). if t then selective_hears_control a (control_of (modulo s.extended) b) (sees now s) else strays (sees now s))
    (is_known (command_or_response c) s.calling a x.addressed)
    ∙ ap (λ (o : Option (Control × List ℕ)). selective_hears_control a o (sees now s)) (reads law s a b c i octets x)
    ∙ ap (λ (t : Bool). if t then outcome_as true (sees now s) c i else strays (sees now s)) (may_bear s.calling a c x.addressed)
comes_to law false now s a b c i octets x =
    ap (λ (t : Bool). if t then hears_control a (control_of (modulo s.extended) b) (sees now s) else strays (sees now s))
    (is_known (command_or_response c) s.calling a x.addressed)
    ∙ ap (λ (o : Option (Control × List ℕ)). hears_control a o (sees now s)) (reads law s a b c i octets x)
    ∙ ap (λ (t : Bool). if t then outcome_as false (sees now s) c i else strays (sees now s)) (may_bear s.calling a c x.addressed)

-- ---- a frame that is none for this station

foreign : (s : Station) (a : ℕ) (b : List ℕ) → is_known_address a ≡ false → IsForStation s (Frame a b) → ⊥
foreign s a b other h =
    let f = h.frame in
    let at : h.address ≡ a = cc in
    true≢false (sym (ap is_known_address (sym at) ∙ is_known (command_or_response h.control) s.calling h.address h.comes.addressed) ∙ other)

heard_reads : ControlIsTable → (s : Station) (a : ℕ) (b : List ℕ) → AreOctets b → (h : IsForStation s (Frame a b)) → control_of (modulo s.extended) b ≡ Some (h.control, h.information)
heard_reads law s a b octets h =
    let f = h.frame in
    let at : h.body ≡ b = cc in
    ap (λ (body : List ℕ). control_of (modulo s.extended) body) (sym at)
    ∙ reads law s h.address h.body h.control h.information (subst AreOctets (sym at) octets) h.comes

unread : ControlIsTable → (s : Station) (a : ℕ) (b : List ℕ) → AreOctets b → control_of (modulo s.extended) b ≡ None → IsForStation s (Frame a b) → ⊥
unread law s a b octets none h = none-some (h.control, h.information) (sym none ∙ heard_reads law s a b octets h)

misaddressed : ControlIsTable → (s : Station) (a : ℕ) (b : List ℕ) (read : Control × List ℕ) → AreOctets b → control_of (modulo s.extended) b ≡ Some read
    → is_addressed s.calling a read.0 ≡ false → IsForStation s (Frame a b) → ⊥
misaddressed law s a b read octets is other h =
    let f = h.frame in
    let at : h.address ≡ a = cc in
    let both : Some read ≡ Some (h.control, h.information) = sym is ∙ heard_reads law s a b octets h in
    let same : read ≡ (h.control, h.information) = cc in
    true≢false
    (sym (ap (λ (r : Control × List ℕ). is_addressed s.calling a r.0) same ∙ ap (λ (k : ℕ). is_addressed s.calling k h.control) (sym at)
    ∙ may_bear s.calling h.address h.control h.comes.addressed) ∙ other)

-- ---- what holds of each outcome holds of what comes

control_heard : ControlIsTable → (selective : Bool) (now : ℕ) (s : Station) (a : ℕ) (b : List ℕ) → AreOctets b → (P : Station → Type 0)
    → ((IsForStation s (Frame a b) → ⊥) → P (strays (sees now s))) → ((IsForStation s (Frame a b) → ⊥) → P (errs s.phase (sees now s)))
    → ((c : Control) (i : List ℕ) → Comes s a b c i → P (outcome_as selective (sees now s) c i)) → is_known_address a ≡ true
    → (o : Option (Control × List ℕ)) → control_of (modulo s.extended) b ≡ o
    → P (if selective then selective_hears_control a o (sees now s) else hears_control a o (sees now s))
control_heard law true now s a b octets P stray wrong read known None is = wrong (unread law s a b octets is)
control_heard law false now s a b octets P stray wrong read known None is = wrong (unread law s a b octets is)
control_heard law true now s a b octets P stray wrong read known (Some r) is =
    cond_both (is_addressed s.calling a r.0) (outcome_as true (sees now s) r.0 r.1) (strays (sees now s)) P
    (λ at. read r.0 r.1 (record { reads = (law (modulo s.extended) b octets r.0 r.1).0 is; addressed = addressed s.calling a r.0 known at }))
    (λ other. stray (misaddressed law s a b r octets is other))
control_heard law false now s a b octets P stray wrong read known (Some r) is =
    cond_both (is_addressed s.calling a r.0) (outcome_as false (sees now s) r.0 r.1) (strays (sees now s)) P
    (λ at. read r.0 r.1 (record { reads = (law (modulo s.extended) b octets r.0 r.1).0 is; addressed = addressed s.calling a r.0 known at }))
    (λ other. stray (misaddressed law s a b r octets is other))

pub on_frame : ControlIsTable → (selective : Bool) (now : ℕ) (s : Station) (a : ℕ) (b : List ℕ) → AreOctets b → (P : Station → Type 0)
    → ((IsForStation s (Frame a b) → ⊥) → P (strays (sees now s))) → ((IsForStation s (Frame a b) → ⊥) → P (errs s.phase (sees now s)))
    → ((c : Control) (i : List ℕ) → Comes s a b c i → P (outcome_as selective (sees now s) c i))
    → P (hears_as selective (Frame a b) (sees now s))
on_frame law true now s a b octets P stray wrong read =
    cond_both (is_known_address a) (selective_hears_control a (control_of (modulo s.extended) b) (sees now s)) (strays (sees now s)) P
    (λ known. control_heard law true now s a b octets P stray wrong read known (control_of (modulo s.extended) b) refl)
    (λ other. stray (foreign s a b other))
on_frame law false now s a b octets P stray wrong read =
    cond_both (is_known_address a) (hears_control a (control_of (modulo s.extended) b) (sees now s)) (strays (sees now s)) P
    (λ known. control_heard law false now s a b octets P stray wrong read known (control_of (modulo s.extended) b) refl)
    (λ other. stray (foreign s a b other))
