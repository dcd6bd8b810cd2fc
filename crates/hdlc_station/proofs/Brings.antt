-- What a rule did with a frame, as what the frame brought.
use Rattle.std.proofs.Common.{◌≡◌, ◌++◌, sym, ap, ◌∙◌, subst}
use Rattle.hdlc_station_model.specs.Stations.{Station, Deed, no_deed}
use Rattle.hdlc_station.specs.Kept.{KeptStation, Stands, Follows}
use Rattle.hdlc_station.specs.declared.heard.Reply.{Reply}
use Rattle.hdlc_station.specs.declared.heard.Reply.TheVariants.{Nothing}
use Rattle.hdlc_station.specs.Replies.{reply_text, TellsSo}
use Rattle.hdlc_station.proofs.Saying.{silent}
use Rattle.er_base.specs.Stored.{Stored}

module _ (old new : KeptStation) (step : Station → Station) where
  -- the same told and answered
  pub brings : (r r' : Reply) (told deed : Deed) → TellsSo old new r told step → deed ≡ told → r' ≡ r → TellsSo old new r' deed step
  brings r r' told deed tells same_deed same_reply = λ out out' e s before h.
      subst (λ (d : Deed). Stands new before out' d (step s)) (sym same_deed) (tells out out' (e ∙ ap (λ (q : Reply). out.items ++ reply_text new q) same_reply) s before h)

  -- nothing told and answered
  pub brings_nothing : (r : Reply) (deed : Deed) → ((out : Stored) → Follows old out new out step) → deed ≡ no_deed → r ≡ Nothing → TellsSo old new r deed step
  brings_nothing r deed follows same_deed same_reply =
      brings Nothing r no_deed deed (λ out out' e s before h. silent new before out out' no_deed (step s) (follows out s before no_deed h) e) same_deed same_reply
