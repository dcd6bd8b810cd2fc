use Rattle.std.proofs.Common.{ap, sym, subst, ◌∙◌}
use Rattle.hdlc_station_model.specs.declared.phase.Phase.TheVariants.{Idle, Setting, Up, Down}
use Rattle.hdlc_station_model.specs.Stations.{Station}
use Rattle.hdlc_station_model.specs.Receiving.{row_idle}
use Rattle.hdlc_station_model.specs.Selective.{selective_row, selective_row_setting}
use Rattle.hdlc_station.specs.Kept.{KeptStation, Stands}
use Rattle.hdlc_station.specs.Told.{told_as}
use Rattle.hdlc_station.proofs.Keeping.{keeps_idle, keeps_setting, keeps_same, idle_same, setting_same}
use Rattle.hdlc_station.proofs.Moving.{row_hears, quiet, phased}
use Rattle.hdlc_station.proofs.selective.row.Goals as goal

pub returns-in-Idle-clause-hears : goal.returns-in-Idle-clause-hears
returns-in-Idle-clause-hears c = λ out out' after w s before h.
    phased (λ q t. selective_row q t c.args.control c.args.information.now) _ _ before _ _ s Idle (sym c.in-Idle.is ∙ c.phase.ensures ∙ ap (λ (k : KeptStation). k.phase) h.stands.is)
    (row_hears c.args.information.now _ _ _ c.hear_idle.result c.of.result (λ t. row_idle t c.args.control c.args.information.now) c.of.ensures
    (λ information o o' e t begun g. subst (λ (x : Station). Stands c.hear_idle.new.self begun o' (told_as information c.hear_idle.result.told) x)
    (idle_same t c.args.control information c.args.information.now) (c.hear_idle.ensures.hears information o o' e t begun g))
    (λ t. keeps_idle t c.args.control c.args.information.now) out out' after w s before h)

pub returns-in-Setting-clause-hears : goal.returns-in-Setting-clause-hears
returns-in-Setting-clause-hears c = λ out out' after w s before h.
    phased (λ q t. selective_row q t c.args.control c.args.information.now) _ _ before _ _ s Setting (sym c.in-Setting.is ∙ c.phase.ensures ∙ ap (λ (k : KeptStation). k.phase) h.stands.is)
    (row_hears c.args.information.now _ _ _ c.hear_setting.result c.of-in-Setting.result (λ t. selective_row_setting t c.args.control c.args.information.now) c.of-in-Setting.ensures
    (λ information o o' e t begun g. subst (λ (x : Station). Stands c.hear_setting.new.station begun o' (told_as information c.hear_setting.result.told) x)
    (setting_same t c.args.control information c.args.information.now) (c.hear_setting.ensures.hears information o o' e t begun g))
    (λ t. keeps_setting t c.args.control c.args.information.now) out out' after w s before h)

pub returns-in-Up-clause-hears : goal.returns-in-Up-clause-hears
returns-in-Up-clause-hears c = λ out out' after w s before h.
    phased (λ q t. selective_row q t c.args.control c.args.information.now) _ _ before _ _ s Up (sym c.in-Up.is ∙ c.phase.ensures ∙ ap (λ (k : KeptStation). k.phase) h.stands.is)
    (c.hear_up.ensures.hears out out' after w s before h)

pub returns-in-Down-clause-hears : goal.returns-in-Down-clause-hears
returns-in-Down-clause-hears c = λ out out' after w s before h.
    phased (λ q t. selective_row q t c.args.control c.args.information.now) _ _ before _ _ s Down (sym c.in-Down.is ∙ c.phase.ensures ∙ ap (λ (k : KeptStation). k.phase) h.stands.is)
    (row_hears c.args.information.now _ _ _ c.nothing.result c.of-in-Down.result (λ t. t) c.of-in-Down.ensures
    (quiet _ _ c.nothing.result (λ t. t) c.nothing.ensures (λ o t begun d g. g)) keeps_same out out' after w s before h)
