use Rattle.cdi_staging.proofs.ClassLemmas.{is-enabled}
use Rattle.cdi_staging.proofs.stage.Stage.interceptors.Goals as goal

pub interceptor-requires : goal.interceptor-requires
interceptor-requires g c =
    let self = c.args.self.now in
    is-enabled (g.V.View.list self.view.now) self.around.now c.loop-around.around-index c.around-item.result self.enabled
    c.loop-around-test.true c.around-item.is
