use Rattle.cdi_text.proofs.Common.{table_view}
use Rattle.cdi_text.proofs.WayLemmas.{to_producer, to_observer}
use Rattle.cdi_text.proofs.places.way_to_params.Goals as goal

pub returns-in-Some : goal.returns-in-Some
returns-in-Some c = to_producer (table_view c.args.bean.now) c.in_ok-index.field-0 c.in-Some.index c.in_ok-to_params.field-0 c.in-Some.is
    c.in_ok-index.ensures c.in_ok-to_params.ensures

pub returns-in_ok-to_params-in-Some-2 : goal.returns-in_ok-to_params-in-Some-2
returns-in_ok-to_params-in-Some-2 c = to_observer (table_view c.args.bean.now) c.in_ok-index-2.field-0 c.in-Some-2.index
    c.in_ok-to_params-in-Some-2.field-0 c.in-Some-2.is c.in_ok-index-2.ensures c.in_ok-to_params-in-Some-2.ensures
