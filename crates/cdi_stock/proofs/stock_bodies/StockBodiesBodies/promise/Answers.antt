use Rattle.std.proofs.Common.{◌∙◌, ap, find, option_map, Some}
use Rattle.cdi_stock.proofs.NameLemmas.{promise_named}
use Rattle.cdi_stock.specs.Table.{has_name, promise_of, table}
use Rattle.cdi_stock.proofs.stock_bodies.StockBodiesBodies.promise.Goals as goal

pub returns-in_err-body : goal.returns-in_err-body
returns-in_err-body c =
    c.from_residual.ensures
    ∙ ap (option_map promise_of) (c.in_err-body.ensures ∙ ap (find (has_name c.args.name.now)) c.all.ensures)
    ∙ promise_named table c.args.name.now

pub returns : goal.returns
returns c =
    ap Some c.promise.ensures
    ∙ ap (option_map promise_of) (c.in_ok-body.ensures ∙ ap (find (has_name c.args.name.now)) c.all.ensures)
    ∙ promise_named table c.args.name.now
