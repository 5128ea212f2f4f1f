use Rattle.std.proofs.Common.{◌∙◌, ap, sym, find, is_some, option_map}
use Rattle.cdi_bodies.proofs.BookLemmas.{if_there}
use Rattle.cdi_stock.proofs.NameLemmas.{promise_named}
use Rattle.cdi_stock.specs.Table.{has_name, promise_of, table}
use Rattle.cdi_stock.proofs.stock_bodies.StockBodiesBodies.ask.Goals as goal

pub returns-in_err-body-clause-known : goal.returns-in_err-body-clause-known
returns-in_err-body-clause-known c =
    ap is_some c.from_residual.ensures
    ∙ ap is_some (ap (option_map promise_of) (c.in_err-body.ensures ∙ ap (find (has_name c.args.name.now)) c.all.ensures)
    ∙ promise_named table c.args.name.now)

pub returns-clause-known : goal.returns-clause-known
returns-clause-known c =
    ap is_some (ap (option_map promise_of) (c.in_ok-body.ensures ∙ ap (find (has_name c.args.name.now)) c.all.ensures)
    ∙ promise_named table c.args.name.now)

pub returns-clause-within : goal.returns-clause-within
returns-clause-within c =
    if_there _ _ (promise_of c.in_ok-body.body.now)
    (sym (ap (option_map promise_of) (c.in_ok-body.ensures ∙ ap (find (has_name c.args.name.now)) c.all.ensures)
    ∙ promise_named table c.args.name.now)) c.ask.ensures.kept
