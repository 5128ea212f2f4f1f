use Rattle.std.proofs.Common.{◌∙◌, ap, position}
use Rattle.cdi_stock.proofs.NameLemmas.{position_named}
use Rattle.cdi_stock.specs.Table.{has_name, table}
use Rattle.cdi_stock.proofs.stock_bodies.StockBodiesBodies.position.Goals as goal

pub returns-clause-value : goal.returns-clause-value
returns-clause-value c =
    c.position_among.ensures ∙ ap (position (has_name c.args.name.now)) c.all.ensures ∙ position_named table c.args.name.now
