use Rattle.cdi_staging.proofs.ClassLemmas.{has-producer}
use Rattle.cdi_staging.proofs.stage.Stage.producer_chain.Goals as goal

pub chain-requires-clause-place : goal.chain-requires-clause-place
chain-requires-clause-place g c = has-producer c.args.bean.now c.args.producer.now c.requires.producer c.if-producer.false
