use Rattle.cdi_model.proofs.Common.{subst, ap, ◌∙◌, IsDistinct, key_of, same_key, keys_in}
use Rattle.cdi_model.proofs.BaseLemmas.{put-more}
use Rattle.cdi_model.proofs.decls.Decls.based.Goals as goal

pub loop-decl-preserved-in_ok-insert : goal.loop-decl-preserved-in_ok-insert
loop-decl-preserved-in_ok-insert c =
    put-more c.args.self.now c.loop-decl.left c.next_shared.new.self c.loop-decl.map.entries c.insert.new.self.entries c.key.result
    c.in_ok-clone.field-0 c.in-Some.decl.now.value
    (subst (λ ds. IsDistinct same_key (keys_in ds)) c.self.view_is c.self.invariant.distinct)
    c.loop-decl.invariant c.in-Some.ensures c.in_ok-clone.ensures.cases
    (c.key.ensures ∙ ap key_of c.deref.ensures) c.in_ok-insert.ensures.entries

pub loop-decl-preserved : goal.loop-decl-preserved
loop-decl-preserved c =
    put-more c.args.self.now c.loop-decl.left c.next_shared.new.self c.loop-decl.map.entries c.insert.new.self.entries c.key.result
    c.in_ok-clone.field-0 c.in-Some.decl.now.value
    (subst (λ ds. IsDistinct same_key (keys_in ds)) c.self.view_is c.self.invariant.distinct)
    c.loop-decl.invariant c.in-Some.ensures c.in_ok-clone.ensures.cases
    (c.key.ensures ∙ ap key_of c.deref.ensures) c.in_ok-insert.ensures.entries
