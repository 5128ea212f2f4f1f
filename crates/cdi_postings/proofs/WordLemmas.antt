-- Words that the test takes for one are one.
use Rattle.std.proofs.Common.{◌≡◌, ℕ, zero, suc, nat_eq, true, List, refl, sym, ap, ◌∙◌}
use Rattle.std.specs.Cmp.Lexicographic.{pointwise, bytes_decides}
use Rattle.std.proofs.lemmas.Bool.{and_parts, eqb-true}
use Rattle.cdi_model.specs.declared.decl.Kind.TheVariants as kinds
use Rattle.cdi_postings.specs.{Words.reason_number, Words.same_word, declared.word.Reason.Reason, declared.word.Word.Word}
use Rattle.cdi_postings.specs.declared.word.Reason.TheVariants as reasons

-- the reason of a number, counted from that of what writes a name
writing : ℕ → Reason
writing zero = reasons.Writes kinds.Type
writing (suc zero) = reasons.Writes kinds.Qualifier
writing (suc (suc zero)) = reasons.Writes kinds.Binding
writing (suc (suc (suc zero))) = reasons.Writes kinds.Stereotype
writing (suc (suc (suc (suc zero)))) = reasons.Writes kinds.Bean
writing (suc (suc (suc (suc (suc zero))))) = reasons.Writes kinds.Interceptor
writing (suc (suc (suc (suc (suc (suc zero)))))) = reasons.Intercepts
writing (suc (suc (suc (suc (suc (suc (suc n))))))) = reasons.HasTypeAsAlternative

-- from that of what has a type
later : ℕ → Reason
later zero = reasons.HasType
later (suc zero) = reasons.HasName
later (suc (suc zero)) = reasons.Replaces
later (suc (suc (suc zero))) = reasons.Observes
later (suc (suc (suc (suc zero)))) = reasons.Asks
later (suc (suc (suc (suc (suc zero))))) = reasons.Qualifies
later (suc (suc (suc (suc (suc (suc zero)))))) = reasons.Fires
later (suc (suc (suc (suc (suc (suc (suc zero))))))) = reasons.Binds
later (suc (suc (suc (suc (suc (suc (suc (suc n)))))))) = writing n

-- and from the first
reason_at : ℕ → Reason
reason_at zero = reasons.RestsOn kinds.Type
reason_at (suc zero) = reasons.RestsOn kinds.Qualifier
reason_at (suc (suc zero)) = reasons.RestsOn kinds.Binding
reason_at (suc (suc (suc zero))) = reasons.RestsOn kinds.Stereotype
reason_at (suc (suc (suc (suc zero)))) = reasons.RestsOn kinds.Bean
reason_at (suc (suc (suc (suc (suc zero))))) = reasons.RestsOn kinds.Interceptor
reason_at (suc (suc (suc (suc (suc (suc n)))))) = later n

reason_again : (r : Reason) → reason_at (reason_number r) ≡ r
unfolding reason_at later writing
reason_again (reasons.RestsOn kinds.Type) = refl
reason_again (reasons.RestsOn kinds.Qualifier) = refl
reason_again (reasons.RestsOn kinds.Binding) = refl
reason_again (reasons.RestsOn kinds.Stereotype) = refl
reason_again (reasons.RestsOn kinds.Bean) = refl
reason_again (reasons.RestsOn kinds.Interceptor) = refl
reason_again reasons.HasType = refl
reason_again reasons.HasName = refl
reason_again reasons.Replaces = refl
reason_again reasons.Observes = refl
reason_again reasons.Asks = refl
reason_again reasons.Qualifies = refl
reason_again reasons.Fires = refl
reason_again reasons.Binds = refl
reason_again reasons.Intercepts = refl
reason_again reasons.HasTypeAsAlternative = refl
reason_again (reasons.Writes kinds.Type) = refl
reason_again (reasons.Writes kinds.Qualifier) = refl
reason_again (reasons.Writes kinds.Binding) = refl
reason_again (reasons.Writes kinds.Stereotype) = refl
reason_again (reasons.Writes kinds.Bean) = refl
reason_again (reasons.Writes kinds.Interceptor) = refl

pub word_exact : (v w : Word) → same_word v w ≡ true → v ≡ w
word_exact v w h =
    let parts = and_parts (nat_eq (reason_number v.reason) (reason_number w.reason)) (pointwise nat_eq v.name w.name) h in
    let one : v.reason ≡ w.reason = sym (reason_again v.reason)
    ∙ ap reason_at (eqb-true (reason_number v.reason) (reason_number w.reason) parts.0) ∙ reason_again w.reason in
    ap (λ (p : Reason × List ℕ). record { reason = p.0; name = p.1 }) (λ i. (one i, (bytes_decides v.name w.name).0 parts.1 i))
