-- What the kind of an error of `clap` says of the words.
use Rattle.std.proofs.Common.{◌≡◌, ◌∙◌, ℕ, List, [], ◌∷◌, Option, inl, inr, sym, subst}
use Rattle.clap.specs.{Kinds.Kinds, Kinds.IsAmong, Kinds.HasKind, Values.kind_of, declared.error.Error.Error}
use Rattle.clap.specs.declared.error.kind.ErrorKind.{ErrorKind, TheVariants.DisplayHelp, TheVariants.OutOfMemory}
use Rattle.cdi_devices.specs.declared.counted.Counted.{Counted}
use Rattle.cdi_session.specs.Session.{LacksMemory, RefusesWords}

only : (kind other : ErrorKind) → IsAmong kind (other ∷ []) → kind ≡ other
only kind other (inl same) = same
only kind other (inr none) = absurd none

no_help : DisplayHelp ≡ OutOfMemory → ⊥
no_help e = cc

module _ {O E : Type 0} (told : E → Option (List ℕ)) (output output_after : Counted O) (errors errors_after : Counted E) (status : ℕ) where
  -- an error that wants memory is answered by want of memory
  lacks : (kind : ErrorKind) → kind ≡ OutOfMemory → RefusesWords told (kind ∷ []) output output_after errors errors_after status
      → LacksMemory told output output_after errors errors_after status
  lacks kind want (inl shows) = absurd (no_help (only _ _ shows.asks ∙ want))
  lacks kind want (inr (inl misuses)) = absurd (misuses.no_want (only _ _ misuses.mistake ∙ want))
  lacks kind want (inr (inr lacking)) = lacking

  -- an error of one of the words' kinds is answered as they ask
  answers : (kinds : Kinds) (kind : ErrorKind) → IsAmong kind kinds
      → RefusesWords told (kind ∷ []) output output_after errors errors_after status
      → RefusesWords told kinds output output_after errors errors_after status
  answers kinds kind among (inl shows) = inl
      (record { asks = subst (λ k. IsAmong k kinds) (sym (only _ _ shows.asks)) among; answer = shows.answer })
  answers kinds kind among (inr (inl misuses)) = inr (inl (record {
    cause = misuses.cause;
    mistake = subst (λ k. IsAmong k kinds) (sym (only _ _ misuses.mistake)) among;
    no_help = misuses.no_help;
    no_want = misuses.no_want;
    no_text = misuses.no_text;
    status_is = misuses.status_is;
  }))
  answers kinds kind among (inr (inr lacking)) = inr (inr lacking)

  pub accepted_lacks : (kinds : Kinds) (error : Error) → kinds ≡ [] → HasKind kinds error
      → RefusesWords told (kind_of error ∷ []) output output_after errors errors_after status
      → LacksMemory told output output_after errors errors_after status
  accepted_lacks kinds error none (inl want) refuses = lacks _ want refuses
  accepted_lacks kinds error none (inr among) refuses = absurd (subst (IsAmong (kind_of error)) none among)

  pub refused_words : (kinds : Kinds) (error : Error) → HasKind kinds error
      → RefusesWords told (kind_of error ∷ []) output output_after errors errors_after status
      → RefusesWords told kinds output output_after errors errors_after status
  refused_words kinds error (inl want) refuses = inr (inr (lacks _ want refuses))
  refused_words kinds error (inr among) refuses = answers kinds _ among refuses
