-- The edits of a batch, one after another.
use Rattle.cdi_container.proofs.Common.{◌≡◌, ℕ, List, refl, Ok, Err, Decl, [], ◌∷◌, ◌++◌, Error, Answers, ◌+◌, edited, edited_all, Drafted}
use Rattle.cdi_container.proofs.Common.{change_of, changes_of, changes_of_all, drafted_all, first_refusal, SaysReason, answer_of_change}
use Rattle.cdi_container.proofs.Common.{refused_at, arith, asked_by}
use Rattle.std.proofs.{Common.append_assoc, lemmas.List.map-append}
use Rattle.cdi_model.specs.declared.edit.Edit.{Edit as Change}
use Rattle.cdi_model.specs.declared.refusal.Error.TheVariants as errors
use Rattle.cdi_lines.specs.declared.edit.Edit.{Edit}
use Rattle.cdi_container.proofs.Putting.{accepted_change, refused_change}

pub edited_all-append : (ds : List Decl) (es fs : List Change) → edited_all ds (es ++ fs) ≡ edited_all (edited_all ds es) fs
edited_all-append ds [] fs = refl
edited_all-append ds (e ∷ es) fs = edited_all-append (edited ds e) es fs

-- changes that are made on a draft, and then further ones
drafted_all-append : (draft : Drafted) (es fs : List Change) → drafted_all draft (es ++ fs) ≡ drafted_all (drafted_all draft es) fs
drafted_all-append draft es fs = grind (arith, draft.keys, draft.decls, edited_all-append, map-append, append_assoc)

-- what an edit and further ones leave
pub left_by_first : (draft next : Drafted) (e : Edit) (es : List Edit) → next ≡ drafted_all draft (changes_of e)
    → drafted_all draft (changes_of_all (e ∷ es)) ≡ drafted_all next (changes_of_all es)
left_by_first draft next e es h = rw h (drafted_all-append draft (changes_of e) (changes_of_all es))

-- an edit is not refused, but a further one may be
pub first_accepted : (number : ℕ) (ds next : List Decl) (e : Edit) (es : List Edit) (u : Unit {0})
    → answer_of_change ds (change_of e) ≡ Ok u → next ≡ edited_all ds (changes_of e)
    → first_refusal number ds (asked_by (e ∷ es)) ≡ first_refusal (number + 1) next (asked_by es)
first_accepted number ds next e es u accepted h = grind (arith, accepted_change)

-- an edit is refused, or found no memory
pub first_refused : (number : ℕ) (ds : List Decl) (e : Edit) (es : List Edit) (error : Error)
    → Answers {X = Unit {0}} (Err error) (answer_of_change ds (change_of e))
    → SaysReason (refused_at number error) (first_refusal number ds (asked_by (e ∷ es)))
first_refused number ds e es errors.OutOfMemory h = tt
first_refused number ds e es (errors.Refused refusal) h = grind (arith, refused_change)
