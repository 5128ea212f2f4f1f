-- The laws of declarations that a draft does not concern.
use Rattle.cdi_report.proofs.Common.{◌≡◌, false, List, Some, option_map, refl, sym, ap, subst, ◌∙◌, kind_of, name_of_decl, key_at}
use Rattle.cdi_report.proofs.Common.{find_decl, edited_all, edited_keys, is_among, BeanDecl, Decl, Edit, DeclKey, entries, as_bean}
use Rattle.cdi_report.proofs.Common.{made_of_bean, reads_in, Tells, key_of, Key, edits_keep_decl, AreDistinct, Moved, Staged, IsFound}
use Rattle.cdi_report.proofs.Common.{knows, State, subjects_at_fault, IsAlike, IsLeft, IsKnown, still_known, is_concerned, arith}
use Rattle.cdi_model.specs.declared.decl.Decl.TheVariants as decls
use Rattle.cdi_model.specs.declared.decl.Kind.TheVariants as kinds
use Rattle.cdi_effective.specs.Specialized.{chain}
use Rattle.cdi_effective.proofs.RecordLemmas.{edits_keep_own_records}
use Rattle.cdi_index.specs.State.{Drafted}
use Rattle.cdi_validate.proofs.FoundLemmas.{bean-records}
use Rattle.cdi_report.proofs.Laws.{apart_are_spared, spared_keep_faults, unconcerned_are_apart}
use Rattle.cdi_report.proofs.StillLemmas.{known-after, own-chains-stay, unconcerned, IsGivenUp}
use Rattle.cdi_report.proofs.UnmovedLemmas.{not-affected, not-edited}
use Rattle.cdi_report.specs.Stays.{LeftStay, LeftWerePresent, Stays}

-- ---- what is left by a draft

module _ (old : State) (draft : Drafted) (next : Staged) (new : State) (keys : List DeclKey) (d : Decl)
    (left : IsLeft old draft next new keys d) where
  abbrev ds : List Decl
  ds = old.decls

  abbrev edits : List Edit
  edits = left.edited.edits

  abbrev moved : Moved
  moved = left.concerned.moved

  clear : is_concerned ds moved (key_of d) ≡ false
  clear = sym (left.concerned.keys (key_of d)) ∙ left.apart

  same-keys : moved.edited.now ≡ edited_keys edits
  same-keys = left.concerned.by.edited ∙ left.edited.keys

  unedited : is_among (edited_keys edits) (key_of d) ≡ false
  unedited = ap (λ ks. is_among ks (key_of d)) (sym same-keys) ∙ not-edited ds moved d clear

  present : find_decl (kind_of d) (name_of_decl d) ds ≡ Some d
  present = sym (edits_keep_decl edits ds (kind_of d) (name_of_decl d) unedited)
      ∙ ap (find_decl (kind_of d) (name_of_decl d)) (sym left.edited.decls) ∙ left.present

  distinct-after : AreDistinct (edited_all ds edits)
  distinct-after = subst AreDistinct left.edited.decls left.after

  tells : Tells ds (edited_all ds edits) (edited_keys edits) moved.affected.now
  tells = subst (λ ks. Tells ds (edited_all ds edits) ks moved.affected.now) left.edited.keys
      (subst (λ es. Tells ds es draft.keys moved.affected.now) left.edited.decls left.concerned.by.tells)

  given-up : IsGivenUp ds (edited_all ds edits) (knows old) moved
  given-up = grind arith

  -- the declarations after it
  after : new.decls ≡ edited_all ds edits
  after = left.taken.decls ∙ left.staged ∙ left.edited.decls

  still : (key : Key) → knows new key ≡ still_known ds (edited_all ds edits) (knows old) key
  still key = left.taken.known key ∙ ap (λ es. still_known ds es (knows old) key) (left.staged ∙ left.edited.decls)

  stays : IsKnown ds (knows old) d → Stays old new d
  stays known =
      let it = unconcerned edits ds moved d (knows old) left.before distinct-after present clear tells given-up known in
      let spared = apart_are_spared edits ds moved.affected.now d present tells
      (unconcerned_are_apart edits ds moved d left.before present same-keys tells it) in
      record {
        known = subst (λ es. IsKnown es (knows new) d) (sym after)
            (known-after edits ds moved d (knows old) left.before distinct-after present clear tells given-up (knows new) still known);
        faults = λ code book. spared_keep_faults edits ds moved.affected.now d present tells spared code book
            ∙ ap (λ es. subjects_at_fault code es book d) (sym after);
      }

  -- the same is made of it, chosen for it, and around it
  alike : IsKnown ds (knows old) d → IsAlike ds new.decls d
  alike known =
      let it = unconcerned edits ds moved d (knows old) left.before distinct-after present clear tells given-up known in
      subst (λ es. IsAlike ds es d) (sym after) record {
        before = present;
        after = ap (find_decl (kind_of d) (name_of_decl d)) (sym left.edited.decls) ∙ left.present;
        records = records-stay d refl;
        answers = it.answers;
        around = λ b is place.
            own-chains-stay edits ds moved d (knows old) left.before distinct-after present clear tells given-up b is known.keys place;
        chains = chains-stay;
      }
    where
      found-after : find_decl (kind_of d) (name_of_decl d) (edited_all ds edits) ≡ Some d
      found-after = ap (find_decl (kind_of d) (name_of_decl d)) (sym left.edited.decls) ∙ left.present

      records-stay : (e : Decl) → d ≡ e → entries (edited_all ds edits) e ≡ entries ds e
      records-stay (decls.Bean b) is =
          sym (bean-records (edited_all ds edits) b (subst (IsFound (edited_all ds edits)) is found-after))
          ∙ tells.records b.name (ap (λ e. is_among moved.affected.now (key_of e)) (sym is) ∙ not-affected ds moved d clear)
          ∙ bean-records ds b (subst (IsFound ds) is present)
      records-stay (decls.Type t) is = refl
      records-stay other is = refl

      chains-stay : (b : BeanDecl) → d ≡ decls.Bean b → chain (edited_all ds edits) b ≡ chain ds b
      chains-stay b is = (edits_keep_own_records edits ds b (λ key among.
          sym (ap (λ o. is_among (reads_in (option_map (made_of_bean ds) (as_bean o))) key)
          (sym (ap (λ e. find_decl (kind_of e) (name_of_decl e) ds) is) ∙ present ∙ ap Some is))
          ∙ tells.apart (key_at kinds.Bean b.name)
          (ap (λ e. is_among moved.affected.now (key_of e)) (sym is) ∙ not-affected ds moved d clear) key among)).chain

-- ---- the laws

pub left_were_present : LeftWerePresent
left_were_present old draft next new keys d left = present old draft next new keys d left

pub left_alike : (old : State) (draft : Drafted) (next : Staged) (new : State) (keys : List DeclKey) (d : Decl)
    → IsLeft old draft next new keys d → IsKnown old.decls (knows old) d → IsAlike old.decls new.decls d
left_alike old draft next new keys d left known = alike old draft next new keys d left known

pub left_stay : LeftStay
left_stay old draft next new keys d left known = stays old draft next new keys d left known
