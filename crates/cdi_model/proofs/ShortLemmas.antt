-- Edits keep the lists of declarations short.
use Rattle.cdi_model.proofs.Common.{ℕ, zero, suc, Bool, true, false, cond, List, [], ◌∷◌, refl, subst, same_Some, Decl, Kind, Put, Remove}
use Rattle.cdi_model.proofs.Common.{kind_of, name_of_decl, is_of, put_in, remove_from, edited}
use Rattle.cdi_model.specs.Short.{AreShort, HasShortLists}

pub none_short : AreShort []
none_short k d at = absurd (cc)

-- a short declaration before short ones
short-cons : (d : Decl) (ds : List Decl) → HasShortLists d → AreShort ds → AreShort (d ∷ ds)
short-cons d ds short all zero e at = subst HasShortLists (same_Some d e at) short
short-cons d ds short all (suc k) e at = all k e at

short-put : (ds : List Decl) (d : Decl) → AreShort ds → HasShortLists d → AreShort (put_in ds d)
short-put [] d all short = short-cons d [] short none_short
short-put (c ∷ cs) d all short = by (is_of (kind_of d) (name_of_decl d) c) (short-put cs d (λ k. all (suc k)) short)
  where
    by : (b : Bool) → AreShort (put_in cs d) → AreShort (cond b (d ∷ cs) (c ∷ put_in cs d))
    by true rest = short-cons d cs short (λ k. all (suc k))
    by false rest = short-cons c (put_in cs d) (all zero c refl) rest

short-remove : (kind : Kind) (name : List ℕ) (ds : List Decl) → AreShort ds → AreShort (remove_from kind name ds)
short-remove kind name [] all = none_short
short-remove kind name (c ∷ cs) all = by (is_of kind name c) (short-remove kind name cs (λ k. all (suc k)))
  where
    by : (b : Bool) → AreShort (remove_from kind name cs) → AreShort (cond b cs (c ∷ remove_from kind name cs))
    by true rest = λ k. all (suc k)
    by false rest = short-cons c (remove_from kind name cs) (all zero c refl) rest

-- a short declaration that is put
pub put_short : (ds : List Decl) (d : Decl) → AreShort ds → HasShortLists d → AreShort (edited ds (Put d))
put_short ds d all short = short-put ds d all short

-- and a removal
pub remove_short : (ds : List Decl) (kind : Kind) (name : List ℕ) → AreShort ds
    → AreShort (edited ds (Remove kind name))
remove_short ds kind name all = short-remove kind name ds all
