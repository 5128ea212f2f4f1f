-- What has to be known so that the faults of a declaration can be kept.
use Rattle.std.specs.Prelude.{◌≡◌, Bool, true, List}
use Rattle.std.specs.List.{list_all, AllByRecursion}
use Rattle.cdi_model.specs.declared.decl.Decl.{Decl}
use Rattle.cdi_model.specs.declared.decl.PointDecl.{PointDecl}
use Rattle.cdi_model.specs.declared.place.BeanPlace.{BeanPlace}
use Rattle.cdi_effective.specs.declared.records.BeanId.{BeanId}
use Rattle.cdi_resolve.specs.declared.choice.Choice.TheVariants.{One}
use Rattle.cdi_observe.specs.Answers.{answer_to}
use Rattle.cdi_observe.specs.Keys.{Key, ChainKey}
use Rattle.cdi_observe.specs.Wanted.{is_wanted, points_of, wanted_by}

-- the interceptors around each place of a bean that is chosen for a point are known
abbrev pub AreChainsKnown : List Decl → (Key → Bool) → PointDecl → Type 0
AreChainsKnown ds knows p = (id : BeanId) → answer_to ds p ≡ One id → (place : BeanPlace)
    → is_wanted ds (ChainKey id.class place) ≡ true → knows (ChainKey id.class place) ≡ true

-- All that a declaration asks for is known, and the interceptors around the beans that are chosen for its points are.
pub record IsKnown (ds : List Decl) (knows : Key → Bool) (d : Decl) : Type 0 where
  pub keys : list_all knows (wanted_by d) ≡ true
  pub chains : AllByRecursion (AreChainsKnown ds knows) (points_of d)
