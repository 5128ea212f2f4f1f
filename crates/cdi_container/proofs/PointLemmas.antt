-- The answers for the injection points are known where each wanted key is.
use Rattle.cdi_container.proofs.Common.{◌≡◌, List, Bool, true, map, refl, Decl, [], ◌∷◌, ◌∙◌, list_all, or_left, or_right, knows, Key}
use Rattle.cdi_container.proofs.Common.{has_key, same_key, is_wanted, same_key-equiv, KnowsAll, list_any-append, AreKnown, placed_points}
use Rattle.cdi_container.proofs.Common.{flat_map, arith}
use Rattle.std.proofs.lemmas.{Bool.and_from, List.Folds.list_all-append}
use Rattle.std.specs.List.{list_any}
use Rattle.cdi_model.specs.Mentions.{Mention, PointOf, mentions}
use Rattle.cdi_observe.specs.Wanted.{asked_by, key_of_point, point_named, wanted_by}
use Rattle.cdi_live.specs.State.{State as Live}
use Rattle.cdi_container.specs.Points.{PlacedPoint, point_in, points_in}

module _ (f : Key → Bool) where
  abbrev passes : PlacedPoint → Bool
  passes p = f (key_of_point p.point)

  -- where a test holds of what the points ask for that are named in some places, it holds of these points
  own-pass : (owner : Decl) (named : List Mention)
      → ((key : Key) → has_key (map key_of_point (flat_map point_named named)) key ≡ true → f key ≡ true)
      → list_all passes (flat_map (point_in owner) named) ≡ true
  own-pass owner [] each = refl
  own-pass owner (PointOf place point ∷ named) each =
      let key = key_of_point point in
      let more = map key_of_point (flat_map point_named named) in
      and_from (f key) (list_all passes (flat_map (point_in owner) named))
      (each key (or_left (same_key key key) (has_key more key) (same_key-equiv.refl key)))
      (own-pass owner named (λ k h. each k (or_right (same_key k key) (has_key more k) h)))
  own-pass owner (other ∷ named) each = own-pass owner named each

  -- what the points of a declaration ask for is wanted by it
  asks-wanted : (d : Decl) (key : Key) → has_key (asked_by d) key ≡ true → has_key (wanted_by d) key ≡ true
  asks-wanted d key h = grind (arith, list_any-append)

  points-pass : (ds : List Decl) → ((key : Key) → list_any (λ d. has_key (wanted_by d) key) ds ≡ true → f key ≡ true)
      → list_all passes (placed_points ds) ≡ true
  points-pass [] each = refl
  points-pass (d ∷ ds) each =
      let more = λ (key : Key). list_any (λ e. has_key (wanted_by e) key) ds in
      list_all-append passes (points_in d) (placed_points ds)
      ∙ and_from (list_all passes (points_in d)) (list_all passes (placed_points ds))
      (own-pass d (mentions d) (λ key h. each key (or_left (has_key (wanted_by d) key) (more key) (asks-wanted d key h))))
      (points-pass ds (λ key h. each key (or_right (has_key (wanted_by d) key) (more key) h)))

pub are_known : (live : Live) → KnowsAll live → AreKnown live (placed_points live.decls)
unfolding is_wanted
are_known live each = points-pass (knows live) live.decls each
