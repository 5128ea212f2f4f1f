-- When two places are one, and what is hashed of a place.
use Rattle.std.specs.Prelude.{◌≡◌, true, ◌++◌}
use Rattle.std.specs.Cmp.{IsEquivalence, decided}
use Rattle.std.specs.Hash as fed
use Rattle.std.proofs.Common.{ap}
use Rattle.cdi_model.specs.declared.place.BeanPlace.{BeanPlace}
use Rattle.cdi_model.specs.declared.place.BeanPlace.TheVariants as places
use Rattle.cdi_observe.specs.Keys.{same_place}
use Rattle.cdi_observe.proofs.KeyLemmas.{same_place-decides}

abbrev pub place_input : BeanPlace → fed.HashWrites
place_input places.Construct = fed.u8 0
place_input places.Post = fed.u8 1
place_input places.Pre = fed.u8 2
place_input (places.Method name) = fed.u8 3 ++ fed.slice fed.u8 name
place_input (places.Producer name) = fed.u8 4 ++ fed.slice fed.u8 name
place_input (places.Observer name) = fed.u8 5 ++ fed.slice fed.u8 name

pub same_place_equiv : IsEquivalence same_place
same_place_equiv = decided same_place same_place-decides

pub same_places_alike : (p q : BeanPlace) → same_place p q ≡ true → place_input p ≡ place_input q
same_places_alike p q same = ap place_input ((same_place-decides p q).0 same)
