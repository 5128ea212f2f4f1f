-- Only what asks for chains asks for a chain.
use Rattle.cdi_seen.proofs.Common.{◌≡◌, ℕ, false, List, [], ◌∷◌, map, flat_map, refl, Decl, BeanPlace, ChainKey, list_any-append, wanted_by}
use Rattle.cdi_seen.proofs.Common.{has_key, arith}
use Rattle.std.proofs.Math.Bool.{or-false}
use Rattle.cdi_model.specs.{Mentions.Mention, Mentions.EventOf, declared.decl.PointDecl.PointDecl}
use Rattle.cdi_observe.specs.Wanted.{chains_by, event_in, key_of_point}

points-ask_no_chain : (class : List ℕ) (place : BeanPlace) (points : List PointDecl)
    → has_key (map key_of_point points) (ChainKey class place) ≡ false
points-ask_no_chain class place [] = refl
points-ask_no_chain class place (p ∷ ps) = points-ask_no_chain class place ps

events-ask_no_chain : (class : List ℕ) (place : BeanPlace) (named : List Mention)
    → has_key (flat_map event_in named) (ChainKey class place) ≡ false
events-ask_no_chain class place [] = refl
events-ask_no_chain class place (EventOf event ∷ named) = events-ask_no_chain class place named
events-ask_no_chain class place (other ∷ named) = events-ask_no_chain class place named

pub only-chains : (class : List ℕ) (place : BeanPlace) (d : Decl)
    → has_key (wanted_by d) (ChainKey class place) ≡ has_key (chains_by d) (ChainKey class place)
only-chains class place d = grind (arith, list_any-append, events-ask_no_chain, or-false, points-ask_no_chain)
