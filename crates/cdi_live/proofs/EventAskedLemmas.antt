-- Which events are wanted: those for which a declaration asks.
use Rattle.cdi_live.proofs.Common.{any-same, ◌≡◌, Bool, false, List, [], ◌∷◌, map, refl, list_any, Decl, BeanPlace, Qual, ℕ}
use Rattle.cdi_live.proofs.Common.{flat_map, list_any-append, Mention, EventOf, asks_for}
use Rattle.cdi_live.proofs.Common.{asks_in, is_wanted, key_of_point, ChainKey, places_of, has_key, EventKey, wanted_by}
use Rattle.cdi_live.proofs.Common.{arith}
use Rattle.std.proofs.Math.Bool.{or-false}
use Rattle.cdi_model.specs.declared.decl.PointDecl.{PointDecl}
use Rattle.cdi_model.specs.declared.decl.Decl.TheVariants as decls
use Rattle.cdi_index.specs.declared.asked.Question.TheVariants as questions
use Rattle.cdi_observe.specs.Wanted.{chains_by, event_in}

module _ (t : List ℕ) (us : List Qual) where
  abbrev own : Mention → Bool
  own m = has_key (event_in m) (EventKey t us)

  -- a declaration asks where an event of it does
  at-event : (m : Mention) → own m ≡ asks_in questions.Event t us m
  at-event (EventOf e) = or-false (asks_in questions.Event t us (EventOf e))
  at-event other = refl

  at-events : (ms : List Mention) → has_key (flat_map event_in ms) (EventKey t us) ≡ list_any (asks_in questions.Event t us) ms
  at-events [] = refl
  at-events (m ∷ ms) = grind (arith, at-events ms, list_any-append, at-event)

  no-choice : (points : List PointDecl) → has_key (map key_of_point points) (EventKey t us) ≡ false
  no-choice [] = refl
  no-choice (p ∷ points) = no-choice points

  no-chain : (class : List ℕ) (places : List BeanPlace) → has_key (map (ChainKey class) places) (EventKey t us) ≡ false
  no-chain class [] = refl
  no-chain class (place ∷ places) = no-chain class places

  no-chain-by : (d : Decl) → has_key (chains_by d) (EventKey t us) ≡ false
  no-chain-by (decls.Bean b) = no-chain b.name (places_of b)
  no-chain-by other = refl

  fires-is : (d : Decl) → has_key (wanted_by d) (EventKey t us) ≡ asks_for questions.Event t us d
  unfolding asks_for
  fires-is d = grind (arith, list_any-append, no-choice, no-chain-by, at-events)

  -- the event is wanted where a declaration may fire it
  pub event-wanted-is : (ds : List Decl) → is_wanted ds (EventKey t us) ≡ list_any (asks_for questions.Event t us) ds
  unfolding is_wanted
  event-wanted-is ds =
      any-same (λ d. has_key (wanted_by d) (EventKey t us)) (asks_for questions.Event t us) ds fires-is
