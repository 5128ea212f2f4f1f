-- The observer methods of an event rest on those which observe a type of it, their filled qualifiers, and the declarations of its own.
use Rattle.cdi_observe.proofs.Common.{◌≡◌, ℕ, Bool, true, false, cond, ◌&&◌, ◌||◌, List, [], ◌∷◌, ◌++◌, map, refl, sym, ap, ◌∙◌, list_any}
use Rattle.cdi_observe.proofs.Common.{bytes_eq, Decl, Qual, Effective, filter, list_all, Observer, is_notified, observer_id, one_text}
use Rattle.std.proofs.Common.{codes, Option}
use Rattle.std.specs.{Map.keys_of, Option.option_eq}
use Rattle.cdi_model.specs.declared.decl.QualifierDecl.{QualifierDecl}
use Rattle.cdi_model.specs.declared.decl.UseKind.TheVariants as use_kinds
use Rattle.cdi_match.specs.Covering.{agree_at, covers, covers_by, given_name, is_binding}
use Rattle.cdi_match.specs.Filling.{fill, find_qualifier, members_of, value_of}
use Rattle.cdi_match.specs.Filled.{FilledUse, filled}
use Rattle.cdi_observe.specs.Observers.{event_has, notified, observing, resolved}
use Rattle.cdi_observe.specs.Sees.{NotifiedRestOnSeen, SeenObserver, SeenOfEvent, event_sees, seen_observer}
use Rattle.cdi_observe.specs.declared.observers.ObserverId.{ObserverId}

-- ---- covering by filled uses

abbrev covers_filled : Option QualifierDecl → Qual → FilledUse → Bool
covers_filled declared have want =
    bytes_eq have.name want.name && (option_eq bytes_eq (given_name have.arguments) want.given
    && list_all (agree_at (is_binding (members_of declared)) (λ name. value_of name (fill (members_of declared) have))
    (λ name. value_of name want.values))
    (keys_of (fill (members_of declared) have) ++ keys_of want.values))

-- the other is filled by the same declaration, as they have one name where the one covers it
covers-filled : (ds : List Decl) (have want : Qual)
    → covers ds use_kinds.Qualifier have want ≡ covers_filled (find_qualifier have.name ds) have (filled ds use_kinds.Qualifier want)
unfolding covers_by
covers-filled ds have want = by (bytes_eq have.name want.name) refl
  where
    declared : Option QualifierDecl
    declared = find_qualifier have.name ds

    agree_where : Option QualifierDecl → Bool
    agree_where others =
        option_eq bytes_eq (given_name have.arguments) (given_name want.arguments)
        && list_all (agree_at (is_binding (members_of declared))
        (λ name. value_of name (fill (members_of declared) have)) (λ name. value_of name (fill (members_of others) want)))
        (keys_of (fill (members_of declared) have) ++ keys_of (fill (members_of others) want))

    by : (b : Bool) → bytes_eq have.name want.name ≡ b
        → covers ds use_kinds.Qualifier have want ≡ covers_filled declared have (filled ds use_kinds.Qualifier want)
    by true e = ap (λ name. bytes_eq have.name want.name && agree_where (find_qualifier name ds)) (one_text have.name want.name e)
    by false e = rw e refl

-- the first declaration is that of the first use, and so on
abbrev is_covered : List (Option QualifierDecl) → List Qual → FilledUse → Bool
is_covered [] quals want = false
is_covered (declared ∷ more) [] want = false
is_covered (declared ∷ more) (have ∷ quals) want = covers_filled declared have want || is_covered more quals want

any-filled : (ds : List Decl) (quals : List Qual) (want : Qual)
    → list_any (λ have. covers ds use_kinds.Qualifier have want) quals
    ≡ is_covered (map (λ u. find_qualifier u.name ds) quals) quals (filled ds use_kinds.Qualifier want)
any-filled ds [] want = refl
any-filled ds (have ∷ quals) want = rw (covers-filled ds have want, any-filled ds quals want) refl

-- ---- which of the observer methods that are seen are notified

abbrev has_filled : List (Option QualifierDecl) → List Qual → FilledUse → Bool
has_filled declared quals want = bytes_eq want.name (codes "Any") || is_covered declared quals want

abbrev is_seen_notified : List (Option QualifierDecl) → List Qual → SeenObserver → Bool
is_seen_notified declared quals o = list_all (has_filled declared quals) o.qualifiers

abbrev declared_in : List Decl → List Qual → List (Option QualifierDecl)
declared_in ds quals = map (λ u. find_qualifier u.name ds) quals

all-filled : (ds : List Decl) (quals wanted : List Qual)
    → list_all (event_has ds quals) wanted ≡ list_all (has_filled (declared_in ds quals) quals) (map (filled ds use_kinds.Qualifier) wanted)
all-filled ds quals [] = refl
all-filled ds quals (want ∷ wanted) = rw (any-filled ds quals want, all-filled ds quals wanted) refl

ids-seen : (ds : List Decl) (quals : List Qual) (os : List Observer)
    → map observer_id (filter (is_notified ds quals) os)
    ≡ map (λ o. o.id) (filter (is_seen_notified (declared_in ds quals) quals) (map (seen_observer ds) os))
ids-seen ds quals [] = refl
ids-seen ds quals (o ∷ os) =
    ap (λ (b : Bool). map observer_id (cond b (o ∷ filter (is_notified ds quals) os) (filter (is_notified ds quals) os)))
    (all-filled ds quals o.method.qualifiers)
    ∙ by (is_seen_notified (declared_in ds quals) quals (seen_observer ds o)) (ids-seen ds quals os)
  where
    rest : List SeenObserver
    rest = filter (is_seen_notified (declared_in ds quals) quals) (map (seen_observer ds) os)

    by : (b : Bool) → map observer_id (filter (is_notified ds quals) os) ≡ map (λ o. o.id) rest
        → map observer_id (cond b (o ∷ filter (is_notified ds quals) os) (filter (is_notified ds quals) os))
        ≡ map (λ o. o.id) (cond b (seen_observer ds o ∷ rest) rest)
    by true more = ap (λ ids. observer_id o ∷ ids) more
    by false more = more

abbrev ids_of_seen : SeenOfEvent → List Qual → List ObserverId
ids_of_seen seen quals = map (λ o. o.id) (filter (is_seen_notified seen.declared quals) seen.observers)

notified-seen : (ds : List Decl) (beans : List Effective) (t : List ℕ) (quals : List Qual)
    → notified ds beans t quals ≡ ids_of_seen (event_sees ds beans t quals) quals
unfolding resolved
notified-seen ds beans t quals = ids-seen ds quals (observing ds beans t)

-- where the same is seen, the same observer methods are notified
pub notified_rest_on_seen : NotifiedRestOnSeen
notified_rest_on_seen ds es beans others t quals same =
    notified-seen ds beans t quals ∙ ap (λ seen. ids_of_seen seen quals) same ∙ sym (notified-seen es others t quals)
