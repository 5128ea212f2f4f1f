-- The names of enabled beans, each with the leaders of those that have it.
use Rattle.cdi_validate.proofs.Common.{◌≡◌, List, ◌++◌, sym, ap, ◌∙◌, append_assoc, flat_map, name_clashes, ◌<◌, ℕ, Bool, true, false, cond}
use Rattle.cdi_validate.proofs.Common.{[], ◌∷◌, length, map, filter, Ordering, Less, Equal, refl, AllByRecursion, IsStrictlySortedBy}
use Rattle.cdi_validate.proofs.Common.{tied_itself, enabled_names, ◌&&◌, subst, bytes_eq, filter-append, has, BTreeMap, keys_of, same_text}
use Rattle.cdi_validate.proofs.Common.{Some, append-nil, or_cases, Effective, Option, None, list_any, list_any-append, ◌+◌, one_text, fold}
use Rattle.cdi_validate.proofs.Common.{take, get_or, ⊎_elim, get, is_at, lookup, is_some, unwrap_or, slice_cmp, nat_cmp, or-false}
use Rattle.cdi_validate.proofs.Common.{flat_map-append, map-append, nat_list_cmp_total, fold-append, at_name, candidate, other_text}
use Rattle.cdi_validate.proofs.Common.{choice_of, chosen_by_name, is_named, leading, nobody, with_candidate, Leaders, is_ambiguous}
use Rattle.cdi_validate.proofs.Common.{enabled_name, leaders_in, AreLed, AreNames, take_more, arith, named}
use Rattle.cdi_resolve.proofs.LeaderLemmas.{leaders_choose}
use Rattle.cdi_faults.specs.declared.fault.Fault.TheVariants as faults_are
use Rattle.cdi_validate.proofs.NameLemmas.{enabled_names-are}
use Rattle.cdi_validate.specs.Names.{with_bean}

abbrev order : List ℕ → List ℕ → Ordering
order = slice_cmp nat_cmp

-- the bean is enabled and has the name
pub is_its_name : (b : Effective) (n : List ℕ) → (b.is_enabled && is_named n b.name) ≡ has (enabled_name b) n
is_its_name b n = grind (arith, b.is_enabled, b.name, or-false)

-- ---- the beans of a name, one after another

-- a bean that is added to those of its name
pub led-name : (at : List ℕ → Option Leaders) (bean : Effective) (name s : List ℕ) (led : Leaders) (between new : Option Leaders)
    → bean.is_enabled ≡ true → bean.name ≡ Some name → led ≡ with_candidate (unwrap_or (at name) nobody) (candidate bean)
    → between ≡ cond (bytes_eq name s) None (at s) → new ≡ cond (bytes_eq name s) (Some led) between
    → new ≡ with_bean (at s) bean s
led-name at bean name s led between new enabled is led-is gone put = put ∙ by (bytes_eq name s) refl
  where
    by : (b : Bool) → bytes_eq name s ≡ b → cond b (Some led) between ≡ with_bean (at s) bean s
    by true e = rw (enabled, is, e)
        (ap Some (led-is ∙ ap (λ n. with_candidate (unwrap_or (at n) nobody) (candidate bean)) (one_text name s e)))
    by false e = rw (enabled, is, e) (gone ∙ ap (λ b. cond b None (at s)) e)

leaders-push : (bs : List Effective) (b : Effective)
    → leaders_in (bs ++ b ∷ []) ≡ Some (with_candidate (unwrap_or (leaders_in bs) nobody) (candidate b))
leaders-push [] b = refl
leaders-push (c ∷ bs) b = grind (arith, map-append, fold-append)

led-next : (at at' : List ℕ → Option Leaders) (bs : List Effective) (b : Effective) → ((s : List ℕ) → at' s ≡ with_bean (at s) b s)
    → ((s : List ℕ) → at s ≡ leaders_in (named bs s)) → (s : List ℕ) → at' s ≡ leaders_in (named (bs ++ b ∷ []) s)
unfolding named
led-next at at' bs b put led s = grind (arith, b.is_enabled, b.name, filter-append, leaders-push, append-nil)

-- one more of some beans
pub led-more : (leaders leaders' : BTreeMap (List ℕ) Leaders) (before bs : List Effective) (i : ℕ) (b : Effective) → i < length bs
    → b ≡ get_or bs i b → ((s : List ℕ) → get order leaders' s ≡ with_bean (get order leaders s) b s)
    → AreLed leaders (before ++ take i bs) → AreLed leaders' (before ++ take (i + 1) bs)
led-more leaders leaders' before bs i b within at put led =
    let all : (before ++ take i bs) ++ b ∷ [] ≡ before ++ take (i + 1) bs = append_assoc before (take i bs) (b ∷ [])
    ∙ ap (λ bean. before ++ (take i bs ++ bean ∷ [])) at ∙ ap (λ more. before ++ more) (sym (take_more bs i b within)) in
    subst (AreLed leaders') all (led-next (get order leaders) (get order leaders') (before ++ take i bs) b put led)

-- ---- names by the grammar

pub names-both : (xs ys : List (List ℕ)) → AreNames xs → AreNames ys → AreNames (xs ++ ys)
names-both xs ys first second = λ s among. ⊎_elim (first s) (second s) (or_cases (has xs s) (has ys s)
    (sym (list_any-append (λ n. bytes_eq n s) xs ys) ∙ among))

pub names-more : (bs : List Effective) (i : ℕ) (b : Effective) → i < length bs → b ≡ get_or bs i b → AreNames (enabled_name b)
    → AreNames (flat_map enabled_name (take i bs)) → AreNames (flat_map enabled_name (take (i + 1) bs))
names-more bs i b within at own before =
    let all : flat_map enabled_name (take i bs) ++ enabled_name b ≡ flat_map enabled_name (take (i + 1) bs) =
    ap (λ names. flat_map enabled_name (take i bs) ++ names) (ap enabled_name at ∙ sym (append-nil (enabled_name (get_or bs i b))))
    ∙ sym (flat_map-append enabled_name (take i bs) (get_or bs i b ∷ [])) ∙ ap (flat_map enabled_name) (sym (take_more bs i b within)) in
    subst AreNames all (names-both (flat_map enabled_name (take i bs)) (enabled_name b) before own)

-- ---- the names that have leaders

-- they are those of enabled beans
some-led : (bs : List Effective) (s : List ℕ) → is_some (leaders_in (named bs s)) ≡ has (flat_map enabled_name bs) s
unfolding named
some-led [] s = refl
some-led (b ∷ bs) s = grind (arith, some-led bs s, b.is_enabled, b.name, is_its_name, list_any-append)

any-some : (s : List ℕ) (es : List (List ℕ × Leaders)) → list_any (is_at (order s)) (keys_of es) ≡ is_some (lookup (is_at (order s)) es)
any-some s [] = refl
any-some s (e ∷ es) = grind (arith, any-some s es, e.0, e.1)

pub keys-named : (bs : List Effective) (es : List (List ℕ × Leaders)) → IsStrictlySortedBy order (keys_of es)
    → ((s : List ℕ) → lookup (is_at (order s)) es ≡ leaders_in (named bs s)) → keys_of es ≡ enabled_names bs
keys-named bs es rise led =
    enabled_names-are bs (keys_of es) rise (λ s. any-some s es ∙ ap is_some (led s) ∙ some-led bs s)

-- ---- of which no bean is chosen

-- leaders that stand at a name are those of its beans
leads-named : (bs : List Effective) (n : List ℕ) (led : Leaders) → Some led ≡ leaders_in (named bs n) → leading led ≡ chosen_by_name bs n
unfolding chosen_by_name
leads-named bs n led at = by (named bs n) at
  where
    by : (own : List Effective) → Some led ≡ leaders_in own → leading led ≡ choice_of (map candidate own)
    by [] none = absurd (let other : Some led ≡ None = none in cc)
    by (b ∷ own) some = ap leading (let same : led ≡ fold with_candidate nobody (map candidate (b ∷ own)) = cc in same)
        ∙ leaders_choose (map candidate (b ∷ own))

less-apart : (x y : List ℕ) → y ≡ x → order x y ≡ Less → ⊥
less-apart x y same less = let no : Less ≡ Equal = sym less ∙ ap (order x) same ∙ tied_itself nat_list_cmp_total x in cc

-- each entry is found by its key
found-later : {V : Type 0} (e : List ℕ × V) (es more : List (List ℕ × V)) → AllByRecursion (λ k. order e.0 k ≡ Less) (keys_of more)
    → AllByRecursion (λ f. lookup (is_at (order f.0)) es ≡ Some f.1) more
    → AllByRecursion (λ f. lookup (is_at (order f.0)) (e ∷ es) ≡ Some f.1) more
found-later e es [] above all = tt
found-later e es (f ∷ more) above all =
    grind (arith, found-later e es more above.1 all.1, e.1, f.0, e.0, above.0, all.0, above.1, all.1, at_name, other_text, less-apart)

pub found-each : {V : Type 0} (es : List (List ℕ × V)) → IsStrictlySortedBy order (keys_of es)
    → AllByRecursion (λ e. lookup (is_at (order e.0)) es ≡ Some e.1) es
unfolding IsStrictlySortedBy
found-each [] rise = tt
found-each (e ∷ es) rise = (
  ap (λ b. cond b (Some e.1) (lookup (is_at (order e.0)) es)) (at_name e.0 e.0 ∙ same_text e.0 e.0 refl),
  found-later e es es rise.0 (found-each es rise.1),
)

clashes-each : (bs : List Effective) (es : List (List ℕ × Leaders)) → AllByRecursion (λ e. leading e.1 ≡ chosen_by_name bs e.0) es
    → map (λ e. faults_are.NameClash e.0) (filter (λ e. is_ambiguous (leading e.1)) es)
    ≡ map faults_are.NameClash (filter (λ n. is_ambiguous (chosen_by_name bs n)) (keys_of es))
clashes-each bs [] all = refl
clashes-each bs (e ∷ es) all = grind (arith, clashes-each bs es all.1, all.0, e.0, all.1)

each-leads : (bs : List Effective) (es more : List (List ℕ × Leaders))
    → ((s : List ℕ) → lookup (is_at (order s)) es ≡ leaders_in (named bs s))
    → AllByRecursion (λ e. lookup (is_at (order e.0)) es ≡ Some e.1) more → AllByRecursion (λ e. leading e.1 ≡ chosen_by_name bs e.0) more
each-leads bs es [] led all = tt
each-leads bs es (e ∷ more) led all = (leads-named bs e.0 e.1 (sym all.0 ∙ led e.0), each-leads bs es more led all.1)

-- so the names whose leaders leave no choice are those that clash
pub clashes-led : (bs : List Effective) (es : List (List ℕ × Leaders)) → IsStrictlySortedBy order (keys_of es)
    → ((s : List ℕ) → lookup (is_at (order s)) es ≡ leaders_in (named bs s))
    → map (λ e. faults_are.NameClash e.0) (filter (λ e. is_ambiguous (leading e.1)) es) ≡ name_clashes bs
clashes-led bs es rise led =
    clashes-each bs es (each-leads bs es es led (found-each es rise))
    ∙ ap (λ names. map faults_are.NameClash (filter (λ n. is_ambiguous (chosen_by_name bs n)) names)) (keys-named bs es rise led)
