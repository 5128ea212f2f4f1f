-- A report that looks at some declarations tells the faults of all.
use Rattle.cdi_report.proofs.Common.{◌≡◌, Bool, true, false, List, [], ◌∷◌, map, Some, None, refl, sym, ap, ◌∙◌, inl, inr, AllByRecursion}
use Rattle.cdi_report.proofs.Common.{cases_Bool, false≢true, or_left, or_right, same_key, Decl, DeclKey, PointDecl, ◌||◌, key_of, ChainKey}
use Rattle.cdi_report.proofs.Common.{Key, wanted_by, not, ◌&&◌, length, list_any, filter, arith, contains, Promised, is_changed, is_open, AreSettled, or_parts, changed_of}
use Rattle.cdi_report.proofs.Common.{HaveNoneTogether, Unsettled, AreDistinct, each-found, IsFound, and_from, open_of, list_all, has_key}
use Rattle.cdi_report.proofs.Common.{is_wanted, AskForRest, EvaluatesSome, faults_of, has_faults, AreChainsKnown, IsKnown, each-passes}
use Rattle.cdi_report.proofs.Common.{flat_map, all-weaker, all-filter}
use Rattle.std.specs.List.{All}
use Rattle.std.proofs.{Common.nat_lt, lemmas.Bool.ltb-false}
use Rattle.base_lists.proofs.Flat.{flat-filter}
use Rattle.cdi_model.specs.DeclKey.{same_key_equiv as same_decl_equiv}
use Rattle.cdi_observe.proofs.{KeyLemmas.all-pass, KeptLemmas.evaluated-apart, KeptLemmas.knows_wanted}
use Rattle.cdi_observe.specs.{Kept.Kept, Kept.evaluated, Wanted.wanted}
use Rattle.cdi_observe.proofs.FoundLemmas.{all-lent, found-any}
use Rattle.cdi_report.proofs.TogetherLemmas.{together-filtered}

-- ---- lists of which some are left out

-- one of those that are left passes a test that none of the others passes
any-filter : {A : Type 0} (p f : A → Bool) (xs : List A) → AllByRecursion (λ x. p x ≡ false → f x ≡ false) xs → list_any f xs ≡ true
    → list_any f (filter p xs) ≡ true
any-filter p f [] all some = some
any-filter p f (x ∷ xs) all some = grind (arith, any-filter p f xs all.1, all.1, all.0, false≢true)

-- one that is found by a test on the list, and passes one more, is among those that are left
found-filter : (p f : Decl → Bool) (ds : List Decl) (d : Decl) → IsFound ds d → p d ≡ true → f d ≡ true → list_any f (filter p ds) ≡ true
found-filter p f [] d found passes holds = absurd (let no : None ≡ Some d = found in cc)
found-filter p f (e ∷ ds) d found passes holds = grind (arith, found-filter p f ds d, false≢true)

-- ---- what is known

pub all-still : (knows more : Key → Bool) (keys : List Key) → ((key : Key) → knows key ≡ true → more key ≡ true)
    → list_all knows keys ≡ true
    → list_all more keys ≡ true
all-still knows more keys still all = all-pass more keys (λ key has. still key (each-passes knows keys key all has))

-- all that a declaration asks for is wanted
asked-wanted : (ds : List Decl) (d : Decl) → IsFound ds d → (key : Key) → has_key (wanted_by d) key ≡ true → is_wanted ds key ≡ true
unfolding is_wanted
asked-wanted ds d found key has = found-any (λ e. has_key (wanted_by e) key) ds d found has

module _ (ds : List Decl) (knows : Key → Bool) (all : (key : Key) → is_wanted ds key ≡ true → knows key ≡ true) where
  chains-known : (ps : List PointDecl) → AllByRecursion (AreChainsKnown ds knows) ps
  chains-known [] = tt
  chains-known (p ∷ ps) = (λ id one place wants. all (ChainKey id.class place) wants, chains-known ps)

  is-known : (d : Decl) → IsFound ds d → IsKnown ds knows d
  is-known d found = grind (arith, all-pass, asked-wanted, chains-known)

-- ---- evaluations

pub some-still : (ds : List Decl) (old new : Kept) → old.keeps ≡ true → EvaluatesSome ds old new → (key : Key) → old.knows key ≡ true
    → new.knows key ≡ true
some-still ds old new keeps some key h = grind (arith, some.are, some.keys, some.wanted, some.apart, old.knows, evaluated-apart)

after-all : (ds : List Decl) (old new : Kept) → old.keeps ≡ true → new ≡ evaluated ds (wanted ds) old → (key : Key)
    → new.knows key ≡ (old.knows key || is_wanted ds key)
after-all ds old new keeps is key = ap (λ (kept : Kept). kept.knows key) (is ∙ knows_wanted ds old keeps)

pub all-knows : (ds : List Decl) (old new : Kept) → old.keeps ≡ true → new ≡ evaluated ds (wanted ds) old → (key : Key)
    → is_wanted ds key ≡ true → new.knows key ≡ true
all-knows ds old new keeps is key wants = after-all ds old new keeps is key ∙ or_right (old.knows key) (is_wanted ds key) wants

pub all-knew : (ds : List Decl) (old new : Kept) → old.keeps ≡ true → new ≡ evaluated ds (wanted ds) old → (key : Key)
    → old.knows key ≡ true → new.knows key ≡ true
all-knew ds old new keeps is key h = after-all ds old new keeps is key ∙ or_left (old.knows key) (is_wanted ds key) h

-- ---- settled declarations

chains-still : (ds : List Decl) (knows more : Key → Bool) (ps : List PointDecl) → ((key : Key) → knows key ≡ true → more key ≡ true)
    → AllByRecursion (AreChainsKnown ds knows) ps → AllByRecursion (AreChainsKnown ds more) ps
chains-still ds knows more [] still all = tt
chains-still ds knows more (p ∷ ps) still all = grind (arith, chains-still ds knows more ps still all.1, all.0, all.1)

-- they are where more is known
pub settled-still : (ds : List Decl) (knows more : Key → Bool) (book : List Promised) (u : Unsettled)
    → ((key : Key) → knows key ≡ true → more key ≡ true) → AreSettled ds knows book u → AreSettled ds more book u
settled-still ds knows more book u still settled = grind (arith, settled.known, settled.faultless, settled.apart, all-still, chains-still)

none-of-length : {A : Type 0} (xs : List A) → nat_lt 0 (length xs) ≡ false → xs ≡ []
none-of-length [] e = refl
none-of-length (x ∷ xs) e = absurd (omega (arith, ltb-false 0 (length (x ∷ xs)) e))

module _ (ds : List Decl) (knows : Key → Bool) (book : List Promised) (u : Unsettled) (settled : AreSettled ds knows book u) where
  abbrev stands-open : Decl → Bool
  stands-open d = is_open u (key_of d)

  -- the open ones ask for all that is not known
  pub rest-asked : AreDistinct ds → AskForRest ds knows (open_of u ds)
  unfolding is_wanted
  rest-asked distinct key wants new = any-filter stands-open (λ d. has_key (wanted_by d) key) ds
      (all-weaker (IsFound ds) (λ d. stands-open d ≡ false → has_key (wanted_by d) key ≡ false) ds
      (λ d found closed. elim (cases_Bool (has_key (wanted_by d) key)) [
        | inl has ↦ absurd (false≢true (sym new ∙ each-passes knows (wanted_by d) key (settled.known d found (or_parts (is_changed u (key_of d)) _ closed).0).keys has))
        | inr none ↦ none
      ])
      (each-found ds distinct)) wants

  -- and have all faults of declarations
  pub tells-all : AreDistinct ds → flat_map (faults_of ds book) (open_of u ds) ≡ flat_map (faults_of ds book) ds
  tells-all distinct = flat-filter (faults_of ds book) stands-open ds
      (all-weaker (IsFound ds) (λ d. stands-open d ≡ false → faults_of ds book d ≡ []) ds
      settled.faultless
      (each-found ds distinct))

  -- those that have none are settled where all is known
  pub settled-now : (more : Key → Bool) (now : Unsettled) → ((key : Key) → is_wanted ds key ≡ true → more key ≡ true)
      → ((k : DeclKey) → is_changed now k ≡ false)
      → ((k : DeclKey) → contains same_key now.faulty k
      ≡ list_any (λ d. same_key (key_of d) k && has_faults ds book d) (open_of u ds))
      → HaveNoneTogether ds ds now.anew → AreSettled ds more book now
  settled-now more now all same are together = record {
    known = λ d found unchanged. is-known ds more all d found;
    faultless = λ d found closed. elim (cases_Bool (stands-open d)) [
      | inl opened ↦ none-of-length (faults_of ds book d) (elim (cases_Bool (has_faults ds book d)) [
        | inl some ↦ absurd (false≢true (sym closed
            ∙ ap (λ b. b || contains same_key now.faulty (key_of d)) (same (key_of d))
            ∙ are (key_of d)
            ∙ found-filter stands-open (λ e. same_key (key_of e) (key_of d) && has_faults ds book e) ds d found opened
            (and_from (same_key (key_of d) (key_of d)) (has_faults ds book d) (same_decl_equiv.refl (key_of d)) some)))
        | inr none ↦ none
      ])
      | inr shut ↦ settled.faultless d found shut
    ];
    apart = together-filtered ds ds now.anew (λ d. not (is_changed now (key_of d))) together;
  }

-- the open ones are there
pub open-found : {P : Type 0} (value : P → Decl) (ps : List P) (ds : List Decl) (u : Unsettled) → AreDistinct ds
    → map value ps ≡ open_of u ds
    → All (λ p. IsFound ds (value p)) ps
open-found value ps ds u distinct are = all-lent (IsFound ds) value ps (open_of u ds) are
    (all-filter (IsFound ds) (λ d. is_open u (key_of d)) ds (each-found ds distinct))

-- those of them that may have changed are there too
pub changed-found : {P : Type 0} (value : P → Decl) (ps : List P) (ds : List Decl) (u : Unsettled) → AreDistinct ds
    → map value ps ≡ changed_of u ds
    → All (λ p. IsFound ds (value p)) ps
changed-found value ps ds u distinct are = all-lent (IsFound ds) value ps (changed_of u ds) are
    (all-filter (IsFound ds) (λ d. is_changed u (key_of d)) ds (each-found ds distinct))
