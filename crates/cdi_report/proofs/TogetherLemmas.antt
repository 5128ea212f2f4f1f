-- Declarations that have no faults together.
use Rattle.cdi_report.proofs.Common.{not-true, ◌≡◌, Bool, true, false, cond, List, [], ◌∷◌, ◌++◌, refl, sym, ap, subst, ◌∙◌, inl, inr}
use Rattle.cdi_report.proofs.Common.{AllByRecursion, cases_Bool, false≢true, or_left, Decl, DeclKey, key_of, not, filter, unchanged_of, is_changed, is_open}
use Rattle.cdi_report.proofs.Common.{HaveNoneTogether, Unsettled, AreDistinct, IsAlike, AreNamed, beans, changed_of, list_all, is_chainless}
use Rattle.cdi_report.proofs.Common.{is_nameless, is_needless, faults_together, looks_at_all, Together, arith}
use Rattle.std.proofs.lemmas.Bool.{not_from_false}
use Rattle.cdi_validate.proofs.ChainlessLemmas.{no_twice_faults, twice_filtered, twice_stays, twice_whole}
use Rattle.cdi_validate.proofs.NamelessLemmas.{clash_filtered, clash_stays, clash_whole, no_name_faults}
use Rattle.cdi_validate.specs.{Among.HaveNoneAnew, Faults.circles, Faults.name_clashes, Faults.name_prefixes, Twice.specialized_twice}
use Rattle.cdi_validate.specs.Together.{HaveNoCircle, HaveNoClash, HaveNoneTwice}
use Rattle.cdi_validate.proofs.CirclelessLemmas.{circle_whole, no_circle_faults}
use Rattle.cdi_validate.proofs.CircleStayLemmas.{circle_filtered, circle_stays, named_outside}
use Rattle.cdi_report.specs.Settled.{IsSettledAnyway, LooksAtMore, MoreIsSettled}

-- ---- lists of which some are left out

-- what a second test leaves it leaves of what a first one does, where none of it fails that
pub filter-filter : {A : Type 0} (p q : A → Bool) (xs : List A) → ((x : A) → q x ≡ true → p x ≡ true) → filter q (filter p xs) ≡ filter q xs
filter-filter p q [] less = refl
filter-filter p q (x ∷ xs) less = grind (arith, filter-filter p q xs less, false≢true)

-- what holds of each that passes holds of those that are left
pub all-passed : {A : Type 0} (P : A → Type 0) (p : A → Bool) (xs : List A) → AllByRecursion (λ x. p x ≡ true → P x) xs
    → AllByRecursion P (filter p xs)
all-passed P p [] all = tt
all-passed P p (x ∷ xs) all = grind (arith, all-passed P p xs all.1, all.1, all.0)

-- ---- declarations

-- fewer have none together where more have none
pub together-filtered : (ds own : List Decl) (anew : Together) (p : Decl → Bool) → HaveNoneTogether ds own anew
    → HaveNoneTogether ds (filter p own) anew
together-filtered ds own anew p apart = record {
  names = λ known. clash_filtered ds own p (apart.names known);
  circles = λ known. ((apart.circles known).0, circle_filtered ds own p (apart.circles known).1);
  chains = λ known. twice_filtered ds own p (apart.chains known);
}

-- edits leave those alike that have none together
pub together-stay : (ds es : List Decl) (u : Unsettled) → AreDistinct ds → AreDistinct es → unchanged_of u ds ≡ unchanged_of u es
    → AllByRecursion (IsAlike ds es) (unchanged_of u es) → (AreNamed ds → AreNamed es) → HaveNoneTogether ds (unchanged_of u ds) u.anew
    → HaveNoneTogether es (unchanged_of u es) u.anew
together-stay ds es u before after same alike named apart = record {
  names = λ known. clash_stays ds es (unchanged_of u es) alike (subst (λ own. HaveNoClash ds own) same (apart.names known));
  circles = λ known.
      let p : Decl → Bool = λ d. not (is_changed u (key_of d)) in
      let names : AreNamed es = named (apart.circles known).0 in
      (names, circle_stays ds es p before after same alike (named_outside es p names) (apart.circles known).1);
  chains = λ known. twice_stays ds es (unchanged_of u es) alike (subst (λ own. HaveNoneTwice ds own) same (apart.chains known));
}

-- ---- where those at which it looks can have none together

-- each of those that pass a test passes another
passed-all : {A : Type 0} (p f : A → Bool) (xs : List A) → list_all f (filter p xs) ≡ true
    → AllByRecursion (λ x. not (p x) ≡ false → f x ≡ true) xs
passed-all p f [] all = tt
passed-all p f (x ∷ xs) all = grind (arith, passed-all p f xs, false≢true)

module _ (ds : List Decl) (u : Unsettled) where
  pub whole-names : HaveNoClash ds (unchanged_of u ds) → list_all (is_nameless ds) (changed_of u ds) ≡ true → HaveNoClash ds ds
  whole-names apart all = clash_whole ds ds (λ d. not (is_changed u (key_of d)))
      (passed-all (λ d. is_changed u (key_of d)) (is_nameless ds) ds all) apart

  pub whole-circles : AreDistinct ds → AreNamed ds → HaveNoCircle ds (unchanged_of u ds) → list_all (is_needless ds) (changed_of u ds) ≡ true
      → HaveNoCircle ds ds
  whole-circles distinct named apart all =
      circle_whole ds (λ d. not (is_changed u (key_of d))) distinct named
      (passed-all (λ d. is_changed u (key_of d)) (is_needless ds) ds all) apart

  pub whole-chains : HaveNoneTwice ds (unchanged_of u ds) → list_all (is_chainless ds) (changed_of u ds) ≡ true → HaveNoneTwice ds ds
  whole-chains apart all = twice_whole ds ds (λ d. not (is_changed u (key_of d)))
      (passed-all (λ d. is_changed u (key_of d)) (is_chainless ds) ds all) apart

-- ---- what is told of all

-- those that are passed over are none
all-passed-over : {A : Type 0} (looks : Bool) (more : List A) → (looks ≡ false → more ≡ []) → cond looks more [] ≡ more
all-passed-over looks more none = grind arith

-- where a report does not look at all for faults there are none
pub together-told : (ds : List Decl) (looked : Together) → AreDistinct ds → HaveNoneTogether ds ds looked
    → faults_together ds looked ≡ faults_together ds looks_at_all
together-told ds looked distinct apart =
    let of_circles = cond looked.circles (circles ds) [] in
    let of_chains = cond looked.chains (specialized_twice ds) [] in
    ap (λ fs. fs ++ of_circles ++ of_chains)
    (all-passed-over looked.names (name_clashes (beans ds) ++ name_prefixes (beans ds)) (λ passed.
    let none = no_name_faults ds (apart.names passed) in ap (λ fs. fs ++ name_prefixes (beans ds)) none.0 ∙ none.1))
    ∙ ap (λ fs. name_clashes (beans ds) ++ name_prefixes (beans ds) ++ fs ++ of_chains)
    (all-passed-over looked.circles (circles ds) (λ passed. no_circle_faults ds (apart.circles passed).1))
    ∙ ap (λ fs. name_clashes (beans ds) ++ name_prefixes (beans ds) ++ circles ds ++ fs)
    (all-passed-over looked.chains (specialized_twice ds) (λ passed. no_twice_faults ds distinct (apart.chains passed)))

-- nor is there any of which none is told
pub none-anew : (ds : List Decl) (looked found : Together) → HaveNoneTogether ds ds looked → HaveNoneAnew ds looked found
    → HaveNoneTogether ds ds found
none-anew ds looked found apart anew = record {
  names = λ none. elim (cases_Bool looked.names) [ inl looks ↦ anew.names.looked looks none | inr passed ↦ apart.names passed ];
  circles = λ none. elim (cases_Bool looked.circles) [ inl looks ↦ anew.circles.looked looks none | inr passed ↦ apart.circles passed ];
  chains = λ none. elim (cases_Bool looked.chains) [ inl looks ↦ anew.chains.looked looks none | inr passed ↦ apart.chains passed ];
}

-- ---- at what a report looks

module _ (less more : Unsettled) (looks : LooksAtMore less more) where
  -- where it looks at no more, it looked at no less
  known-before : (a b : Bool) → (a ≡ true → b ≡ true) → b ≡ false → a ≡ false
  known-before a b still e = grind (arith, false≢true)

  same-before : (k : DeclKey) → is_changed more k ≡ false → is_changed less k ≡ false
  same-before k = known-before (is_changed less k) (is_changed more k) (looks.changed k)

  unchanged-less : (ds : List Decl) → unchanged_of more ds ≡ filter (λ d. not (is_changed more (key_of d))) (unchanged_of less ds)
  unchanged-less ds = sym (filter-filter (λ d. not (is_changed less (key_of d))) (λ d. not (is_changed more (key_of d))) ds
      (λ d same. not_from_false (is_changed less (key_of d)) (same-before (key_of d) (not-true (is_changed more (key_of d)) same))))

  more-together : (ds : List Decl) → HaveNoneTogether ds (unchanged_of less ds) less.anew → HaveNoneTogether ds (unchanged_of more ds) more.anew
  more-together ds apart =
      let left : HaveNoneTogether ds (unchanged_of more ds) less.anew =
      subst (λ own. HaveNoneTogether ds own less.anew) (sym (unchanged-less ds))
      (together-filtered ds (unchanged_of less ds) less.anew (λ d. not (is_changed more (key_of d))) apart) in
      record {
        names = λ known. left.names (known-before less.anew.names more.anew.names looks.names known);
        circles = λ known. left.circles (known-before less.anew.circles more.anew.circles looks.circles known);
        chains = λ known. left.chains (known-before less.anew.chains more.anew.chains looks.chains known);
      }

pub more_is_settled : MoreIsSettled
more_is_settled ds knows book less more looks settled = record {
  known = λ d found same. settled.known d found (same-before less more looks (key_of d) same);
  faultless = λ d found shut. settled.faultless d found
      (known-before less more looks (is_open less (key_of d)) (is_open more (key_of d)) (looks.at (key_of d)) shut);
  apart = more-together less more looks ds settled.apart;
}

-- ---- where nothing is left

-- where a report looks at each declaration, and at all anew
pub settled_anyway : (u : Unsettled) → ((k : DeclKey) → is_changed u k ≡ true) → u.anew.names ≡ true → u.anew.circles ≡ true
    → u.anew.chains ≡ true → IsSettledAnyway u
settled_anyway u each names circles chains ds knows book = record {
  known = λ d found same. absurd (false≢true (sym same ∙ each (key_of d)));
  faultless = λ d found shut. absurd (false≢true (sym shut ∙ or_left (is_changed u (key_of d)) _ (each (key_of d))));
  apart = record {
    names = λ known. absurd (false≢true (sym known ∙ names));
    circles = λ known. absurd (false≢true (sym known ∙ circles));
    chains = λ known. absurd (false≢true (sym known ∙ chains));
  };
}
