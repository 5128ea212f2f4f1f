-- Which kept chains an edit takes away.
use Rattle.std.specs.Prelude.{◌≡◌, ℕ, Bool, true, false, not, ◌&&◌, ◌||◌, List, filter, map, is_some, Some, Ok}
use Rattle.std.specs.List.{list_any}
use Rattle.std.specs.Option.{option_map_or, option_to_list}
use Rattle.std.specs.Str.{bytes_eq}
use Rattle.cdi_model.specs.Quals.{name_of_use}
use Rattle.cdi_model.specs.declared.decl.Decl.{Decl}
use Rattle.cdi_model.specs.declared.decl.InterceptorDecl.{InterceptorDecl}
use Rattle.cdi_model.specs.declared.place.BeanPlace.{BeanPlace}
use Rattle.cdi_model.specs.declared.quals.Qual.{Qual}
use Rattle.cdi_effective.specs.Disposers.{find_bean}
use Rattle.cdi_intercept.specs.Chains.{as_interceptor, chain_of, is_enabled}
use Rattle.cdi_intercept.specs.Sets.{has_place}
use Rattle.cdi_memo.specs.Answers.{answer, Answers}
use Rattle.cdi_observe.specs.Keys.{ChainKey, same_place}
use Rattle.cdi_observe.specs.Wanted.{is_wanted}
use Rattle.cdi_postings.specs.declared.word.Word.{Word}
use Rattle.cdi_postings.specs.declared.word.Reason.TheVariants as reasons
use Rattle.cdi_postings.specs.Words.{word_at}
use Rattle.cdi_seen.specs.Touched.{is_touched}
use Rattle.cdi_live.specs.declared.chain_gone.GoneChain.{GoneChain}

-- the chain is among these
abbrev pub is_gone_chain : List GoneChain → List ℕ → BeanPlace → Bool
is_gone_chain list class place = list_any (λ g. bytes_eq class g.class && same_place place g.place) list

-- the chains that are kept
abbrev pub Chains : Type 0
Chains = Answers BeanPlace (List (List ℕ))

abbrev pub is_kept_chain : Chains → List ℕ → BeanPlace → Bool
is_kept_chain m class place = is_some (answer same_place m class place)

-- the bean of the class has the place
abbrev pub is_place_of : List Decl → List ℕ → BeanPlace → Bool
is_place_of ds class place = option_map_or (λ b. has_place b place) (find_bean class ds) false

-- a chain is not kept after edits: there is no such place any more, or it sees something else
abbrev pub goes : List Decl → List Decl → List ℕ → BeanPlace → Bool
goes ds es class place = not (is_place_of es class place) || is_touched ds es (ChainKey class place)

-- Such a place is there for each kept chain.
abbrev pub ArePlaces : List Decl → Chains → Type 0
ArePlaces ds m = (class : List ℕ) (place : BeanPlace) → is_kept_chain m class place ≡ true → is_wanted ds (ChainKey class place) ≡ true

-- Of the kept chains exactly those are gone that are not wanted any more, or are touched.
abbrev pub AreGoneChains : List Decl → List Decl → Chains → List GoneChain → Type 0
AreGoneChains ds es m list = (class : List ℕ) (place : BeanPlace) → is_kept_chain m class place ≡ true
    → is_gone_chain list class place ≡ not (is_wanted es (ChainKey class place) && not (is_touched ds es (ChainKey class place)))

-- Each kept chain is that of its place.
abbrev pub AreRightChains : List Decl → Chains → Type 0
AreRightChains ds m = (class : List ℕ) (place : BeanPlace) (names : List (List ℕ)) → answer same_place m class place ≡ Some names
    → chain_of ds class place ≡ Ok names

-- ---- the interceptors that are seen

-- the words of the interceptors that have a binding of one of the types of these
abbrev pub words_bound : List Qual → List Word
words_bound us = map (λ u. word_at reasons.Intercepts (name_of_use u)) us

-- the enabled interceptor that a declaration is
abbrev pub enabled_in : Decl → List InterceptorDecl
enabled_in d = filter is_enabled (option_to_list (as_interceptor d))
