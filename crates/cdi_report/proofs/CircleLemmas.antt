-- Edits that avoid all to which a name leads leave whether it leads back to itself.
use Rattle.cdi_report.proofs.Common.{◌≡◌, ℕ, Bool, true, List, [], None, refl, sym, ap, ◌∙◌, key_at, is_among, Decl, DeclKey, length, has}
use Rattle.cdi_report.proofs.Common.{suc, leads, Chain, Kind, arith}
use Rattle.std.specs.Bool.{Decides}
use Rattle.std.proofs.lemmas.Bool.Decides.{same_from_decides, Decides-like}
use Rattle.cdi_model.specs.Edits.{others}
use Rattle.cdi_model.proofs.EditLemmas.{same_decl}
use Rattle.cdi_match.proofs.Chains.{chain_back, chain_over, reaches_from_one_decides, AgreeFrom}
use Rattle.cdi_match.proofs.Listed.{length-names_of, listed, listed_only, names_of, Lists}
use Rattle.cdi_match.specs.Chain.{reaches_from_one, ChainFromOne}

module _ (kind : Kind) (lists : Lists) (none : lists None ≡ []) (keys : List DeclKey) (ds es : List Decl) (x : List ℕ)
    (same : others keys ds ≡ others keys es)
    (avoids : (u : List ℕ) → is_among keys (key_at kind u) ≡ true → Chain (leads (listed kind lists ds)) x u → ⊥) where
  abbrev before : List ℕ → List (List ℕ)
  before = listed kind lists ds

  abbrev after : List ℕ → List (List ℕ)
  after = listed kind lists es

  agree : AgreeFrom before after x
  agree u c = grind (arith, same_decl)

  agree-behind : (w : List ℕ) → has (before x) w ≡ true → AgreeFrom before after w
  agree-behind w edge u c = agree u (suc c.0, (w, edge, c.1))

  first : before x ≡ after x
  first = agree x (0, refl)

  leads-back : List Decl → Bool
  leads-back ls = reaches_from_one (length ls) (listed kind lists ls) (listed kind lists ls x) x

  decided : (ls : List Decl) → Decides (leads-back ls) (ChainFromOne (leads (listed kind lists ls)) (listed kind lists ls x) x)
  unfolding leads-back
  decided ls = reaches_from_one_decides (names_of ls) (listed kind lists ls) (listed_only kind lists none ls) (length ls)
      (length-names_of ls) (listed kind lists ls x) x

  over : ChainFromOne (leads before) (before x) x → ChainFromOne (leads after) (after x) x
  over c = (c.0, ap (λ names. has names c.0) (sym first) ∙ c.1, chain_over before after c.0 (agree-behind c.0 c.1) x c.2)

  back : ChainFromOne (leads after) (after x) x → ChainFromOne (leads before) (before x) x
  back c =
      let edge : has (before x) c.0 ≡ true = ap (λ names. has names c.0) first ∙ c.1 in
      (c.0, edge, chain_back before after c.0 (agree-behind c.0 edge) x c.2)

  pub circle-kept : reaches_from_one (length es) after (after x) x ≡ reaches_from_one (length ds) before (before x) x
  unfolding leads-back
  circle-kept = same_from_decides (leads-back es) (leads-back ds) (decided es) (Decides-like (leads-back ds) over back (decided ds))
