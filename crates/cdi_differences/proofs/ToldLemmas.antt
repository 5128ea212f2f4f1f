-- What is told of two tables.
use Rattle.std.proofs.Common.{◌≡◌, ℕ, Bool, true, false, cond, ◌&&◌, ◌||◌, List, [], ◌∷◌, filter, map, Option, Some, None, is_some, Result}
use Rattle.std.proofs.Common.{Ok, Err, IfOk, String, string_bytes, refl, sym, ap, ◌∙◌, subst}
use Rattle.std.specs.{Cmp.Lexicographic.bytes_decides, HashMap.get_by_text, HashMap.keys, List.list_any, Option.option_map, Str.bytes_eq}
use Rattle.std.proofs.{lemmas.List.Folds.list_any-append, lemmas.Map.Made.is_some-lookup, Math.Bool.or-false}
use Rattle.indexmap.specs.IndexMap.{IndexMap}
use Rattle.base_options.proofs.Booleans.{and-false}
use Rattle.cdi_differences.specs.Differences.{compared, differing, differs, is_new, Compared}
use Rattle.cdi_differences.specs.Laws.{TellsWhatDiffers}

-- what the two filters find of a key
settled : {Z : Type 0} (key : List ℕ) (x y : Option (String Z))
    → let c : Compared = (key, option_map string_bytes x, option_map string_bytes y) in
    ((is_some x && differs c) || (is_some y && is_new c)) ≡ differs c
settled key None None = refl
settled key None (Some y) = refl
settled key (Some x) None = refl
settled key (Some x) (Some y) = or-false (differs (key, Some (string_bytes x), Some (string_bytes y)))

module _ {Y Z S : Type 0} (before after : IndexMap (String Y) (String Z) S) where
  -- a filter of keys with their texts finds a key
  found : (p : Compared → Bool) (key : List ℕ) (ks : List (String Y))
      → list_any (λ c. bytes_eq key c.0) (filter p (map (λ k. compared before after (string_bytes k)) ks))
      ≡ (list_any (λ k. bytes_eq key (string_bytes k)) ks && p (compared before after key))
  found p key [] = refl
  found p key (k ∷ ks) = by (p (compared before after (string_bytes k))) refl (bytes_eq key (string_bytes k)) refl (found p key ks)
    where
      rest : List Compared
      rest = filter p (map (λ k. compared before after (string_bytes k)) ks)

      by : (b : Bool) → p (compared before after (string_bytes k)) ≡ b → (e : Bool) → bytes_eq key (string_bytes k) ≡ e
          → list_any (λ c. bytes_eq key c.0) rest ≡ (list_any (λ k. bytes_eq key (string_bytes k)) ks && p (compared before after key))
          → list_any (λ c. bytes_eq key c.0) (cond b (compared before after (string_bytes k) ∷ rest) rest)
          ≡ ((e || list_any (λ k. bytes_eq key (string_bytes k)) ks) && p (compared before after key))
      by true is true same more = ap (λ e. e || list_any (λ c. bytes_eq key c.0) rest) same
          ∙ sym (ap (λ n. p (compared before after n)) ((bytes_decides key (string_bytes k)).0 same) ∙ is)
      by true is false same more = ap (λ e. e || list_any (λ c. bytes_eq key c.0) rest) same ∙ more
      by false is true same more =
          let gone = ap (λ n. p (compared before after n)) ((bytes_decides key (string_bytes k)).0 same) ∙ is in
          more ∙ ap (λ q. list_any (λ k. bytes_eq key (string_bytes k)) ks && q) gone
          ∙ and-false (list_any (λ k. bytes_eq key (string_bytes k)) ks)
          ∙ sym gone
      by false is false same more = more

  pub tells_what_differs : TellsWhatDiffers before after (differing before after)
  tells_what_differs key =
      list_any-append (λ c. bytes_eq key c.0) (filter differs (map (λ k. compared before after (string_bytes k)) (keys before)))
      (filter is_new (map (λ k. compared before after (string_bytes k)) (keys after)))
      ∙ ap (λ b. b || list_any (λ c. bytes_eq key c.0) (filter is_new (map (λ k. compared before after (string_bytes k)) (keys after))))
      (found differs key (keys before)
      ∙ ap (λ b. b && differs (compared before after key)) (sym (is_some-lookup (λ k. bytes_eq key (string_bytes k)) before.entries)))
      ∙ ap (λ b. (is_some (get_by_text before key) && differs (compared before after key)) || b) (found is_new key (keys after)
      ∙ ap (λ b. b && is_new (compared before after key)) (sym (is_some-lookup (λ k. bytes_eq key (string_bytes k)) after.entries)))
      ∙ settled key (get_by_text before key) (get_by_text after key)

  -- the same of a list that may not be there
  pub told : {E X : Type 0} (shows : X → List Compared) (r : Result X E) → IfOk r (λ list. shows list ≡ differing before after)
      → IfOk r (λ list. TellsWhatDiffers before after (shows list))
  told shows (Ok list) is = subst (TellsWhatDiffers before after) (sym is) tells_what_differs
  told shows (Err e) is = tt
