-- Turns that are taken over one after another, and those of some beans.
use Rattle.cdi_index.proofs.Common.{◌≡◌, List, [], ◌∷◌, map, Option, refl, ap, list_any, DeclKey, same_key, key_exact, Effective, ◌++◌}
use Rattle.cdi_index.proofs.Common.{cond, same_key_equiv, Turn, turned, arith}

abbrev pub RecordsOf : Type 0
RecordsOf = DeclKey → Option (List Effective)

turned-push : (ts : List Turn) (t : Turn) (f : RecordsOf) (k : DeclKey)
    → turned (ts ++ t ∷ []) f k ≡ turned ts (λ l. cond (same_key t.key l) t.records (f l)) k
turned-push [] t f k = refl
turned-push (u ∷ ts) t f k = ap (λ o. cond (same_key u.key k) u.records o) (turned-push ts t f k)

turned-same : (ts : List Turn) (f g : RecordsOf) → ((k : DeclKey) → f k ≡ g k) → (k : DeclKey) → turned ts f k ≡ turned ts g k
turned-same [] f g h k = h k
turned-same (t ∷ ts) f g h k = ap (λ o. cond (same_key t.key k) t.records o) (turned-same ts f g h k)

-- the last turn is taken over
pub turned-next : (ts rest : List Turn) (t : Turn) (f g : RecordsOf) → ts ≡ rest ++ t ∷ []
    → ((k : DeclKey) → g k ≡ cond (same_key t.key k) t.records (f k)) → (k : DeclKey) → turned rest g k ≡ turned ts f k
turned-next ts rest t f g is made k = grind (arith, t.key, t.records, turned-same, turned-push)

abbrev pub turn_to : RecordsOf → DeclKey → Turn
turn_to after k = record { key = k; records = after k }

-- the turns of some beans
pub turned-all : (after : RecordsOf) (ks : List DeclKey) (f : RecordsOf) (k : DeclKey)
    → turned (map (turn_to after) ks) f k ≡ cond (list_any (same_key k) ks) (after k) (f k)
turned-all after [] f k = refl
turned-all after (l ∷ ks) f k = grind (arith, turned-all after ks f k, key_exact, same_key_equiv.symm)
