-- What a declaration names, one by one.
use Rattle.cdi_model.proofs.Common.{◌≡◌, List, [], ◌∷◌, ◌++◌, refl, ap, ◌∙◌, flat_map, append_assoc}
use Rattle.cdi_model.specs.Mentions.{Mention}

-- ---- methods of a bean

-- where nothing stands before, what begins with a method goes on behind it
pub any-first : (before all begun now body rest : List Mention) (first : Mention) → before ≡ [] → all ≡ first ∷ (body ++ rest)
    → begun ≡ body → now ≡ rest → before ++ all ≡ first ∷ (begun ++ now)
any-first before all begun now body rest first none is same behind = rw (none, is, same, behind) refl

-- the first of a list stands before the others of it
pub listed-first : {A : Type 0} (f : A → List Mention) (xs ys : List A) (x : A) → xs ≡ x ∷ ys → flat_map f xs ≡ f x ++ flat_map f ys
listed-first f xs ys x is = rw is refl

-- an empty list gives nothing
pub none-listed : {A : Type 0} (f : A → List Mention) (xs : List A) → xs ≡ [] → flat_map f xs ≡ []
none-listed f xs none = rw none refl

-- some before three, and before four
before-three : (body p d o : List Mention) → body ++ p ++ d ++ o ≡ body ++ (p ++ d ++ o)
before-three body p d o = ap (λ l. l ++ o) (append_assoc body p d) ∙ append_assoc body (p ++ d) o

before-four : (body m p d o : List Mention) → body ++ m ++ p ++ d ++ o ≡ body ++ (m ++ p ++ d ++ o)
before-four body m p d o = ap (λ l. l ++ d ++ o) (append_assoc body m p) ∙ before-three body (m ++ p) d o

pub method-first : (m p d o body others : List Mention) (first : Mention) → m ≡ first ∷ (body ++ others)
    → m ++ p ++ d ++ o ≡ first ∷ (body ++ (others ++ p ++ d ++ o))
method-first m p d o body others first is = rw is (ap (λ l. first ∷ l) (before-four body others p d o))

pub producer-first : (m p d o body others : List Mention) (first : Mention) → m ≡ [] → p ≡ first ∷ (body ++ others)
    → m ++ p ++ d ++ o ≡ first ∷ (body ++ (m ++ others ++ d ++ o))
producer-first m p d o body others first none is = rw (none, is) (ap (λ l. first ∷ l) (before-three body others d o))

pub disposer-first : (m p d o body others : List Mention) (first : Mention) → m ≡ [] → p ≡ [] → d ≡ first ∷ (body ++ others)
    → m ++ p ++ d ++ o ≡ first ∷ (body ++ (m ++ p ++ others ++ o))
disposer-first m p d o body others first none empty is = rw (none, empty, is) (ap (λ l. first ∷ l) (append_assoc body others o))

pub observer-first : (m p d o body others : List Mention) (first : Mention) → m ≡ [] → p ≡ [] → d ≡ [] → o ≡ first ∷ (body ++ others)
    → m ++ p ++ d ++ o ≡ first ∷ (body ++ (m ++ p ++ d ++ others))
observer-first m p d o body others first none empty gone is = rw (none, empty, gone, is) refl

-- ---- bodies

-- where nothing is left of what is gone through, the first body stands before what it may call and fire, and before the others
pub part-first : (named asked sites parts others begun behind : List Mention) (first : Mention) → named ++ asked ++ sites ≡ []
    → parts ≡ (first ∷ begun) ++ others → named ++ asked ++ sites ++ parts ++ behind
    ≡ first ∷ (named ++ asked ++ begun ++ others ++ behind)
part-first [] [] [] parts others begun behind first none is = rw is refl
part-first [] [] (m ∷ ms) parts others begun behind first none is = absurd (cc)
part-first [] (m ∷ ms) sites parts others begun behind first none is = absurd (cc)
part-first (m ∷ ms) asked sites parts others begun behind first none is = absurd (cc)
