-- A managed bean before its products.
use Rattle.cdi_effective.proofs.Common.{◌≡◌, Bool, List, [], ◌∷◌, Decl, BeanDecl, ◌++◌, append_assoc, map, Effective, managed_where}
use Rattle.cdi_effective.proofs.Common.{product_of, records_where, arith}

pub managed_pushed : (ds : List Decl) (bean : BeanDecl) (is_offered : Bool) (m : Effective) (old pushed : List Effective)
    → pushed ≡ old ++ m ∷ [] → m ≡ managed_where ds bean is_offered
    → pushed ++ map (product_of ds bean m) bean.producers ≡ old ++ records_where ds bean is_offered
managed_pushed ds bean is_offered m old pushed push is = grind (arith, bean.producers, append_assoc)
