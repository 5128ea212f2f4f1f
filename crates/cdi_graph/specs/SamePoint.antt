-- When two points are one, and what is hashed of a point.
use Rattle.std.specs.Prelude.{◌≡◌, Bool, true, false, ◌&&◌, ◌++◌, refl}
use Rattle.std.specs.Bool.{Decides}
use Rattle.std.specs.Cmp.{IsEquivalence, decided}
use Rattle.std.specs.Cmp.Lexicographic.{bytes_decides}
use Rattle.std.specs.Hash as fed
use Rattle.std.specs.Str.{bytes_eq}
use Rattle.std.proofs.Common.{ap, subst}
use Rattle.std.proofs.lemmas.Bool.{false≢true}
use Rattle.std.proofs.lemmas.Bool.Decides.{Decides-and, Decides-like}
use Rattle.cdi_model.specs.declared.key.DeclKey.{DeclKey}
use Rattle.cdi_model.specs.declared.mention.PointPlace.{PointPlace}
use Rattle.cdi_model.specs.declared.mention.PointPlace.TheVariants as places
use Rattle.cdi_model.specs.DeclKey.{kind_number, same_key, same_key_equiv}
use Rattle.cdi_model.proofs.EntryLemmas.{key_exact}
use Rattle.cdi_graph.specs.declared.node.PointId.{PointId}

-- a parameter of the constructor, or of one method
abbrev pub same_place : PointPlace → PointPlace → Bool
same_place places.Constructor places.Constructor = true
same_place (places.Producer name) (places.Producer other) = bytes_eq name other
same_place (places.Observer name) (places.Observer other) = bytes_eq name other
same_place place other = false

-- one owner, one place and one name
abbrev pub same_point : PointId → PointId → Bool
same_point p q = same_key p.owner q.owner && (same_place p.place q.place && bytes_eq p.name q.name)

-- ---- both decide equality

same_key-decides : (k l : DeclKey) → Decides (same_key k l) (k ≡ l)
same_key-decides k l = (key_exact k l, λ e. subst (λ m. same_key k m ≡ true) e (same_key_equiv.refl k))

pub same_place-decides : (p q : PointPlace) → Decides (same_place p q) (p ≡ q)
same_place-decides places.Constructor places.Constructor = (λ h. refl, λ e. refl)
same_place-decides (places.Producer name) (places.Producer other) =
    Decides-like (bytes_eq name other) (ap places.Producer) (λ e. cc) (bytes_decides name other)
same_place-decides (places.Observer name) (places.Observer other) =
    Decides-like (bytes_eq name other) (ap places.Observer) (λ e. cc) (bytes_decides name other)
same_place-decides place other = (λ h. absurd (false≢true h), λ e. cc)

pub same_point-decides : (p q : PointId) → Decides (same_point p q) (p ≡ q)
same_point-decides p q =
    Decides-like (same_point p q) (λ e j. record { owner = e.0 j; place = e.1.0 j; name = e.1.1 j })
    (λ e. (ap (λ r. r.owner) e, (ap (λ r. r.place) e, ap (λ r. r.name) e)))
    (Decides-and (same_key p.owner q.owner) (same_place p.place q.place && bytes_eq p.name q.name)
    (same_key-decides p.owner q.owner)
    (Decides-and (same_place p.place q.place) (bytes_eq p.name q.name) (same_place-decides p.place q.place)
    (bytes_decides p.name q.name)))

pub same_point_equiv : IsEquivalence same_point
same_point_equiv = decided same_point same_point-decides

-- ---- what a hasher is fed

abbrev pub place_fed : PointPlace → fed.HashWrites
place_fed places.Constructor = fed.u8 0
place_fed (places.Producer name) = fed.u8 1 ++ fed.slice fed.u8 name
place_fed (places.Observer name) = fed.u8 2 ++ fed.slice fed.u8 name

abbrev pub point_fed : PointId → fed.HashWrites
point_fed p = (fed.u8 (kind_number p.owner.kind) ++ fed.slice fed.u8 p.owner.name) ++ place_fed p.place ++ fed.slice fed.u8 p.name

pub same_points_alike : (p q : PointId) → same_point p q ≡ true → point_fed p ≡ point_fed q
same_points_alike p q same = ap point_fed ((same_point-decides p q).0 same)
