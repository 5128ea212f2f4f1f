-- The bodies that run before the destruction of an instance.
use Rattle.std.proofs.Common.{◌≡◌, ℕ, Bool, true, false, ◌&&◌, Option, Some, None, refl, slice_get, sym, ◌∙◌}
use Rattle.cdi_contexts.specs.declared.instance.Actor.{Actor, TheVariants.Target, TheVariants.Interceptor}
use Rattle.cdi_contexts.specs.declared.instance.InstanceId.{InstanceId}
use Rattle.cdi_scene.specs.{Scene.managed_at, Scene.part_at, Sound.Bodies, Sound.IsSound, Sound.IsSoundAt, declared.scene.Scene.Scene}
use Rattle.cdi_scene.specs.declared.{place.Place.TheVariants.Pre, place.Seat.Seat, scene.Managed.Managed, scene.Part.Part}
use Rattle.cdi_legal.specs.Ends.{seat_on}
use Rattle.cdi_legal.proofs.Course.{invoked}
use Rattle.cdi_ending.specs.{Back.IsBack, Back.ActsBefore, Staged.Staged}

pub both : (a b : Bool) → (a && b) ≡ true → (a ≡ true) × (b ≡ true)
both true true e = (refl, refl)
both true false e = cc
both false b e = cc

pub link_is_sound : (book : Bodies) (s : Scene) (i : InstanceId) (x : Managed) (k q : ℕ) → IsSound book s
    → managed_at s i.bean ≡ Some x → slice_get x.pre.chain k ≡ Some q → IsSoundAt book s (seat_on i (Interceptor q) Pre)
link_is_sound book s i x k q h m e = (h.invocables i.bean Pre x.pre (invoked s i.bean x m)).links k q i.number e

pub target_is_sound : (book : Bodies) (s : Scene) (i : InstanceId) (x : Managed) (part : Part) → IsSound book s
    → managed_at s i.bean ≡ Some x → x.pre.part ≡ Some part → IsSoundAt book s (seat_on i Target Pre)
target_is_sound book s i x part h m e = (h.invocables i.bean Pre x.pre (invoked s i.bean x m)).target part i.number e

-- a body runs at a sound seat
pub runs_there : (book : Bodies) (s : Scene) (seat : Seat) → IsSoundAt book s seat → part_at s seat ≡ None → ⊥
runs_there book s seat a h = let e : Some a.body ≡ None = sym a.runs ∙ h in cc

-- whoever runs before the destruction has a sound body for it
pub acts_soundly : (book : Bodies) (s : Scene) (i : InstanceId) (x : Managed) (actor : Actor) → IsSound book s
    → managed_at s i.bean ≡ Some x → ActsBefore x actor → IsSoundAt book s (seat_on i actor Pre)
acts_soundly book s i x Target h m a = target_is_sound book s i x a.0 h m a.1
acts_soundly book s i x (Interceptor q) h m a = link_is_sound book s i x a.0 q h m a.1

pub runs_before : (x : Staged) (i : InstanceId) (actor : Actor) (part : Part) → IsSoundAt x.promises x.scene (seat_on i actor Pre)
    → part_at x.scene (seat_on i actor Pre) ≡ Some part → IsBack x i actor part
runs_before x i actor part a h =
    let e : a.body ≡ part = cc in
    record { runs = h; sound = rw e at a.sound; quiet = rw e at a.allowed; own = rw e at a.own }

pub record HasPart (o : Option Part) : Type 0 where
  pub part : Part
  pub is : o ≡ Some part

pub some_of : (o : Option Part) → (o ≡ None → ⊥) → HasPart o
some_of None h = absurd (h refl)
some_of (Some part) h = record { part = part; is = refl }
