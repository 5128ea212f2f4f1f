-- What is kept rests on the scene behind a look-up, a call or an event, however it ended.
use Rattle.cdi_container.proofs.Common.{◌≡◌, List, true, false, Option, None, scene_of, Key, Deployed, IsAsked, cleared, Moment, beginning}
use Rattle.cdi_container.proofs.Common.{Scene, Names, IsRooted, RestsOnScene, arith}
use Rattle.cdi_legal.specs.Furnished.{IsFurnished}
use Rattle.cdi_run.specs.Known.{StaysRooted}

-- behind the beginning of a command
rests_restarted : (d : Deployed) (m n : Moment) (before : Option Names) → RestsOnScene d m before → n ≡ beginning m.standing
    → RestsOnScene d n None
rests_restarted d m n before r e = grind (arith, r.nothing_lives, r.rooted, r.furnished)

-- where memory was wanted
pub rests_cleared : (d : Deployed) (m n : Moment) → n ≡ beginning (cleared m.standing.given) → RestsOnScene d n None
rests_cleared d m n e = grind arith

-- behind what leaves the scene
rests_played : (d : Deployed) (n : Moment) → d.is_wired ≡ true → IsRooted n.standing.live
    → IsFurnished (scene_of d.decls d.book) n.standing.live → RestsOnScene d n None
rests_played d n wired rooted furnished = grind arith

-- behind a run
pub rests_ran : (d : Deployed) (s : Scene) (m begun n : Moment) → d.is_wired ≡ true → s ≡ scene_of d.decls d.book
    → begun ≡ beginning m.standing → IsRooted m.standing.live → StaysRooted (beginning begun.standing) n
    → IsFurnished s n.standing.live → RestsOnScene d n None
rests_ran d s m begun n wired is began rooted stays furnished = grind (arith, n.standing.live, rests_played)

-- one that is there now was there before where it is not there now
not_wired : (d e : Deployed) → (d.is_wired ≡ true → e.is_wired ≡ true) → e.is_wired ≡ false → d.is_wired ≡ false
not_wired d e wired w = grind (arith, d.is_wired)

rests_same : (d e : Deployed) (m : Moment) → (d.is_wired ≡ true → e.is_wired ≡ true) → e.decls ≡ d.decls → e.book ≡ d.book
    → RestsOnScene d m None → RestsOnScene e m None
rests_same d e m wired decls book r =
    grind (arith, r.nothing_lives, r.nothing_told, r.rooted, e.book, m.standing.live, d.decls, r.furnished, not_wired)

-- where keys were evaluated, and no scene was made or lost
pub rests_asked : (d e : Deployed) (keys : List Key) (m : Moment) (before : Option Names) → IsAsked keys d e → RestsOnScene d m before
    → (e.is_wired ≡ true → before ≡ None) → RestsOnScene e m before
rests_asked d e keys m before asked r told =
    grind (arith, r.nothing_lives, asked.wired, r.nothing_told, r.rooted, m.standing.live, asked.rest, r.furnished, not_wired)

-- where no run began
pub rests_unplayed : (d e : Deployed) (m begun : Moment) (before : Option Names) → RestsOnScene d m before → begun ≡ beginning m.standing
    → (d.is_wired ≡ true → e.is_wired ≡ true) → e.decls ≡ d.decls → e.book ≡ d.book → RestsOnScene e begun None
rests_unplayed d e m begun before r began wired decls book = rests_same d e begun wired decls book
    (rests_restarted d m begun before r began)
