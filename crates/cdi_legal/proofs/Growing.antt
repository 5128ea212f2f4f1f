-- Numbers only rise along a legal tree.
use Rattle.cdi_legal.proofs.Common.{◌≡◌, ℕ, Outcome, Scene, Ends, End, Answer, Legal, Node, Runs, Command, Moment, put, Entry, ◌≤◌, arith}
use Rattle.cdi_legal.proofs.Common.{ap, Standing, Target, Interceptor, applied, effect, Effect}
use Rattle.cdi_legal.proofs.Along.{ends_along, given_any, legal_along, runs_along, IsAlong, IsKept, Nothing}
use Rattle.cdi_legal.specs.Grows.{Grows}
use Rattle.cdi_legal.specs.Moment as effects
use Rattle.cdi_legal.specs.declared.entry.Entry.TheVariants as entries

grows : (s : Standing) (x : Effect) → s.given ≤ (applied s x).given
grows s (effects.stores number Target value) = omega arith
grows s (effects.stores number (Interceptor q) value) = omega arith
grows s other = omega arith

abbrev given_of : Moment → ℕ
given_of m = m.standing.given

grows_by : (e : Entry) (m m' : Moment) → m' ≡ put e m → Grows m m'
grows_by e m m' h = omega (arith, ap given_of h, grows m.standing (effect e))

grows_kept : IsKept Grows
grows_kept = grind (arith, grows_by)

grows_along : (s : Scene) → IsAlong s Nothing Grows
grows_along s = grind (arith, grows_kept, grows_by)

pub ends_grow : {s : Scene} {e : End} {m m' : Moment} → Ends s e m m' → Grows m m'
ends_grow e = ends_along grows_kept e

pub legal_grows : {s : Scene} {k : ℕ} {x : Node} {a : Answer} {m m' : Moment} → Legal s k x m a m' → Grows m m'
legal_grows {s} {k} {x} {a} {m} l = legal_along (grows_along s) l (given_any Nothing (λ b o m. tt) x m)

pub runs_grow : {s : Scene} {c : Command} {m : Moment} {o : Outcome} {m' : Moment} → Runs s c m o m' → Grows m m'
runs_grow {s} r = runs_along (grows_along s) r
