-- What stands along a legal tree is the fold of its entries.
use Rattle.cdi_legal.proofs.Common.{arith, ◌≡◌, ℕ, refl, Outcome, Scene, Ends, End, Answer, Legal, Node, Runs, Command, Moment, put}
use Rattle.cdi_legal.proofs.Common.{ask_more, Entry, List, [], ◌∷◌, ap, Standing, step, Follows, after, ◌++◌, append_assoc}
use Rattle.cdi_legal.proofs.Along.{ends_along, given_any, legal_along, runs_along, IsAlong, IsKept, Nothing}

pub after-append : (s : Standing) (xs ys : List Entry) → after s (xs ++ ys) ≡ after (after s xs) ys
after-append s [] ys = refl
after-append s (x ∷ xs) ys = after-append (step s x) xs ys

append_nil : (xs : List Entry) → xs ≡ xs ++ []
append_nil [] = refl
append_nil (x ∷ xs) = ap (λ (l : List Entry). x ∷ l) (append_nil xs)

none : (m : Moment) → Follows m m
none m = record { pushed = []; trace = append_nil m.trace; standing = refl }

pub then : (a b c : Moment) → Follows a b → Follows b c → Follows a c
then a b c p q = grind (arith, append_assoc, after, after-append)

entry : (e : Entry) (m m' : Moment) → m' ≡ put e m → Follows m m'
entry e m m' h = grind arith

asking : (m m' : Moment) → m' ≡ ask_more m → Follows m m'
asking m m' h = grind (arith, append_nil)

pub follows_kept : IsKept Follows
follows_kept = record { none = none; then = then; entry = λ e m m' other h. entry e m m' h }

pub follows_along : (s : Scene) → IsAlong s Nothing Follows
follows_along s = grind (arith, follows_kept, asking, entry)

pub ends_follow : {s : Scene} {e : End} {m m' : Moment} → Ends s e m m' → Follows m m'
ends_follow e = ends_along follows_kept e

pub legal_follows : {s : Scene} {k : ℕ} {x : Node} {a : Answer} {m m' : Moment} → Legal s k x m a m' → Follows m m'
legal_follows {s} {k} {x} {a} {m} l = legal_along (follows_along s) l (given_any Nothing (λ b o m. tt) x m)

pub runs_follow : {s : Scene} {c : Command} {m : Moment} {o : Outcome} {m' : Moment} → Runs s c m o m' → Follows m m'
runs_follow {s} r = runs_along (follows_along s) r
