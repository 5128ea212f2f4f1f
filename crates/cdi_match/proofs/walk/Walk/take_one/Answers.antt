use Rattle.cdi_match.proofs.Common.{◌≡◌, ℕ, List, Some, ap, ◌∙◌, refl, sym, subst, arith, position, is_of, has, Walk, Meets}
use Rattle.cdi_match.proofs.Common.{next_of}
use Rattle.cdi_match.specs.Search.{kind_of, listed_by}
use Rattle.cdi_match.specs.Walk.{TellsMore}
use Rattle.cdi_match.proofs.WalkLemmas.{fewer-tasks, led-step, listed-at, name-left, tells-step, walk-step}
use Rattle.cdi_match.proofs.walk.Walk.take_one.Goals as goal

-- the walk without the declaration that is taken
abbrev popped : goal.After-of-2 → Walk
popped c = record { marks = c.args.self.now.marks; left = c.take.new.self }

-- the name of that declaration
named : (c : goal.After-of-2)
    → (name : List ℕ) × (position (is_of (kind_of c.args.links) name) c.args.decls.now ≡ Some c.in_ok-position.position)
named c = name-left c.args.links c.args.decls.now c.args.self.now c.in_ok-position.position c.requires.kept c.requires.named
    c.in_ok-position.ensures.was

-- what it lists follows the name
abbrev follow : (c : goal.After-of-2) → c.of-2.result ≡ next_of c.args.links c.args.decls.now (named c).0
follow c = c.of-2.ensures ∙ ap (listed_by c.args.links) c.at-decl.ensures
    ∙ listed-at c.args.links c.args.decls.now (named c).0 c.in_ok-position.position (named c).1

-- it is found
abbrev met : (c : goal.After-of-2)
    → Meets c.args.links c.args.decls.now (next_of c.args.links c.args.decls.now (named c).0) (popped c) c.add_all.new.self
met c = subst (λ names. Meets c.args.links c.args.decls.now names (popped c) c.add_all.new.self)
    (c.of.ensures ∙ sym c.of-2.ensures ∙ follow c) c.add_all.ensures

pub returns-clause-walking : goal.returns-clause-walking
returns-clause-walking c = λ starts walking.
    walk-step c.args.links c.args.decls.now starts c.args.self.now (popped c) c.add_all.new.self c.in_ok-position.position (named c).0
    (named c).1 walking refl c.in_ok-position.ensures.was c.in_ok-position.ensures.taken (met c)

pub returns-clause-less : goal.returns-clause-less
returns-clause-less c =
    omega (
      arith,
      c.add_all.ensures.same_tasks,
      fewer-tasks c.args.self.now (popped c) c.in_ok-position.position refl c.in_ok-position.ensures.was c.in_ok-position.ensures.taken,
    )

pub returns-clause-led : goal.returns-clause-led
returns-clause-led c = λ starts walking s is.
    led-step c.args.links c.args.decls.now starts c.args.self.now (popped c) c.in_ok-position.position (named c).0 s (named c).1
    c.in_ok-position.ensures.was c.in_ok-position.ensures.taken walking (sym (ap (λ names. has names s) (follow c)) ∙ is)

pub returns-clause-told : goal.returns-clause-told
returns-clause-told c =
    subst (λ names. TellsMore c.args.links c.args.decls.now names c.args.self.now c.add_all.new.self) (sym (follow c))
    (tells-step c.args.links c.args.decls.now c.args.self.now (popped c) c.add_all.new.self c.in_ok-position.position (named c).0
    (named c).1 refl c.in_ok-position.ensures.was c.in_ok-position.ensures.taken (met c))
