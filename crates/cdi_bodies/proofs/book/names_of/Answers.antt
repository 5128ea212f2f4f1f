use Rattle.cdi_bodies.proofs.BookLemmas.{distinct_bodies, name_added, name_known, name_twice, names_all, names_more}
use Rattle.cdi_bodies.proofs.book.names_of.Goals as goal

pub returns-then-not-is_new-clause-twice : goal.returns-then-not-is_new-clause-twice
returns-then-not-is_new-clause-twice g c =
    let body = c.body-item.result in
    let names = c.loop-body.names.keys in
    name_twice (λ b. b.name) (λ b. b.promise) c.args.bodies.now c.loop-body.body-index body names
    c.loop-body-test.true c.body-item.is c.loop-body.invariant.names
    (name_known body.name names c.in_ok-is_new.is_new c.in_ok-is_new.ensures.added c.if-not-is_new.true)

pub loop-body-preserved : goal.loop-body-preserved
loop-body-preserved g c =
    let body = c.body-item.result in
    let names = c.loop-body.names.keys in
    let more = c.insert_full.new.self.keys in
    let inserted = c.in_ok-is_new.ensures in
    let added = name_added body.name names more c.in_ok-is_new.is_new inserted.added c.if-not-is_new.false inserted.keys in
    record {
      names = names_more (λ b. b.name) (λ b. b.promise) c.args.bodies.now c.loop-body.body-index body names more
          c.loop-body-test.true c.body-item.is added c.loop-body.invariant.names;
      unique = c.in_ok-is_new.ensures.unique;
    }

pub returns-clause-distinct : goal.returns-clause-distinct
returns-clause-distinct g c =
    distinct_bodies (λ b. b.name) (λ b. b.promise) c.args.bodies.now c.loop-body.names.keys
    (names_all (λ b. b.name) (λ b. b.promise) c.args.bodies.now c.loop-body.body-index c.loop-body.names.keys
    c.loop-body-test.false c.loop-body.invariant.names) c.loop-body.invariant.unique
