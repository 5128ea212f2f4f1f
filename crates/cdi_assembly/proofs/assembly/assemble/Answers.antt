use Rattle.std.proofs.Common.{◌≡◌, ◌+◌, ◌∷◌, ◌++◌, refl, ap, sym, ◌∙◌, drop}
use Rattle.std.proofs.lemmas.List.{drop_more}
use Rattle.cdi_assembly.proofs.PutLemmas.{is_one, one_put, one_told}
use Rattle.cdi_assembly.specs.Put.{left_by_sources, refused_from, told}
use Rattle.cdi_assembly.proofs.assembly.assemble.Goals as goal

pub loop-position-init : goal.loop-position-init
loop-position-init g c = record {
  decls = refl;
  told = λ h. ap (λ list. told list ++ refused_from 0 c.args.container.now.decls c.args.sources.now) c.new-2.ensures.items;
  book = refl;
}

pub loop-position-preserved : goal.loop-position-preserved
loop-position-preserved g c =
    let files = c.args.sources.now in
    let n = c.loop-position.position in
    let file = c.index-sources-position.result in
    let next : drop n files ≡ file ∷ drop (n + 1) files = drop_more files n file c.loop-position-test.true
    ∙ ap (λ y. y ∷ drop (n + 1) files) (sym c.index-sources-position.is) in
    let ensures = c.in_ok-add.ensures in
    record {
      decls = one_put c.loop-position.container.decls c.add.new.container.decls file (drop (n + 1) files) (drop n files) ensures.decls next
          (left_by_sources c.args.container.now.decls files) c.loop-position.invariant.decls;
      told = λ h. let e = is_one files n file c.loop-position-test.true (sym c.index-sources-position.is) h in
          one_told c.loop-position.container.decls c.add.new.container.decls file (drop (n + 1) files) (drop n files) ensures.decls next
          n (told c.loop-position.assembly.problems.items) (told c.add.new.self.problems.items)
          (refused_from 0 c.args.container.now.decls files) (ensures.told e) (c.loop-position.invariant.told h);
      book = ensures.book ∙ c.loop-position.invariant.book;
    }
