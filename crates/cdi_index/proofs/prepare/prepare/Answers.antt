use Rattle.cdi_index.proofs.Common.{◌≡◌, ℕ, List, map, refl, sym, ap, ◌∙◌, list_any, DeclKey, same_key, AreDistinct, Shelf, cond, length}
use Rattle.cdi_index.proofs.Common.{Decl, stored, position, is_of, edited_all, edited_keys, is_among, key_of, slice_get, applied, ◌+◌, ◌≤◌, Change, change_of, arith, length-map, keys_changed, turned, subst, lookup, get, touches, is_at_stake}
use Rattle.cdi_index.proofs.Common.{records_after, Tells}
use Rattle.cdi_model.specs.declared.decl.Kind.TheVariants as kinds
use Rattle.cdi_index.proofs.AffectedLemmas.{hits}
use Rattle.cdi_index.proofs.KeyLemmas.{keys-made}
use Rattle.cdi_index.proofs.NumberLemmas.{numbered-next}
use Rattle.cdi_index.proofs.NextLemmas.{affected-hits, counted, exact-same, kept-of-others, numbered-same, prepared, shelf-same, sound-same}
use Rattle.cdi_index.proofs.ReplacedLemmas.{turned-are}
use Rattle.cdi_index.proofs.ToldLemmas.{tells}
use Rattle.cdi_index.specs.{Counted.raised, Numbers.number_at, Numbers.AreNumbered, State.Drafted}
use Rattle.cdi_index.proofs.prepare.prepare.Goals as goal

abbrev numbers_of : Shelf → ℕ → List Decl → DeclKey → ℕ
numbers_of shelf staying ds k = number_at (stored shelf k) shelf.numbered staying (position (is_of k.kind k.name) ds)

pub change_affected-requires-clause-kept : goal.change_affected-requires-clause-kept
change_affected-requires-clause-kept c k none =
    let decls : c.draft.inside.decls ≡ c.args.draft.decls = ap (λ (d : Drafted). d.decls) c.draft.view_is in
    let keys : c.as_slice.result.now ≡ c.args.draft.keys = c.as_slice.ensures.value ∙ ap (λ (d : Drafted). d.keys) c.draft.view_is in
    kept-of-others c.args.decls.now c.draft.inside.decls c.requires.edited.edits c.as_slice.result.now c.in_ok-affected.affected.keys
    c.in_ok-affected.affected.keys c.args.shelf.now c.reserve.new.self c.args.postings.now c.args.postings.now c.requires.shelf
    c.requires.exact c.requires.sound (decls ∙ c.requires.edited.decls) (keys ∙ c.requires.edited.keys) c.in_ok-affected.ensures refl
    c.reserve.ensures.entries c.reserve.ensures.others k none

pub turn_all-requires : goal.turn_all-requires
turn_all-requires c =
    ap keys_changed (c.as_slice-3.ensures.value ∙ c.in_ok-changes.ensures.changes)
    ∙ keys-made (λ (x : Change). x.key) (change_of c.draft.inside.decls (numbers_of c.reserve.new.self c.staying.result c.draft.inside.decls)) (λ k. refl) c.in_ok-affected.affected.keys

pub returns-clause-counts : goal.returns-clause-counts
returns-clause-counts c =
    let decls : c.draft.inside.decls ≡ c.args.draft.decls = ap (λ (d : Drafted). d.decls) c.draft.view_is in
    let keys : c.as_slice.result.now ≡ c.args.draft.keys = c.as_slice.ensures.value ∙ ap (λ (d : Drafted). d.keys) c.draft.view_is in
    let numbers : DeclKey → ℕ = numbers_of c.reserve.new.self c.staying.result c.draft.inside.decls in
    let changes = c.in_ok-changes.ensures.changes ∙ ap (λ d. map (change_of d numbers) c.in_ok-affected.affected.keys) decls in
    let distinct = subst AreDistinct decls c.iter.ensures.distinct in
    let closures = c.after.ensures.closures
    ∙ ap (raised c.args.counts.closures) (counted c.args.decls.now c.args.draft.decls c.requires.edited.edits c.args.draft.keys
    c.in_ok-affected.affected.keys c.in_ok-affected.affected.keys c.args.shelf.now c.reserve.new.self c.args.postings.now
    c.change_affected.new.postings
    c.requires.shelf c.requires.exact c.requires.sound c.requires.edited.decls c.requires.edited.keys
    (λ k. c.in_ok-affected.ensures k ∙ ap (list_any (touches c.args.shelf.now c.args.postings.now k)) keys)
    refl kinds.Type refl numbers c.in_ok-changes.changes.items c.as_slice-4.result.now _ distinct c.len.ensures.unique
    c.as_slice-4.ensures.value changes refl) in
    let beans = c.after.ensures.beans
    ∙ ap (raised c.args.counts.beans) (counted c.args.decls.now c.args.draft.decls c.requires.edited.edits c.args.draft.keys
    c.in_ok-affected.affected.keys c.in_ok-affected.affected.keys c.args.shelf.now c.reserve.new.self c.args.postings.now
    c.change_affected.new.postings
    c.requires.shelf c.requires.exact c.requires.sound c.requires.edited.decls c.requires.edited.keys
    (λ k. c.in_ok-affected.ensures k ∙ ap (list_any (touches c.args.shelf.now c.args.postings.now k)) keys)
    refl kinds.Bean refl numbers c.in_ok-changes.changes.items c.as_slice-4.result.now _ distinct c.len.ensures.unique
    c.as_slice-4.ensures.value changes refl) in
    λ i. record { closures = closures i; beans = beans i }

pub returns-clause-next : goal.returns-clause-next
returns-clause-next c =
    let new : Shelf = record {
      slots = c.reserve.new.self.slots;
      kept = c.reserve.new.self.kept;
      given = c.reserve.new.self.given;
      numbered = c.reserve.new.self.numbered;
      replaced = c.reserve-2.new.self;
    } in
    let ks = c.in_ok-affected.affected.keys in
    let more = c.change_affected.new.postings in
    let numbers : DeclKey → ℕ = numbers_of c.reserve.new.self c.staying.result c.draft.inside.decls in
    let decls : c.draft.inside.decls ≡ c.args.draft.decls = ap (λ (d : Drafted). d.decls) c.draft.view_is in
    let keys : c.as_slice.result.now ≡ c.args.draft.keys = c.as_slice.ensures.value ∙ ap (λ (d : Drafted). d.keys) c.draft.view_is in
    let edits = c.requires.edited.edits in
    let es : c.draft.inside.decls ≡ edited_all c.args.decls.now edits = decls ∙ c.requires.edited.decls in
    let edited : c.as_slice-2.result.now ≡ edited_keys edits =
    c.as_slice-2.ensures.value ∙ ap (λ (d : Drafted). d.keys) c.draft.view_is ∙ c.requires.edited.keys in
    let old = c.reserve.new.self in
    let rise : AreNumbered c.draft.inside.decls (old.numbered + length c.draft.inside.decls)
    (applied old.given (map (change_of c.draft.inside.decls numbers) ks) (stored old)) =
    subst (λ ds. AreNumbered ds (old.numbered + length ds)
    (applied old.given (map (change_of ds (numbers_of old c.staying.result ds)) ks) (stored old))) (sym es)
    (numbered-next c.args.decls.now edits ks (stored old) old.numbered c.staying.result old.given
    (exact-same c.args.shelf.now old c.reserve.ensures.entries c.reserve.ensures.others c.args.decls.now c.requires.exact)
    (subst (λ n. AreNumbered c.args.decls.now n (stored old)) (sym c.reserve.ensures.numbered)
    (numbered-same c.args.shelf.now old c.reserve.ensures.entries c.reserve.ensures.others c.args.decls.now c.args.shelf.now.numbered
    c.requires.ordered))
    c.requires.distinct (subst AreDistinct es c.iter.ensures.distinct)
    (λ k. affected-hits c.args.decls.now c.args.shelf.now c.args.postings.now c.as_slice.result.now ks c.requires.shelf c.requires.exact
    c.requires.sound c.in_ok-affected.ensures k ∙ ap (list_any (hits c.args.decls.now k)) (keys ∙ c.requires.edited.keys))
    (subst (λ ds. c.staying.result ≤ length ds) es c.staying.ensures.within)
    (λ p d from at. ap (λ l. is_among l (key_of d)) (sym edited)
    ∙ c.staying.ensures.edited p d from (ap (λ ds. slice_get ds p) es ∙ at))
    (λ p d before at. ap (λ l. is_among l (key_of d)) (sym edited)
    ∙ c.staying.ensures.last p d before (ap (λ ds. slice_get ds p) es ∙ at))) in
    let many : length c.in_ok-changes.changes.items ≡ c.len.result = ap length c.in_ok-changes.ensures.changes
    ∙ length-map c.in_ok-affected.affected.keys (change_of c.draft.inside.decls numbers) ∙ sym c.len.ensures.len in
    prepared c.args.decls.now c.draft.inside.decls c.requires.edited.edits c.as_slice.result.now c.in_ok-affected.affected.keys
    c.in_ok-affected.affected.keys c.args.shelf.now new c.args.postings.now c.change_affected.new.postings c.requires.shelf
    c.requires.exact c.requires.sound (decls ∙ c.requires.edited.decls) (keys ∙ c.requires.edited.keys) c.in_ok-affected.ensures
    refl c.reserve.ensures.entries c.reserve.ensures.others c.change_affected.ensures.kept _ numbers refl
    c.in_ok-changes.ensures.changes c.in_ok-changes.ensures.listed
    c.iter.ensures.distinct
    (λ s e at. omega (arith, c.requires.free s e at, c.reserve.ensures.given))
    (omega (arith, c.in_ok-reserve.ensures.given_more, many))
    (omega (arith, c.in_ok-reserve.ensures.slots, many))
    (omega (arith, c.in_ok-reserve.ensures.kept, many))
    (ap keys_changed c.in_ok-changes.ensures.changes
    ∙ keys-made (λ (x : Change). x.key) (change_of c.draft.inside.decls numbers) (λ k. refl) ks)
    c.len.ensures.unique
    (subst (λ cs. AreNumbered c.draft.inside.decls (c.reserve.new.self.numbered + c.len-3.result) (applied c.reserve.new.self.given cs (stored new)))
    (sym c.in_ok-changes.ensures.changes)
    (subst (λ n. AreNumbered c.draft.inside.decls (c.reserve.new.self.numbered + n)
    (applied c.reserve.new.self.given (map (change_of c.draft.inside.decls numbers) ks) (stored new))) (sym c.len-3.ensures.value) rise))
    (turned-are c.args.decls.now c.draft.inside.decls numbers ks c.reserve.new.self more c.requires.distinct c.iter.ensures.distinct
    (shelf-same c.args.shelf.now c.reserve.new.self c.reserve.ensures.entries c.reserve.ensures.others c.requires.shelf)
    (exact-same c.args.shelf.now c.reserve.new.self c.reserve.ensures.entries c.reserve.ensures.others c.args.decls.now c.requires.exact)
    (sound-same c.args.shelf.now c.reserve.new.self c.reserve.ensures.entries c.reserve.ensures.others c.args.postings.now more
    c.change_affected.ensures.kept c.requires.sound)
    (λ k none. sym (kept-of-others c.args.decls.now c.draft.inside.decls c.requires.edited.edits c.as_slice.result.now ks ks
    c.args.shelf.now
    c.reserve.new.self c.args.postings.now c.args.postings.now c.requires.shelf c.requires.exact c.requires.sound
    (decls ∙ c.requires.edited.decls) (keys ∙ c.requires.edited.keys) c.in_ok-affected.ensures refl c.reserve.ensures.entries
    c.reserve.ensures.others k none)
    ∙ exact-same c.args.shelf.now c.reserve.new.self c.reserve.ensures.entries c.reserve.ensures.others c.args.decls.now c.requires.exact k)
    (get same_key c.reserve-2.new.self) (turned c.in_ok-turns.turns.list.items (get same_key c.reserve-2.new.self))
    (λ k. ap (lookup (same_key k)) (c.reserve-2.ensures.entries ∙ ap (λ m. m.entries) c.reserve.ensures.replaced)
    ∙ c.requires.replaced k)
    (λ k. c.in_ok-turns.ensures.records (get same_key c.reserve-2.new.self) k
    ∙ ap (λ cs. cond (is_at_stake c.reserve.new.self cs k) (records_after c.reserve.new.self more ks cs k)
    (get same_key c.reserve-2.new.self k))
    (c.as_slice-3.ensures.value ∙ c.in_ok-changes.ensures.changes)))
    (omega (arith, c.in_ok-reserve-2.ensures.ok, c.len-2.ensures, c.in_ok-turns.turns.list.ok.0))
    c.in_ok-turns.ensures.keys

pub returns-clause-told : goal.returns-clause-told
returns-clause-told c =
    let ds = c.args.decls.now in
    let es = c.draft.inside.decls in
    let ks = c.in_ok-affected.affected.keys in
    let old = c.args.shelf.now in
    let new = c.reserve.new.self in
    let before = c.args.postings.now in
    let more = c.change_affected.new.postings in
    let told = c.in_ok-turns.turns.beans.keys in
    let decls : es ≡ c.args.draft.decls = ap (λ (d : Drafted). d.decls) c.draft.view_is in
    let keys : c.as_slice.result.now ≡ c.args.draft.keys = c.as_slice.ensures.value ∙ ap (λ (d : Drafted). d.keys) c.draft.view_is in
    let it = tells ds es (numbers_of c.reserve.new.self c.staying.result c.draft.inside.decls) c.as_slice.result.now ks told new more c.requires.distinct c.iter.ensures.distinct
    (shelf-same old new c.reserve.ensures.entries c.reserve.ensures.others c.requires.shelf)
    (exact-same old new c.reserve.ensures.entries c.reserve.ensures.others ds c.requires.exact)
    (sound-same old new c.reserve.ensures.entries c.reserve.ensures.others before more c.change_affected.ensures.kept c.requires.sound)
    (λ k none. sym (kept-of-others ds es c.requires.edited.edits c.as_slice.result.now ks ks old new before before c.requires.shelf
    c.requires.exact c.requires.sound (decls ∙ c.requires.edited.decls) (keys ∙ c.requires.edited.keys) c.in_ok-affected.ensures refl
    c.reserve.ensures.entries c.reserve.ensures.others k none)
    ∙ exact-same old new c.reserve.ensures.entries c.reserve.ensures.others ds c.requires.exact k)
    (affected-hits ds old before c.as_slice.result.now ks c.requires.shelf c.requires.exact c.requires.sound c.in_ok-affected.ensures)
    (λ k. c.in_ok-turns.ensures.beans k
    ∙ ap (λ cs. is_at_stake new cs k) (c.as_slice-3.ensures.value ∙ c.in_ok-changes.ensures.changes)) in
    subst (λ e. Tells ds e c.args.draft.keys told) decls (subst (λ (x : List DeclKey). Tells ds es x told) keys it)
