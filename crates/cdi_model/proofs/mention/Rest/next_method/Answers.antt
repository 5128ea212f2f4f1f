use Rattle.cdi_model.proofs.Common.{rules, ◌∷◌, [], ◌++◌, flat_map, of_point}
use Rattle.std.proofs.lemmas.List.{nil_from_length}
use Rattle.cdi_model.proofs.MentionLemmas.{any-first, disposer-first, listed-first, method-first, none-listed, observer-first}
use Rattle.cdi_model.proofs.MentionLemmas.{producer-first}
use Rattle.cdi_model.specs.Mentions.{BodyOf, left_before, of_attributes, of_bindings, of_disposer, of_method, of_observer, of_part}
use Rattle.cdi_model.specs.Mentions.{of_producer, of_qualifiers, part_place_of}
use Rattle.cdi_model.specs.declared.mention.PointPlace.TheVariants as points
use Rattle.cdi_model.specs.declared.place.PartPlace.TheVariants as parts
use Rattle.cdi_model.proofs.mention.Rest.next_method.Goals as goal

pub returns-in-Some : goal.returns-in-Some
returns-in-Some c =
    let m = c.in-Some.method.now in
    let body = of_bindings m.bindings ++ of_part (parts.Method m.name) [] m.part in
    any-first _ _ (left_before c.begin.new.self) _ body _ _ c.requires.through
    (method-first _ _ _ _ body _ _ (listed-first of_method c.args.self.now.methods.now c.in-Some.others.now m (search rules)))
    (search rules) c.begin.ensures.others

pub returns-in-Some-split_first : goal.returns-in-Some-split_first
returns-in-Some-split_first c =
    let p = c.in-Some-split_first.producer.now in
    let body = of_attributes p.attributes ++ of_bindings p.bindings ++ flat_map (of_point (points.Producer p.name)) p.params
    ++ of_part (part_place_of p) p.params p.part in
    let methods = none-listed of_method _ (nil_from_length _ c.in_default.ensures.cases) in
    any-first _ _ (left_before c.begin-in-Some-split_first.new.self) _ body _ _ c.requires.through
    (producer-first _ _ _ _ body _ _ methods
    (listed-first of_producer c.args.self.now.producers.now c.in-Some-split_first.others.now p (search rules)))
    (search rules) c.begin-in-Some-split_first.ensures.others

pub returns-in-Some-split_first-2 : goal.returns-in-Some-split_first-2
returns-in-Some-split_first-2 c =
    let d = c.in-Some-split_first-2.disposer.now in
    let body = of_qualifiers d.qualifiers ++ BodyOf (parts.Disposer d.name) d.body ∷ [] in
    let methods = none-listed of_method _ (nil_from_length _ c.in_default.ensures.cases) in
    let producers = none-listed of_producer _ (nil_from_length _ c.in_default-split_first.ensures.cases) in
    any-first _ _ (left_before c.begin-in-Some-split_first-2.new.self) _ body _ _ c.requires.through
    (disposer-first _ _ _ _ body _ _ methods producers
    (listed-first of_disposer c.args.self.now.disposers.now c.in-Some-split_first-2.others.now d (search rules)))
    (search rules) c.begin-in-Some-split_first-2.ensures.others

pub returns : goal.returns
returns c =
    let o = c.in_ok-observer.observer.now in
    let body = of_qualifiers o.qualifiers ++ of_bindings o.bindings ++ flat_map (of_point (points.Observer o.name)) o.params
    ++ of_part (parts.Observer o.name) o.params o.part in
    let methods = none-listed of_method _ (nil_from_length _ c.in_default.ensures.cases) in
    let producers = none-listed of_producer _ (nil_from_length _ c.in_default-split_first.ensures.cases) in
    let disposers = none-listed of_disposer _ (nil_from_length _ c.in_default-split_first-2.ensures.cases) in
    any-first _ _ (left_before c.begin-2.new.self) _ body _ _ c.requires.through
    (observer-first _ _ _ _ body _ _ methods producers disposers
    (listed-first of_observer c.args.self.now.observers.now c.in_ok-observer.others.now o (search rules)))
    (search rules) c.begin-2.ensures.others
