use Rattle.cdi_live.proofs.Common.{◌≡◌, Bool, true, false, not, ◌&&◌, ◌||◌, sym, ap, ◌∙◌, arith, list_all, bytes_eq, same_quals, EventKey, is_gone}
use Rattle.cdi_live.proofs.Common.{is_touched}
use Rattle.cdi_seen.proofs.TouchedLemmas.{event_touched_by_parts}
use Rattle.cdi_seen.specs.Touched.{declare_alike}
use Rattle.cdi_live.specs.EventCompared.{see_same_observers}
use Rattle.cdi_live.proofs.event_compare.push_if_touched.Goals.{else-is_same-via-then-is_same+else-are_declared_alike, else-is_same-via-else-is_same}
use Rattle.cdi_live.proofs.event_compare.push_if_touched.Goals as goal

-- what is not touched is no more to go
stays : (gone one same touched : Bool) → touched ≡ false → gone ≡ (gone || (one && (same && touched)))
stays gone one same touched is = grind arith

-- what is touched goes
goes : (gone one same touched : Bool) → touched ≡ true → (gone || (one && same)) ≡ (gone || (one && (same && touched)))
goes gone one same touched is = grind arith

differ : (same alike : Bool) → alike ≡ false → not (same && alike) ≡ true
differ same alike is = grind arith

pub returns-then-are_declared_alike : goal.returns-then-are_declared_alike
returns-then-are_declared_alike c t us =
    let ds = c.args.sides.now.index.now.decls in
    let es = c.args.sides.now.next.now in
    let name = c.args.event_type.now in
    let quals = c.args.quals.now in
    stays (is_gone c.args.gone.now.items t us) (bytes_eq t name) (same_quals us quals) (is_touched ds es (EventKey name quals))
    (event_touched_by_parts ds es name quals
    ∙ ap (λ b. not (b && list_all (λ u. declare_alike ds es u.name) quals)) (sym c.requires ∙ c.if-is_same.true)
    ∙ ap (λ us. not (list_all (λ u. declare_alike ds es u.name) us)) (sym c.as_slice.ensures.value)
    ∙ ap not (sym c.are_declared_alike.ensures ∙ c.if-are_declared_alike.true))

pub returns : goal.returns
returns c t us =
    let ds = c.args.sides.now.index.now.decls in
    let es = c.args.sides.now.next.now in
    let name = c.args.event_type.now in
    let quals = c.args.quals.now in
    let alike : Bool = list_all (λ u. declare_alike ds es u.name) quals in
    let touched : is_touched ds es (EventKey name quals) ≡ true =
    event_touched_by_parts ds es name quals ∙ elim c.else-is_same.branch [
      | else-is_same-via-then-is_same+else-are_declared_alike w ↦
          differ (see_same_observers ds es name) alike (ap (list_all (λ u. declare_alike ds es u.name)) (sym w.as_slice.ensures.value)
          ∙ sym w.are_declared_alike.ensures ∙ w.if-are_declared_alike.false)
      | else-is_same-via-else-is_same w ↦ ap (λ b. not (b && alike)) (sym c.requires ∙ w.if-is_same.false)
    ] in
    c.in_ok-push_gone.ensures t us
    ∙ goes (is_gone c.args.gone.now.items t us) (bytes_eq t name) (same_quals us quals) (is_touched ds es (EventKey name quals)) touched
