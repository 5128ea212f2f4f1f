-- In a sound scene bodies run at sound seats alone.
use Rattle.cdi_legal.proofs.Common.{arith, ◌≡◌, ℕ, None, Some, Act, Seat, Scene, Entry, List, subst, as_product, bean_at, Product, opened}
use Rattle.cdi_legal.proofs.Common.{Opening, link, producer, target, IsCalledAt, product_at, disposer, same_Some, Bodies, IsSound}
use Rattle.cdi_legal.proofs.Common.{IsSoundForm, Form, IsOrdered, MayAct}
use Rattle.cdi_scene.specs.Sound.{IsSoundAt, IsSoundProduct}
use Rattle.cdi_scene.specs.declared.scene.Form.TheVariants as forms
use Rattle.cdi_legal.proofs.Ordering.{commands_are_ordered}
use Rattle.cdi_legal.specs.{Laws.CommandsAreFaultless, Laws.IsFaultless, Placed.need, Placed.IsMet, Placed.Need}
use Rattle.cdi_legal.specs.Placed as placed

module _ (book : Bodies) (s : Scene) (sound : IsSound book s) where
  of_form : (b : ℕ) (form : Form) (x : Product) → as_product form ≡ Some x → IsSoundForm book s b form → IsSoundProduct book s b x
  of_form b (forms.Managed managed) x is form = let never : None ≡ Some x = is in cc
  of_form b (forms.Product product) x is form = subst (IsSoundProduct book s b) (same_Some product x is) form

  product : (b : ℕ) (x : Product) → product_at s b ≡ Some x → IsSoundProduct book s b x
  product b x is = grind (arith, bean_at, as_product, of_form)

  sound_seat : (seat : Seat) → IsCalledAt s seat → IsSoundAt book s seat
  sound_seat _ (link i place x l q there linked) = (sound.invocables i.bean place x there).links l q i.number linked
  sound_seat _ (target i place x part there own) = (sound.invocables i.bean place x there).target part i.number own
  sound_seat _ (producer b x there static) = (product b x there).producer static
  sound_seat _ (disposer b x part there own) = (product b x there).disposer part own

  sound_act : (seat : Seat) (act : Act) (xs : List Opening) → MayAct s (IsCalledAt s) seat act xs
      → MayAct s (IsSoundAt book s) seat act xs
  sound_act seat act xs may = record { runs = may.runs; sort = sound_seat seat may.sort; permits = may.permits }

  sound_need : (xs : List Opening) (n : Need) → IsMet s (IsCalledAt s) xs n → IsMet s (IsSoundAt book s) xs n
  sound_need xs (placed.needs_seat seat) h = sound_seat seat h
  sound_need xs (placed.needs_act act) h = (h.0, sound_act h.0 act xs h.1)
  sound_need xs (placed.needs_act_at seat act) h = sound_act seat act xs h
  sound_need xs (placed.needs_act_of number actor act) h = (h.0, h.1, sound_act h.0 act xs h.2)
  sound_need xs other h = h

  faultless : (trace : List Entry) → IsOrdered s trace → IsFaultless book s trace
  faultless trace ordered earlier e later is = sound_need (opened earlier) (need e) (ordered.places earlier e later is)

pub commands_are_faultless : CommandsAreFaultless
commands_are_faultless book = record {
  run = λ s c before trace o after l sound. faultless book s sound trace (commands_are_ordered.run s c before trace o after l);
  request_end = λ s before trace after l sound. faultless book s sound trace (commands_are_ordered.request_end s before trace after l);
  end = λ s before trace after l sound. faultless book s sound trace (commands_are_ordered.end s before trace after l);
}
