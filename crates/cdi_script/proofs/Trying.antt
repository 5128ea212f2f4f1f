-- What was carried out where memory was wanted.
use Rattle.cdi_script.proofs.Common.{List, [], ◌∷◌, ◌++◌, refl, ap, ◌∙◌, inl, inr, append_assoc, Result, AllocError, names_of, Command}
use Rattle.cdi_script.proofs.Common.{Answer, AreFirst, State, IsStep, Tries, arith}
use Rattle.cdi_container.specs.History.{trace_behind}

-- the first of the first ones
pub first_of_first : (a b c : List Command) → AreFirst a b → AreFirst b c → AreFirst a c
first_of_first a b c m n = (m.0 ++ n.0, n.1 ∙ ap (λ l. l ++ n.0) m.1 ∙ append_assoc a m.0 n.0)

-- of more commands
pub tries_among : (first all more : List Command) (old new : State) → AreFirst all more → Tries first all old new
    → Tries first more old new
tries_among first all more old new m (inl e) = inl e
tries_among first all more old new m (inr t) = inr (t.0, first_of_first (first ++ t.0.command ∷ []) all more t.1 m, t.2)

-- the first of what comes after some commands
pub tries_behind : (front ds : List Command) (old new : State) → Tries [] ds old new → Tries front (front ++ ds) old new
tries_behind front ds old new (inl e) = inl e
tries_behind front ds old new (inr t) = grind (arith, t.0, t.1.0, t.1.1, t.0.command, t.2, append_assoc)

-- a call of the container
pub tried_step : (old new : State) (command : Command) (answer : Result Answer AllocError) → IsStep old command answer new
    → Tries [] (command ∷ []) old new
tried_step old new command answer h = inr (
  record { command = command; answer = answer; trace = trace_behind answer new; names = names_of old.decls },
  ([], refl),
  record { answered = h; trace = refl; names = refl },
)
