-- The text of what an observer method is told by.
use Rattle.std.specs.Prelude.{ℕ, List, ◌∷◌, ◌++◌}
use Rattle.cdi_model.specs.Bytes.{slash}
use Rattle.cdi_observe.specs.declared.observers.ObserverId.{ObserverId}

-- the class, and behind a slash the method
abbrev pub text_of_observer : ObserverId → List ℕ
text_of_observer id = id.class ++ slash ∷ id.observer
