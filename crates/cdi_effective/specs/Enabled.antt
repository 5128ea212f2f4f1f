-- Enabled beans (CDI 4.0, Enabled and disabled beans).
use Rattle.std.specs.Prelude.{ℤ, Bool, not, ◌||◌, Option, is_some}

-- a bean that is no alternative, or an alternative with a priority
abbrev pub is_enabled : Bool → Option ℤ → Bool
is_enabled is_alternative priority = not is_alternative || is_some priority
