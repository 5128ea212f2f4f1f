-- The walk by which nodes are put in order.
use Rattle.std.specs.Prelude.{ℕ, ◌+◌, ◌*◌, length, sum_by}
use Rattle.cdi_ways.specs.declared.order.Walk.{Walk}

-- how much is left to do: the steps that are planned, and those that the edges that are left may bring
abbrev pub work_of : Walk → ℕ
work_of walk = 2 * sum_by (λ positions. length positions.now) walk.left.items + length walk.steps.items
