use Rattle.cdi_model.proofs.Common.{◌≡◌, ℕ, ◌-◌, ◌≤◌, Bool, true, false, List, length, take, drop, replicate, refl, sym, ap, ◌∙◌}
use Rattle.std.specs.{Str.bytes_eq, Bool.Decides}
use Rattle.std.proofs.lemmas.Slice.Eq.{bytes_eq-Decides}
use Rattle.cdi_model.specs.ShortText.{fields_again, padded}
use Rattle.cdi_model.proofs.short_text.ShortTextPartialEq.eq.Goals as goal

-- the cells of a text of so many bytes
abbrev AreCells : ℕ → List ℕ → Type 0
AreCells len cells = (len ≤ 64) × (length cells ≡ 64) × (drop len cells ≡ replicate (64 - len) 0)

-- cells are compared in place of the bytes
cells-tell : (m n : ℕ) (cs ds : List ℕ) → m ≡ n → AreCells m cs → AreCells n ds → bytes_eq cs ds ≡ bytes_eq (take m cs) (take n ds)
cells-tell m n cs ds same are_cs are_ds =
    by (bytes_eq cs ds) (bytes_eq (take m cs) (take n ds)) (bytes_eq-Decides cs ds) (bytes_eq-Decides (take m cs) (take n ds))
  where
    bytes : cs ≡ ds → take m cs ≡ take n ds
    bytes e = ap (take m) e ∙ ap (λ k. take k ds) same

    cells : take m cs ≡ take n ds → cs ≡ ds
    cells e = sym (fields_again m cs are_cs).0 ∙ ap padded e ∙ (fields_again n ds are_ds).0

    by : (a b : Bool) → Decides a (cs ≡ ds) → Decides b (take m cs ≡ take n ds) → a ≡ b
    by true b c d = sym (d.1 (bytes (c.0 refl)))
    by false true c d = c.1 (cells (d.0 refl))
    by false false c d = refl

pub returns-then-self-other : goal.returns-then-self-other
returns-then-self-other c =
    c.eq.ensures
    ∙ cells-tell c.self.inside.len c.other.inside.len c.self.inside.cells c.other.inside.cells c.if-self-other.true
    c.self.invariant c.other.invariant
    ∙ ap (λ t. bytes_eq t (take c.other.inside.len c.other.inside.cells)) c.self.view_is
    ∙ ap (bytes_eq c.args.self.now) c.other.view_is
