-- What is told of two tables.
use Rattle.std.specs.Prelude.{◌≡◌, not, List, ℕ, bytes_eq, String}
use Rattle.std.specs.List.{list_any}
use Rattle.std.specs.Option.{option_eq}
use Rattle.indexmap.specs.IndexMap.{IndexMap}
use Rattle.cdi_differences.specs.Differences.{text_at, Compared}

module _ {Y Z S : Type 0} where
  -- A key is told just where its texts are not the same.
  abbrev pub TellsWhatDiffers : IndexMap (String Y) (String Z) S → IndexMap (String Y) (String Z) S → List Compared → Type 0
  TellsWhatDiffers before after told = (key : List ℕ)
      → list_any (λ c. bytes_eq key c.0) told ≡ not (option_eq bytes_eq (text_at before key) (text_at after key))
