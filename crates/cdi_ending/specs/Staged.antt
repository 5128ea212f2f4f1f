-- What a stage is seen as.
use Rattle.cdi_scene.specs.Sound.{Bodies}
use Rattle.cdi_scene.specs.declared.scene.Scene.{Scene}

-- a scene, with the names and promises of the book that its bodies are in
pub record Staged : Type 0 where
  pub scene : Scene
  pub promises : Bodies
