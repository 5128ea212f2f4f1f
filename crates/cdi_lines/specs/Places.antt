-- The places of a bean, as words.
use Rattle.std.specs.Prelude.{ℕ, List, [], ◌∷◌, codes, Option, Some, None, if◌then◌else◌, option_map}
use Rattle.std.specs.Str.{bytes_eq}
use Rattle.cdi_model.specs.Grammar.{ident_of}
use Rattle.cdi_model.specs.declared.place.BeanPlace.{BeanPlace}
use Rattle.cdi_model.specs.declared.place.BeanPlace.TheVariants as places

-- construct, post, pre
abbrev pub place_alone : List ℕ → Option BeanPlace
place_alone word =
    if bytes_eq word (codes "construct") then Some places.Construct
    else if bytes_eq word (codes "post") then Some places.Post
    else if bytes_eq word (codes "pre") then Some places.Pre
    else None

-- method NAME, producer NAME, observer NAME
abbrev pub place_named : List ℕ → List ℕ → Option BeanPlace
place_named word name =
    if bytes_eq word (codes "method") then option_map places.Method (ident_of name)
    else if bytes_eq word (codes "producer") then option_map places.Producer (ident_of name)
    else if bytes_eq word (codes "observer") then option_map places.Observer (ident_of name)
    else None

abbrev pub place_of : List (List ℕ) → Option BeanPlace
place_of (word ∷ []) = place_alone word
place_of (word ∷ name ∷ []) = place_named word name
place_of words = None
