-- What is at fault of the stored bodies that a bean or an interceptor names.
use Rattle.std.specs.Prelude.{ℕ, Bool, false, not, List, Option, Some, None}
use Rattle.cdi_bodies.specs.Book.{Promised, promise_of}
use Rattle.cdi_bodies.specs.Flags as flags
use Rattle.cdi_bodies.specs.Within.{keeps_to}
use Rattle.cdi_bodies.specs.declared.promise.Promise.{Promise}
use Rattle.cdi_model.specs.declared.decl.Decl.{Decl}
use Rattle.cdi_model.specs.declared.decl.Decl.TheVariants as decls
use Rattle.cdi_model.specs.declared.place.PartPlace.{PartPlace}
use Rattle.cdi_model.specs.declared.place.PartPlace.TheVariants as places
use Rattle.cdi_model.specs.Mentions.{Mention, BodyOf}
use Rattle.cdi_faults.specs.declared.fault.Subject.{Subject}
use Rattle.cdi_faults.specs.declared.fault.Subject.TheVariants as subjects
use Rattle.cdi_subjects.specs.Filter.{some_if, subjects_in}

-- a body is there, and promises nothing but what is allowed
abbrev pub is_fit : ℕ → Option Promise → Bool
is_fit allowed None = false
is_fit allowed (Some promise) = keeps_to promise allowed

-- what a body may do in a place of a bean (profile)
abbrev pub allowed_at : PartPlace → ℕ
allowed_at places.Pre = flags.at_destruction
allowed_at (places.Disposer name) = flags.at_disposal
allowed_at (places.StaticProducer name) = flags.at_class
allowed_at _ = flags.at_instance

-- what one may do in a place of an interceptor
abbrev pub allowed_around : PartPlace → ℕ
allowed_around places.Pre = flags.around_destruction
allowed_around _ = flags.around

abbrev pub allowed_in : Decl → PartPlace → ℕ
allowed_in (decls.Interceptor i) place = allowed_around place
allowed_in d place = allowed_at place

-- a part, where its body is not fit
abbrev pub unfit_in : List Promised → Decl → Mention → Option Subject
unfit_in book d (BodyOf place body) = some_if (not (is_fit (allowed_in d place) (promise_of book body))) (subjects.Part place)
unfit_in book d _ = None

-- the parts of a declaration whose bodies are not in the book, or promise more than is allowed there (profile)
abbrev pub unfit_parts : List Promised → Decl → List Subject
unfit_parts book d = subjects_in (unfit_in book d) d
