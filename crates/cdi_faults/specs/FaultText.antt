-- The texts of faults, and their order.
use Rattle.std.specs.Prelude.{◌≡◌, ℕ, List, [], ◌∷◌, ◌++◌, map, fold, codes, Option, Some, None}
use Rattle.std.specs.BTreeMap.{insert_entry}
use Rattle.std.specs.List.Sorted.{IsStrictlySortedBy}
use Rattle.cdi_model.specs.Bytes.{byte_order, dot, space}
use Rattle.cdi_model.specs.Decl.{declared_as, word_of_kind}
use Rattle.cdi_model.specs.PlaceText.{text_of_part_place}
use Rattle.cdi_model.specs.UseText.{text_of_use}
use Rattle.cdi_model.specs.declared.mention.PointPlace.{PointPlace}
use Rattle.cdi_model.specs.declared.mention.PointPlace.TheVariants as points
use Rattle.cdi_match.specs.Chain.{has}
use Rattle.cdi_effective.specs.BeanText.{text_of_id}
use Rattle.cdi_faults.specs.Codes.{code_of}
use Rattle.cdi_faults.specs.declared.fault.Code.{Code}
use Rattle.cdi_faults.specs.declared.fault.Code.TheVariants as fault_codes
use Rattle.cdi_faults.specs.declared.fault.Fault.{Fault}
use Rattle.cdi_faults.specs.declared.fault.Fault.TheVariants as faults_are
use Rattle.cdi_faults.specs.declared.fault.Subject.{Subject}
use Rattle.cdi_faults.specs.declared.fault.Subject.TheVariants as subjects

-- a word, a space, and what it is about
abbrev pub about : List ℕ → List ℕ → List ℕ
about word text = word ++ space ∷ text

abbrev pub in_producer : Option (List ℕ) → List ℕ → List ℕ
in_producer None text = text
in_producer (Some producer) text = about (codes "producer") (producer ++ space ∷ text)

-- a point of a constructor is called so, one of a method a param
abbrev pub text_of_point : PointPlace → List ℕ → List ℕ
text_of_point points.Constructor point = about (codes "point") point
text_of_point (points.Producer method) point = about (codes "producer") (method ++ space ∷ about (codes "param") point)
text_of_point (points.Observer method) point = about (codes "observer") (method ++ space ∷ about (codes "param") point)

abbrev pub text_of_subject : Subject → List ℕ
text_of_subject subjects.Whole = []
text_of_subject (subjects.Type name) = about (codes "type") name
text_of_subject (subjects.Used kind name) = about (word_of_kind (declared_as kind)) name
text_of_subject (subjects.Stereotype name) = about (codes "stereotype") name
text_of_subject (subjects.Extends name) = about (codes "extends") name
text_of_subject (subjects.Implements name) = about (codes "implements") name
text_of_subject subjects.Class = codes "class"
text_of_subject (subjects.Typed producer name) = in_producer producer (about (codes "typed") name)
text_of_subject (subjects.Producer name) = about (codes "producer") name
text_of_subject (subjects.Disposer name) = about (codes "disposer") name
text_of_subject (subjects.Observer name) = about (codes "observer") name
text_of_subject (subjects.Use kind u) = about (word_of_kind (declared_as kind)) (text_of_use u)
text_of_subject (subjects.Point place point) = text_of_point place point
text_of_subject (subjects.Part place) = text_of_part_place place
text_of_subject (subjects.Call place point method) = about (text_of_part_place place) (about (codes "call") (point ++ dot ∷ method))

-- ---- what a fault prints

abbrev pub text_of_code : Code → List ℕ
text_of_code fault_codes.UnknownName = codes "F01"
text_of_code fault_codes.Cycle = codes "F02"
text_of_code fault_codes.BadKind = codes "F03"
text_of_code fault_codes.Typed = codes "F04"
text_of_code fault_codes.ScopeConflict = codes "F05"
text_of_code fault_codes.BindingConflict = codes "F06"
text_of_code fault_codes.Member = codes "F07"
text_of_code fault_codes.Disposer = codes "F08"
text_of_code fault_codes.ConditionalDependent = codes "F09"
text_of_code fault_codes.Body = codes "F10"
text_of_code fault_codes.NoBinding = codes "F11"
text_of_code fault_codes.Unsatisfied = codes "F20"
text_of_code fault_codes.Ambiguous = codes "F21"
text_of_code fault_codes.Unproxyable = codes "F22"
text_of_code fault_codes.Site = codes "F23"
text_of_code fault_codes.NameClash = codes "F24"
text_of_code fault_codes.NamePrefix = codes "F25"
text_of_code fault_codes.Circular = codes "F26"
text_of_code fault_codes.NoSpecialized = codes "F27"
text_of_code fault_codes.SpecializedType = codes "F28"
text_of_code fault_codes.SpecializedName = codes "F29"
text_of_code fault_codes.SpecializedTwice = codes "F30"

-- the name of the code
abbrev pub word_of_code : Code → List ℕ
word_of_code fault_codes.UnknownName = codes "UnknownName"
word_of_code fault_codes.Cycle = codes "Cycle"
word_of_code fault_codes.BadKind = codes "BadKind"
word_of_code fault_codes.Typed = codes "Typed"
word_of_code fault_codes.ScopeConflict = codes "ScopeConflict"
word_of_code fault_codes.BindingConflict = codes "BindingConflict"
word_of_code fault_codes.Member = codes "Member"
word_of_code fault_codes.Disposer = codes "Disposer"
word_of_code fault_codes.ConditionalDependent = codes "ConditionalDependent"
word_of_code fault_codes.Body = codes "Body"
word_of_code fault_codes.NoBinding = codes "NoBinding"
word_of_code fault_codes.Unsatisfied = codes "Unsatisfied"
word_of_code fault_codes.Ambiguous = codes "Ambiguous"
word_of_code fault_codes.Unproxyable = codes "Unproxyable"
word_of_code fault_codes.Site = codes "Site"
word_of_code fault_codes.NameClash = codes "NameClash"
word_of_code fault_codes.NamePrefix = codes "NamePrefix"
word_of_code fault_codes.Circular = codes "Circular"
word_of_code fault_codes.NoSpecialized = codes "NoSpecialized"
word_of_code fault_codes.SpecializedType = codes "SpecializedType"
word_of_code fault_codes.SpecializedName = codes "SpecializedName"
word_of_code fault_codes.SpecializedTwice = codes "SpecializedTwice"

-- behind a space, where it is not empty
abbrev pub behind_space : List ℕ → List ℕ
behind_space [] = []
behind_space (c ∷ cs) = space ∷ c ∷ cs

-- what a fault is about: the kind and the name of the declaration, and the subject; or the names; or a bean by its id; or three beans
abbrev pub text_behind_code : Fault → List ℕ
text_behind_code (faults_are.Declared code kind name subject) = about (word_of_kind kind) (name ++ behind_space (text_of_subject subject))
text_behind_code (faults_are.NameClash name) = about (codes "name") name
text_behind_code (faults_are.NamePrefix name longer) = about (codes "name") (name ++ space ∷ longer)
text_behind_code (faults_are.Circular class producer) = about (codes "bean") (text_of_id (record { class = class; producer = producer }))
text_behind_code (faults_are.SpecializedTwice specialized first second) = about (codes "bean")
    (specialized ++ space ∷ first ++ space ∷ second)

-- each prints its code first
abbrev pub text_of_fault : Fault → List ℕ
text_of_fault fault = about (text_of_code (code_of fault)) (text_behind_code fault)

-- ---- order

-- subjects by their texts, in the byte order of these
abbrev pub by_text : List Subject → List (List ℕ × Subject)
by_text ms = fold (λ entries m. insert_entry byte_order entries (text_of_subject m) m) [] ms

-- subjects in the byte order of their texts, each once
unfoldable pub in_text_order : List Subject → List Subject
in_text_order ms = map (λ entry. entry.1) (by_text ms)

-- The texts of the subjects that are put in order rise, and are those of these subjects.
abbrev pub SubjectsInOrder : Type 0
SubjectsInOrder = (ms : List Subject)
    → IsStrictlySortedBy byte_order (map text_of_subject (in_text_order ms))
    × ((text : List ℕ) → has (map text_of_subject (in_text_order ms)) text ≡ has (map text_of_subject ms) text)
