-- Which records edits compute, and how many.
use Rattle.std.specs.Prelude.{ℕ, ◌+◌, ◌-◌, ◌^◌, min, nat_eq, Bool, true, false, ◌&&◌, List, length, filter, Option, Some, None, option_map}
use Rattle.std.specs.List.{list_any}
use Rattle.cdi_model.specs.declared.decl.Decl.{Decl}
use Rattle.cdi_model.specs.declared.decl.Kind.{Kind}
use Rattle.cdi_model.specs.declared.decl.Kind.TheVariants as kinds
use Rattle.cdi_model.specs.declared.key.DeclKey.{DeclKey}
use Rattle.cdi_model.specs.Decl.{key_of}
use Rattle.cdi_model.specs.DeclKey.{kind_number}
use Rattle.cdi_model.specs.DeclList.{find_decl}
use Rattle.cdi_model.specs.Edits.{is_among}
use Rattle.cdi_match.specs.Locality.{type_reads}
use Rattle.cdi_effective.specs.Disposers.{find_bean}
use Rattle.cdi_effective.specs.Reads.{record_reads}
use Rattle.cdi_index.specs.declared.counts.Counts.{Counts}

-- the kinds and names that the record of a declaration reads, where one is wanted: the closure of a declared type reads its types, and
-- the records of a declared bean read what they rest on
abbrev pub reads_by : Kind → List ℕ → List Decl → Option (List DeclKey)
reads_by kinds.Type name ds = option_map (λ d. type_reads ds name) (find_decl kinds.Type name ds)
reads_by kinds.Bean name ds = option_map (record_reads ds) (find_bean name ds)
reads_by other name ds = None

abbrev pub reads_of : List Decl → DeclKey → Option (List DeclKey)
reads_of ds k = reads_by k.kind k.name ds

-- edits of some kinds and names compute a record that is wanted after them: it was not wanted before, or read one of these
abbrev pub is_computed : List DeclKey → Option (List DeclKey) → Bool
is_computed keys None = true
is_computed keys (Some reads) = list_any (is_among reads) keys

-- declarations of the kind have records
abbrev pub is_recorded : Kind → Bool
is_recorded kinds.Type = true
is_recorded kinds.Bean = true
is_recorded other = false

-- the key is of the kind
abbrev pub is_of_kind : Kind → DeclKey → Bool
is_of_kind kind k = nat_eq (kind_number kind) (kind_number k.kind)

-- the record of a declaration is of the kind, and is computed
abbrev pub is_computed_of : Kind → List Decl → List DeclKey → DeclKey → Bool
is_computed_of kind ds keys k = is_of_kind kind k && is_computed keys (reads_of ds k)

-- how many records of a kind are computed where edits of these kinds and names lead from ds to es
abbrev pub computed : Kind → List Decl → List Decl → List DeclKey → ℕ
computed kind ds es keys = length (filter (λ d. is_computed_of kind ds keys (key_of d)) es)

-- a count is raised, and stays at the greatest u64
abbrev pub raised : ℕ → ℕ → ℕ
raised n more = min (n + more) (2 ^ 64 - 1)

-- the counts after such edits
abbrev pub counted : Counts → List Decl → List Decl → List DeclKey → Counts
counted old ds es keys = record {
  closures = raised old.closures (computed kinds.Type ds es keys);
  beans = raised old.beans (computed kinds.Bean ds es keys);
}
