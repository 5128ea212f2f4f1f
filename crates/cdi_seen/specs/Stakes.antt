-- Which keys edits can touch.
use Rattle.std.specs.Prelude.{◌≡◌, ℕ, Bool, true, false, not, ◌&&◌, ◌||◌, List}
use Rattle.cdi_model.specs.DeclList.{AreDistinct}
use Rattle.cdi_model.specs.Decl.{key_of}
use Rattle.cdi_model.specs.Edits.{edited_all, edited_keys, is_among, Avoid}
use Rattle.cdi_model.specs.declared.decl.Decl.{Decl}
use Rattle.cdi_model.specs.declared.edit.Edit.{Edit}
use Rattle.cdi_match.specs.Chain.{has}
use Rattle.cdi_observe.specs.Keys.{Key, has_key}
use Rattle.cdi_observe.specs.Wanted.{is_wanted, wanted_by}
use Rattle.cdi_seen.specs.Touched.{is_touched, still_known}
use Rattle.cdi_seen.specs.Rests.{IsPresent, own_reads, TellsAffected}
use Rattle.cdi_seen.specs.Words.{given_for, names_under, sought}

-- ---- one key

-- By the words in a list, no affected declaration of it is listed under a name that the key seeks.
abbrev pub IsUnmet : List Decl → List Decl → (Decl → Bool) → Key → Type 0
IsUnmet ds list is_affected key = (d : Decl) → IsPresent list d → is_affected d ≡ true
    → (x : List ℕ) → has (names_under list d (given_for key)) x ≡ true → has (sought ds key) x ≡ false

-- A key is not touched, wanted or not, where the edits leave its own part, and nothing affected meets it, before or after.
abbrev pub UnmetStayUntouched : Type 0
UnmetStayUntouched = (edits : List Edit) (ds : List Decl) (is_affected : Decl → Bool) → AreDistinct ds → AreDistinct (edited_all ds edits)
    → TellsAffected ds edits is_affected → (key : Key) → Avoid (own_reads ds key) edits → IsUnmet ds ds is_affected key
    → IsUnmet ds (edited_all ds edits) is_affected key → is_touched ds (edited_all ds edits) key ≡ false

-- What a declaration asks for is wanted still, where the edits don't put or remove the declaration.
abbrev pub OthersStayWanted : Type 0
OthersStayWanted = (edits : List Edit) (ds : List Decl) (d : Decl) (key : Key) → IsPresent ds d
    → is_among (edited_keys edits) (key_of d) ≡ false → has_key (wanted_by d) key ≡ true → is_wanted (edited_all ds edits) key ≡ true

-- ---- all keys

-- the wanted keys that find what an affected declaration gives, by its words in a list, are at stake
abbrev pub MetAreAtStake : List Decl → List Decl → (Decl → Bool) → (Key → Bool) → Type 0
MetAreAtStake ds list is_affected is_at_stake = (d : Decl) → IsPresent list d → is_affected d ≡ true
    → (key : Key) → is_wanted ds key ≡ true
    → (x : List ℕ) → has (names_under list d (given_for key)) x ≡ true → has (sought ds key) x ≡ true → is_at_stake key ≡ true

-- ---- finer

-- Two tests. One has all keys for which a declaration asks that the edits put or remove. The other has all wanted keys whose own part rests
-- on what is edited. It also has those that find what an affected declaration gives, before or after.
pub record AreSuspects (edits : List Edit) (ds es : List Decl) (is_affected : Decl → Bool) (is_dropped is_suspect : Key → Bool) : Type 0
  where
    pub dropped : (d : Decl) → IsPresent ds d → is_among (edited_keys edits) (key_of d) ≡ true
        → (key : Key) → has_key (wanted_by d) key ≡ true → is_dropped key ≡ true
    pub own : (key : Key) → is_wanted ds key ≡ true → is_suspect key ≡ false → Avoid (own_reads ds key) edits
    pub before : MetAreAtStake ds ds is_affected is_suspect
    pub after : MetAreAtStake ds es is_affected is_suspect

-- So of the known keys only those for which an edited declaration asked may no longer be wanted. Only those that are suspect are to be
-- compared.
abbrev pub SuspectsDecideKnown : Type 0
SuspectsDecideKnown = (edits : List Edit) (ds : List Decl) (is_affected : Decl → Bool) (is_dropped is_suspect : Key → Bool)
    → AreDistinct ds → AreDistinct (edited_all ds edits) → TellsAffected ds edits is_affected
    → AreSuspects edits ds (edited_all ds edits) is_affected is_dropped is_suspect
    → (knows : Key → Bool) → ((key : Key) → knows key ≡ true → is_wanted ds key ≡ true)
    → (key : Key) → still_known ds (edited_all ds edits) knows key
    ≡ (knows key && ((not (is_dropped key) || is_wanted (edited_all ds edits) key)
    && (not (is_suspect key) || not (is_touched ds (edited_all ds edits) key))))
