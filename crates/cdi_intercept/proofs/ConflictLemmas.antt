-- Two of some bindings differ just where one is not like the one before it of its type.
use Rattle.std.proofs.Common.{arith, ◌≡◌, ◌<◌, ◌+◌, ℕ, Bool, true, false, not, ◌&&◌, ◌||◌, cond, List, ◌∷◌, length, drop, get_or, Option}
use Rattle.std.proofs.Common.{Some, None, refl, sym, ap, ◌∙◌}
use Rattle.std.proofs.{Math.Bool.or-false, lemmas.List.at_drop_more, lemmas.Option.slice_get-get_or, lemmas.Option.slice_get-map}
use Rattle.std.specs.{Borrow.Bor, List.list_any, Bool.Decides, Str.bytes_eq}
use Rattle.std.proofs.lemmas.Bool.Decides.{same_from_decides, Decides-like}
use Rattle.base_lists.proofs.Any.{any-same, any-or, any-none}
use Rattle.base_numbers.proofs.Texts.{one_text, same_text, bytes_eq-turned}
use Rattle.cdi_model.specs.declared.{decl.Decl.Decl, decl.MemberDecl.MemberDecl, quals.Qual.Qual}
use Rattle.cdi_model.specs.declared.decl.UseKind.TheVariants as use_kinds
use Rattle.cdi_match.specs.{Bindings.uses_in, Covering.are_alike, Covering.AgreesBy, Filling.declared_of}
use Rattle.cdi_match.proofs.CoverLemmas.{agrees_by_decides}
use Rattle.cdi_intercept.specs.Conflicts.{are_opposed, differs, has_conflict, use_at}

-- ---- uses that are alike

-- all members count
abbrev Alike : List MemberDecl → Qual → Qual → Type 0
Alike ms u v = AgreesBy (λ name. true) ms u v

abbrev members : List Decl → Qual → List MemberDecl
members ds u = declared_of ds use_kinds.Binding u.name

abbrev alike : List Decl → Qual → Qual → Bool
alike ds u v = are_alike ds use_kinds.Binding u v

alike-decides : (ds : List Decl) (u v : Qual) → Decides (alike ds u v) (Alike (members ds u) u v)
unfolding are_alike
alike-decides ds u v = agrees_by_decides (λ name. true) (members ds u) u v

same-members : (ds : List Decl) (u v : Qual) → u.name ≡ v.name → members ds u ≡ members ds v
same-members ds u v e = ap (declared_of ds use_kinds.Binding) e

turned : (ms ns : List MemberDecl) (u v : Qual) → ms ≡ ns → Alike ms u v → Alike ns v u
turned ms ns u v e h = rw (sym e) (record {
  same_name = sym h.same_name;
  same_given = sym h.same_given;
  same_values = λ name all. sym (h.same_values name all);
})

through : (ms ns : List MemberDecl) (u v w : Qual) → ms ≡ ns → Alike ms u v → Alike ns v w → Alike ms u w
through ms ns u v w e h k =
    let then : Alike ms v w = rw e k in
    record {
      same_name = h.same_name ∙ then.same_name;
      same_given = h.same_given ∙ then.same_given;
      same_values = λ name all. h.same_values name all ∙ then.same_values name all;
    }

alike-itself : (ds : List Decl) (u : Qual) → alike ds u u ≡ true
alike-itself ds u = (alike-decides ds u u).1 (record { same_name = refl; same_given = refl; same_values = λ name all. refl })

alike-turned : (ds : List Decl) (u v : Qual) → alike ds u v ≡ alike ds v u
alike-turned ds u v = grind (arith, same_from_decides, alike-decides, turned, same-members)

-- what is like a use is like each that is like it
alike-same : (ds : List Decl) (u v w : Qual) → alike ds u v ≡ true → alike ds u w ≡ alike ds v w
alike-same ds u v w is =
    let here : Alike (members ds u) u v = (alike-decides ds u v).0 is in
    let same : members ds u ≡ members ds v = same-members ds u v here.same_name in
    let back : Alike (members ds v) v u = turned (members ds u) (members ds v) u v same here in
    same_from_decides (alike ds u w) (alike ds v w) (alike-decides ds u w)
    (Decides-like (alike ds v w)
    (λ h. through (members ds u) (members ds v) u v w same here h)
    (λ h. through (members ds v) (members ds u) v u w (sym same) back h)
    (alike-decides ds v w))

opposed-itself : (ds : List Decl) (u : Qual) → are_opposed ds u u ≡ false
opposed-itself ds u = ap (λ b. bytes_eq u.name u.name && not b) (alike-itself ds u)
    ∙ ap (λ b. b && false) (same_text u.name u.name refl)

opposed-turned : (ds : List Decl) (u v : Qual) → are_opposed ds u v ≡ are_opposed ds v u
opposed-turned ds u v = ap (λ b. b && not (alike ds u v)) (bytes_eq-turned u.name v.name)
    ∙ ap (λ b. bytes_eq v.name u.name && not b) (alike-turned ds u v)

-- ---- by the first and the others

or-again : (a b c : Bool) → a ≡ false → ((a || b) || (b || c)) ≡ (b || c)
or-again a b c e = grind arith

pub conflict-cons : (ds : List Decl) (u : Qual) (us : List Qual)
    → has_conflict ds (u ∷ us) ≡ (list_any (are_opposed ds u) us || has_conflict ds us)
conflict-cons ds u us =
    ap (λ b. (are_opposed ds u u || list_any (are_opposed ds u) us) || b)
    (any-or (λ v. are_opposed ds v u) (λ v. list_any (are_opposed ds v) us) us
    ∙ ap (λ b. b || has_conflict ds us) (any-same (λ v. are_opposed ds v u) (are_opposed ds u) us (λ v. opposed-turned ds v u)))
    ∙ or-again (are_opposed ds u u) (list_any (are_opposed ds u) us) (has_conflict ds us) (opposed-itself ds u)

-- ---- by the latest of each type

-- two of some uses differ, or one of them from the one of its type that was before them all
abbrev pub differ_after : List Decl → (List ℕ → Option Qual) → List Qual → Bool
differ_after ds before us = list_any (λ u. differs ds (before u.name) u) us || has_conflict ds us

pub differ-first : (ds : List Decl) (us : List Qual) (before : List ℕ → Option Qual) → ((name : List ℕ) → before name ≡ None)
    → differ_after ds before us ≡ has_conflict ds us
differ-first ds us before none =
    ap (λ b. b || has_conflict ds us)
    (any-same (λ u. differs ds (before u.name) u) (λ u. false) us (λ u. ap (λ o. differs ds o u) (none u.name)) ∙ any-none us)

-- a use is like the one before it of its type: what differs from that differs from it
kept : (ds : List Decl) (was : Option Qual) (u v : Qual) → differs ds was u ≡ false
    → (differs ds was v || not (alike ds u v)) ≡ not (alike ds u v)
kept ds None u v same = refl
kept ds (Some before) u v same = grind (arith, alike-same)

-- one more was gone through
differ-next : (ds : List Decl) (before after : List ℕ → Option Qual) (u : Qual) (us : List Qual)
    → ((name : List ℕ) → after name ≡ cond (bytes_eq u.name name) (Some u) (before name))
    → differs ds (before u.name) u ≡ false
    → differ_after ds after us ≡ differ_after ds before (u ∷ us)
differ-next ds before after u us put same =
    ap (λ b. b || has_conflict ds us) (any-same _ _ us each
    ∙ any-or (λ v. differs ds (before v.name) v) (are_opposed ds u) us)
    ∙ joined (differs ds (before u.name) u) (list_any (λ v. differs ds (before v.name) v) us) (list_any (are_opposed ds u) us)
    (has_conflict ds us) (has_conflict ds (u ∷ us)) same (conflict-cons ds u us)
  where
    joined : (a b c d e : Bool) → a ≡ false → e ≡ (c || d) → ((b || c) || d) ≡ ((a || b) || e)
    joined true b c d e none is = absurd cc
    joined false true c d e none is = refl
    joined false false c d e none is = sym is

    each : (v : Qual) → differs ds (after v.name) v ≡ (differs ds (before v.name) v || are_opposed ds u v)
    each v = by (bytes_eq u.name v.name) refl
      where
        by : (b : Bool) → bytes_eq u.name v.name ≡ b
            → differs ds (after v.name) v ≡ (differs ds (before v.name) v || (bytes_eq u.name v.name && not (alike ds u v)))
        by true is =
            ap (λ o. differs ds o v) (put v.name ∙ ap (λ b. cond b (Some u) (before v.name)) is)
            ∙ sym (kept ds (before v.name) u v (ap (λ name. differs ds (before name) u) (sym (one_text u.name v.name is)) ∙ same))
            ∙ ap (λ b. differs ds (before v.name) v || (b && not (alike ds u v))) (sym is)
        by false is =
            ap (λ o. differs ds o v) (put v.name ∙ ap (λ b. cond b (Some u) (before v.name)) is)
            ∙ sym (or-false (differs ds (before v.name) v))
            ∙ ap (λ b. differs ds (before v.name) v || (b && not (alike ds u v))) (sym is)

-- the same of uses that are lent
pub differ-more : (ds : List Decl) (uses : List (Bor Qual)) (i : ℕ) (u : Bor Qual) (before after : List ℕ → Option Qual) (all : Bool)
    → i < length uses → u ≡ get_or uses i u
    → ((name : List ℕ) → after name ≡ cond (bytes_eq u.now.name name) (Some u.now) (before name))
    → differs ds (before u.now.name) u.now ≡ false
    → differ_after ds before (uses_in (drop i uses)) ≡ all
    → differ_after ds after (uses_in (drop (i + 1) uses)) ≡ all
differ-more ds uses i u before after all lt is put same so_far =
    differ-next ds before after u.now (uses_in (drop (i + 1) uses)) put same
    ∙ ap (λ v. differ_after ds before (uses_in (v ∷ drop (i + 1) uses))) is
    ∙ sym (at_drop_more (λ vs. differ_after ds before (uses_in vs)) uses i u lt)
    ∙ so_far

-- a position is noted
pub put-at : (uses : List (Bor Qual)) (i : ℕ) (u : Bor Qual) (here : Bool) (old : Option ℕ) → i < length uses → u ≡ get_or uses i u
    → use_at (uses_in uses) (cond here (Some i) old) ≡ cond here (Some u.now) (use_at (uses_in uses) old)
put-at uses i u here old lt is = grind (arith, slice_get-map, slice_get-get_or)
