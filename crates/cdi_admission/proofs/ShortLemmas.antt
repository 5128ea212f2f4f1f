-- A declaration that is not refused has short lists.
use Rattle.std.proofs.Common.{◌≡◌, ◌≤◌, ℕ, Bool, false, cond, ◌||◌, List, [], ◌∷◌, ◌++◌, map, length, Option, Some, None, ap, sym, ◌∙◌}
use Rattle.std.proofs.Common.{arith, nat_lt}
use Rattle.std.proofs.lemmas.{Bool.or_parts, Bool.Decides.nat_tests, List.length-map, Option.none-some}
use Rattle.std.specs.List.{list_any, flat_map}
use Rattle.base_lists.proofs.Any.{any-map, any-flat_map}
use Rattle.cdi_model.specs.Short.{HasShortLists, IsShortBean, IsShortInterceptor, IsShortPart}
use Rattle.cdi_model.specs.{Quals.list_limit, declared.decl.BeanDecl.BeanDecl, declared.decl.Decl.Decl, declared.decl.PartDecl.PartDecl}
use Rattle.cdi_model.specs.declared.decl.{InterceptorDecl.InterceptorDecl, MethodDecl.MethodDecl, ObserverDecl.ObserverDecl}
use Rattle.cdi_model.specs.declared.decl.{PointDecl.PointDecl, ProducerDecl.ProducerDecl}
use Rattle.cdi_model.specs.declared.refusal.Refusal.TheVariants.{BadName, Twice, ListTooLong}
use Rattle.cdi_model.specs.declared.decl.Decl.TheVariants as decls
use Rattle.cdi_admission.proofs.AnyLemmas.{HasNone, append-none, none-at}
use Rattle.cdi_admission.specs.Admission.{has_bad_name, has_long_list, has_long_part, is_long, is_long_part, lists_of_attributes}
use Rattle.cdi_admission.specs.Admission.{lists_of_producer, name_lists, is_long_one, point_names, refusal_of_decl, repeats_name}

-- ---- one list

pub at-most : (n : ℕ) → nat_lt list_limit n ≡ false → n ≤ list_limit
at-most n h = grind (arith, nat_tests)

short-part : (part : PartDecl) → is_long_part part ≡ false → IsShortPart part
short-part part h = grind (arith, part.calls, part.fires, at-most)

few-points : (points : List PointDecl) → is_long (point_names points) ≡ false → length points ≤ list_limit
few-points points h = at-most (length points) (ap (nat_lt list_limit) (sym (length-map points (λ (p : PointDecl). p.name))) ∙ h)

-- the part that is there
one-short : (o : Option PartDecl) → is_long_one o ≡ false → (part : PartDecl) → o ≡ Some part → IsShortPart part
one-short o h part e = short-part part (sym (ap is_long_one e) ∙ h)

-- ---- a bean, and an interceptor

params-of_producer : (p : ProducerDecl) → list_any is_long (lists_of_producer p) ≡ false → length p.params ≤ list_limit
params-of_producer p h = grind (arith, p.attributes, p.params, append-none, few-points)

record AreShort (a b c d e f : Bool) : Type 0 where
  pub construct : a ≡ false
  pub post : b ≡ false
  pub pre : c ≡ false
  pub methods : d ≡ false
  pub producers : e ≡ false
  pub observers : f ≡ false

parts-of_six : (a b c d e f : Bool) → (a || b || c || d || e || f) ≡ false → AreShort a b c d e f
parts-of_six a b c d e f h = grind arith

-- the names of the entries of its own lists, and the lists of the methods that have params
abbrev entry_names : BeanDecl → List (List (List ℕ))
entry_names d = point_names d.points ∷ map (λ m. m.name) d.methods ∷ map (λ p. p.name) d.producers ∷ map (λ s. s.name) d.disposers
    ∷ map (λ o. o.name) d.observers ∷ []

abbrev lists_of_params : BeanDecl → List (List (List ℕ))
lists_of_params d = flat_map lists_of_producer d.producers ++ map (λ o. point_names o.params) d.observers

short-bean : (d : BeanDecl) → has_long_list (decls.Bean d) ≡ false → IsShortBean d
short-bean d h =
    let both = or_parts (list_any is_long (name_lists (decls.Bean d))) (has_long_part (decls.Bean d)) h in
    let parts = parts-of_six (is_long_one d.construct) (is_long_one d.post) (is_long_one d.pre)
    (list_any (λ m. is_long_part m.part) d.methods)
    (list_any (λ p. is_long_part p.part) d.producers) (list_any (λ o. is_long_part o.part) d.observers) both.1 in
    let lists = append-none is_long (lists_of_attributes d.attributes) (entry_names d ++ lists_of_params d) both.0 in
    let params = append-none is_long (flat_map lists_of_producer d.producers) (map (λ (o : ObserverDecl). point_names o.params) d.observers)
    (append-none is_long (entry_names d) (lists_of_params d) lists.1).1 in
    let of_producers : HasNone (λ p. list_any is_long (lists_of_producer p)) d.producers =
    sym (any-flat_map is_long lists_of_producer d.producers) ∙ params.0 in
    let of_observers : HasNone (λ (o : ObserverDecl). is_long (point_names o.params)) d.observers =
    sym (any-map is_long (λ (o : ObserverDecl). point_names o.params) d.observers) ∙ params.1 in
    record {
      construct = one-short d.construct parts.construct;
      post = one-short d.post parts.post;
      pre = one-short d.pre parts.pre;
      methods = λ k m e. short-part m.part (none-at (λ (m : MethodDecl). is_long_part m.part) d.methods k m parts.methods e);
      producers = λ k p e. record {
        params = params-of_producer p (none-at (λ p. list_any is_long (lists_of_producer p)) d.producers k p of_producers e);
        part = short-part p.part (none-at (λ (p : ProducerDecl). is_long_part p.part) d.producers k p parts.producers e);
      };
      observers = λ k o e. record {
        params = few-points o.params (none-at (λ (o : ObserverDecl). is_long (point_names o.params)) d.observers k o of_observers e);
        part = short-part o.part (none-at (λ (o : ObserverDecl). is_long_part o.part) d.observers k o parts.observers e);
      };
    }

short-interceptor : (d : InterceptorDecl) → has_long_list (decls.Interceptor d) ≡ false → IsShortInterceptor d
short-interceptor d h =
    let both = or_parts (list_any is_long (name_lists (decls.Interceptor d))) (has_long_part (decls.Interceptor d)) h in
    let three = or_parts (is_long_one d.around_invoke || is_long_one d.around_construct || is_long_one d.post) (is_long_one d.pre) both.1 in
    let two = or_parts (is_long_one d.around_invoke || is_long_one d.around_construct) (is_long_one d.post) three.0 in
    let one = or_parts (is_long_one d.around_invoke) (is_long_one d.around_construct) two.0 in
    record {
      around_invoke = one-short d.around_invoke one.0;
      around_construct = one-short d.around_construct one.1;
      post = one-short d.post two.1;
      pre = one-short d.pre three.1;
    }

short-decl : (d : Decl) → has_long_list d ≡ false → HasShortLists d
short-decl (decls.Bean d) h = short-bean d h
short-decl (decls.Interceptor d) h = short-interceptor d h
short-decl d h = tt

-- what is not refused has no long list
not-refused : (a b c : Bool) → cond a (Some BadName) (cond b (Some Twice) (cond c (Some ListTooLong) None)) ≡ None → c ≡ false
not-refused a b c e = grind (arith, none-some)

pub short_admitted : (d : Decl) → refusal_of_decl d ≡ None → HasShortLists d
unfolding refusal_of_decl
short_admitted d e = short-decl d (not-refused (has_bad_name d) (repeats_name d) (has_long_list d) e)
