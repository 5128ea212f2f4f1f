-- The laws of whole commands.
use Rattle.cdi_legal.proofs.Common.{◌≡◌, refl, Outcome, Scene, Ends, Command, Moment, Entry, ◌≤◌, List, [], arith, ap, subst, sym, ◌∙◌}
use Rattle.cdi_legal.proofs.Common.{Scope, Standing, closed, Instance, beginning, Follows, last_in, context, after, IsRising, IsFurnished}
use Rattle.cdi_legal.proofs.Common.{LegalRun, LegalRequestEnd, LegalEnd, IsSingle}
use Rattle.cdi_model.specs.declared.decl.Scope.TheVariants as scopes
use Rattle.cdi_legal.proofs.Following.{ends_follow, runs_follow, then}
use Rattle.cdi_legal.proofs.{Growing.ends_grow, Growing.runs_grow, Sharing.ends_single, Sharing.runs_single}
use Rattle.cdi_legal.proofs.Settling.{Settled, context_settled, runs_settled, sound_apart}
use Rattle.cdi_legal.specs.Laws.{CommandsKeepFurnished, CommandsKeepSingle, CommandsRaiseGiven, EmptyEnds}

-- ---- at most one instance of each bean with a normal scope

single_of : (s : Scene) (a b : Standing) → a ≡ b → IsSingle s b.live → IsSingle s a.live
single_of s a b e q = subst (λ (x : Standing). IsSingle s x.live) (sym e) q

pub run_single : {s : Scene} {c : Command} {a : Standing} {t : List Entry} {o : Outcome} {b : Standing}
    → LegalRun s c a t o b → IsSingle s a.live → IsSingle s b.live
run_single {s} {c} {a} {t} {o} {b} l q = single_of s b l.end.standing l.leaves (runs_single l.runs q)

pub request_end_single : {s : Scene} {a : Standing} {t : List Entry} {b : Standing} → LegalRequestEnd s a t b
    → IsSingle s a.live → IsSingle s b.live
request_end_single {s} {a} {t} {b} l q = single_of s b (closed l.end.standing) l.leaves (ends_single l.ends q)

pub end_single : {s : Scene} {a : Standing} {t : List Entry} {b : Standing} → LegalEnd s a t b
    → IsSingle s a.live → IsSingle s b.live
end_single {s} {a} {t} {b} l q = single_of s b (closed l.end.standing) l.leaves (ends_single l.then (ends_single l.first q))

pub commands_keep_single : CommandsKeepSingle
commands_keep_single = record {
  run = λ s c a t o b l. run_single l;
  request_end = λ s a t b l. request_end_single l;
  end = λ s a t b l. end_single l;
}

-- ---- numbers

pub run_grows : {s : Scene} {c : Command} {a : Standing} {t : List Entry} {o : Outcome} {b : Standing}
    → LegalRun s c a t o b → a.given ≤ b.given
run_grows l = omega (arith, runs_grow l.runs, ap (λ (x : Standing). x.given) l.leaves)

pub request_end_grows : {s : Scene} {a : Standing} {t : List Entry} {b : Standing} → LegalRequestEnd s a t b
    → a.given ≤ b.given
request_end_grows l = omega (arith, ends_grow l.ends, ap (λ (x : Standing). x.given) l.leaves)

pub end_grows : {s : Scene} {a : Standing} {t : List Entry} {b : Standing} → LegalEnd s a t b → a.given ≤ b.given
end_grows l = omega (arith, ends_grow l.first, ends_grow l.then, ap (λ (x : Standing). x.given) l.leaves)

pub commands_raise_given : CommandsRaiseGiven
commands_raise_given = record {
  run = λ s c a t o b l. run_grows l;
  request_end = λ s a t b l. request_end_grows l;
  end = λ s a t b l. end_grows l;
}

-- ---- the fold of the entries

folded : (s : Standing) (m : Moment) → Follows (beginning s) m → m.standing ≡ after s m.trace
folded s m f = f.standing ∙ ap (λ (t : List Entry). after s t) (sym f.trace)

pub run_follows : {s : Scene} {c : Command} {a : Standing} {t : List Entry} {o : Outcome} {b : Standing}
    → LegalRun s c a t o b → b ≡ after a t
run_follows {s} {c} {a} l =
    l.leaves ∙ folded a l.end (runs_follow l.runs) ∙ ap (λ (t : List Entry). after a t) (sym l.pushed)

pub request_end_follows : {s : Scene} {a : Standing} {t : List Entry} {b : Standing} → LegalRequestEnd s a t b
    → b ≡ closed (after a t)
request_end_follows {s} {a} l = grind (arith, l.leaves, l.end, l.ends, l.pushed, folded, ends_follow)

pub end_follows : {s : Scene} {a : Standing} {t : List Entry} {b : Standing} → LegalEnd s a t b → b ≡ closed (after a t)
end_follows {s} {a} l = grind (arith, l.leaves, l.end, l.first, l.then, l.pushed, folded, then, ends_follow)

-- ---- where nothing is live

ends_empty : (s : Scene) (scope : Scope) (before : Standing) → before.live ≡ []
    → Ends s (context scope) (beginning before) (beginning before)
ends_empty s scope before h = Ends.context_empty _ _ (ap (λ (live : List Instance). last_in live scope) h)

pub empty_ends : EmptyEnds
empty_ends = record {
  request_end = λ s before h. record {
    end = beginning before;
    ends = ends_empty s scopes.Request before h;
    pushed = refl;
    leaves = refl;
  };
  end = λ s before h. record {
    middle = beginning before;
    end = beginning before;
    first = ends_empty s scopes.Request before h;
    then = ends_empty s scopes.Application before h;
    pushed = refl;
    leaves = refl;
  };
}

-- ---- dependent objects

settled_of : (s : Scene) (b : Standing) (m : Moment) (x : Standing) → x ≡ b → b.given ≡ m.standing.given → b.live ≡ m.standing.live
    → Settled s m → IsRising x.given x.live × IsFurnished s x.live
settled_of s b m x e given live h = grind (arith, h.rises, h.furnished)

pub commands_keep_furnished : CommandsKeepFurnished
commands_keep_furnished = grind (arith, settled_of, runs_settled, sound_apart, context_settled)
