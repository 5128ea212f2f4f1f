-- Where no instance is live, the end of a request and a stop are legal with no entry.
use Rattle.cdi_container.proofs.Common.{◌≡◌, true, None, subst, sym, [], Deployed, Moment, beginning, Scene, Names, State, LegalEnd}
use Rattle.cdi_container.proofs.Common.{names_of, text_of_entries, closed, Done, EndsRequest, arith}
use Rattle.cdi_legal.proofs.Commands.{empty_ends}
use Rattle.cdi_container.specs.History.{refusal_of_end}

-- the state where a run stands so, and its trace is told by these names
abbrev pub standing_at : Deployed → Names → Moment → State
standing_at d names m = record {
  decls = d.decls;
  counts = d.counts;
  known = d.known;
  work = d.work;
  book = d.book;
  standing = m.standing;
  trace = m.trace;
  text = text_of_entries names m.trace;
}

-- it has begun, and no request is active any more
abbrev pub IsClosed : Moment → Moment → Type 0
IsClosed m n = n ≡ record (beginning m.standing) { standing = closed m.standing }

pub is_closed : (m r n : Moment) → r ≡ beginning m.standing → n ≡ record r { standing = closed r.standing } → IsClosed m n
is_closed m r n begun shut = subst (λ x. n ≡ record x { standing = closed x.standing }) begun shut

pub ends_nothing : (s : Scene) (m n : Moment) → m.standing.live ≡ [] → IsClosed m n → LegalEnd s m.standing n.trace n.standing
ends_nothing s m n none shut =
    subst (λ (x : Moment). LegalEnd s m.standing x.trace x.standing) (sym shut) (empty_ends.end s m.standing none)

pub ends_no_request : (d : Deployed) (names : Names) (old : State) (m n : Moment) → standing_at d names m ≡ old → m.standing.live ≡ []
    → IsClosed m n → EndsRequest old Done (standing_at d (names_of d.decls) n)
ends_no_request d names old m n is none shut = grind (arith, d.decls, m.standing, empty_ends.request_end)

-- the end of a request that is active is not refused
pub has_request : (d : Deployed) (names : Names) (old : State) (m : Moment) → standing_at d names m ≡ old
    → m.standing.active ≡ true → refusal_of_end old.standing ≡ None
has_request d names old m is active = grind (arith, m.standing)
