use Rattle.cdi_live.proofs.Common.{◌≡◌, length, subst, arith, ◌-◌, State, KnownAreWanted}
use Rattle.std.proofs.Common.{◌^◌, min}
use Rattle.cdi_live.proofs.KnownLemmas.{count-wanted, known-wanted}
use Rattle.cdi_live.specs.Known.{known_of}
use Rattle.cdi_live.proofs.live.Live.known.Goals as goal

pub returns-clause-count : goal.returns-clause-count
returns-clause-count c =
    let memos = c.self.inside.memos in
    let all = count-wanted memos c.self.inside.index.decls c.self.invariant.kept.asked c.count-choices.ensures.answered
    c.count-chains.ensures.answered c.count-events.ensures.answered in
    subst (λ (s : State). c.saturating_add-2.result ≡ min (length (known_of s)) (2 ^ 64 - 1)) c.self.view_is
    (omega (arith, all, c.count-choices.ensures.value, c.count-chains.ensures.value, c.count-events.ensures.value))

pub returns-clause-wanted : goal.returns-clause-wanted
returns-clause-wanted c =
    subst KnownAreWanted c.self.view_is (known-wanted c.self.inside.index.decls c.self.inside.memos c.self.invariant.kept.asked)
