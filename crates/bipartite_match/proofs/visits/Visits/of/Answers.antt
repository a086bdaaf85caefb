use Rattle.std.proofs.Common.{List, ℕ, ap, sym, ◌∙◌, refl}
use Rattle.bipartite_match.specs.Visiting.{roots_of}
use Rattle.bipartite_match.proofs.visits.Visits.of.Goals as goal

pub returns-clause-searched : goal.returns-clause-searched
returns-clause-searched c = λ part m h. c.in_ok-done.ensures.searched part m (
  record { can = h.can; ready = h.ready; vars = h.vars; bare = refl; marks_are = h.marks_are },
  c.in_ok-visits.ensures.queue ∙ ap (λ (us : List ℕ). roots_of us c.args.from) (sym h.bare),
)
