use Rattle.std.proofs.Common.{◌≡◌, ◌<◌, ℕ, not, IsTrue}
use Rattle.lk_model.specs.Lists.{among}
use Rattle.watch_prop.specs.Propagation.{numbers_of}
use Rattle.test_search.proofs.words.play.Given as goal

abbrev pub invariant-loop-text : goal.invariant-loop-text
invariant-loop-text l = (l.p.vars ≡ l.vars) × ((n : ℕ) → l.number < n → IsTrue (not (among (numbers_of l.p.clauses) n)))
