use Rattle.std.proofs.Common.{arith}
use Rattle.cdcl_core.proofs.Searches.{search_back}
use Rattle.cdcl_core.proofs.search.Search.begin_anew.Goals as goal

pub returns-then-present_level-gt0-clause-search : goal.returns-then-present_level-gt0-clause-search
returns-then-present_level-gt0-clause-search c =
    search_back c.args.over.now c.args.self.now 0 c.back.new.self c.retract.new.self c.requires.search
    (omega (arith, c.present_level.ensures.value, c.if-present_level-gt0.true)) c.back.ensures.vars c.back.ensures.place c.back.ensures.opened c.retract.ensures
