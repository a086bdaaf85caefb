use Rattle.std.proofs.Common.{◌∙◌, refl}
use Rattle.check_tables.specs.LiteralSets.{less}
use Rattle.check_rounds.proofs.WorkSets.{work_less, empty_told, same_left, same_right, listed_within}
use Rattle.check_rounds.proofs.work.Work.is_clause.Goals as goal

pub returns-then-not-has_all-clause-same : goal.returns-then-not-has_all-clause-same
returns-then-not-has_all-clause-same c clause h =
    same_left c.args.n clause c.args.clause.now c.args.self.now c.has_all.result c.requires.clause h c.has_all.ensures c.if-not-has_all.true

pub is_empty-requires : goal.is_empty-requires
is_empty-requires c =
    let h = c.requires.work in
    let g = work_less c.args.n h.0 c.args.clause.now c.args.self.now (record { flags = c.remove_all.new.self; literals = c.args.self.now.literals }) h.1 (c.remove_all.ensures.removed c.args.n h.0 c.requires.clause h.1.set) refl in
    listed_within c.args.n (less h.0 c.args.clause.now) _ g

pub returns-clause-same : goal.returns-clause-same
returns-clause-same c clause h =
    let g = work_less c.args.n clause c.args.clause.now c.args.self.now (record { flags = c.remove_all.new.self; literals = c.args.self.now.literals }) h (c.remove_all.ensures.removed c.args.n clause c.requires.clause h.set) refl in
    same_right c.args.n clause c.args.clause.now c.args.self.now c.has_all.result c.is_empty.result c.requires.clause h c.has_all.ensures c.if-not-has_all.false
    (c.is_empty.ensures ∙ empty_told c.args.n (less clause c.args.clause.now) _ g)

pub returns-clause-work : goal.returns-clause-work
returns-clause-work c =
    let h = c.requires.work in
    (less h.0 c.args.clause.now, work_less c.args.n h.0 c.args.clause.now c.args.self.now (record { flags = c.remove_all.new.self; literals = c.args.self.now.literals }) h.1 (c.remove_all.ensures.removed c.args.n h.0 c.requires.clause h.1.set) refl)
