use Rattle.std.proofs.Common.{◌≡◌, ◌∙◌, ◌++◌, ℤ, true, not, Some, sym, ap, subst, inl, inr}
use Rattle.std.specs.List.{list_all}
use Rattle.lk_model.specs.Formulas.Literal.{contains, complement, is_literal, variable}
use Rattle.lk_model.specs.Formulas.Crossed.{crossed_out}
use Rattle.lk_model.specs.Chains.Chain.{clause_named, without}
use Rattle.check_rounds.specs.Blocking.{is_before}
use Rattle.check_rounds.specs.Chains.{IsWork, premises_at, round_of}
use Rattle.check_rounds.specs.Repeats.{IsRepeated, HasKept}
use Rattle.check_rounds.proofs.Repeating.{all_left, keeps_joined, kept_repeated, named_kept, named_same, same_repeated}
use Rattle.check_rounds.proofs.ChainChecks.{turn_made, turn_unnamed}
use Rattle.check_rounds.proofs.chains.take.Goals as goal

-- the work, as it was joined
pub note-requires-clause-repeated : goal.note-requires-clause-repeated
note-requires-clause-repeated c =
    let n = c.args.over.now.formula.now.vars in
    let t = c.args.turn.lit in
    let clause = c.requires.work.0 in
    let h = c.requires.work.1 in
    let vars = c.vars-n.ensures.value in
    let removed = c.remove.ensures.removed n clause c.requires.literal h in
    let added = subst (λ m. IsWork m (without clause t ++ without (crossed_out (is_before c.round_of-k.result c.args.over.now.blocked_at.now) c.in-Some.clause.now) c.negated-against.result) c.add_others.new.self) vars
    (c.in_ok-add_others.ensures (without clause t) (subst (λ m. IsWork m (without clause t) c.remove.new.self) (sym vars) removed)) in
    let keeps = keeps_joined n clause (without (crossed_out (is_before c.round_of-k.result c.args.over.now.blocked_at.now) c.in-Some.clause.now) c.negated-against.result) t c.args.work.now c.add_others.new.self h added in
    let again = c.in_ok-lose.ensures.repeated n c.args.work.now c.add_others.new.self c.requires.literal keeps c.requires.repeated in
    (c.add_others.new.self, subst (λ m. IsRepeated m c.add_others.new.self c.lose.new.self) (sym vars) again)

pub returns-clause-made : goal.returns-clause-made
returns-clause-made c clause h =
    let over = c.args.over.now in
    let n = over.formula.now.vars in
    let t = c.args.turn.lit in
    let k = c.args.turn.with in
    let other = crossed_out (is_before (round_of over k) over.blocked_at.now) c.in-Some.clause.now in
    let lit : is_literal n t ≡ true = c.requires.literal in
    let held : contains clause t ≡ true = sym (h.set.told t lit) ∙ sym c.has.ensures ∙ c.if-not-has.false in
    let against : contains other (complement t) ≡ true =
    ap (λ (l : ℤ). contains other l) (sym c.negated-against.ensures)
    ∙ ap (λ j. contains (crossed_out (is_before j over.blocked_at.now) c.in-Some.clause.now) c.negated-against.result) (sym c.round_of-k.ensures) ∙ sym c.holds.ensures ∙ c.if-not-holds.false in
    let removed = c.remove.ensures.removed n clause lit h in
    let added : IsWork c.vars-n.result (without clause t ++ without (crossed_out (is_before c.round_of-k.result over.blocked_at.now) c.in-Some.clause.now) c.negated-against.result) c.add_others.new.self =
    c.in_ok-add_others.ensures (without clause t) (subst (λ m. IsWork m (without clause t) c.remove.new.self) (sym c.vars-n.ensures.value) removed) in
    let there : IsWork n (without clause t ++ without other (complement t)) c.add_others.new.self =
    subst (λ m. IsWork m (without clause t ++ without other (complement t)) c.add_others.new.self) c.vars-n.ensures.value
    (subst (λ (l : ℤ). IsWork c.vars-n.result (without clause t ++ without other l) c.add_others.new.self) c.negated-against.ensures
    (subst (λ j. IsWork c.vars-n.result (without clause t ++ without (crossed_out (is_before j over.blocked_at.now) c.in-Some.clause.now) c.negated-against.result) c.add_others.new.self) c.round_of-k.ensures added)) in
    turn_made n clause other t (clause_named (premises_at over c.args.i) k) c.add_others.new.self c.in-Some.ensures.some held against there

pub returns-in_default-clause-made : goal.returns-in_default-clause-made
returns-in_default-clause-made c clause h =
    turn_unnamed c.args.over.now.formula.now.vars clause c.args.turn.lit (clause_named (premises_at c.args.over.now c.args.i) c.args.turn.with) c.args.work.now (c.named.ensures.none c.in_default.is) h

pub returns-clause-repeated : goal.returns-clause-repeated
returns-clause-repeated c =
    let over = c.args.over.now in
    let n = over.formula.now.vars in
    let t = c.args.turn.lit in
    let clause = c.requires.work.0 in
    let h = c.requires.work.1 in
    let vars = c.vars-n.ensures.value in
    let other = crossed_out (is_before c.round_of-k.result over.blocked_at.now) c.in-Some.clause.now in
    let a = c.negated-against.result in
    let removed = c.remove.ensures.removed n clause c.requires.literal h in
    let added : IsWork n (without clause t ++ without other a) c.add_others.new.self =
    subst (λ m. IsWork m (without clause t ++ without other a) c.add_others.new.self) vars
    (c.in_ok-add_others.ensures (without clause t) (subst (λ m. IsWork m (without clause t) c.remove.new.self) (sym vars) removed)) in
    let keeps = keeps_joined n clause (without other a) t c.args.work.now c.add_others.new.self h added in
    let again = c.in_ok-lose.ensures.repeated n c.args.work.now c.add_others.new.self c.requires.literal keeps c.requires.repeated in
    let against : contains other a ≡ true = sym c.holds.ensures ∙ c.if-not-holds.false in
    let lits : list_all (is_literal n) other ≡ true = all_left (is_literal n) (λ l. not (is_before c.round_of-k.result over.blocked_at.now (variable l))) c.in-Some.clause.now c.in-Some.ensures.literals in
    elim c.in_ok-note.ensures [
      | inl same ↦ same_repeated n c.add_others.new.self c.lose.new.self c.note.new.self same.0 same.1 again
      | inr kept ↦ kept_repeated n c.args.turn.with (without clause t) other a c.add_others.new.self c.note.new.self lits against
          (subst (λ m. HasKept m c.args.turn.with other a c.note.new.self) vars kept) added
    ]

pub returns-clause-named : goal.returns-clause-named
returns-clause-named c =
    let over = c.args.over.now in
    let from = premises_at over c.args.i in
    let other = crossed_out (is_before c.round_of-k.result over.blocked_at.now) c.in-Some.clause.now in
    let is : clause_named from c.args.turn.with ≡ Some other =
    c.in-Some.ensures.some ∙ ap (λ j. Some (crossed_out (is_before j over.blocked_at.now) c.in-Some.clause.now)) (sym c.round_of-k.ensures) in
    elim c.in_ok-note.ensures [
      | inl same ↦ named_same from c.lose.new.self c.note.new.self same.0 (named_same from c.args.repeated.now c.lose.new.self c.in_ok-lose.ensures.same c.requires.named)
      | inr kept ↦ named_kept from c.vars-n.result c.args.turn.with other c.negated-against.result c.note.new.self is kept
    ]
