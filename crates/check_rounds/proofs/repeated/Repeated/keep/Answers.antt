use Rattle.std.proofs.Common.{◌≡◌, ◌∙◌, ◌++◌, ◌∷◌, ℤ, List, [], true, not, refl, ap, subst}
use Rattle.std.specs.List.{list_all}
use Rattle.lk_model.specs.Formulas.Literal.{is_literal, variable}
use Rattle.lk_model.specs.Formulas.Crossed.{crossed_out}
use Rattle.check_tables.specs.LiteralSets.{IsSetOf}
use Rattle.check_tables.proofs.LiteralSetLemmas.{all_within}
use Rattle.check_rounds.specs.Blocking.{is_before}
use Rattle.check_rounds.proofs.Repeating.{all_left}
use Rattle.check_rounds.proofs.repeated.Repeated.keep.Goals as goal

pub add_all-requires : goal.add_all-requires
add_all-requires c =
    let n = c.args.n in
    let b = is_before c.args.k c.args.blocks.now in
    let left = crossed_out b c.args.clause.now in
    let idle = c.forget.ensures n c.requires.repeated.0 c.requires.repeated.1 in
    let is : c.deref.result.now ≡ left = c.deref.ensures.value ∙ c.in_ok-push_left.ensures ∙ ap (λ (ls : List ℤ). ls ++ left) idle.literals in
    all_within n c.deref.result.now c.forget.new.self.held idle.set.size (ap (list_all (is_literal n)) is ∙ all_left (is_literal n) (λ l. not (b (variable l))) c.args.clause.now c.requires.clause)

pub returns : goal.returns
returns c =
    let n = c.args.n in
    let b = is_before c.args.k c.args.blocks.now in
    let left = crossed_out b c.args.clause.now in
    let idle = c.forget.ensures n c.requires.repeated.0 c.requires.repeated.1 in
    let items : c.push_left.new.literals.items ≡ left = c.in_ok-push_left.ensures ∙ ap (λ (ls : List ℤ). ls ++ left) idle.literals in
    let is : c.deref.result.now ≡ left = c.deref.ensures.value ∙ items in
    let lits : list_all (is_literal n) c.deref.result.now ≡ true = ap (list_all (is_literal n)) is ∙ all_left (is_literal n) (λ l. not (b (variable l))) c.args.clause.now c.requires.clause in
    record {
      number = refl;
      literals = items;
      set = subst (λ (ls : List ℤ). IsSetOf n ls c.add_all.new.self) is (c.add_all.ensures.added n [] lits idle.set);
      lost = c.in_ok-push.ensures.items ∙ ap (λ (ls : List ℤ). ls ++ c.args.but ∷ []) idle.lost;
    }
