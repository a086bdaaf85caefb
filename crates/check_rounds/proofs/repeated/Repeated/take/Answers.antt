use Rattle.std.proofs.Common.{◌≡◌, ◌∙◌, ◌++◌, ◌∷◌, ℤ, List, Bool, [], true, Some, refl, sym, ap, subst}
use Rattle.std.specs.List.{list_all}
use Rattle.std.proofs.lemmas.List.{append-nil}
use Rattle.lk_model.specs.Formulas.Literal.{contains, complement, is_literal}
use Rattle.lk_model.specs.Chains.Chain.{without}
use Rattle.lk_model.proofs.Literals.{complement_literal}
use Rattle.check_tables.specs.LiteralSets.{IsSetOf}
use Rattle.check_rounds.specs.Chains.{IsWork}
use Rattle.check_rounds.specs.Repeats.{KeepsBut}
use Rattle.check_rounds.proofs.ChainChecks.{crossed_none, turn_made}
use Rattle.check_rounds.proofs.Repeating.{keeps_joined, again_joined, lost_literals, kept_repeated}
use Rattle.check_rounds.proofs.repeated.Repeated.take.Goals as goal

pub add_others-requires-clause-clause : goal.add_others-requires-clause-clause
add_others-requires-clause-clause c =
    let n = c.args.n in
    let t = c.args.t in
    let clause = c.requires.work.0 in
    let before = c.requires.work.1 in
    let removed = c.remove.ensures.removed n clause c.requires.literal before in
    let keeps : KeepsBut n t c.args.work.now c.remove.new.self =
    keeps_joined n clause [] t c.args.work.now c.remove.new.self before (subst (λ (ls : List ℤ). IsWork n ls c.remove.new.self) (sym (append-nil (without clause t))) removed) in
    let again = c.in_ok-lose.ensures.repeated n c.args.work.now c.remove.new.self c.requires.literal keeps c.requires.repeated in
    ap (list_all (is_literal n)) c.as_slice.ensures.value ∙ lost_literals n c.remove.new.self c.lose.new.self again

pub returns-clause-made : goal.returns-clause-made
returns-clause-made c clause h =
    let n = c.args.n in
    let t = c.args.t in
    let a = c.negated-against.result in
    let lit : is_literal n t ≡ true = c.requires.literal in
    let d = c.args.self.now.literals.items in
    let held : contains clause t ≡ true = sym (h.set.told t lit) ∙ sym c.has.ensures ∙ c.if-not-has.false in
    let other : is_literal n a ≡ true = ap (is_literal n) c.negated-against.ensures ∙ complement_literal n t lit in
    let against : contains d (complement t) ≡ true =
    ap (contains d) (sym c.negated-against.ensures) ∙ sym (c.requires.repeated.set.told a other) ∙ sym c.has-else-not-has.ensures ∙ c.if-not-has-2.false in
    let removed = c.remove.ensures.removed n clause lit h in
    let keeps : KeepsBut n t c.args.work.now c.remove.new.self =
    keeps_joined n clause [] t c.args.work.now c.remove.new.self h (subst (λ (ls : List ℤ). IsWork n ls c.remove.new.self) (sym (append-nil (without clause t))) removed) in
    let again = c.in_ok-lose.ensures.repeated n c.args.work.now c.remove.new.self lit keeps c.requires.repeated in
    let added : IsWork n (without clause t ++ without c.lose.new.self.lost.items a) c.add_others.new.self =
    subst (λ (ls : List ℤ). IsWork n (without clause t ++ without ls a) c.add_others.new.self) (crossed_none c.args.blocks.now c.as_slice.result.now ∙ c.as_slice.ensures.value)
    (c.in_ok-add_others.ensures (without clause t) removed) in
    let joined = again_joined n (without clause t) a c.remove.new.self c.add_others.new.self c.lose.new.self removed again added in
    let there : IsWork n (without clause t ++ without d (complement t)) c.add_others.new.self =
    subst (λ (l : ℤ). IsWork n (without clause t ++ without d l) c.add_others.new.self) c.negated-against.ensures
    (subst (λ (ls : List ℤ). IsWork n (without clause t ++ without ls a) c.add_others.new.self) c.in_ok-lose.ensures.same.literals joined) in
    turn_made n clause d t (Some d) c.add_others.new.self refl held against there

pub returns-clause-repeated : goal.returns-clause-repeated
returns-clause-repeated c =
    let n = c.args.n in
    let t = c.args.t in
    let a = c.negated-against.result in
    let lit : is_literal n t ≡ true = c.requires.literal in
    let d = c.args.self.now.literals.items in
    let clause = c.requires.work.0 in
    let h = c.requires.work.1 in
    let same = c.in_ok-lose.ensures.same in
    let other : is_literal n a ≡ true = ap (is_literal n) c.negated-against.ensures ∙ complement_literal n t lit in
    let against : contains d a ≡ true = sym (c.requires.repeated.set.told a other) ∙ sym c.has-else-not-has.ensures ∙ c.if-not-has-2.false in
    let removed = c.remove.ensures.removed n clause lit h in
    let keeps : KeepsBut n t c.args.work.now c.remove.new.self =
    keeps_joined n clause [] t c.args.work.now c.remove.new.self h (subst (λ (ls : List ℤ). IsWork n ls c.remove.new.self) (sym (append-nil (without clause t))) removed) in
    let again = c.in_ok-lose.ensures.repeated n c.args.work.now c.remove.new.self lit keeps c.requires.repeated in
    let added : IsWork n (without clause t ++ without c.lose.new.self.lost.items a) c.add_others.new.self =
    subst (λ (ls : List ℤ). IsWork n (without clause t ++ without ls a) c.add_others.new.self) (crossed_none c.args.blocks.now c.as_slice.result.now ∙ c.as_slice.ensures.value)
    (c.in_ok-add_others.ensures (without clause t) removed) in
    let joined : IsWork n (without clause t ++ without d a) c.add_others.new.self =
    subst (λ (ls : List ℤ). IsWork n (without clause t ++ without ls a) c.add_others.new.self) same.literals
    (again_joined n (without clause t) a c.remove.new.self c.add_others.new.self c.lose.new.self removed again added) in
    kept_repeated n c.lose.new.self.number (without clause t) d a c.add_others.new.self _ c.requires.repeated.literals against (record {
      number = refl;
      literals = same.literals;
      set = subst (λ (fs : List Bool). IsSetOf n d fs) (sym same.set) c.requires.repeated.set;
      lost = c.in_ok-push.ensures.items ∙ ap (λ (ls : List ℤ). ls ++ a ∷ []) c.clear.ensures.items;
    }) joined
