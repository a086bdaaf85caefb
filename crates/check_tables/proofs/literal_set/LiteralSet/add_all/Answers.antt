use Rattle.std.proofs.Common.{◌≡◌, ◌∙◌, ◌+◌, ◌++◌, ◌∷◌, List, ℤ, [], length, take, arith, refl, ap, sym, subst, append_assoc}
use Rattle.std.proofs.lemmas.List.{take_all, take_more, length-set, append-nil}
use Rattle.check_tables.specs.LiteralSets.{IsSetOf}
use Rattle.check_tables.proofs.LiteralSetLemmas.{set_more, item_literal}
use Rattle.check_tables.proofs.literal_set.LiteralSet.add_all.Goals as goal

pub loop-l-init : goal.loop-l-init
loop-l-init c = record { size = refl; added = λ n set lits s. subst (λ (ls : List ℤ). IsSetOf n ls c.args.self.now) (sym (append-nil set)) s }

pub loop-l-preserved : goal.loop-l-preserved
loop-l-preserved c =
    let literals = c.args.literals.now in
    let i = c.loop-l.l-index in
    let l = c.l-item.result in
    record {
      size = ap length c.add.ensures ∙ length-set c.loop-l.self _ _ ∙ c.loop-l.invariant.size;
      added = λ n set lits s.
          let more : (set ++ take i literals) ++ l ∷ [] ≡ set ++ take (i + 1) literals =
          append_assoc set (take i literals) (l ∷ []) ∙ ap (λ (ls : List ℤ). set ++ ls) (ap (λ (k : ℤ). take i literals ++ k ∷ []) c.l-item.is ∙ sym (take_more literals i l (omega arith))) in
          subst (λ (ls : List ℤ). IsSetOf n ls c.add.new.self) more
          (subst (λ flags. IsSetOf n ((set ++ take i literals) ++ l ∷ []) flags) (sym c.add.ensures)
          (set_more n (set ++ take i literals) c.loop-l.self l (c.loop-l.invariant.added n set lits s) (item_literal n literals i l lits (omega arith) c.l-item.is)));
    }

pub returns : goal.returns
returns c = record {
  size = c.loop-l.invariant.size;
  added = λ n set lits s.
      subst (λ (ls : List ℤ). IsSetOf n (set ++ ls) c.loop-l.self) (take_all c.loop-l.l-index c.args.literals.now (omega arith)) (c.loop-l.invariant.added n set lits s);
}
