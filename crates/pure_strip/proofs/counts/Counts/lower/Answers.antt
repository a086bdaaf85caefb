use Rattle.std.proofs.Common.{◌≡◌, ◌<◌, ◌≤◌, ◌∷◌, ℕ, true, subst, sym, ◌∙◌, arith, IsTrue, IsPermutation}
use Rattle.lk_model.specs.Formulas.Literal.{variable, complement, is_literal}
use Rattle.lk_model.proofs.Literals.{complement_literal}
use Rattle.pure_strip.specs.Counted.{Counted, count_of}
use Rattle.pure_strip.proofs.LoneLemmas.{Lone-stays, Lone-gone, Lone-ahead, Lone-back, count-at}
use Rattle.pure_strip.proofs.counts.Counts.lower.Goals.{then-remaining-eq0+then-var-self+then-index-ne0+in_ok-push, else-remaining-eq0, else-remaining-eq0-via-then-remaining-eq0+then-var-self+else-index-ne0, else-remaining-eq0-via-then-remaining-eq0+else-var-self, else-remaining-eq0-via-else-remaining-eq0}
use Rattle.pure_strip.proofs.counts.Counts.lower.Goals as goal

pub invariant_of-self-2 : goal.invariant_of-self-2
invariant_of-self-2 c =
    let lit : is_literal c.self.inside.vars c.args.l ≡ true = subst (λ (s : Counted). IsTrue (is_literal s.vars c.args.l)) (sym c.self.view_is) c.requires.literal in
    let held : 0 < count_of c.self.inside.counts c.args.l = subst (λ (s : Counted). 0 < count_of s.counts c.args.l) (sym c.self.view_is) c.requires.held in
    let other : is_literal c.self.inside.vars (complement c.args.l) ≡ true = complement_literal c.self.inside.vars c.args.l lit in
    elim c.if-remaining-eq0.branch [
      | then-remaining-eq0+then-var-self+then-index-ne0+in_ok-push w ↦
          let low : variable c.args.l < c.self.inside.next = subst (λ (k : ℕ). k < c.self.inside.next) w.var.ensures.value w.if-var-self.true in
          let more : IsPermutation (variable c.args.l ∷ c.self.inside.back) w.push.new.self = subst (λ (k : ℕ). IsPermutation (k ∷ c.self.inside.back) w.push.new.self) w.var-then-index-ne0.ensures.value w.in_ok-push.ensures.ok in
          rw w.self-inside-is (Lone-back _ _ _ _ _ _ _ c.self.invariant lit low more)
      | else-remaining-eq0 w ↦ rw w.self-inside-is (elim w.else-remaining-eq0.branch [
        | else-remaining-eq0-via-then-remaining-eq0+then-var-self+else-index-ne0 w' ↦
            let across : w'.index-then-var-self.result.now ≡ count_of c.self.inside.counts (complement c.args.l) = count-at _ _ _ _ _ c.self.invariant.size other w'.negated.ensures w'.index-then-var-self.ensures in
            Lone-gone _ _ _ _ _ _ c.self.invariant lit w'.if-remaining-eq0.true (sym across ∙ w'.if-index-ne0.false)
        | else-remaining-eq0-via-then-remaining-eq0+else-var-self w' ↦
            let ahead : c.self.inside.next ≤ variable c.args.l = subst (λ (k : ℕ). c.self.inside.next ≤ k) w'.var.ensures.value w'.if-var-self.false in
            Lone-ahead _ _ _ _ _ _ c.self.invariant ahead
        | else-remaining-eq0-via-else-remaining-eq0 w' ↦ Lone-stays _ _ _ _ _ _ c.self.invariant lit w'.if-remaining-eq0.false (λ e. absurd (omega (arith, held, e)))
      ])
    ]
