use Rattle.std.proofs.Common.{rules, ◌≡◌, ◌∙◌, ◌≤◌, true, Bool, List, length, ap, sym, arith}
use Rattle.std.specs.List.{list_all}
use Rattle.lk_model.specs.Formulas.Literal.{variable, is_literal, is_distinct}
use Rattle.lk_model.specs.Held.VariableSets.{is_in, with_variable}
use Rattle.lk_model.proofs.Booleans.{and_true}
use Rattle.lk_model.proofs.Literals.{literal_at}
use Rattle.lk_model.proofs.Ranks.{literal_bounds}
use Rattle.unit_refutations.specs.declared.units.Units.{Units}
use Rattle.unit_refutations.proofs.Beginnings.{block_one, more_blocked, still_blocked}
use Rattle.unit_refutations.proofs.units.Units.block_clause.Goals as goal
use Rattle.unit_refutations.proofs.units.Units.block_clause.Goals.{then-not-has+in_ok-release, else-not-has}

pub loop-l-preserved : goal.loop-l-preserved
loop-l-preserved c =
    let F = c.args.f.now in
    let inv = c.loop-l.invariant in
    let clause = c.clause-l-items.result.now in
    let i = c.loop-l.l-index in
    let l = c.l-item.result in
    let now = c.loop-l.blocked in
    let size = inv.size in
    let vars = c.requires.size in
    elim c.if-not-has.branch [
      | then-not-has+in_ok-release w ↦
          let v = w.var-then-not-has.result in
          let is = w.var-then-not-has.ensures.value in
          let lit = literal_at F.vars clause i l (and_true (list_all (is_literal F.vars) clause) (is_distinct clause) c.clause-l-items.ensures.clause).0 c.loop-l-test.true in
          let most : variable c.l-item.result ≤ c.args.f.now.vars = (literal_bounds c.args.f.now.vars c.l-item.result (ap (is_literal c.args.f.now.vars) c.l-item.is ∙ lit)).1 in
          let last : w.var-then-not-has.result ≤ length c.loop-l.blocked = omega (arith, most, is, size, vars) in
          let blocked = w.blocked-is ∙ w.add.ensures ∙ ap (with_variable now) (w.var-then-not-has-2.ensures.value ∙ sym is) in
          let e = w.in_ok-release.ensures in
          record {
            size = ap (λ (x : List Bool). length x) w.blocked-is ∙ (let s : length w.add.new.self ≡ length c.loop-l.blocked = search rules in s) ∙ size;
            vars = λ u. ap (λ (x : List Bool). is_in x u) blocked
                ∙ more_blocked c.args.blocked.now now clause i v u l c.loop-l-test.true c.l-item.is is w.var-then-not-has.ensures.least last (inv.vars u);
            kept = block_one F now _ c.loop-l.self.lists _ c.loop-l.self.agenda.inside _ c.loop-l.self.trail _ v inv.kept w.var-then-not-has.ensures.least last (size ∙ vars) blocked
                (ap (λ (x : Units). x.lists) w.self-is ∙ e.lists) (ap (λ (x : Units). x.agenda.inside) w.self-is ∙ e.inside)
                (ap (λ (x : Units). x.trail.lits) w.self-is ∙ e.lits) (ap (λ (x : Units). x.trail.reasons) w.self-is ∙ e.reasons)
                (ap (λ (x : Units). x.trail.places) w.self-is ∙ e.places);
            inside = ap (λ (x : Units). x.agenda.inside) w.self-is ∙ e.inside ∙ inv.inside;
          }
      | else-not-has w ↦
          let there : is_in c.loop-l.blocked (variable c.l-item.result) ≡ true = search rules in
          record {
            size = ap (λ (x : List Bool). length x) w.blocked-is ∙ size;
            vars = λ u. ap (λ (x : List Bool). is_in x u) w.blocked-is ∙ still_blocked c.args.blocked.now now clause i u l c.loop-l-test.true c.l-item.is there (inv.vars u);
            kept = rw (w.blocked-is, w.self-is) inv.kept;
            inside = ap (λ (x : Units). x.agenda.inside) w.self-is ∙ inv.inside;
          }
    ]
