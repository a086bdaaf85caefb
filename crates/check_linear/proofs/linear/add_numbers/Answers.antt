use Rattle.std.proofs.Common.{◌≡◌, ◌∙◌, ◌<◌, ◌≤◌, ◌-◌, ◌∷◌, ◌++◌, nat_le, [], get_or, length, ap, sym, arith, rules}
use Rattle.std.proofs.lemmas.Bool.{leb-true}
use Rattle.std.proofs.lemmas.Int.{to_z-of_z}
use Rattle.std.proofs.lemmas.List.{get_or_read}
use mir.Syntax.{w128}
use mir.Val.{SFits}
use Rattle.lk_model.specs.Formulas.Literal.{variable}
use Rattle.lk_model.proofs.Booleans.{and_true}
use Rattle.lk_model.proofs.Literals.{literal_at}
use Rattle.check_linear.specs.Linear.{numbers_of, signed}
use Rattle.check_linear.proofs.Numbers.{literal_added}
use Rattle.check_linear.proofs.linear.add_numbers.Goals as goal

pub loop-l-preserved : goal.loop-l-preserved
loop-l-preserved c =
    let n = c.args.n in
    let y = c.args.y in
    let clause = c.args.clause.now in
    let i = c.loop-l.l-index in
    let l = c.l-item.result in
    let v = c.var.result in
    let mid = c.loop-l.table in
    let fits : SFits w128 y = search rules in
    let b = and_true (nat_le 1 (variable (get_or clause i l))) (nat_le (variable (get_or clause i l)) n) (literal_at n clause i l c.requires.clause c.loop-l-test.true) in
    let within : v ≤ length mid = omega (arith, c.var.ensures.value, ap variable c.l-item.is, leb-true (variable (get_or clause i l)) n b.1, c.loop-l.auto.table, c.requires.size) in
    let inside : v - 1 < length mid = omega (arith, within, c.var.ensures.least) in
    let read : c.index-table-var.result ≡ numbers_of mid v = get_or_read mid (v - 1) c.index-table-var.result inside c.index-table-var.is [] in
    let held = sym c.index-table-var.is ∙ read in
    let sign : c.signed.result ≡ signed l y = simp to_z-of_z at c.signed.ensures in
    let pushed : c.push.new.self ≡ numbers_of mid v ++ signed l y ∷ [] = (let fits_too : SFits w128 c.signed.result = search rules in simp to_z-of_z at c.in_ok-push.ensures.ok) ∙ (λ j. held j ++ sign j ∷ []) in
    simp to_z-of_z (literal_added n y clause i l c.args.table.now mid v c.push.new.self c.loop-l-test.true c.l-item.is c.var.ensures.value c.var.ensures.least within pushed (simp to_z-of_z at c.loop-l.invariant))
