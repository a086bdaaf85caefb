use Rattle.std.proofs.Common.{◌∙◌, sym, arith}
use Rattle.lk_model.specs.Held.VariableSets.{is_in}
use Rattle.variable_orders.proofs.Arriving.{all_come, passed_next, passed_out}
use Rattle.variable_orders.proofs.connection.by_connection.Goals as goal
use Rattle.variable_orders.proofs.connection.by_connection.Goals.{then-has+in_ok-come+in_ok-come_connected, else-has}

pub loop-v-preserved : goal.loop-v-preserved
loop-v-preserved c =
    let before = c.loop-v.coming.ahead in
    let v = c.loop-v.v in
    elim c.if-has.branch [
      | then-has+in_ok-come+in_ok-come_connected w ↦ rw (w.coming-is) (record {
        coming = w.in_ok-come_connected.ensures.coming;
        passed = λ u lt.
            w.in_ok-come_connected.ensures.fewer u
            (passed_out (is_in before) (is_in w.come.new.coming.ahead) v u w.come.ensures.ahead c.loop-v.invariant.passed lt);
      })
      | else-has w ↦ rw (w.coming-is) (record {
        coming = c.loop-v.invariant.coming;
        passed = λ u lt. passed_next (is_in before) v u c.loop-v.invariant.passed (sym c.has.ensures ∙ w.if-has.false) lt;
      })
    ]

pub returns : goal.returns
returns c =
    let n = c.vars-v-end.ensures.value in
    let end = c.loop-v-test.false in
    all_come c.args.over.now c.loop-v.coming c.loop-v.invariant.coming (λ u lt. c.loop-v.invariant.passed u (omega (arith, lt, n, end)))
