use Rattle.std.proofs.Common.{◌≡◌, ◌+◌, ◌/◌, ◌++◌, length, arith}
use Rattle.std.proofs.lemmas.Result.{IfOk-at_ok, IfOk-weaker}
use Rattle.par_halves.specs.Answering.{GivesFrom}
use Rattle.par_halves.proofs.HalfResults.{gives_halves}
use Rattle.par_halves.proofs.halves.+halves.Goals as goal

pub returns : goal.returns
returns g t c =
    let h = length c.args.items.now / 2 in
    let left = c.split_at.result.0.now in
    let right = c.split_at.result.1.now in
    let us = c.in_ok-left_answers.left_answers.items in
    let ws = c.in_ok-right_answers.right_answers.items in
    IfOk-weaker c.appended.result (λ v. v.items ≡ us ++ ws) (λ v. GivesFrom g.F.Fn c.args.f.now c.args.from c.args.items.now v.items)
    (λ v is. gives_halves g.F.Fn c.args.f.now c.args.from (c.args.from + h) h c.args.items.now left right us ws v.items
    c.split_at.ensures.front c.split_at.ensures.back c.split_at.ensures.front_len (omega arith) is
    (IfOk-at_ok (λ v. GivesFrom g.F.Fn c.args.f.now c.args.from left v.items) {r = c.join-on_left.result.0} c.in_ok-left_answers.was c.join-on_left.ensures.first)
    (IfOk-at_ok (λ v. GivesFrom g.F.Fn c.args.f.now (c.args.from + h) right v.items) {r = c.join-on_left.result.1} c.in_ok-right_answers.was c.join-on_left.ensures.second))
    c.appended.ensures
