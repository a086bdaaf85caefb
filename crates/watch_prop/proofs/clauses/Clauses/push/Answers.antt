use Rattle.std.proofs.Common.{◌≡◌, ◌+◌, ◌++◌, ◌∷◌, [], ℕ, List, length, ap, arith, ◌∙◌}
use Rattle.watch_prop.proofs.Flat.{held_push}
use Rattle.watch_prop.proofs.clauses.Clauses.push.Goals as goal

pub invariant_of-self-2 : goal.invariant_of-self-2
invariant_of-self-2 c =
    let last : c.len.result ≡ length c.self.inside.lits.items + length c.args.lits.now = omega (arith, c.len.ensures, c.in_ok-extend_from_slice.ensures.len) in
    (held_push c.self.inside (record { numbers = c.push_reserved.new.self; lits = c.extend_from_slice.new.self; ends = c.push_reserved-2.new.self }) c.args.self.now c.args.number c.args.lits.now c.self.view_is c.self.invariant
    (c.push_reserved.ensures.items ∙ ap (λ (ns : List ℕ). ns ++ c.args.number ∷ []) c.in_ok-reserve.ensures.items)
    c.in_ok-extend_from_slice.ensures.items
    (c.push_reserved-2.ensures.items ∙ ap (λ (es : List ℕ). es ++ c.len.result ∷ []) c.in_ok-reserve-2.ensures.items ∙ ap (λ (n : ℕ). c.self.inside.ends.items ++ n ∷ []) last)).0

pub returns-clause-ok : goal.returns-clause-ok
returns-clause-ok c =
    let last : c.len.result ≡ length c.self.inside.lits.items + length c.args.lits.now = omega (arith, c.len.ensures, c.in_ok-extend_from_slice.ensures.len) in
    (held_push c.self.inside (record { numbers = c.push_reserved.new.self; lits = c.extend_from_slice.new.self; ends = c.push_reserved-2.new.self }) c.args.self.now c.args.number c.args.lits.now c.self.view_is c.self.invariant
    (c.push_reserved.ensures.items ∙ ap (λ (ns : List ℕ). ns ++ c.args.number ∷ []) c.in_ok-reserve.ensures.items)
    c.in_ok-extend_from_slice.ensures.items
    (c.push_reserved-2.ensures.items ∙ ap (λ (es : List ℕ). es ++ c.len.result ∷ []) c.in_ok-reserve-2.ensures.items ∙ ap (λ (n : ℕ). c.self.inside.ends.items ++ n ∷ []) last)).1
