use Rattle.std.proofs.Common.{◌≡◌, ◌+◌, List, [], ◌∷◌, ◌++◌, ℕ, Bool, ap, sym, subst, ◌∙◌, IsTrue}
use Rattle.std.proofs.lemmas.Result.{err_from_is_err_and}
use Rattle.lk_model.specs.Formulas.Formula.{Cnf, without_last}
use Rattle.lk_model.specs.Formulas.Literal.{is_clause}
use Rattle.bipartite_match.specs.declared.pairs.Pairs.{Pairs}
use Rattle.edit_text.specs.LiveClauses.{LiveClauses, with_added}
use Rattle.edit_text.specs.Edits.{has_room}
use Rattle.match_edits.specs.Held.{IsHeld, live_in}
use Rattle.match_edits.proofs.Grown.{last_back}
use Rattle.match_edits.proofs.Holding.{grown, grown_as, now_held}
use Rattle.match_edits.proofs.Rooms.{no_room, memory_out, all_well}
use Rattle.match_edits.proofs.live.Live.add.Goals as goal

pub returns-then-not-has_room-clause-limit : goal.returns-then-not-has_room-clause-limit
returns-then-not-has_room-clause-limit g c =
    no_room c.has_room.result (has_room c.args.self.now c.args.lits.now) c.if-not-has_room.true
    (c.has_room.ensures.value (live_in c.self.inside.held c.self.inside.pairs) ∙ ap (λ (x : LiveClauses). has_room x c.args.lits.now) c.self.view_is)

pub returns-in_err-push_within-clause-limit : goal.returns-in_err-push_within-clause-limit
returns-in_err-push_within-clause-limit g c =
    let p = err_from_is_err_and c.from_residual.result c.from_residual.ensures.1 in
    rw (p.1, p.2)
    (memory_out c.has_room.result (has_room c.args.self.now c.args.lits.now) c.if-not-has_room.false
    (c.has_room.ensures.value (live_in c.self.inside.held c.self.inside.pairs) ∙ ap (λ (x : LiveClauses). has_room x c.args.lits.now) c.self.view_is))

pub returns-in-Err-clause-limit : goal.returns-in-Err-clause-limit
returns-in-Err-clause-limit g c =
    rw (c.from.ensures)
    (memory_out c.has_room.result (has_room c.args.self.now c.args.lits.now) c.if-not-has_room.false
    (c.has_room.ensures.value (live_in c.self.inside.held c.self.inside.pairs) ∙ ap (λ (x : LiveClauses). has_room x c.args.lits.now) c.self.view_is))

pub returns-clause-limit : goal.returns-clause-limit
returns-clause-limit g c =
    all_well (c.len-number.result + 1) c.has_room.result (has_room c.args.self.now c.args.lits.now) c.if-not-has_room.false
    (c.has_room.ensures.value (live_in c.self.inside.held c.self.inside.pairs) ∙ ap (λ (x : LiveClauses). has_room x c.args.lits.now) c.self.view_is)

pub take_up-requires : goal.take_up-requires
take_up-requires g c =
    let s = c.self.inside in let n = c.len-number.result + 1 in let w = c.self.invariant in let live = live_in s.held s.pairs in
    let clause : IsTrue (is_clause s.held.vars c.args.lits.now) = subst (λ (x : LiveClauses). IsTrue (is_clause x.held.vars c.args.lits.now)) (sym c.self.view_is) c.requires in (
      live ++ n ∷ [],
      w.0 ++ 0 ∷ [],
      grown c.edit_laws.ensures s.held c.push_within.new.self live w.0 s.pairs s.marks c.args.lits.now n c.len-number.ensures.formula clause w.1
          (ap (λ (k : ℕ). k + 1) c.len-number.ensures.value) c.in_ok-push_within.ensures.ok,
    )

pub invariant_of-self-in_default : goal.invariant_of-self-in_default
invariant_of-self-in_default g c =
    let s = c.self.inside in let n = c.len-number.result + 1 in let w = c.self.invariant in let live = live_in s.held s.pairs in
    let clause : IsTrue (is_clause s.held.vars c.args.lits.now) = subst (λ (x : LiveClauses). IsTrue (is_clause x.held.vars c.args.lits.now)) (sym c.self.view_is) c.requires in
    now_held c.push_within.new.self (live ++ n ∷ []) c.take_up.new.pairs c.take_up.new.marks
    (c.in_default.ensures.live (live ++ n ∷ []) (w.0 ++ 0 ∷ []) (grown c.edit_laws.ensures s.held c.push_within.new.self live w.0 s.pairs s.marks c.args.lits.now n c.len-number.ensures.formula clause w.1
    (ap (λ (k : ℕ). k + 1) c.len-number.ensures.value) c.in_ok-push_within.ensures.ok))

pub returns-clause-ok : goal.returns-clause-ok
returns-clause-ok g c =
    let s = c.self.inside in let n = c.len-number.result + 1 in let w = c.self.invariant in let live = live_in s.held s.pairs in
    let clause : IsTrue (is_clause s.held.vars c.args.lits.now) = subst (λ (x : LiveClauses). IsTrue (is_clause x.held.vars c.args.lits.now)) (sym c.self.view_is) c.requires in
    let is : n ≡ _ = ap (λ (k : ℕ). k + 1) c.len-number.ensures.value in
    grown_as s.held c.push_within.new.self live c.take_up.new.pairs c.take_up.new.marks c.args.lits.now n is c.in_ok-push_within.ensures.ok
    (c.in_default.ensures.live (live ++ n ∷ []) (w.0 ++ 0 ∷ []) (grown c.edit_laws.ensures s.held c.push_within.new.self live w.0 s.pairs s.marks c.args.lits.now n c.len-number.ensures.formula clause w.1
    is c.in_ok-push_within.ensures.ok))
    ∙ ap (λ (x : LiveClauses). with_added x c.args.lits.now) c.self.view_is

pub invariant_of-self-in-Err : goal.invariant_of-self-in-Err
invariant_of-self-in-Err g c =
    let s = c.self.inside in
    let back : c.pop_clause.new.self ≡ s.held = c.pop_clause.ensures ∙ ap without_last c.in_ok-push_within.ensures.ok ∙ last_back s.held c.args.lits.now in
    subst (λ (x : Cnf). IsHeld x c.take_up.new.pairs c.take_up.new.marks) (sym back)
    (subst (λ (x : Pairs). IsHeld s.held x c.take_up.new.marks) (sym c.in-Err.ensures.err)
    (subst (λ (x : List Bool). IsHeld s.held s.pairs x) (sym c.take_up.ensures.marks) c.self.invariant))

pub returns-in-Err-clause-err : goal.returns-in-Err-clause-err
returns-in-Err-clause-err g c =
    let s = c.self.inside in
    let back : c.pop_clause.new.self ≡ s.held = c.pop_clause.ensures ∙ ap without_last c.in_ok-push_within.ensures.ok ∙ last_back s.held c.args.lits.now in
    ap (λ (x : Cnf). let y : LiveClauses = record { held = x; live = live_in x c.take_up.new.pairs } in y) back
    ∙ ap (λ (x : Pairs). let y : LiveClauses = record { held = s.held; live = live_in s.held x } in y) c.in-Err.ensures.err
    ∙ c.self.view_is
