use Rattle.std.proofs.Common.{List, ℕ, ap, sym, subst, ◌∙◌, IsTrue}
use Rattle.lk_model.specs.Formulas.Formula.{Cnf}
use Rattle.lk_model.specs.Formulas.Lean.{are_positions}
use Rattle.bipartite_match.specs.declared.pairs.Pairs.{Pairs}
use Rattle.edit_text.specs.LiveClauses.{LiveClauses}
use Rattle.match_edits.specs.Followed.{IsLive}
use Rattle.match_edits.proofs.Holding.{now_held, seen_as}
use Rattle.match_edits.proofs.live.Live.of.Goals as goal

pub invariant_of-result : goal.invariant_of-result
invariant_of-result c =
    let F = c.args.f.now in let m = c.in_ok-of_var.field-0 in let part = c.as_slice.result.now in
    let p : Pairs = record { of_var = m.of_var; unmatched = m.unmatched } in
    let h : IsLive F part m = record {
      positions = subst (λ (ps : List ℕ). IsTrue (are_positions F ps)) (sym c.as_slice.ensures) c.in_ok-live.ensures.part;
      maximum = c.in_ok-of_var.ensures.maximum;
      ready = c.in_ok-of_var.ensures.ready;
    } in
    now_held c.in_ok-held.held part p m.seen (m.of_clause, subst (λ (G : Cnf). IsLive G part m) (sym c.in_ok-held.ensures) h)

pub returns : goal.returns
returns c =
    let F = c.args.f.now in let m = c.in_ok-of_var.field-0 in let part = c.as_slice.result.now in
    let p : Pairs = record { of_var = m.of_var; unmatched = m.unmatched } in
    let h : IsLive F part m = record {
      positions = subst (λ (ps : List ℕ). IsTrue (are_positions F ps)) (sym c.as_slice.ensures) c.in_ok-live.ensures.part;
      maximum = c.in_ok-of_var.ensures.maximum;
      ready = c.in_ok-of_var.ensures.ready;
    } in
    seen_as c.in_ok-held.held part p m.seen (m.of_clause, subst (λ (G : Cnf). IsLive G part m) (sym c.in_ok-held.ensures) h)
    ∙ ap (λ (G : Cnf). let s : LiveClauses = record { held = G; live = part } in s) c.in_ok-held.ensures
    ∙ ap (λ (ps : List ℕ). let s : LiveClauses = record { held = F; live = ps } in s) (c.as_slice.ensures ∙ c.in_ok-live.ensures.value)
