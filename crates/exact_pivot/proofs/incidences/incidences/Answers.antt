use Rattle.std.proofs.Common.{◌+◌, List, ℤ, take, ◌<◌, length, refl, sym, ap, ◌∙◌, subst, subst₂, arith}
use Rattle.std.specs.List.{All}
use Rattle.exact_rows.specs.declared.sparse.Entry.{Entry}
use Rattle.exact_pivot.specs.Scattered.{last_column, AddsClause, AreIncidences}
use Rattle.exact_pivot.proofs.Positions.{rises_at}
use Rattle.exact_pivot.proofs.Pivoting.{written_back}
use Rattle.exact_pivot.proofs.Scattering.{rows_behind, rows_next}
use Rattle.exact_pivot.proofs.incidences.incidences.Goals as goal

pub clause-requires-clause-first : goal.clause-requires-clause-first
clause-requires-clause-first c = (rises_at 0 (length c.args.f.now.clauses) c.args.kept.now c.loop-i.i c.requires (omega arith)).above

pub clause-requires-clause-last : goal.clause-requires-clause-last
clause-requires-clause-last c = (rises_at 0 (length c.args.f.now.clauses) c.args.kept.now c.loop-i.i c.requires (omega arith)).most

pub add_clause-requires-clause-behind : goal.add_clause-requires-clause-behind
add_clause-requires-clause-behind c =
    subst (All (λ (es : List Entry). last_column es < c.loop-i.i + 1)) (sym c.deref_mut.ensures.value)
    (rows_behind c.args.f.now c.args.kept.now c.loop-i.i c.loop-i.rows.items (omega arith) c.loop-i.invariant)

pub loop-i-preserved : goal.loop-i-preserved
loop-i-preserved c =
    let added = c.in_ok-add_clause.ensures in
    let now = c.add_clause.new.rows in
    let back = written_back now c.loop-i.rows.items c.loop-i.rows.len (added.size ∙ ap (λ (rs : List (List Entry)). length rs) c.deref_mut.ensures.value)
    (sym (ap (λ (rs : List (List Entry)). length rs) c.deref_mut.ensures.value) ∙ c.deref_mut.ensures.len) in
    subst (AreIncidences c.args.f.now (take (c.loop-i.i + 1) c.args.kept.now)) (sym back)
    (rows_next c.args.f.now c.args.kept.now c.loop-i.i _ c.loop-i.rows.items now (omega arith) refl c.loop-i.invariant
    (subst₂ (λ (ls : List ℤ) (rs : List (List Entry)). AddsClause ls (c.loop-i.i + 1) rs now) c.clause.ensures.value c.deref_mut.ensures.value added))
