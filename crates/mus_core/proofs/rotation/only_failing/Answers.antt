use Rattle.std.proofs.Common.{◌≡◌, ◌+◌, ◌∙◌, ℕ, Bool, [], List, ℤ, Option, take, get_or, slice_index_or, sym, ap, subst}
use Rattle.std.proofs.lemmas.List.{get_or_default, take_all}
use Rattle.lk_model.specs.Formulas.Literal.{complement, rank_of}
use Rattle.lk_model.specs.Held.PartialValues.{assignment_by}
use Rattle.lk_model.proofs.Lists.{among_at}
use Rattle.lk_model.proofs.Literals.{complement_literal}
use Rattle.mus_core.specs.Rotations.{fails}
use Rattle.mus_core.proofs.Rotated.{FoundIn, found_still, found_first, only_found, is_none, against_bounds}
use Rattle.mus_core.proofs.rotation.only_failing.Goals as goal
use Rattle.mus_core.proofs.rotation.only_failing.Goals.{then-fails+else-is_some, else-fails}

pub fails-requires-clause-first : goal.fails-requires-clause-first
fails-requires-clause-first c =
    let G = c.args.core.now.clauses.now in
    let items = c.positions-k-items.result.now in
    let is = c.positions-k-items.ensures ∙ ap (λ (m : ℤ). slice_index_or c.args.core.now.lists.now (rank_of m) []) c.negated.ensures
    ∙ c.requires.core.lists.held (complement c.args.l) (complement_literal G.vars c.args.l c.requires.literal) in
    (against_bounds G c.args.l items _ is (among_at items c.loop-k.k-index c.loop-k-test.true)).0

pub fails-requires-clause-last : goal.fails-requires-clause-last
fails-requires-clause-last c =
    let G = c.args.core.now.clauses.now in
    let items = c.positions-k-items.result.now in
    let is = c.positions-k-items.ensures ∙ ap (λ (m : ℤ). slice_index_or c.args.core.now.lists.now (rank_of m) []) c.negated.ensures
    ∙ c.requires.core.lists.held (complement c.args.l) (complement_literal G.vars c.args.l c.requires.literal) in
    (against_bounds G c.args.l items _ is (among_at items c.loop-k.k-index c.loop-k-test.true)).1

pub loop-k-preserved : goal.loop-k-preserved
loop-k-preserved c =
    let t : ℕ → Bool = fails c.args.core.now (assignment_by c.args.values.now) c.args.l in
    let items = c.positions-k-items.result.now in
    let i = c.loop-k.k-index in
    let k : ℕ = get_or items i 0 in
    let is : k ≡ get_or items i k = get_or_default items i 0 k c.loop-k-test.true in
    elim c.if-fails.branch [
      | then-fails+else-is_some w ↦
          subst (λ (o : Option ℕ). FoundIn t (take (i + 1) items) o) (sym w.found-is)
          (found_first t items i k c.loop-k-test.true is
          (subst (λ (o : Option ℕ). FoundIn t (take i items) o) (is_none c.loop-k.found (sym w.is_some.ensures ∙ w.if-is_some.false)) c.loop-k.invariant)
          (sym c.fails.ensures ∙ w.if-fails.true))
      | else-fails w ↦
          subst (λ (o : Option ℕ). FoundIn t (take (i + 1) items) o) (sym w.found-is)
          (found_still t items i k c.loop-k.found c.loop-k-test.true is c.loop-k.invariant (sym c.fails.ensures ∙ w.if-fails.false))
    ]

pub returns : goal.returns
returns c =
    let G = c.args.core.now.clauses.now in
    let φ = assignment_by c.args.values.now in
    let items = c.positions-k-items.result.now in
    let is = c.positions-k-items.ensures ∙ ap (λ (m : ℤ). slice_index_or c.args.core.now.lists.now (rank_of m) []) c.negated.ensures
    ∙ c.requires.core.lists.held (complement c.args.l) (complement_literal G.vars c.args.l c.requires.literal) in
    only_found c.args.core.now φ c.args.l items c.loop-k.found c.requires.core is
    (subst (λ (ks : List ℕ). FoundIn (fails c.args.core.now φ c.args.l) ks c.loop-k.found) (take_all c.loop-k.k-index items c.loop-k-test.false) c.loop-k.invariant)
