use Rattle.std.proofs.Common.{◌≡◌, ◌∙◌, ◌++◌, ap, subst, sym, map, neg_ℤ, length, take, drop, rules}
use Rattle.exact_rows.specs.Sparse.{AreEntries, row_of, negated}
use Rattle.std.proofs.lemmas.List.{length-map}
use Rattle.exact_rows.proofs.Quotients.{written_back}
use Rattle.exact_rows.proofs.Entries.{are_entries-negated, row-negated}
use Rattle.exact_rows.proofs.sparse.SparseRow.negate.Goals as goal

pub invariant_of-self : goal.invariant_of-self
invariant_of-self c =
    let items : take c.self.inside.kept.len (c.negate.new.entries ++ drop (length c.negate.new.entries) c.self.inside.kept.items) ≡ c.negate.new.entries =
    written_back c.negate.new.entries c.self.inside.kept.items c.self.inside.kept.len (ap (λ es. length es) (c.negate.ensures ∙ ap (λ es. map negated es) c.deref_mut.ensures.value) ∙ length-map c.self.inside.kept.items negated) (search rules) in
    let value = items ∙ c.negate.ensures ∙ ap (λ es. map negated es) c.deref_mut.ensures.value in
    subst (AreEntries c.self.inside.columns) (sym value) (are_entries-negated c.self.inside.columns c.self.inside.kept.items c.self.invariant)

pub returns : goal.returns
returns c =
    let items : take c.self.inside.kept.len (c.negate.new.entries ++ drop (length c.negate.new.entries) c.self.inside.kept.items) ≡ c.negate.new.entries =
    written_back c.negate.new.entries c.self.inside.kept.items c.self.inside.kept.len (ap (λ es. length es) (c.negate.ensures ∙ ap (λ es. map negated es) c.deref_mut.ensures.value) ∙ length-map c.self.inside.kept.items negated) (search rules) in
    let value = items ∙ c.negate.ensures ∙ ap (λ es. map negated es) c.deref_mut.ensures.value in
    ap (row_of c.self.inside.columns) value ∙ row-negated c.self.inside.columns c.self.inside.kept.items ∙ ap (λ xs. map neg_ℤ xs) c.self.view_is
