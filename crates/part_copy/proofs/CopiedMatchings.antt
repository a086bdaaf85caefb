-- What the matching reducer finds in all of a copy is, under the numbers of the whole formula, found in the part.
use Rattle.std.proofs.Common.{◌≡◌, ℕ, ◌<◌, ◌≤◌, true, not, ◌&&◌, ◌==◌, List, refl, sym, ◌∙◌, ap, subst, ℤ, map, length, arith, Contains}
use Rattle.std.proofs.lemmas.Bool.{eqb-true, eq-eqb}
use Rattle.lk_model.specs.Lists.{among, up_to, rises_within}
use Rattle.lk_model.specs.Formulas.Literal.{mentions}
use Rattle.lk_model.specs.Formulas.Formula.{Cnf, is_formula, clause_at, positions_of, variable_occurs, variables_at}
use Rattle.lk_model.specs.declared.document.Own.{Own}
use Rattle.lk_model.specs.declared.document.MatchRow.{MatchRow}
use Rattle.lk_model.specs.declared.result.MatchingResult.{MatchingResult}
use Rattle.lk_model.proofs.Rising.{range_rises}
use Rattle.lk_model.proofs.Variables.{position_with, variable_bound, in_variables}
use Rattle.lk_model.proofs.Lists.{from_mapped}
use Rattle.kernel_laws.proofs.Lines.{in_map}
use Rattle.matching_laws.specs.MatchingResults.{IsMatchingResult, IsOwn, IsRow, removed_of}
use Rattle.general_laws.proofs.Renumbering.{among_renumbered}
use Rattle.renaming_laws.proofs.Mapped.{filter_mapped, map_twice, rises_mapped, only_these}
use Rattle.renaming_laws.proofs.RenamedClauses.{literal_on, mentions_renamed}
use Rattle.renaming_laws.proofs.RenamedSets.{occurs_renamed, from_occurring}
use Rattle.renaming_laws.proofs.CopiedResults.{IsCopy}

-- own lines and rows under other numbers of variables and positions
abbrev pub own_under : (ℕ → ℕ) → (ℕ → ℕ) → Own → Own
own_under ν f o = record { pos = f o.pos; var = ν o.var }

abbrev pub row_under : (ℕ → ℕ) → (ℕ → ℕ) → MatchRow → MatchRow
row_under ν f w = record { var = ν w.var; own = f w.own; escape = f w.escape; rank = w.rank }

abbrev pub matching_under : (ℕ → ℕ) → (ℕ → ℕ) → MatchingResult → MatchingResult
matching_under ν f r = record { kept = map f r.kept; own = map (own_under ν f) r.own; rows = map (row_under ν f) r.rows }

-- NUMBERS

-- numbers that are the same under the new ones are the same
same_before : (f : ℕ → ℕ) → ((a b : ℕ) → (f a == f b) ≡ (a == b)) → (a b : ℕ) → f a ≡ f b → a ≡ b
same_before f same a b e = eqb-true a b (sym (same a b) ∙ eq-eqb (f a) (f b) e)

-- a clause has the new number of a variable where it had the variable
mentioned : (F G : Cnf) (ν f : ℕ → ℕ) → IsCopy F G ν f → (p v : ℕ) → mentions (clause_at F (f p)) (ν v) ≡ mentions (clause_at G p) v
mentioned F G ν f copy p v =
    ap (λ (c : List ℤ). mentions c (ν v)) (copy.copied.clauses p) ∙ mentions_renamed ν (literal_on ν) copy.copied.numbers.renames (clause_at G p) v

-- the new numbers of the variables rise
names_rise : (F G : Cnf) (ν f : ℕ → ℕ) → IsCopy F G ν f → rises_within 0 F.vars (map ν (up_to G.vars)) ≡ true
names_rise F G ν f copy =
    rises_mapped ν 0 G.vars 0 F.vars (up_to G.vars) copy.order.variables copy.order.most (λ k lt. let up = copy.order.variables 0 k lt in omega (arith, up))
    (range_rises 0 G.vars 1 G.vars (omega arith) (omega arith))

-- the variables of kept clauses are the new ones, in their order
variables_copied : (F G : Cnf) (ν f : ℕ → ℕ) → IsCopy F G ν f → is_formula G ≡ true → (kept : List ℕ) → variables_at F (map f kept) ≡ map ν (variables_at G kept)
variables_copied F G ν f copy form kept =
    only_these (variable_occurs F (map f kept)) 0 F.vars F.vars (map ν (up_to G.vars)) (omega arith) (names_rise F G ν f copy) named
    ∙ filter_mapped ν (variable_occurs F (map f kept)) (variable_occurs G kept) (occurs_renamed F G ν (literal_on ν) f copy.copied kept) (up_to G.vars)
  where
    named : (k : ℕ) → 0 < k → k ≤ F.vars → variable_occurs F (map f kept) k ≡ true → among (map ν (up_to G.vars)) k ≡ true
    named k lt le e =
        let w = from_occurring F G ν (literal_on ν) f copy.copied kept k e in
        let at = position_with G kept w.0 w.1 in
        subst (λ (v : ℕ). among (map ν (up_to G.vars)) v ≡ true) w.2
        (among_renumbered ν copy.copied.numbers.renames.variables (up_to G.vars) w.0 ∙ in_variables G.vars w.0 (variable_bound G at.0 w.0 form at.2))

-- OWN LINES

-- the positions of own lines are those that are not kept
removed_copied : (F G : Cnf) (ν f : ℕ → ℕ) → IsCopy F G ν f → (r : MatchingResult) → map (λ (o : Own). o.pos) r.own ≡ removed_of (positions_of G) r.kept
    → map (λ (o : Own). o.pos) (map (own_under ν f) r.own) ≡ removed_of (map f (positions_of G)) (map f r.kept)
removed_copied F G ν f copy r e =
    map_twice (own_under ν f) (λ (o : Own). o.pos) (λ (o : Own). f o.pos) (λ o. refl) r.own
    ∙ sym (map_twice (λ (o : Own). o.pos) f (λ (o : Own). f o.pos) (λ o. refl) r.own)
    ∙ ap (map f) e
    ∙ sym (filter_mapped f (λ p. not (among (map f r.kept) p)) (λ p. not (among r.kept p)) (λ p. ap not (among_renumbered f copy.copied.numbers.same r.kept p)) (positions_of G))

owned_copied : (F G : Cnf) (ν f : ℕ → ℕ) → IsCopy F G ν f → (r : MatchingResult) → IsMatchingResult G (positions_of G) r
    → (o : Own) → Contains (map (own_under ν f) r.own) o → IsOwn F o
owned_copied F G ν f copy r h o c =
    let a = in_map (own_under ν f) r.own o c in
    subst (λ (u : Own). IsOwn F u) a.2 (mentioned F G ν f copy a.0.pos a.0.var ∙ h.owned a.0 a.1)

-- their variables stay apart
owns_apart : (F G : Cnf) (ν f : ℕ → ℕ) → IsCopy F G ν f → (r : MatchingResult) → IsMatchingResult G (positions_of G) r
    → (o u : Own) → Contains (map (own_under ν f) r.own) o → Contains (map (own_under ν f) r.own) u → o.var ≡ u.var → o.pos ≡ u.pos
owns_apart F G ν f copy r h o u c d e =
    let a = in_map (own_under ν f) r.own o c in
    let b = in_map (own_under ν f) r.own u d in
    let same = same_before ν copy.copied.numbers.renames.variables a.0.var b.0.var (ap (λ (x : Own). x.var) a.2 ∙ e ∙ sym (ap (λ (x : Own). x.var) b.2)) in
    sym (ap (λ (x : Own). x.pos) a.2) ∙ ap f (h.owns_differ a.0 b.0 a.1 b.1 same) ∙ ap (λ (x : Own). x.pos) b.2

-- and off the kept clauses
owns_off : (F G : Cnf) (ν f : ℕ → ℕ) → IsCopy F G ν f → (r : MatchingResult) → IsMatchingResult G (positions_of G) r
    → (o : Own) (p : ℕ) → Contains (map (own_under ν f) r.own) o → among (map f r.kept) p ≡ true → mentions (clause_at F p) o.var ≡ true → ⊥
owns_off F G ν f copy r h o p c k m =
    let a = in_map (own_under ν f) r.own o c in
    let q = from_mapped f r.kept p k in
    let there : mentions (clause_at F (f q.0)) (ν a.0.var) ≡ true =
    ap (λ (j : ℕ). mentions (clause_at F j) (ν a.0.var)) q.2 ∙ ap (λ (x : Own). mentions (clause_at F p) x.var) a.2 ∙ m in
    h.owns_removed a.0 q.0 a.1 q.1 (sym (mentioned F G ν f copy q.0 a.0.var) ∙ there)

-- ROWS

-- a kept clause with a variable
holds_copied : (F G : Cnf) (ν f : ℕ → ℕ) → IsCopy F G ν f → (kept : List ℕ) (p v : ℕ) → (among kept p && mentions (clause_at G p) v) ≡ true
    → (among (map f kept) (f p) && mentions (clause_at F (f p)) (ν v)) ≡ true
holds_copied F G ν f copy kept p v e = rw (among_renumbered f copy.copied.numbers.same kept p, mentioned F G ν f copy p v) e

row_copied : (F G : Cnf) (ν f : ℕ → ℕ) → IsCopy F G ν f → (kept : List ℕ) (w : MatchRow) → IsRow G kept w → IsRow F (map f kept) (row_under ν f w)
row_copied F G ν f copy kept w is = record {
  own = holds_copied F G ν f copy kept w.own w.var is.own;
  escape = holds_copied F G ν f copy kept w.escape w.var is.escape;
}

rows_copied : (F G : Cnf) (ν f : ℕ → ℕ) → IsCopy F G ν f → (r : MatchingResult) → IsMatchingResult G (positions_of G) r
    → (w : MatchRow) → Contains (map (row_under ν f) r.rows) w → IsRow F (map f r.kept) w
rows_copied F G ν f copy r h w c =
    let a = in_map (row_under ν f) r.rows w c in
    subst (λ (u : MatchRow). IsRow F (map f r.kept) u) a.2 (row_copied F G ν f copy r.kept a.0 (h.rows a.0 a.1))

-- their own positions stay apart
rows_apart : (F G : Cnf) (ν f : ℕ → ℕ) → IsCopy F G ν f → (r : MatchingResult) → IsMatchingResult G (positions_of G) r
    → (w u : MatchRow) → Contains (map (row_under ν f) r.rows) w → Contains (map (row_under ν f) r.rows) u → w.own ≡ u.own → w.var ≡ u.var
rows_apart F G ν f copy r h w u c d e =
    let a = in_map (row_under ν f) r.rows w c in
    let b = in_map (row_under ν f) r.rows u d in
    let same = same_before f copy.copied.numbers.same a.0.own b.0.own (ap (λ (x : MatchRow). x.own) a.2 ∙ e ∙ sym (ap (λ (x : MatchRow). x.own) b.2)) in
    sym (ap (λ (x : MatchRow). x.var) a.2) ∙ ap ν (h.rows_differ a.0 b.0 a.1 b.1 same) ∙ ap (λ (x : MatchRow). x.var) b.2

-- and their ranks fall along escapes
ranks_fall : (F G : Cnf) (ν f : ℕ → ℕ) → IsCopy F G ν f → (r : MatchingResult) → IsMatchingResult G (positions_of G) r
    → (w u : MatchRow) → Contains (map (row_under ν f) r.rows) w → Contains (map (row_under ν f) r.rows) u → u.own ≡ w.escape → u.rank < w.rank
ranks_fall F G ν f copy r h w u c d e =
    let a = in_map (row_under ν f) r.rows w c in
    let b = in_map (row_under ν f) r.rows u d in
    let same = same_before f copy.copied.numbers.same b.0.own a.0.escape (ap (λ (x : MatchRow). x.own) b.2 ∙ e ∙ sym (ap (λ (x : MatchRow). x.escape) a.2)) in
    let first : a.0.rank ≡ w.rank = ap (λ (x : MatchRow). x.rank) a.2 in
    let second : b.0.rank ≡ u.rank = ap (λ (x : MatchRow). x.rank) b.2 in
    let less = h.ranks a.0 b.0 a.1 b.1 same in
    omega (arith, first, second, less)

-- ALL OF IT

pub matching_copied : (F G : Cnf) (ν f : ℕ → ℕ) → IsCopy F G ν f → is_formula G ≡ true → (r : MatchingResult) → IsMatchingResult G (positions_of G) r
    → IsMatchingResult F (map f (positions_of G)) (matching_under ν f r)
matching_copied F G ν f copy form r h = record {
  positions = rises_mapped f 0 (length G.clauses) 0 (length F.clauses) r.kept copy.copied.numbers.rise copy.copied.numbers.low
      (λ k lt. let up = copy.copied.numbers.rise 0 k lt in omega (arith, up)) h.positions;
  within = λ p e.
      let w = from_mapped f r.kept p e in
      subst (λ (q : ℕ). among (map f (positions_of G)) q ≡ true) w.2 (among_renumbered f copy.copied.numbers.same (positions_of G) w.0 ∙ h.within w.0 w.1);
  removed = removed_copied F G ν f copy r h.removed;
  owned = owned_copied F G ν f copy r h;
  owns_differ = owns_apart F G ν f copy r h;
  owns_removed = owns_off F G ν f copy r h;
  variables = map_twice (row_under ν f) (λ (w : MatchRow). w.var) (λ (w : MatchRow). ν w.var) (λ w. refl) r.rows
      ∙ sym (map_twice (λ (w : MatchRow). w.var) ν (λ (w : MatchRow). ν w.var) (λ w. refl) r.rows)
      ∙ ap (map ν) h.variables
      ∙ sym (variables_copied F G ν f copy form r.kept);
  rows = rows_copied F G ν f copy r h;
  rows_differ = rows_apart F G ν f copy r h;
  ranks = ranks_fall F G ν f copy r h;
  ranks_fit = λ w c.
      let a = in_map (row_under ν f) r.rows w c in
      let same : a.0.rank ≡ w.rank = ap (λ (x : MatchRow). x.rank) a.2 in
      let fits = h.ranks_fit a.0 a.1 in
      omega (arith, same, fits);
}
