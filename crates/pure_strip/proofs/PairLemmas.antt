-- The pairs of the variables up to a bound.
use Rattle.std.proofs.Common.{◌≡◌, ℕ, ◌+◌, ◌<◌, ◌≤◌, ◌∙◌, Bool, true, false, cond, ◌||◌, List, [], ◌∷◌, ◌++◌, length, get_or, map, refl, sym, ap, subst, arith, to_z, w32, ℤ, pos, Option, Some, None, is_some, unwrap_or}
use Rattle.std.specs.Prelude.{filter, find, neg_ℤ, nat_le}
use Rattle.std.specs.List.{All}
use Rattle.std.proofs.lemmas.Bool.{and_from, le-leb}
use Rattle.std.proofs.lemmas.List.{map-append, append-nil}
use Rattle.std.proofs.lemmas.List.Elements.{All-filter, All-same}
use Rattle.std.proofs.lemmas.Int.{to_z_pos}
use Rattle.lk_model.specs.Lists.{up_to, is_between}
use Rattle.lk_model.specs.Formulas.Literal.{complement, contains, mentions, is_literal, rank_of}
use Rattle.lk_model.specs.Formulas.Formula.{Cnf, clause_at, positions_of, literal_occurs, variable_occurs, IsWithinLimits}
use Rattle.lk_model.specs.Formulas.PureRun.{least_pure, least_with}
use Rattle.lk_model.specs.declared.document.Pair.{Pair}
use Rattle.lk_model.proofs.Literals.{variable_negative}
use Rattle.kernel_laws.proofs.Clauses.{mentions_or}
use Rattle.kernel_laws.proofs.Tests.{any_or, any_same}
use Rattle.pure_laws.proofs.PureLiterals.{both_signs}
use Rattle.pure_strip.specs.Live.{is_live}
use Rattle.occurrence_lists.specs.Occurrences.{AreOccurrences}
use Rattle.occurrence_lists.proofs.FirstPositions.{filter-up_to-more}
use Rattle.pure_strip.proofs.ListLemmas.{up_to-bounds, find-filter, is_some-find}

-- the least positions with the variable and with its complement
abbrev pub pair_of : Cnf → List ℕ → ℕ → Pair
pair_of F ps v = record {
  var = v;
  with = unwrap_or (least_with F ps (pos v)) 0;
  against = unwrap_or (least_with F ps (neg_ℤ (pos v))) 0;
}

-- the pairs of the variables from 1 to n
abbrev pub pairs_to : Cnf → List ℕ → ℕ → List Pair
pairs_to F ps n = map (pair_of F ps) (filter (variable_occurs F ps) (up_to n))

-- a variable occurs where the variable or its complement does
occurs-or : (F : Cnf) (ps : List ℕ) (v : ℕ) → variable_occurs F ps v ≡ (literal_occurs F ps (pos v) || literal_occurs F ps (neg_ℤ (pos v)))
occurs-or F ps v =
    any_same (λ p. mentions (clause_at F p) v) (λ p. contains (clause_at F p) (pos v) || contains (clause_at F p) (neg_ℤ (pos v))) ps (λ p. mentions_or (clause_at F p) v)
    ∙ any_or (λ p. contains (clause_at F p) (pos v)) (λ p. contains (clause_at F p) (neg_ℤ (pos v))) ps

-- a test or itself
or_same : (a : Bool) → (a || a) ≡ a
or_same true = refl
or_same false = refl

-- the variable occurs exactly where a clause with either literal is found
occurs_with : (F : Cnf) (ps : List ℕ) (v : ℕ) → least_pure F ps ≡ None → 0 < v → v ≤ F.vars → (variable_occurs F ps v ≡ is_some (least_with F ps (pos v))) × (variable_occurs F ps v ≡ is_some (least_with F ps (neg_ℤ (pos v))))
occurs_with F ps v none low high =
    let same = both_signs F ps v none low high in
    let plus = occurs-or F ps v ∙ ap (λ (b : Bool). literal_occurs F ps (pos v) || b) (sym same) ∙ or_same (literal_occurs F ps (pos v)) in
    (plus ∙ sym (is_some-find (λ p. contains (clause_at F p) (pos v)) ps), plus ∙ same ∙ sym (is_some-find (λ p. contains (clause_at F p) (neg_ℤ (pos v))) ps))

-- the pairs of one variable more
pairs_more : (F : Cnf) (ps : List ℕ) (n : ℕ) → pairs_to F ps (n + 1) ≡ pairs_to F ps n ++ map (pair_of F ps) (cond (variable_occurs F ps (n + 1)) ((n + 1) ∷ []) [])
pairs_more F ps n =
    ap (map (pair_of F ps)) (filter-up_to-more (variable_occurs F ps) n) ∙ map-append (pair_of F ps) (filter (variable_occurs F ps) (up_to n)) (cond (variable_occurs F ps (n + 1)) ((n + 1) ∷ []) [])

-- the pair of one variable more, which occurs
pub pairs-add : (F : Cnf) (ps : List ℕ) (n w a : ℕ) (pairs : List Pair) → least_pure F ps ≡ None → n < F.vars → pairs ≡ pairs_to F ps n → least_with F ps (pos (n + 1)) ≡ Some w → least_with F ps (neg_ℤ (pos (n + 1))) ≡ Some a → pairs ++ record { var = n + 1; with = w; against = a } ∷ [] ≡ pairs_to F ps (n + 1)
pairs-add F ps n w a pairs none lt is with_is against_is =
    let occurs : variable_occurs F ps (n + 1) ≡ true = (occurs_with F ps (n + 1) none (omega arith) (omega arith)).0 ∙ ap (λ (o : Option ℕ). is_some o) with_is in
    let pair_is : pair_of F ps (n + 1) ≡ record { var = n + 1; with = w; against = a } =
    ap (λ (o : Option ℕ). record { var = n + 1; with = unwrap_or o 0; against = unwrap_or (least_with F ps (neg_ℤ (pos (n + 1)))) 0 }) with_is
    ∙ ap (λ (o : Option ℕ). record { var = n + 1; with = w; against = unwrap_or o 0 }) against_is in
    ap (λ (s : List Pair). s ++ record { var = n + 1; with = w; against = a } ∷ []) is
    ∙ sym (pairs_more F ps n ∙ ap (λ (b : Bool). pairs_to F ps n ++ map (pair_of F ps) (cond b ((n + 1) ∷ []) [])) occurs ∙ ap (λ (p : Pair). pairs_to F ps n ++ p ∷ []) pair_is)

-- one variable more, which does not occur
pairs-same : (F : Cnf) (ps : List ℕ) (n : ℕ) → variable_occurs F ps (n + 1) ≡ false → pairs_to F ps n ≡ pairs_to F ps (n + 1)
pairs-same F ps n absent = sym (pairs_more F ps n ∙ ap (λ (b : Bool). pairs_to F ps n ++ map (pair_of F ps) (cond b ((n + 1) ∷ []) [])) absent ∙ append-nil (pairs_to F ps n))

-- one variable more, that no clause contains
pub pairs-without_variable : (F : Cnf) (ps : List ℕ) (n : ℕ) → least_pure F ps ≡ None → n < F.vars → least_with F ps (pos (n + 1)) ≡ None → pairs_to F ps n ≡ pairs_to F ps (n + 1)
pairs-without_variable F ps n none lt e = pairs-same F ps n ((occurs_with F ps (n + 1) none (omega arith) (omega arith)).0 ∙ ap (λ (o : Option ℕ). is_some o) e)

-- one variable more, whose complement no clause contains
pub pairs-without_complement : (F : Cnf) (ps : List ℕ) (n : ℕ) → least_pure F ps ≡ None → n < F.vars → least_with F ps (neg_ℤ (pos (n + 1))) ≡ None → pairs_to F ps n ≡ pairs_to F ps (n + 1)
pairs-without_complement F ps n none lt e = pairs-same F ps n ((occurs_with F ps (n + 1) none (omega arith) (omega arith)).1 ∙ ap (λ (o : Option ℕ). is_some o) e)

-- the positions at a literal's rank
pub listed : (F : Cnf) (table : List (List ℕ)) (l : ℤ) (list : List ℕ) → AreOccurrences F table → is_literal F.vars l ≡ true → list ≡ get_or table (rank_of l) [] → list ≡ filter (λ p. contains (clause_at F p) l) (positions_of F)
listed F table l list holders lit read = read ∙ holders.held l lit

-- they are positions, and the first live one of them is the least live position whose clause contains the literal
pub record IsListed (F : Cnf) (live : List Bool) (l : ℤ) (list : List ℕ) : Type 0 where
  pub within : All (λ p. (0 < p) × (p ≤ length live)) list
  pub first : find (is_live live) list ≡ least_with F (filter (is_live live) (positions_of F)) l

pub is_listed : (F : Cnf) (table : List (List ℕ)) (live : List Bool) (l : ℤ) (list : List ℕ) → AreOccurrences F table → length live ≡ length F.clauses → is_literal F.vars l ≡ true → list ≡ get_or table (rank_of l) [] → IsListed F live l list
is_listed F table live l list holders size lit read =
    let P : ℕ → Type 0 = λ p. (0 < p) × (p ≤ length live) in
    let tested : ℕ → Bool = λ p. contains (clause_at F p) l in
    let all : All P (positions_of F) = subst (λ (n : ℕ). All (λ p. (0 < p) × (p ≤ n)) (positions_of F)) (sym size) (up_to-bounds (length F.clauses)) in
    record {
      within = All-same P list (filter tested (positions_of F)) (listed F table l list holders lit read) (All-filter tested P (positions_of F) all);
      first = ap (find (is_live live)) (listed F table l list holders lit read) ∙ find-filter (is_live live) tested (positions_of F);
    }

-- a variable is a literal over the variables up to a bound that it does not pass
positive_literal : (n v : ℕ) → 0 < v → v ≤ n → is_literal n (pos v) ≡ true
positive_literal n v low high = and_from (nat_le 1 v) (nat_le v n) (le-leb 1 v (omega arith)) (le-leb v n high)

-- and so is its complement
negative_literal : (n v : ℕ) → 0 < v → v ≤ n → is_literal n (neg_ℤ (pos v)) ≡ true
negative_literal n v low high = ap (λ (k : ℕ). is_between 1 n k) (variable_negative v) ∙ positive_literal n v low high

-- the literal that was made of a variable's number
number_is : (F : Cnf) (n : ℕ) (l : ℤ) → IsWithinLimits F → n < F.vars → l ≡ to_z w32 (n + 1) → l ≡ pos (n + 1)
number_is F n l limits lt is = is ∙ to_z_pos w32 (n + 1) (omega (arith, limits.vars))

-- the list that was read at a variable
pub listed-variable : (F : Cnf) (table : List (List ℕ)) (live : List Bool) (n : ℕ) (l : ℤ) (list : List ℕ) → AreOccurrences F table → length live ≡ length F.clauses → IsWithinLimits F → n < F.vars → l ≡ to_z w32 (n + 1) → list ≡ get_or table (rank_of l) [] → IsListed F live (pos (n + 1)) list
listed-variable F table live n l list holders size limits lt is read =
    is_listed F table live (pos (n + 1)) list holders size (positive_literal F.vars (n + 1) (omega arith) (omega arith)) (read ∙ ap (λ (z : ℤ). get_or table (rank_of z) []) (number_is F n l limits lt is))

-- the list that was read at its complement
pub listed-complement : (F : Cnf) (table : List (List ℕ)) (live : List Bool) (n : ℕ) (l k : ℤ) (list : List ℕ) → AreOccurrences F table → length live ≡ length F.clauses → IsWithinLimits F → n < F.vars → l ≡ to_z w32 (n + 1) → k ≡ complement l → list ≡ get_or table (rank_of k) [] → IsListed F live (neg_ℤ (pos (n + 1))) list
listed-complement F table live n l k list holders size limits lt is other read =
    is_listed F table live (neg_ℤ (pos (n + 1))) list holders size (negative_literal F.vars (n + 1) (omega arith) (omega arith))
    (read ∙ ap (λ (z : ℤ). get_or table (rank_of z) []) (other ∙ ap complement (number_is F n l limits lt is)))
