-- Some crossed clauses of a formula under variables and positions numbered anew from 1, and a refutation of them stated
-- in the numbers of the formula.
use Rattle.std.specs.Prelude.{◌≡◌, ℕ, ◌+◌, ◌^◌, ◌<◌, ◌≤◌, Bool, not, ◌||◌, nat_lt, List, [], map, length, IsTrue}
use Rattle.std.specs.List.{list_all}
use Rattle.lk_model.specs.Lists.{among, is_empty, rises_within, with_earlier}
use Rattle.lk_model.specs.Formulas.Formula.{Cnf, is_formula, clause_at, positions_of}
use Rattle.lk_model.specs.Formulas.Lean.{are_positions}
use Rattle.lk_model.specs.Formulas.Crossed.{Variables, no_variable, crossed_out}
use Rattle.lk_model.specs.Chains.Chain.{names_of, states_its_clause}
use Rattle.lk_model.specs.Chains.Rounds.{used_positions}
use Rattle.lk_model.specs.Documents.Form.{are_steps, ends_at_empty}
use Rattle.lk_model.specs.declared.document.Step.{Step}
use Rattle.renaming_laws.specs.Renaming.{nth, named, number_after, step_under}

-- G has, without the variables of the set b, the clauses of F at these positions, in their order, under the numbers of these
-- names, which ascend
pub record IsCrossedDense (F : Cnf) (b : Variables) (ps names : List ℕ) (G : Cnf) : Type 0 where
  pub ascend : IsTrue (rises_within 0 F.vars names)
  pub vars : G.vars ≡ length names
  pub formula : IsTrue (is_formula G)
  pub clauses : map (map (named names)) G.clauses ≡ map (λ p. crossed_out b (clause_at F p)) ps

-- the number is that of a step, or the crossed clause at the position is not empty
abbrev pub stands_for_filled : Cnf → Variables → ℕ → Bool
stands_for_filled F b k = nat_lt (length F.clauses) k || not (is_empty (crossed_out b (clause_at F k)))

-- Steps that are numbered from last + 1 on. Each states the clause of its chain over the crossed clauses of the part and
-- the steps before it. No chain names an empty crossed clause. The last clause is empty, and no other one.
pub record IsCrossedRefutation (F : Cnf) (b : Variables) (part : List ℕ) (last : ℕ) (steps : List Step) : Type 0 where
  pub form : IsTrue (are_steps F.vars last steps)
  pub stated : IsTrue (list_all
      (λ (earlier, s). states_its_clause (record { formula = F; part = part; blocked = b; earlier = earlier }) s)
      (with_earlier [] steps))
  pub names : IsTrue (list_all (λ (s : Step). list_all (stands_for_filled F b) (names_of s)) steps)
  pub whole : IsTrue (ends_at_empty steps)

-- the steps, in the numbers of the formula
abbrev pub told_steps : ℕ → List ℕ → List ℕ → List Step → List Step
told_steps last ps names = map (step_under (named names) (number_after (length ps) last ps))

-- A refutation of all of G is, stated in the numbers of F, one over the crossed clauses of a part that has the
-- positions. What it uses is what stands at the used places. The numbers of the steps have 64 bits.
pub record CrossedCopyLaw : Type 0 where
  pub refuted : (F G : Cnf) (b : Variables) (part ps names : List ℕ) (last : ℕ) (steps : List Step)
      → IsTrue (are_positions F part) → IsTrue (are_positions F ps) → ((p : ℕ) → IsTrue (among ps p) → IsTrue (among part p))
      → IsCrossedDense F b ps names G → length F.clauses ≤ last → last + length steps < 2 ^ 64
      → IsCrossedRefutation G no_variable (positions_of G) (length G.clauses) steps
      → IsCrossedRefutation F b part last (told_steps last ps names steps)
  pub used : (F G : Cnf) (b : Variables) (ps names : List ℕ) (last : ℕ) (steps : List Step)
      → IsTrue (are_positions F ps) → IsCrossedDense F b ps names G → length F.clauses ≤ last
      → IsTrue (are_steps G.vars (length G.clauses) steps)
      → used_positions F (record { steps = told_steps last ps names steps }) ≡ map (nth ps) (used_positions G (record { steps = steps }))
