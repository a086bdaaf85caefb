-- Refutations and models of a formula that stand the test.
use Rattle.std.proofs.Common.{◌≡◌, ℕ, ◌+◌, ◌-◌, ◌==◌, ◌<◌, ◌≤◌, ◌^◌, Bool, true, false, not, ◌||◌, nat_lt, List, [], ◌∷◌, replicate, refl, sym, ◌∙◌, ap, subst, arith, ℤ, Option, None, Some, IfSome, length, map, find, inl, inr, sum_by}
use Rattle.std.specs.List.{list_all}
use Rattle.std.proofs.lemmas.Bool.{and_from, cases_Bool, ltb-false, not-false}
use Rattle.std.proofs.lemmas.List.{length-map}
use Rattle.std.proofs.lemmas.List.Sums.{sum_by-cons}
use Rattle.lk_model.specs.Lists.{among, is_empty}
use Rattle.lk_model.specs.Formulas.Literal.{variable}
use Rattle.lk_model.specs.Formulas.Formula.{Cnf, is_formula, clause_at, literal_count, positions_of, variable_occurs}
use Rattle.lk_model.specs.Formulas.Crossed.{Variables}
use Rattle.lk_model.specs.Formulas.Assignment.{Assignment, assignment_of, satisfies}
use Rattle.lk_model.specs.Held.PartialValues.{assignment_by}
use Rattle.lk_model.specs.Held.VariableSets.{is_in, IsCrossed}
use Rattle.lk_model.specs.Chains.Chain.{names_of}
use Rattle.lk_model.specs.declared.crossed.Crossed.{Crossed}
use Rattle.lk_model.specs.declared.document.Step.{Step}
use Rattle.lk_model.proofs.Booleans.{or_left, or_right}
use Rattle.lk_model.proofs.ClausesAt.{kept_le}
use Rattle.lk_model.proofs.Lists.{among_here}
use Rattle.lk_model.proofs.ListTests.{one_number}
use Rattle.lk_model.proofs.Variables.{occurs, variable_bound}
use Rattle.kernel_laws.proofs.Assignments.{satisfying, satisfied_at}
use Rattle.kernel_laws.proofs.Clauses.{mentions_of}
use Rattle.kernel_laws.proofs.Lines.{none_among}
use Rattle.learning_laws.specs.ModelLaw.{clause_over}
use Rattle.learning_laws.specs.SolveLaw.{names_filled}
use Rattle.refutation_log.specs.Derivation.{Derivation, are_chains}
use Rattle.refutation_log.specs.Numbers.{is_named}
use Rattle.refutation_log.specs.Replayed.{IsReplayed, chain_of}
use Rattle.refutation_log.specs.declared.chain.Chain.{Chain}
use Rattle.refutation_log.specs.Trimmed.{trimmed}
use Rattle.general_laws.specs.Found.{has_only}
use Rattle.general_laws.proofs.PartResults.{no_rounds}
use Rattle.general_kernel.specs.SetLiterals.{literals_on}
use Rattle.general_kernel.proofs.Names.{named_in}
use Rattle.general_kernel.proofs.Needed.{round_of}
use Rattle.general_kernel.proofs.Results.{crossed_filled}
use Rattle.general_kernel.proofs.SetLines.{set_rises, set_on, set_true}
use Rattle.general_kernel.proofs.States.{IsRefutingOver}
use Rattle.renaming_laws.specs.Renaming.{named}
use Rattle.part_copy.specs.Copies.{Copy, IsCopy}
use Rattle.part_copy.specs.Found.{are_filled, IsPartModel, IsPartRefuted}
use Rattle.part_formula.proofs.DecidedClauses.{not_covered, refutation_over}

-- A REFUTATION

-- no clause that chains name is empty, where none of the part is
names_not_empty : (over : Crossed) (steps us : List Step) → are_chains over steps ≡ true → are_filled over.formula.now over.part.now ≡ true
    → over.blocked.now ≡ replicate over.formula.now.vars false → ((k : ℕ) → is_named us k ≡ true → is_named steps k ≡ true)
    → names_filled over us ≡ true
names_not_empty over steps [] chains filled blocked inside = refl
names_not_empty over steps (s ∷ us) chains filled blocked inside =
    and_from _ _ (all_in (names_of s) (λ k m. inside k (or_left (among (names_of s) k) (is_named us k) m)))
    (names_not_empty over steps us chains filled blocked (λ k m. inside k (or_right (among (names_of s) k) (is_named us k) m)))
  where
    F : Cnf
    F = over.formula.now

    t : ℕ → Bool
    t k = nat_lt (length F.clauses) k || not (is_empty (clause_over over k))

    one : (k : ℕ) → is_named steps k ≡ true → t k ≡ true
    one k m = elim (cases_Bool (nat_lt (length F.clauses) k)) [
      | inl y ↦ or_left (nat_lt (length F.clauses) k) _ y
      | inr n ↦
          let le : k ≤ length F.clauses = ltb-false (length F.clauses) k n in
          let some = one_number (λ p. not (is_empty (clause_at F p))) over.part.now k filled (named_in over steps k chains m le) in
          or_right (nat_lt (length F.clauses) k) _
          (ap not (crossed_filled (is_in over.blocked.now) (clause_at F k)
          (subst (λ (bs : List Bool). has_only (is_in bs) (clause_at F k) ≡ false) (sym blocked) (not_covered F (clause_at F k) some))))
    ]

    all_in : (ks : List ℕ) → ((k : ℕ) → among ks k ≡ true → is_named steps k ≡ true) → list_all t ks ≡ true
    all_in [] f = refl
    all_in (k ∷ ks) f = and_from (t k) (list_all t ks) (one k (f k (among_here k ks))) (all_in ks (λ j m. f j (or_right (k == j) (among ks j) m)))

-- chains that are made over all clauses refute them
pub refuted_by_chains : (over : Crossed) (next budget : ℕ) (given : List Chain) (log : Derivation) → IsCrossed over → is_formula over.formula.now ≡ true
    → are_filled over.formula.now over.part.now ≡ true → over.blocked.now ≡ replicate over.formula.now.vars false
    → next ≡ length over.formula.now.clauses + 1 → length given ≤ budget → next + budget < 2 ^ 64 - 1 → IsReplayed over next given log
    → IsPartRefuted over.formula.now over.part.now budget (round_of (trimmed next log.steps))
refuted_by_chains over next budget given log crossed form filled blocked is few room h =
    let count : length log.steps ≡ length given = sym (length-map log.steps chain_of) ∙ ap (λ (cs : List Chain). length cs) h.steps in
    let numbered = h.numbered in
    let refuting : IsRefutingOver over log = record {
      past = omega (arith, is, numbered);
      form = h.derivation;
      chains = h.chains;
      names = names_not_empty over log.steps log.steps h.chains filled blocked (λ k m. m);
      refutes = h.refutes;
      filled = h.filled;
    } in
    (refutation_over over next budget log crossed form blocked is room refuting numbered (omega (arith, count, few))).part_is

pub some_log : (P : Derivation → Type 0) (o : Option Derivation) (log : Derivation) → o ≡ Some log → IfSome o P → P log
some_log P o log is h = subst (λ (x : Option Derivation). IfSome x P) is h

-- A MODEL

pub model_of_values : (F : Cnf) (values : List (Option Bool)) (lits : List ℤ) → is_formula F ≡ true
    → find (λ p. not (satisfies (assignment_by values) (clause_at F p))) (positions_of F) ≡ None
    → lits ≡ literals_on (variable_occurs F (positions_of F)) (assignment_by values) F.vars → IsPartModel F (positions_of F) lits
model_of_values F values lits form none is = subst (λ (ls : List ℤ). IsPartModel F part ls) (sym is) (record {
  positions = refl;
  within = λ p m. absurd (let f : ⊥ = cc in f);
  rounds = record { steps = refl; whole = refl; stated = no_rounds F; blocked = λ v o. absurd (let f : ⊥ = cc in f) };
  set = set_rises occ φ F.vars;
  on_part = λ v m. (set_on occ φ F.vars v m).0;
  unkept = λ v m. refl;
  satisfied = λ p inside out.
      let holds : satisfies φ (clause_at F p) ≡ true = not-false (satisfies φ (clause_at F p)) (none_among (λ p. not (satisfies φ (clause_at F p))) part p none inside) in
      let w = satisfying φ (clause_at F p) holds in
      let mention = mentions_of (clause_at F p) w.0 w.1 in
      let bound = variable_bound F p (variable w.0) form mention in
      satisfied_at (assignment_of (literals_on occ φ F.vars)) (clause_at F p) w.0 w.1
      (set_true occ φ F.vars w.0 bound.0 bound.1 (occurs F part p (variable w.0) inside mention) w.2);
})
  where
    part : List ℕ
    part = positions_of F

    occ : Variables
    occ = variable_occurs F part

    φ : Assignment
    φ = assignment_by values

-- THE LITERALS OF A COPY

same_count : (f : ℤ → ℤ) (cs : List (List ℤ)) → sum_by length (map (map f) cs) ≡ sum_by length cs
same_count f [] = refl
same_count f (c ∷ cs) =
    let here = length-map {B = ℤ} c f in
    let more = same_count f cs in
    let left = sum_by-cons length (map f c) (map (map f) cs) in
    let right = sum_by-cons length c cs in
    omega (arith, here, more, left, right)

-- a copy has no more literals than the formula
pub few_copied : (c : Copy) → IsCopy c → literal_count c.clauses ≤ literal_count c.formula
few_copied c h =
    let same = same_count (named c.names) c.clauses.clauses in
    let count = ap (λ (cs : List (List ℤ)). sum_by length cs) h.dense.clauses in
    let all = kept_le c.formula 0 c.part h.part in
    omega (arith, same, count, all)
