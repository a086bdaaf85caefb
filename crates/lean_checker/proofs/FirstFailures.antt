-- The first failing check, from the places of the checks in their order.
use Rattle.std.proofs.Common.{◌≡◌, ◌∙◌, ℕ, true, List, [], ◌∷◌, ◌++◌, length, map, refl, sym, ap, subst, ℤ, Option, Some, None}
use Rattle.std.specs.Prelude.{◌==◌, nat_le}
use Rattle.std.specs.List.{list_all}
use Rattle.std.specs.Option.{option_map_or, option_or}
use Rattle.std.proofs.lemmas.Bool.{eqb-true}
use Rattle.lk_model.specs.Lists.{rises_within}
use Rattle.lk_model.specs.Formulas.Literal.{is_literal}
use Rattle.lk_model.specs.Limits.{max_literals}
use Rattle.lk_model.specs.Formulas.Formula.{Cnf, is_formula, literal_count}
use Rattle.lk_model.specs.Formulas.Crossed.{Variables, no_variable, protected_by}
use Rattle.lk_model.specs.Formulas.Assignment.{assignment_of, first_unsatisfied}
use Rattle.lk_model.specs.Documents.Form.{is_done_in_form, is_body, is_pair, are_clause_lines}
use Rattle.lk_model.specs.Checks.Check.{Check, first_of}
use Rattle.lk_model.specs.Checks.CommonChecks.{other_formula, kept_clause, protected_set, not_autarky, not_exactly_removed}
use Rattle.lk_model.specs.Checks.PureChecks.{bad_order, bad_pair}
use Rattle.lk_model.specs.Checks.Checks.{first_five, class_checks, first_failure, first_failure_under}
use Rattle.lk_model.specs.declared.document.Pair.{Pair}
use Rattle.lk_model.specs.declared.document.Body.{Body}
use Rattle.lk_model.specs.declared.document.Body.TheVariants.{Pure}
use Rattle.lk_model.specs.declared.document.Document.TheVariants.{Done}
use Rattle.lk_model.specs.declared.document.DoneDocument.{DoneDocument}
use Rattle.lk_model.specs.declared.verdict.Kind.{Kind}
use Rattle.lk_model.specs.declared.verdict.Kind.TheVariants.{OtherFormula, BadOrder, BadPair}
use Rattle.lk_model.specs.declared.verdict.Why.{Why}
use Rattle.lk_model.proofs.Booleans.{and_true}
use Rattle.lk_model.proofs.Ranks.{rising_literals}
use Rattle.kernel_laws.proofs.Passed.{in_form}
use Rattle.lean_checker.specs.Common.{common_checks}

-- a kind that fails at a place
abbrev pub failure : Kind → ℕ → Why
failure kind place = record { kind = kind; place = place }

-- the first of some checks, where the first of them fails or not
pub fails_first : (c : Check) (cs : List Check) (p : ℕ) → Some p ≡ c.place → Some (failure c.kind p) ≡ first_of (c ∷ cs)
fails_first c cs p e = rw (← e) refl

pub passes_first : (c : Check) (cs : List Check) → None ≡ c.place → first_of cs ≡ first_of (c ∷ cs)
passes_first c cs e = rw (← e) refl

-- of two lists of checks, the first failure of the one, else of the other
pub first_of-append : (cs ds : List Check) → first_of (cs ++ ds) ≡ option_or (first_of cs) (first_of ds)
first_of-append [] ds = refl
first_of-append (c ∷ cs) ds = at_place c.kind c.place (first_of cs) (first_of ds) (first_of (cs ++ ds)) (first_of-append cs ds)
  where
    at_place : (k : Kind) (o : Option ℕ) (x y z : Option Why) → z ≡ option_or x y → option_map_or (λ place. Some (failure k place)) o z ≡ option_or (option_map_or (λ place. Some (failure k place)) o x) y
    at_place k None x y z e = e
    at_place k (Some p) x y z e = refl

-- THE FIRST FIVE, under a set P

other_kind : (F : Cnf) (d : DoneDocument) → (other_formula F d.vars d.clauses).kind ≡ OtherFormula
unfolding other_formula
other_kind F d = refl

-- the place of not-autarky is what an assignment finds
pub unsatisfied_is : (F : Cnf) (d : DoneDocument) → first_unsatisfied (assignment_of d.set) F ≡ (not_autarky F d).place
unfolding not_autarky
unsatisfied_is F d = refl

-- the first of them fails
pub first_fails : (P : Variables) (F : Cnf) (d : DoneDocument) (p : ℕ) → Some p ≡ (other_formula F d.vars d.clauses).place → Some (failure OtherFormula p) ≡ first_of (first_five P F d)
first_fails P F d p e =
    ap (λ (k : Kind). Some (failure k p)) (sym (other_kind F d))
    ∙ fails_first (other_formula F d.vars d.clauses) (kept_clause F d ∷ protected_set P F d ∷ not_autarky F d ∷ not_exactly_removed F d ∷ []) p e

-- or the first of the others, by their places
pub others_first : (P : Variables) (F : Cnf) (d : DoneDocument) (k p u m : Option ℕ) → None ≡ (other_formula F d.vars d.clauses).place → k ≡ (kept_clause F d).place
    → p ≡ (protected_set P F d).place → u ≡ (not_autarky F d).place → m ≡ (not_exactly_removed F d).place → first_of (common_checks k p u m) ≡ first_of (first_five P F d)
unfolding kept_clause protected_set not_autarky not_exactly_removed
others_first P F d k p u m other a b c e =
    (λ i. first_of (common_checks (a i) (b i) (c i) (e i)))
    ∙ passes_first (other_formula F d.vars d.clauses) (kept_clause F d ∷ protected_set P F d ∷ not_autarky F d ∷ not_exactly_removed F d ∷ []) other

-- THE CLASS PURE

order_kind : (F : Cnf) (d : DoneDocument) (order : List ℤ) → (bad_order F d order).kind ≡ BadOrder
unfolding bad_order
order_kind F d order = refl

pair_kind : (F : Cnf) (d : DoneDocument) (pairs : List Pair) → (bad_pair no_variable F d pairs).kind ≡ BadPair
unfolding bad_pair
pair_kind F d pairs = refl

pub order_fails : (F : Cnf) (d : DoneDocument) (order : List ℤ) (pairs : List Pair) (p : ℕ) → Some p ≡ (bad_order F d order).place → Some (failure BadOrder p) ≡ first_of (class_checks no_variable F d (Pure order pairs))
order_fails F d order pairs p e = ap (λ (k : Kind). Some (failure k p)) (sym (order_kind F d order)) ∙ fails_first (bad_order F d order) (bad_pair no_variable F d pairs ∷ []) p e

pub pair_fails : (F : Cnf) (d : DoneDocument) (order : List ℤ) (pairs : List Pair) (p : ℕ) → None ≡ (bad_order F d order).place → Some p ≡ (bad_pair no_variable F d pairs).place → Some (failure BadPair p) ≡ first_of (class_checks no_variable F d (Pure order pairs))
pair_fails F d order pairs p a e = ap (λ (k : Kind). Some (failure k p)) (sym (pair_kind F d pairs)) ∙ fails_first (bad_pair no_variable F d pairs) [] p e ∙ passes_first (bad_order F d order) (bad_pair no_variable F d pairs ∷ []) a

-- ALL

failure_is : (F : Cnf) (d : DoneDocument) → option_or (first_of (first_five (protected_by d.protect) F d)) (first_of (class_checks (protected_by d.protect) F d d.body)) ≡ first_failure F (Done d)
unfolding first_failure_under
failure_is F d = sym (first_of-append (first_five (protected_by d.protect) F d) (class_checks (protected_by d.protect) F d d.body))

-- one of the five is the first that fails
pub common_found : (F : Cnf) (d : DoneDocument) (why : Why) → Some why ≡ first_of (first_five (protected_by d.protect) F d) → Some why ≡ first_failure F (Done d)
common_found F d why e = ap (λ (o : Option Why). option_or o (first_of (class_checks (protected_by d.protect) F d d.body))) e ∙ failure_is F d

-- WHAT THE FORM GIVES

-- there is a clause line for each kept position
pub lines_match : (d : DoneDocument) → is_done_in_form d ≡ true → length d.texts.clauses ≡ length d.kept
unfolding is_done_in_form are_clause_lines
lines_match d form =
    let lines = (and_true _ (are_clause_lines d.vars (length d.kept) d.texts) form).1 in
    let a = and_true _ (nat_le (literal_count d.texts) max_literals) lines in
    let b = and_true _ (is_formula d.texts) a.0 in
    let c = and_true (d.texts.vars == d.vars) (length d.texts.clauses == length d.kept) b.0 in
    eqb-true (length d.texts.clauses) (length d.kept) c.1

-- the parts of a pure body
pub record ArePureParts (n m : ℕ) (order : List ℤ) (pairs : List Pair) : Type 0 where
  pub order_literals : list_all (is_literal n) order ≡ true
  pub pairs_rise : rises_within 0 n (map (λ (q : Pair). q.var) pairs) ≡ true
  pub pairs_within : list_all (is_pair m) pairs ≡ true

parts_of : (n m : ℕ) (order : List ℤ) (pairs : List Pair) → is_body n m (Pure order pairs) ≡ true → ArePureParts n m order pairs
unfolding is_body
parts_of n m order pairs form =
    let a = and_true _ (list_all (is_pair m) pairs) form in
    let b = and_true (list_all (is_literal n) order) (rises_within 0 n (map (λ (q : Pair). q.var) pairs)) a.0 in
    record { order_literals = b.0; pairs_rise = b.1; pairs_within = a.1 }

pub pure_parts : (d : DoneDocument) (order : List ℤ) (pairs : List Pair) → is_done_in_form d ≡ true → d.body ≡ Pure order pairs → ArePureParts d.vars d.clauses order pairs
pure_parts d order pairs form is = parts_of d.vars d.clauses order pairs (subst (λ (b : Body). is_body d.vars d.clauses b ≡ true) is (in_form d form).body)

pub set_literals : (d : DoneDocument) → is_done_in_form d ≡ true → list_all (is_literal d.vars) d.set ≡ true
set_literals d form = rising_literals 0 d.vars d.set (in_form d form).set
