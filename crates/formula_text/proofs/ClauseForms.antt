-- Clause lines: what they lead to, one after another.
use Rattle.std.proofs.Common.{◌≡◌, ℕ, ◌+◌, ◌-◌, ◌≤◌, ◌∙◌, Bool, true, false, cond, List, [], ◌∷◌, ◌++◌, map, length, replicate, refl, sym, ap, subst, arith, ℤ, Option, Some, None, append_assoc, length-append, nat_le, nat_lt, sum_by}
use Rattle.std.specs.Prelude.{option_and_then}
use Rattle.std.specs.List.{list_all}
use Rattle.std.proofs.lemmas.Bool.{and_from, le-leb, lt-ltb, leb-true, ltb-true}
use Rattle.std.proofs.lemmas.List.{append-nil, length-replicate}
use Rattle.std.proofs.lemmas.List.Sums.{sum_by-append, sum_by-cons, sum_by_push}
use Rattle.std.proofs.lemmas.List.Folds.{list_all-append}
use Rattle.lk_model.specs.Limits.{max_literals}
use Rattle.lk_model.specs.Formulas.Literal.{is_clause}
use Rattle.lk_model.specs.Formulas.Formula.{Cnf, is_formula, literal_count, with_clause}
use Rattle.lk_model.specs.Texts.Lines.{Word}
use Rattle.lk_model.specs.Texts.PlainText.{literal_words}
use Rattle.lk_model.proofs.Booleans.{and_true}
use Rattle.lk_model.proofs.Cuts.{formula_push}
use Rattle.lk_model.proofs.Clauses.{empty_clauses as all_clauses, no_literals}
use Rattle.line_text.specs.FieldLists.{clause_from}
use Rattle.line_text.proofs.ListForms.{clause_form, clause_back}
use Rattle.line_text.proofs.Options.{ThenSome, then_some}
use Rattle.formula_text.specs.FormulaLines.{has_room, put_clause, next_clause}

-- CLAUSES IN FORM

-- at most so many clauses, within the limit of literals
pub record AreClauses (count : ℕ) (F : Cnf) : Type 0 where
  pub formula : is_formula F ≡ true
  pub literals : literal_count F ≤ max_literals
  pub few : length F.clauses ≤ count

-- a next clause keeps them so, and the line is its one spelling
pub record IsClauseStep (count : ℕ) (F G : Cnf) (words : List Word) : Type 0 where
  pub clause : List ℤ
  pub is : G ≡ with_clause F clause
  pub form : AreClauses count G
  pub spelled : words ≡ literal_words clause

pub clause_step : (count : ℕ) (F G : Cnf) (words : List Word) → AreClauses count F → next_clause count F words ≡ Some G → IsClauseStep count F G words
clause_step count F G words h n = by_room (has_room count F one.item) refl one.gives
  where
    one : ThenSome (put_clause count F) (clause_from F.vars [] words) G
    one = then_some (put_clause count F) (clause_from F.vars [] words) G n

    by_room : (b : Bool) → has_room count F one.item ≡ b → cond b (Some (with_clause F one.item)) None ≡ Some G → IsClauseStep count F G words
    by_room false t f = absurd (let m : ⊥ = cc in m)
    by_room true t f =
        let same : with_clause F one.item ≡ G = cc in
        let form = clause_form F.vars [] words one.item refl one.there in
        let room = and_true (nat_lt (length F.clauses) count) (nat_le (literal_count F + length one.item) max_literals) t in
        record {
          clause = one.item;
          is = sym same;
          form = subst (AreClauses count) same (record {
            formula = formula_push F one.item h.formula form.1;
            literals = omega (arith, sum_by_push length F.clauses one.item, leb-true (literal_count F + length one.item) max_literals room.1);
            few = omega (arith, length-append F.clauses (one.item ∷ []), ltb-true (length F.clauses) count room.0);
          });
          spelled = form.0;
        }

-- LINES OF CLAUSES

-- what these lines lead to, one after another
abbrev pub clauses_run : ℕ → Cnf → List (List Word) → Option Cnf
clauses_run count F [] = Some F
clauses_run count F (words ∷ lines) = option_and_then (λ G. clauses_run count G lines) (next_clause count F words)

abbrev pub formula_with : ℕ → List (List ℤ) → Cnf
formula_with n cs = record { vars = n; clauses = cs }

pub clauses_back : (n count : ℕ) (cs ds : List (List ℤ)) → n ≤ 1000000 → list_all (is_clause n) ds ≡ true → length (cs ++ ds) ≤ count → sum_by length (cs ++ ds) ≤ max_literals
    → clauses_run count (formula_with n cs) (map literal_words ds) ≡ Some (formula_with n (cs ++ ds))
clauses_back n count cs [] few h room fits = ap (λ (xs : List (List ℤ)). Some (formula_with n xs)) (sym (append-nil cs))
clauses_back n count cs (c ∷ ds) few h room fits =
    let both = and_true (is_clause n c) (list_all (is_clause n) ds) h in
    let joined : (cs ++ c ∷ []) ++ ds ≡ cs ++ c ∷ ds = append_assoc cs (c ∷ []) ds in
    let size = length-append cs (c ∷ ds) in
    let there : has_room count (formula_with n cs) c ≡ true = and_from (nat_lt (length cs) count) (nat_le (sum_by length cs + length c) max_literals)
    (lt-ltb (length cs) count (omega (arith, size, room)))
    (le-leb (sum_by length cs + length c) max_literals (omega (arith, fits, sum_by-append length cs (c ∷ ds), sum_by-cons length c ds))) in
    ap (option_and_then (λ G. clauses_run count G (map literal_words ds)))
    (ap (option_and_then (put_clause count (formula_with n cs))) (clause_back n [] c few both.0) ∙ ap (λ (b : Bool). cond b (Some (formula_with n (cs ++ c ∷ []))) None) there)
    ∙ clauses_back n count (cs ++ c ∷ []) ds few both.1 (omega (arith, room, ap length joined)) (subst (λ (xs : List (List ℤ)). sum_by length xs ≤ max_literals) (sym joined) fits)
    ∙ ap (λ (xs : List (List ℤ)). Some (formula_with n xs)) joined

-- WHAT MAY STILL COME

-- an empty clause for each clause line that is to come
abbrev pub missing : ℕ → List (List ℤ) → List (List ℤ)
missing count cs = replicate (count - length cs) []

pub record AreFilled (count : ℕ) (F : Cnf) : Type 0 where
  pub form : AreClauses count F
  pub all : length F.clauses ≡ count

pub filled : (count : ℕ) (F : Cnf) → AreClauses count F → AreFilled count (formula_with F.vars (F.clauses ++ missing count F.clauses))
filled count F h =
    let none = missing count F.clauses in
    let k = count - length F.clauses in
    let all : length (F.clauses ++ none) ≡ count = omega (arith, length-append F.clauses none, length-replicate {A = List ℤ} k [], h.few) in
    record {
      form = record {
        formula = list_all-append (is_clause F.vars) F.clauses none
            ∙ and_from (list_all (is_clause F.vars) F.clauses) (list_all (is_clause F.vars) none) h.formula (all_clauses F.vars k);
        literals = omega (arith, sum_by-append length F.clauses none, no_literals k, h.literals);
        few = omega (arith, all);
      };
      all = all;
    }
