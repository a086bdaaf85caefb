-- Where numbers were taken away, their variable was tested before.
use Rattle.std.proofs.Common.{◌≡◌, ◌∙◌, ℕ, ◌+◌, ◌<◌, ◌≤◌, Bool, true, false, cond, ◌&&◌, ◌||◌, List, [], ◌∷◌, ℤ, length, get_or, take, refl, sym, ap, arith}
use Rattle.std.specs.Prelude.{nat_le}
use Rattle.std.specs.List.{list_any, list_all}
use Rattle.std.proofs.lemmas.Bool.{leb-true}
use Rattle.std.proofs.lemmas.List.Folds.{list_any_more}
use Rattle.lk_model.specs.Lists.{is_nonzero, sum_of}
use Rattle.lk_model.specs.Formulas.Literal.{variable, mentions, is_literal}
use Rattle.lk_model.specs.Formulas.Formula.{Cnf, clause_at}
use Rattle.lk_model.specs.Held.VariableSets.{is_in}
use Rattle.lk_model.specs.declared.document.Share.{Share}
use Rattle.lk_model.proofs.Booleans.{and_true}
use Rattle.check_linear.specs.Linear.{numbers_of, is_shared, is_unbalanced, is_unbalanced_clause, is_unbalanced_share, ClearsNumbers, ClearsShares}
use Rattle.check_linear.proofs.UnitChecks.{in_clause, in_shares}

-- a variable without numbers is in balance
balanced : (occurring : List Bool) (table : List (List ℤ)) (v : ℕ) → numbers_of table v ≡ [] → is_unbalanced occurring table v ≡ false
balanced occurring table v none = ap (λ (xs : List ℤ). is_in occurring v && is_nonzero (sum_of xs)) none ∙ nothing (is_in occurring v)
  where
    nothing : (b : Bool) → (b && false) ≡ false
    nothing true = refl
    nothing false = refl

-- so it need not be tested again where its numbers are gone
tested_before : (occurring : List Bool) (before mid : List (List ℤ)) (v : ℕ) (gone found : Bool) → numbers_of mid v ≡ cond gone [] (numbers_of before v)
    → (gone ≡ true → is_unbalanced occurring before v ≡ true → found ≡ true) → (found || is_unbalanced occurring mid v) ≡ (found || is_unbalanced occurring before v)
tested_before occurring before mid v gone true is met = refl
tested_before occurring before mid v false false is met = ap (λ (xs : List ℤ). is_in occurring v && is_nonzero (sum_of xs)) is
tested_before occurring before mid v true false is met = balanced occurring mid v is ∙ sym (quiet (is_unbalanced occurring before v) (met refl))
  where
    quiet : (b : Bool) → (b ≡ true → false ≡ true) → b ≡ false
    quiet true f = sym (f refl)
    quiet false f = refl

-- one literal more of a clause
pub literal_tested : (n : ℕ) (occurring : List Bool) (clause : List ℤ) (i : ℕ) (l : ℤ) (before mid : List (List ℤ)) → i < length clause → l ≡ get_or clause i l → 1 ≤ variable l → variable l ≤ n
    → ClearsNumbers n (take i clause) before mid
    → (is_unbalanced_clause occurring before (take i clause) || is_unbalanced occurring mid (variable l)) ≡ is_unbalanced_clause occurring before (take (i + 1) clause)
literal_tested n occurring clause i l before mid inside is low high h =
    let v = variable l in
    let found = is_unbalanced_clause occurring before (take i clause) in
    tested_before occurring before mid v (mentions (take i clause) v) found (h.cleared v low high) (λ gone there. in_clause occurring before (take i clause) v gone there)
    ∙ sym (list_any_more (λ (k : ℤ). is_unbalanced occurring before (variable k)) clause i l inside ∙ ap (λ (k : ℤ). found || is_unbalanced occurring before (variable k)) (sym is))

-- tests of a list that agree behind a test
agree_behind : (found : Bool) (p s t : ℤ → Bool) (c : List ℤ) → list_all p c ≡ true → ((l : ℤ) → p l ≡ true → (found || s l) ≡ (found || t l)) → (found || list_any s c) ≡ (found || list_any t c)
agree_behind true p s t c all same = refl
agree_behind false p s t [] all same = refl
agree_behind false p s t (l ∷ c) all same =
    let both = and_true (p l) (list_all p c) all in
    (λ j. same l both.0 j || agree_behind false p s t c both.1 same j)

-- the clause of one share more
pub share_tested : (F : Cnf) (occurring : List Bool) (shares : List Share) (i : ℕ) (d : Share) (n : ℕ) (clause : List ℤ) (before mid : List (List ℤ)) → i < length shares → n ≡ F.vars
    → clause ≡ clause_at F (get_or shares i d).pos → list_all (is_literal n) clause ≡ true → ClearsShares F (take i shares) before mid
    → (is_unbalanced_share F occurring before (take i shares) || is_unbalanced_clause occurring mid clause) ≡ is_unbalanced_share F occurring before (take (i + 1) shares)
share_tested F occurring shares i d n clause before mid inside vars is literals h =
    let found = is_unbalanced_share F occurring before (take i shares) in
    agree_behind found (is_literal n) (λ l. is_unbalanced occurring mid (variable l)) (λ l. is_unbalanced occurring before (variable l)) clause literals (λ l kit.
    let v = variable l in
    let b = and_true (nat_le 1 v) (nat_le v n) kit in
    tested_before occurring before mid v (is_shared F (take i shares) v) found (h.cleared v (leb-true 1 v b.0) (omega (arith, leb-true v n b.1, vars)))
    (λ gone there. in_shares F occurring before (take i shares) v gone there))
    ∙ ap (λ (c : List ℤ). found || is_unbalanced_clause occurring before c) is
    ∙ sym (list_any_more (λ (s : Share). is_unbalanced_clause occurring before (clause_at F s.pos)) shares i d inside)
