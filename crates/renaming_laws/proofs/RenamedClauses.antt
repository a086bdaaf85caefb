-- Clauses under other numbers of variables.
use Rattle.std.proofs.Common.{◌≡◌, ℕ, zero, suc, ◌<◌, Bool, true, false, cond, not, ◌&&◌, ◌==◌, List, ◌++◌, refl, sym, ◌∙◌, ap, ℤ, pos, negsuc, neg_ℤ, Some, None, map, arith, option_map}
use Rattle.std.specs.Ordering.{int_eq}
use Rattle.std.proofs.lemmas.Bool.{eqb-true, eq-eqb}
use Rattle.std.proofs.lemmas.Bool.Decides.{Decides-int_eq}
use Rattle.std.proofs.lemmas.List.{map-append}
use Rattle.lk_model.specs.Formulas.Literal.{variable, is_positive, complement, literal_of, contains, mentions, is_within, is_same_set, is_tautology}
use Rattle.lk_model.specs.Formulas.Crossed.{Variables, crossed_out}
use Rattle.lk_model.specs.Chains.Chain.{without, resolvent}
use Rattle.lk_model.proofs.Booleans.{same_tests}
use Rattle.lk_model.proofs.Literals.{same_int, complement_twice, variable_negative, literal_again as literal_back}
use Rattle.renaming_laws.proofs.Mapped.{any_mapped, all_mapped, filter_mapped, map_twice}

-- other literals, on other variables, which stay apart as the old ones do
pub record Renames (ν : ℕ → ℕ) (g : ℤ → ℤ) : Type 0 where
  pub variables : (a b : ℕ) → (ν a == ν b) ≡ (a == b)
  pub literals : (l k : ℤ) → int_eq (g l) (g k) ≡ int_eq l k
  pub complements : (l : ℤ) → complement (g l) ≡ g (complement l)
  pub on : (l : ℤ) → variable (g l) ≡ ν (variable l)

-- THE WORDS ON CLAUSES

pub contains_renamed : (ν : ℕ → ℕ) (g : ℤ → ℤ) → Renames ν g → (c : List ℤ) (l : ℤ) → contains (map g c) (g l) ≡ contains c l
contains_renamed ν g new c l = any_mapped g (int_eq (g l)) (int_eq l) (new.literals l) c

pub mentions_renamed : (ν : ℕ → ℕ) (g : ℤ → ℤ) → Renames ν g → (c : List ℤ) (v : ℕ) → mentions (map g c) (ν v) ≡ mentions c v
mentions_renamed ν g new c v =
    any_mapped g (λ l. variable l == ν v) (λ l. variable l == v) (λ l. ap (λ (w : ℕ). w == ν v) (new.on l) ∙ new.variables (variable l) v) c

pub within_renamed : (ν : ℕ → ℕ) (g : ℤ → ℤ) → Renames ν g → (c d : List ℤ) → is_within (map g c) (map g d) ≡ is_within c d
within_renamed ν g new c d = all_mapped g (contains (map g d)) (contains d) (contains_renamed ν g new d) c

pub same_set_renamed : (ν : ℕ → ℕ) (g : ℤ → ℤ) → Renames ν g → (c d : List ℤ) → is_same_set (map g c) (map g d) ≡ is_same_set c d
same_set_renamed ν g new c d =
    ap (λ (b : Bool). b && is_within (map g d) (map g c)) (within_renamed ν g new c d) ∙ ap (λ (b : Bool). is_within c d && b) (within_renamed ν g new d c)

pub tautology_renamed : (ν : ℕ → ℕ) (g : ℤ → ℤ) → Renames ν g → (c : List ℤ) → is_tautology (map g c) ≡ is_tautology c
tautology_renamed ν g new c =
    any_mapped g (λ l. contains (map g c) (complement l)) (λ l. contains c (complement l))
    (λ l. ap (contains (map g c)) (new.complements l) ∙ contains_renamed ν g new c (complement l)) c

pub without_renamed : (ν : ℕ → ℕ) (g : ℤ → ℤ) → Renames ν g → (c : List ℤ) (l : ℤ) → without (map g c) (g l) ≡ map g (without c l)
without_renamed ν g new c l = filter_mapped g (λ k. not (int_eq k (g l))) (λ k. not (int_eq k l)) (λ k. ap not (new.literals k l)) c

-- where the one set has the new numbers of the other set's variables
pub crossed_renamed : (ν : ℕ → ℕ) (g : ℤ → ℤ) → Renames ν g → (b d : Variables) → ((v : ℕ) → d (ν v) ≡ b v) → (c : List ℤ)
    → crossed_out d (map g c) ≡ map g (crossed_out b c)
crossed_renamed ν g new b d agree c =
    filter_mapped g (λ l. not (d (variable l))) (λ l. not (b (variable l))) (λ l. ap not (ap d (new.on l) ∙ agree (variable l))) c

pub variables_renamed : (ν : ℕ → ℕ) (g : ℤ → ℤ) → Renames ν g → (c : List ℤ) → map variable (map g c) ≡ map ν (map variable c)
variables_renamed ν g new c = map_twice g variable (λ l. ν (variable l)) new.on c ∙ sym (map_twice variable ν (λ l. ν (variable l)) (λ l. refl) c)

pub resolvent_renamed : (ν : ℕ → ℕ) (g : ℤ → ℤ) → Renames ν g → (t : ℤ) (c d : List ℤ) → resolvent (g t) (map g c) (map g d) ≡ option_map (map g) (resolvent t c d)
resolvent_renamed ν g new t c d =
    rw (new.complements t, contains_renamed ν g new c t, contains_renamed ν g new d (complement t), without_renamed ν g new c t, without_renamed ν g new d (complement t))
    (at_test (contains c t && contains d (complement t)) (without c t) (without d (complement t)))
  where
    at_test : (b : Bool) (x y : List ℤ) → cond b (Some (map g x ++ map g y)) None ≡ option_map (map g) (cond b (Some (x ++ y)) None)
    at_test true x y = ap (λ (z : List ℤ). Some z) (sym (map-append g x y))
    at_test false x y = refl

-- LITERALS ON OTHER VARIABLES

-- the literal of the same sign
abbrev pub literal_on : (ℕ → ℕ) → ℤ → ℤ
literal_on ν l = literal_of (ν (variable l)) (is_positive l)

variable_on : (ν : ℕ → ℕ) (l : ℤ) → variable (literal_on ν l) ≡ ν (variable l)
variable_on ν (pos v) = refl
variable_on ν (negsuc k) = variable_negative (ν (suc k))

-- the complement of a variable above 0 is not positive
negative : (v : ℕ) → 0 < v → is_positive (neg_ℤ (pos v)) ≡ false
negative zero lt = absurd (omega (arith, lt))
negative (suc k) lt = refl

pub positive_on : (ν : ℕ → ℕ) → ((k : ℕ) → 0 < ν (suc k)) → (l : ℤ) → is_positive (literal_on ν l) ≡ is_positive l
positive_on ν above (pos v) = refl
positive_on ν above (negsuc k) = negative (ν (suc k)) (above k)

complement_on : (ν : ℕ → ℕ) → ν 0 ≡ 0 → (l : ℤ) → complement (literal_on ν l) ≡ literal_on ν (complement l)
complement_on ν none (pos zero) = rw none refl
complement_on ν none (pos (suc k)) = refl
complement_on ν none (negsuc k) = complement_twice (pos (ν (suc k)))

-- numbers of variables that stay apart, where 0 stays, make a renaming
pub renames : (ν : ℕ → ℕ) → ((a b : ℕ) → (ν a == ν b) ≡ (a == b)) → ν 0 ≡ 0 → ((k : ℕ) → 0 < ν (suc k)) → Renames ν (literal_on ν)
renames ν apart none above = record {
  variables = apart;
  literals = λ l k. same_tests (int_eq (literal_on ν l) (literal_on ν k)) (int_eq l k) (same l k) (λ e.
      let s = same_int l k e in (Decides-int_eq (literal_on ν l) (literal_on ν k)).1 (ap (literal_on ν) s));
  complements = complement_on ν none;
  on = variable_on ν;
}
  where
    same : (l k : ℤ) → int_eq (literal_on ν l) (literal_on ν k) ≡ true → int_eq l k ≡ true
    same l k e =
        let s = same_int (literal_on ν l) (literal_on ν k) e in
        let vs : ν (variable l) ≡ ν (variable k) = sym (variable_on ν l) ∙ ap variable s ∙ variable_on ν k in
        let v : variable l ≡ variable k = eqb-true (variable l) (variable k) (sym (apart (variable l) (variable k)) ∙ eq-eqb (ν (variable l)) (ν (variable k)) vs) in
        let p : is_positive l ≡ is_positive k = sym (positive_on ν above l) ∙ ap is_positive s ∙ positive_on ν above k in
        (Decides-int_eq l k).1 (sym (literal_back l) ∙ ap (λ (w : ℕ). literal_of w (is_positive l)) v ∙ ap (literal_of (variable k)) p ∙ literal_back k)
