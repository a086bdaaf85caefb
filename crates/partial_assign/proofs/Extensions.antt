-- An assignment over another, variable by variable, and its literals.
use Rattle.std.proofs.Common.{◌≡◌, ◌≢◌, ◌∙◌, ℕ, zero, suc, ◌+◌, ◌<◌, ◌≤◌, Bool, true, false, cond, List, [], ◌∷◌, ◌++◌, map, refl, sym, ap, arith, ℤ, pos, Option, Some, None, inl, inr}
use Rattle.std.specs.Prelude.{neg_ℤ, nat_le}
use Rattle.std.specs.List.{range_with_len}
use Rattle.std.specs.Ordering.{int_eq}
use Rattle.std.proofs.lemmas.Bool.{cases_eq, eq-eqb, ne_eqb, leb-true, le-leb}
use Rattle.std.proofs.lemmas.List.{map-append}
use Rattle.lk_model.specs.Lists.{among, up_to, is_between}
use Rattle.lk_model.specs.Formulas.Literal.{variable, contains, is_positive, literal_of}
use Rattle.lk_model.specs.Held.PartialValues.{assignment_by}
use Rattle.lk_model.specs.Formulas.Assignment.{Assignment, assignment_of, extended, extended_value, extended_literals}
use Rattle.lk_model.proofs.Booleans.{and_true, same_tests}
use Rattle.lk_model.proofs.Counting.{range_more, among-range}
use Rattle.lk_model.proofs.Flags.{same_false}
use Rattle.lk_model.proofs.Founds.{up_to_bounds}
use Rattle.lk_model.proofs.Literals.{int_self, variable_negative, variable_of, sign_of}

-- assignments that agree everywhere are one
pub same_values : {X : Type 0} (f g : ℕ → X) → ((v : ℕ) → f v ≡ g v) → f ≡ g
same_values f g h = λ i v. h v i

-- ONE VARIABLE MORE

-- that is put
pub put_more : (χ : Assignment) (k : ℕ) (b : Bool) (l : ℤ) (before after : List (Option Bool)) → l ≡ literal_of (k + 1) b → Some b ≡ χ (k + 1)
    → ((u : ℕ) → u ≤ k → assignment_by before u ≡ χ u) → assignment_by after (variable l) ≡ Some (is_positive l)
    → ((v : ℕ) → v ≢ variable l → assignment_by after v ≡ assignment_by before v) → (u : ℕ) → u ≤ k + 1 → assignment_by after u ≡ χ u
put_more χ k b l before after is value taken own others u le =
    let var : variable l ≡ k + 1 = ap variable is ∙ variable_of (k + 1) b in
    let sign : is_positive l ≡ b = ap is_positive is ∙ sign_of (k + 1) b (omega arith) in
    elim (cases_eq u (k + 1)) [
      | inl same ↦ ap (assignment_by after) (same ∙ sym var) ∙ own ∙ ap (λ (s : Bool). Some s) sign ∙ value ∙ ap χ (sym same)
      | inr other ↦ others u (λ e. other (e ∙ var)) ∙ taken u (omega (arith, le, other))
    ]

pub put_unset : (k : ℕ) (b : Bool) (l : ℤ) (before after : List (Option Bool)) → l ≡ literal_of (k + 1) b → ((u : ℕ) → k < u → assignment_by before u ≡ None)
    → ((v : ℕ) → v ≢ variable l → assignment_by after v ≡ assignment_by before v) → (u : ℕ) → k + 1 < u → assignment_by after u ≡ None
put_unset k b l before after is unset others u lt =
    let var : variable l ≡ k + 1 = ap variable is ∙ variable_of (k + 1) b in
    others u (λ e. absurd (omega (arith, e, var, lt))) ∙ unset u (omega (arith, lt))

-- that neither sets
pub none_more : (χ : Assignment) (k : ℕ) (values : List (Option Bool)) → χ (k + 1) ≡ None → ((u : ℕ) → u ≤ k → assignment_by values u ≡ χ u)
    → ((u : ℕ) → k < u → assignment_by values u ≡ None) → (u : ℕ) → u ≤ k + 1 → assignment_by values u ≡ χ u
none_more χ k values none taken unset u le = elim (cases_eq u (k + 1)) [
  | inl same ↦ unset u (omega (arith, same)) ∙ sym none ∙ ap χ (sym same)
  | inr other ↦ taken u (omega (arith, le, other))
]

-- one literal more
pub literals_more : (φ ψ : Assignment) (k : ℕ) (before after : List ℤ) (l : ℤ) → before ≡ extended_literals φ ψ k → l ≡ literal_of (k + 1) (extended_value φ ψ (k + 1))
    → after ≡ before ++ l ∷ [] → after ≡ extended_literals φ ψ (k + 1)
literals_more φ ψ k before after l e is more =
    let f : ℕ → ℤ = λ v. literal_of v (extended_value φ ψ v) in
    let last : k + 1 ≡ 1 + k = omega arith in
    let next : suc k ≡ k + 1 = omega arith in
    more ∙ (λ i. e i ++ is i ∷ []) ∙ ap (λ (n : ℕ). extended_literals φ ψ k ++ f n ∷ []) last
    ∙ sym (ap (map f) (range_more 1 k) ∙ map-append f (up_to k) ((1 + k) ∷ [])) ∙ ap (λ (n : ℕ). map f (up_to n)) next

-- WHAT THE LITERALS SAY

-- the literals of a list of variables by a test
abbrev literals_by : (ℕ → Bool) → List ℕ → List ℤ
literals_by t vs = map (λ v. literal_of v (t v)) vs

-- a literal of a lesser variable is not among them
not_there : (t : ℕ → Bool) (a n : ℕ) (l : ℤ) → variable l < a → contains (literals_by t (range_with_len a n)) l ≡ false
not_there t a zero l lt = refl
not_there t a (suc n) l lt =
    let other : l ≢ literal_of a (t a) = λ e. absurd (omega (arith, lt, ap variable e ∙ variable_of a (t a))) in
    rw (same_false l (literal_of a (t a)) other) (not_there t (a + 1) n l (omega (arith, lt)))

-- the first of them is that of the variable
first_is : (v : ℕ) (b : Bool) (ls : List ℤ) → 0 < v → contains ls (pos v) ≡ false → assignment_of (literal_of v b ∷ ls) v ≡ Some b
first_is v true ls low none = rw (int_self (pos v)) refl
first_is zero false ls low none = absurd (omega (arith, low))
first_is (suc k) false ls low none = rw (none, int_self (neg_ℤ (pos (suc k)))) refl

-- or that of another one
later_is : (v a : ℕ) (b : Bool) (ls : List ℤ) → a ≢ v → assignment_of (literal_of a b ∷ ls) v ≡ assignment_of ls v
later_is v a b ls other =
    let positive : int_eq (pos v) (literal_of a b) ≡ false = same_false (pos v) (literal_of a b) (λ e. other (sym (ap variable e ∙ variable_of a b))) in
    let negative : int_eq (neg_ℤ (pos v)) (literal_of a b) ≡ false =
    same_false (neg_ℤ (pos v)) (literal_of a b) (λ e. other (sym (sym (variable_negative v) ∙ ap variable e ∙ variable_of a b))) in
    rw (positive, negative) refl

values_in : (t : ℕ → Bool) (a n v : ℕ) → 0 < a → assignment_of (literals_by t (range_with_len a n)) v ≡ cond (among (range_with_len a n) v) (Some (t v)) None
values_in t a zero v low = refl
values_in t a (suc n) v low = elim (cases_eq a v) [
  | inl same ↦
      let none : contains (literals_by t (range_with_len (a + 1) n)) (pos a) ≡ false = not_there t (a + 1) n (pos a) (omega arith) in
      rw (eq-eqb a v same) (ap (assignment_of (literals_by t (range_with_len a (suc n)))) (sym same) ∙ first_is a (t a) (literals_by t (range_with_len (a + 1) n)) low none ∙ ap (λ (u : ℕ). Some (t u)) same)
  | inr other ↦
      rw (ne_eqb a v other) (later_is v a (t a) (literals_by t (range_with_len (a + 1) n)) other ∙ values_in t (a + 1) n v (omega arith))
]

-- the variables from 1 to n
among_to : (n v : ℕ) → among (up_to n) v ≡ is_between 1 n v
among_to n v = same_tests (among (up_to n) v) (is_between 1 n v)
    (λ there. let b = up_to_bounds n v there in rw (le-leb 1 v b.0, le-leb v n b.1) refl)
    (λ within.
    let b = and_true (nat_le 1 v) (nat_le v n) within in
    among-range 1 n v (leb-true 1 v b.0) (let last = leb-true v n b.1 in omega (arith, last)))

pub values_of : (φ ψ : Assignment) (n : ℕ) → assignment_of (extended_literals φ ψ n) ≡ extended φ ψ n
values_of φ ψ n = same_values (assignment_of (extended_literals φ ψ n)) (extended φ ψ n) (λ v.
    values_in (extended_value φ ψ) 1 n v (omega arith) ∙ ap (λ (b : Bool). cond b (let o : Option Bool = Some (extended_value φ ψ v) in o) None) (among_to n v))
