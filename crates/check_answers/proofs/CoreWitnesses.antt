-- The literals for each position of a core, by a set that contains them.
use Rattle.std.proofs.Common.{◌≡◌, ◌≢◌, ◌∙◌, ℕ, zero, suc, ◌+◌, ◌<◌, Bool, true, false, not, ◌||◌, List, [], ◌∷◌, length, get_or, take, refl, sym, ap, arith, ℤ, Option, Some}
use Rattle.std.specs.Prelude.{◌==◌, find}
use Rattle.std.specs.Option.{option_map_or}
use Rattle.std.specs.List.{list_all, list_any}
use Rattle.std.proofs.lemmas.Bool.{eqb-true, ne_eqb}
use Rattle.std.proofs.lemmas.List.{take_more}
use Rattle.lk_model.specs.Lists.{rises_within}
use Rattle.lk_model.specs.Formulas.Literal.{is_literal}
use Rattle.lk_model.specs.Formulas.Formula.{Cnf, clause_at, is_formula}
use Rattle.lk_model.specs.Formulas.Assignment.{assignment_of, makes_true, satisfies}
use Rattle.lk_model.specs.Documents.CoreText.{are_for, is_without}
use Rattle.lk_model.specs.Checks.CoreChecks.{satisfies_others, without_for, bad_without}
use Rattle.lk_model.specs.declared.document.Without.{Without}
use Rattle.lk_model.proofs.Booleans.{and_true}
use Rattle.lk_model.proofs.Clauses.{form_at}
use Rattle.lk_model.proofs.ListTests.{all_at, all_more}
use Rattle.lk_model.proofs.Rising.{rises, rising_bounds}
use Rattle.lk_model.proofs.Literals.{clause_literals}
use Rattle.kernel_laws.proofs.ApartLiterals.{AreApart, true_is, rising_apart}
use Rattle.check_tables.specs.LiteralSets.{has_literal, IsSetOf}

-- LITERALS

-- a clause has a literal of the set exactly where the literals satisfy it
hit : (n : ℕ) (ls : List ℤ) (flags : List Bool) → AreApart ls → IsSetOf n ls flags → (c : List ℤ) → list_all (is_literal n) c ≡ true → list_any (has_literal flags) c ≡ satisfies (assignment_of ls) c
hit n ls flags apart set [] all = refl
hit n ls flags apart set (l ∷ c) all =
    let both = and_true (is_literal n l) (list_all (is_literal n) c) all in
    let one : has_literal flags l ≡ makes_true (assignment_of ls) l = set.told l both.0 ∙ sym (true_is ls l apart) in
    λ i. one i || hit n ls flags apart set c both.1 i

-- so the set tells whether the literals satisfy the others
pub others_told : (F : Cnf) (core : List ℕ) (w : Without) (flags : List Bool) → is_formula F ≡ true → is_without F.vars w ≡ true → IsSetOf F.vars w.lits flags
    → list_all (λ q. q == w.pos || list_any (has_literal flags) (clause_at F q)) core ≡ satisfies_others F core w
others_told F core w flags form rising set =
    let apart = rising_apart 0 F.vars w.lits rising in
    λ i. list_all (λ q. q == w.pos || hit F.vars w.lits flags apart set (clause_at F q) (clause_literals F.vars (clause_at F q) (form_at F q form)) i) core

-- POSITIONS

-- the test that a position fails
abbrev pub is_bad : Cnf → List ℕ → List Without → ℕ → Bool
is_bad F core without p = not (option_map_or (satisfies_others F core) (without_for without p) false)

pub bad_without_is : (F : Cnf) (core : List ℕ) (without : List Without) → (bad_without F core without).place ≡ find (is_bad F core without) core
unfolding bad_without
bad_without_is F core without = refl

pub same_count : (core : List ℕ) (ws : List Without) → are_for core ws ≡ true → length ws ≡ length core
same_count [] [] e = refl
same_count [] (w ∷ ws) e = absurd (let f : ⊥ = cc in f)
same_count (p ∷ ps) [] e = absurd (let f : ⊥ = cc in f)
same_count (p ∷ ps) (w ∷ ws) e = ap suc (same_count ps ws (and_true (w.pos == p) (are_for ps ws) e).1)

-- the line at a place is for the position there
line_for : (low high : ℕ) (core : List ℕ) (ws : List Without) (k : ℕ) (d : Without) → rises_within low high core ≡ true → are_for core ws ≡ true → k < length core
    → without_for ws (get_or core k 0) ≡ Some (get_or ws k d)
line_for low high [] ws k d up e lt = absurd (omega (arith, lt))
line_for low high (p ∷ ps) [] k d up e lt = absurd (let f : ⊥ = cc in f)
line_for low high (p ∷ ps) (w ∷ ws) zero d up e lt = rw ((and_true (w.pos == p) (are_for ps ws) e).0) refl
line_for low high (p ∷ ps) (w ∷ ws) (suc k) d up e lt =
    let both = and_true (w.pos == p) (are_for ps ws) e in
    let r = rises low high p ps up in
    let inside : k < length ps = omega (arith, lt) in
    let above = rising_bounds p high ps k r.more inside in
    let same = eqb-true w.pos p both.0 in
    let other : w.pos ≢ get_or ps k 0 = λ f. absurd (omega (arith, f, same, above.0)) in
    rw (ne_eqb w.pos (get_or ps k 0) other) (line_for p high ps ws k d r.more both.1 inside)

pub bad_at : (F : Cnf) (core : List ℕ) (ws : List Without) (k : ℕ) (d : Without) (b : Bool) → rises_within 0 (length F.clauses) core ≡ true → are_for core ws ≡ true → k < length core
    → b ≡ satisfies_others F core (get_or ws k d) → is_bad F core ws (get_or core k 0) ≡ not b
bad_at F core ws k d b up e lt t =
    ap (λ (o : Option Without). not (option_map_or (satisfies_others F core) o false)) (line_for 0 (length F.clauses) core ws k d up e lt) ∙ ap not (sym t)

-- ALL OF A LIST

pub all_next : (t : ℕ → Bool) (ps : List ℕ) (k : ℕ) → k < length ps → list_all t (take k ps) ≡ true → t (get_or ps k 0) ≡ true → list_all t (take (k + 1) ps) ≡ true
all_next t ps k lt all one = ap (list_all t) (take_more ps k 0 lt) ∙ all_more t (take k ps) (get_or ps k 0) all one

-- one that fails is at some place
pub one_fails : (t : ℕ → Bool) (ps : List ℕ) (k : ℕ) → k < length ps → t (get_or ps k 0) ≡ false → false ≡ list_all t ps
one_fails t ps k lt fails = by_all (list_all t ps) refl
  where
    by_all : (b : Bool) → list_all t ps ≡ b → false ≡ b
    by_all false e = refl
    by_all true e = absurd (let f : true ≡ false = sym (all_at t ps k 0 e lt) ∙ fails in let g : ⊥ = cc in g)
