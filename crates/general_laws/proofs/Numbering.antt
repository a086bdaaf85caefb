-- Steps whose numbers rise, and what a number stands for.
use Rattle.std.proofs.Common.{◌≡◌, ℕ, ◌<◌, ◌≤◌, ◌+◌, Bool, true, false, cond, ◌==◌, nat_le, List, [], ◌∷◌, ◌++◌, refl, sym, ◌∙◌, ap, ℤ, Option, Some, None, ◌⊎◌, inl, inr, map, find, length, arith, option_map}
use Rattle.std.specs.Prelude.{⊤}
use Rattle.std.proofs.lemmas.Bool.{cases_Bool, eqb-true, eq-eqb, ne_eqb, lt-leb, cond-true, cond-false}
use Rattle.lk_model.specs.Lists.{among}
use Rattle.lk_model.specs.Formulas.Formula.{Cnf, clause_at}
use Rattle.lk_model.specs.Formulas.Crossed.{Variables, crossed_out}
use Rattle.lk_model.specs.Chains.Chain.{Premises, clause_named}
use Rattle.lk_model.specs.Documents.Form.{counts_from}
use Rattle.lk_model.specs.declared.document.Step.{Step}
use Rattle.lk_model.proofs.Booleans.{and_true}

-- FINDING

-- what is found first in a list is found first in a longer one
pub found_before : {X : Type 0} (t : X → Bool) (xs ys : List X) (x : X) → find t xs ≡ Some x → find t (xs ++ ys) ≡ Some x
found_before t [] ys x e = absurd (let f : ⊥ = cc in f)
found_before t (y ∷ xs) ys x e = at_test (t y) e (found_before t xs ys x)
  where
    at_test : (b : Bool) → cond b (Some y) (find t xs) ≡ Some x → (find t xs ≡ Some x → find t (xs ++ ys) ≡ Some x) → cond b (Some y) (find t (xs ++ ys)) ≡ Some x
    at_test true e rest = e
    at_test false e rest = rest e

-- what is not found in the first list is found in the rest or nowhere
pub found_after : {X : Type 0} (t : X → Bool) (xs ys : List X) → find t xs ≡ None → find t (xs ++ ys) ≡ find t ys
found_after t [] ys e = refl
found_after t (y ∷ xs) ys e = at_test (t y) e (found_after t xs ys)
  where
    at_test : (b : Bool) → cond b (Some y) (find t xs) ≡ None → (find t xs ≡ None → find t (xs ++ ys) ≡ find t ys) → cond b (Some y) (find t (xs ++ ys)) ≡ find t ys
    at_test true e rest = absurd (let f : ⊥ = cc in f)
    at_test false e rest = rest e

-- what is found with one more element is found before it, or is it
pub found_in_either : {X : Type 0} (t : X → Bool) (xs : List X) (y x : X) → find t (xs ++ y ∷ []) ≡ Some x → (find t xs ≡ Some x) ⊎ (y ≡ x)
found_in_either t [] y x e = at_test (t y) e
  where
    at_test : (b : Bool) → cond b (Some y) None ≡ Some x → (find t [] ≡ Some x) ⊎ (y ≡ x)
    at_test true e = inr (let f : y ≡ x = cc in f)
    at_test false e = absurd (let f : ⊥ = cc in f)
found_in_either t (z ∷ xs) y x e = at_test (t z) e (found_in_either t xs y x)
  where
    at_test : (b : Bool) → cond b (Some z) (find t (xs ++ y ∷ [])) ≡ Some x → (find t (xs ++ y ∷ []) ≡ Some x → (find t xs ≡ Some x) ⊎ (y ≡ x))
        → (cond b (Some z) (find t xs) ≡ Some x) ⊎ (y ≡ x)
    at_test true e rest = inl e
    at_test false e rest = rest e

-- RISING NUMBERS

-- the numbers of the steps rise from above this one on
abbrev pub AreRising : ℕ → List Step → Type 0
AreRising low [] = ⊤
AreRising low (s ∷ steps) = (low < s.number) × AreRising s.number steps

-- numbers without a gap rise
pub counts_rise : (low next : ℕ) (steps : List Step) → low < next → counts_from next (map (λ (s : Step). s.number) steps) ≡ true → AreRising low steps
counts_rise low next [] h e = tt
counts_rise low next (s ∷ steps) h e =
    let both = and_true (s.number == next) (counts_from (next + 1) (map (λ (s : Step). s.number) steps)) e in
    let same = eqb-true s.number next both.0 in
    (omega (arith, h, same), counts_rise s.number (next + 1) steps (omega (arith, same)) both.1)

-- from a lower number too
pub rise_from : (low mid : ℕ) (steps : List Step) → low ≤ mid → AreRising mid steps → AreRising low steps
rise_from low mid [] h r = tt
rise_from low mid (s ∷ steps) h r = (omega (arith, h, r.0), r.1)

-- the first of some steps rise
pub first_rise : (low : ℕ) (steps more : List Step) → AreRising low (steps ++ more) → AreRising low steps
first_rise low [] more r = tt
first_rise low (s ∷ steps) more r = (r.0, first_rise s.number steps more r.1)

-- and the rest do
pub rest_rise : (low : ℕ) (steps more : List Step) → AreRising low (steps ++ more) → AreRising low more
rest_rise low [] more r = r
rest_rise low (s ∷ steps) more r = rise_from low s.number more (omega (arith, r.0)) (rest_rise s.number steps more r.1)

-- no step has a number above this one
abbrev pub AreBelow : ℕ → List Step → Type 0
AreBelow low steps = (k : ℕ) → low < k → find (λ (s : Step). s.number == k) steps ≡ None

-- with one more step none is above its number
pub below_more : (low : ℕ) (steps : List Step) (s : Step) → low < s.number → AreBelow low steps → AreBelow s.number (steps ++ s ∷ [])
below_more low steps s h b k above =
    let here : (s.number == k) ≡ false = ne_eqb s.number k (λ e. omega (arith, e, above)) in
    found_after (λ (s : Step). s.number == k) steps (s ∷ []) (b k (omega (arith, h, above))) ∙ cond-false (s.number == k) (Some s) None here

-- WHAT A NUMBER STANDS FOR

-- what a chain of a round may name
abbrev pub premises_in : Cnf → List ℕ → Variables → List Step → Premises
premises_in F part blocked earlier = record { formula = F; part = part; blocked = blocked; earlier = earlier }

-- the clause of the first step with this number
abbrev pub clause_of : List Step → ℕ → Option (List ℤ)
clause_of steps k = option_map (λ (s : Step). s.clause) (find (λ (s : Step). s.number == k) steps)

-- it stays with more steps
clause_kept : (steps more : List Step) (k : ℕ) (c : List ℤ) → clause_of steps k ≡ Some c → clause_of (steps ++ more) k ≡ Some c
clause_kept steps more k c e = at_step (find (λ (s : Step). s.number == k) steps) refl e
  where
    at_step : (o : Option Step) → find (λ (s : Step). s.number == k) steps ≡ o → option_map (λ (s : Step). s.clause) o ≡ Some c → clause_of (steps ++ more) k ≡ Some c
    at_step None f e = absurd (let g : ⊥ = cc in g)
    at_step (Some s) f e = ap (option_map (λ (s : Step). s.clause)) (found_before (λ (s : Step). s.number == k) steps more s f) ∙ e

-- with one more step it is one of before, or the step's
clause_either : (steps : List Step) (s : Step) (k : ℕ) (c : List ℤ) → clause_of (steps ++ s ∷ []) k ≡ Some c → (clause_of steps k ≡ Some c) ⊎ (s.clause ≡ c)
clause_either steps s k c e = at_step (find (λ (s : Step). s.number == k) (steps ++ s ∷ [])) refl e
  where
    at_step : (o : Option Step) → find (λ (s : Step). s.number == k) (steps ++ s ∷ []) ≡ o → option_map (λ (s : Step). s.clause) o ≡ Some c
        → (clause_of steps k ≡ Some c) ⊎ (s.clause ≡ c)
    at_step None f e = absurd (let g : ⊥ = cc in g)
    at_step (Some u) f e = elim (found_in_either (λ (s : Step). s.number == k) steps s u f) [
      | inl before ↦ inl (ap (option_map (λ (s : Step). s.clause)) before ∙ e)
      | inr same ↦ (let g : u.clause ≡ c = cc in inr (ap (λ (x : Step). x.clause) same ∙ g))
    ]

-- what a number stands for it still stands for after more steps
pub named_kept : (F : Cnf) (part : List ℕ) (blocked : Variables) (steps more : List Step) (k : ℕ) (c : List ℤ)
    → clause_named (premises_in F part blocked steps) k ≡ Some c → clause_named (premises_in F part blocked (steps ++ more)) k ≡ Some c
named_kept F part blocked steps more k c e = at_test (nat_le k (length F.clauses)) e
  where
    at_test : (b : Bool) → cond b (cond (among part k) (Some (crossed_out blocked (clause_at F k))) None) (clause_of steps k) ≡ Some c
        → cond b (cond (among part k) (Some (crossed_out blocked (clause_at F k))) None) (clause_of (steps ++ more) k) ≡ Some c
    at_test true e = e
    at_test false e = clause_kept steps more k c e

-- after one more step a number stands for what it stood for, or for the step's clause
pub named_either : (F : Cnf) (part : List ℕ) (blocked : Variables) (steps : List Step) (s : Step) (k : ℕ) (c : List ℤ)
    → clause_named (premises_in F part blocked (steps ++ s ∷ [])) k ≡ Some c → (clause_named (premises_in F part blocked steps) k ≡ Some c) ⊎ (s.clause ≡ c)
named_either F part blocked steps s k c e = at_test (nat_le k (length F.clauses)) e
  where
    at_test : (b : Bool) → cond b (cond (among part k) (Some (crossed_out blocked (clause_at F k))) None) (clause_of (steps ++ s ∷ []) k) ≡ Some c
        → (cond b (cond (among part k) (Some (crossed_out blocked (clause_at F k))) None) (clause_of steps k) ≡ Some c) ⊎ (s.clause ≡ c)
    at_test true e = inl e
    at_test false e = clause_either steps s k c e

-- a step's number stands for its clause
pub named_itself : (F : Cnf) (part : List ℕ) (blocked : Variables) (earlier later : List Step) (s : Step) (low : ℕ) → length F.clauses ≤ low → low < s.number
    → AreBelow low earlier → clause_named (premises_in F part blocked (earlier ++ s ∷ later)) s.number ≡ Some s.clause
named_itself F part blocked earlier later s low h above below =
    rw (lt-leb s.number (length F.clauses) (omega (arith, h, above))) (ap (option_map (λ (s : Step). s.clause)) here)
  where
    here : find (λ (u : Step). u.number == s.number) (earlier ++ s ∷ later) ≡ Some s
    here = found_after (λ (u : Step). u.number == s.number) earlier (s ∷ later) (below s.number above)
        ∙ cond-true (s.number == s.number) (Some s) (find (λ (u : Step). u.number == s.number) later) (eq-eqb s.number s.number refl)

-- a position's number stands for its crossed clause, if it stands for one
pub named_position : (F : Cnf) (part : List ℕ) (blocked : Variables) (steps : List Step) (k : ℕ) (c : List ℤ) → nat_le k (length F.clauses) ≡ true
    → clause_named (premises_in F part blocked steps) k ≡ Some c → (among part k ≡ true) × (crossed_out blocked (clause_at F k) ≡ c)
named_position F part blocked steps k c le e = at_test (among part k) refl (sym (cond-true (nat_le k (length F.clauses)) _ _ le) ∙ e)
  where
    at_test : (b : Bool) → among part k ≡ b → cond b (Some (crossed_out blocked (clause_at F k))) None ≡ Some c → (b ≡ true) × (crossed_out blocked (clause_at F k) ≡ c)
    at_test true m e = (refl, let f : crossed_out blocked (clause_at F k) ≡ c = cc in f)
    at_test false m e = absurd (let f : ⊥ = cc in f)

-- with no earlier steps a number stands for a position's clause alone
pub named_first : (F : Cnf) (part : List ℕ) (blocked : Variables) (k : ℕ) (c : List ℤ)
    → clause_named (premises_in F part blocked []) k ≡ Some c → (among part k ≡ true) × (crossed_out blocked (clause_at F k) ≡ c)
named_first F part blocked k c e = elim (cases_Bool (nat_le k (length F.clauses))) [
  | inl le ↦ named_position F part blocked [] k c le e
  | inr past ↦ (let none : None ≡ Some c = sym (cond-false (nat_le k (length F.clauses)) _ _ past) ∙ e in absurd (let f : ⊥ = cc in f))
]
