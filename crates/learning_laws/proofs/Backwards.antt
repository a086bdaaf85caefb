-- Back along the trail from a false clause to a learned one.
use Rattle.std.proofs.Common.{map, is_some, ◌≡◌, ℕ, ◌++◌, ◌∷◌, [], Bool, true, false, ◌||◌, List, ℤ, refl}
use Rattle.std.specs.List.{list_all}
use Rattle.std.specs.Ordering.{int_eq}
use Rattle.std.proofs.lemmas.Bool.{and_from}
use Rattle.lk_model.specs.Formulas.Literal.{complement, contains}
use Rattle.lk_model.specs.declared.document.Turn.{Turn}
use Rattle.lk_model.proofs.Booleans.{and_true}
use Rattle.lk_model.proofs.ListTests.{passes_each}
use Rattle.lk_model.proofs.Founds.{all_literals}
use Rattle.lk_model.proofs.LongerChains.{chain_begins, chain_more}
use Rattle.watch_prop.specs.declared.entry.Entry.{Entry}
use Rattle.watch_prop.specs.Trail.{literals_of, false_in, clause_numbered}
use Rattle.watch_prop.specs.Propagation.{Propagation}
use Rattle.learning_laws.specs.Learned.{are_false_in, names_held}
use Rattle.learning_laws.specs.ChainLaw.{ChainLaw}
use Rattle.learning_laws.proofs.Splits.{step_back, passed_by, none_present, forced_at_zero}
use Rattle.learning_laws.proofs.Naming.{held_named, next_fresh}
use Rattle.learning_laws.proofs.Conflicts.{held_false, conflict_clause, conflict_present, learned_for}

-- what is false before all of the trail is empty
pub none_left : (c : List ℤ) → are_false_in [] c ≡ true → c ≡ []
none_left [] f = refl
none_left (l ∷ c) f = absurd (let z : ⊥ = cc in z)

-- what is false in the front of a trail is false
pub false_more : (before after : List Entry) (c : List ℤ) → are_false_in before c ≡ true → are_false_in (before ++ after) c ≡ true
false_more before after c f = all_literals (false_in (before ++ after)) c
    (λ k m. longer before (complement k) (passes_each (false_in before) c k f m))
  where
    longer : (es : List Entry) (l : ℤ) → contains (literals_of es) l ≡ true → contains (literals_of (es ++ after)) l ≡ true
    longer [] l e = absurd (let z : ⊥ = cc in z)
    longer (d ∷ es) l e = at_test (int_eq l d.lit) e (longer es l)
      where
        at_test : (b : Bool) → (b || contains (literals_of es) l) ≡ true → (contains (literals_of es) l ≡ true → contains (literals_of (es ++ after)) l ≡ true)
            → (b || contains (literals_of (es ++ after)) l) ≡ true
        at_test true e rest = refl
        at_test false e rest = rest e

-- one more of some turns with numbers of held clauses
turns_more : (p : Propagation) (turns : List Turn) (t : Turn) → list_all (λ k. is_some (clause_numbered p.clauses k)) (map (λ (t : Turn). t.with) turns) ≡ true
    → is_some (clause_numbered p.clauses t.with) ≡ true → list_all (λ k. is_some (clause_numbered p.clauses k)) (map (λ (t : Turn). t.with) (turns ++ t ∷ [])) ≡ true
turns_more p [] t all one = rw (one) refl
turns_more p (u ∷ turns) t all one =
    let both = and_true (is_some (clause_numbered p.clauses u.with)) _ all in
    and_from (is_some (clause_numbered p.clauses u.with)) _ both.0 (turns_more p turns t both.1 one)

-- and of those of a chain
pub names_more : (p : Propagation) (first : ℕ) (turns : List Turn) (t : Turn) → names_held p first turns ≡ true → is_some (clause_numbered p.clauses t.with) ≡ true
    → names_held p first (turns ++ t ∷ []) ≡ true
names_more p first turns t all one =
    let both = and_true (is_some (clause_numbered p.clauses first)) _ all in
    and_from (is_some (clause_numbered p.clauses first)) _ both.0 (turns_more p turns t both.1 one)

-- all of it
pub chain_law : ChainLaw
chain_law = record {
  begins = chain_begins;
  more = chain_more;
  named = held_named;
  fresh = next_fresh;
  back = step_back;
  passed = passed_by;
  last = none_present;
  answered = conflict_clause;
  conflict = conflict_present;
  falsified = held_false;
  zero_level = forced_at_zero;
  none = none_left;
  learned = learned_for;
}
