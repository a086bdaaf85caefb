-- Chains that go on.
use Rattle.std.proofs.Common.{◌≡◌, ℕ, true, List, [], ◌∷◌, ◌++◌, refl, subst, ℤ, Option, Some, None, option_and_then}
use Rattle.lk_model.specs.Formulas.Literal.{complement, contains}
use Rattle.lk_model.specs.Chains.Chain.{Premises, clause_named, without, resolvent, after_turns, chain_clause}
use Rattle.lk_model.specs.declared.document.Turn.{Turn}

-- a chain without a turn is its first clause
pub chain_begins : (from : Premises) (k : ℕ) (c : List ℤ) → clause_named from k ≡ Some c → chain_clause from k [] ≡ Some c
chain_begins from k c e = rw e refl

-- one turn more after some
after_more : (from : Premises) (c : List ℤ) (turns : List Turn) (u : Turn) (d e : List ℤ) → after_turns from c turns ≡ Some d → clause_named from u.with ≡ Some e
    → contains d u.lit ≡ true → contains e (complement u.lit) ≡ true
    → after_turns from c (turns ++ u ∷ []) ≡ Some (without d u.lit ++ without e (complement u.lit))
after_more from c [] u d e is named h k =
    let same : d ≡ c = cc in
    subst (λ (x : List ℤ). after_turns from x (u ∷ []) ≡ Some (without d u.lit ++ without e (complement u.lit))) same (rw (named, h, k) refl)
after_more from c (v ∷ turns) u d e is named h k = at (clause_named from v.with) is (λ r f. after_more from r turns u d e f named h k)
  where
    by : (o : Option (List ℤ)) → option_and_then (λ r. after_turns from r turns) o ≡ Some d
        → ((r : List ℤ) → after_turns from r turns ≡ Some d → after_turns from r (turns ++ u ∷ []) ≡ Some (without d u.lit ++ without e (complement u.lit)))
        → option_and_then (λ r. after_turns from r (turns ++ u ∷ [])) o ≡ Some (without d u.lit ++ without e (complement u.lit))
    by None f rest = absurd (let z : ⊥ = cc in z)
    by (Some r) f rest = rest r f

    at : (o : Option (List ℤ)) → option_and_then (λ x. option_and_then (λ r. after_turns from r turns) (resolvent v.lit c x)) o ≡ Some d
        → ((r : List ℤ) → after_turns from r turns ≡ Some d → after_turns from r (turns ++ u ∷ []) ≡ Some (without d u.lit ++ without e (complement u.lit)))
        → option_and_then (λ x. option_and_then (λ r. after_turns from r (turns ++ u ∷ [])) (resolvent v.lit c x)) o ≡ Some (without d u.lit ++ without e (complement u.lit))
    at None f rest = absurd (let z : ⊥ = cc in z)
    at (Some x) f rest = by (resolvent v.lit c x) f rest

-- and after a chain
pub chain_more : (from : Premises) (first : ℕ) (turns : List Turn) (u : Turn) (d e : List ℤ) → chain_clause from first turns ≡ Some d → clause_named from u.with ≡ Some e
    → contains d u.lit ≡ true → contains e (complement u.lit) ≡ true
    → chain_clause from first (turns ++ u ∷ []) ≡ Some (without d u.lit ++ without e (complement u.lit))
chain_more from first turns u d e is named h k = at (clause_named from first) is
  where
    at : (o : Option (List ℤ)) → option_and_then (λ c. after_turns from c turns) o ≡ Some d
        → option_and_then (λ c. after_turns from c (turns ++ u ∷ [])) o ≡ Some (without d u.lit ++ without e (complement u.lit))
    at None f = absurd (let z : ⊥ = cc in z)
    at (Some c) f = after_more from c turns u d e f named h k
