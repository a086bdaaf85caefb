-- The marks of a search are lowered by going through its queue.
use Rattle.std.proofs.Common.{◌≡◌, ◌≢◌, ℕ, zero, suc, ◌<◌, ◌≤◌, Bool, true, false, List, [], ◌∷◌, length, refl, ◌∙◌, ap, arith, replicate, IsTrue}
use Rattle.lk_model.specs.Held.VariableSets.{is_in}
use Rattle.bipartite_match.specs.declared.visits.Visit.{Visit}
use Rattle.bipartite_match.specs.Visiting.{visit_at}

-- a variable of a set is not 0
pub is_some : (marks : List Bool) (v : ℕ) → IsTrue (is_in marks v) → v ≢ 0
is_some marks zero e z = let f : ⊥ = cc in f
is_some marks (suc v) e z = omega (arith, z)

no_marks : (marks : List Bool) → ((v : ℕ) → IsTrue (is_in marks v) → ⊥) → marks ≡ replicate (length marks) false
no_marks [] none = refl
no_marks (true ∷ marks) none = absurd (none 1 refl)
no_marks (false ∷ marks) none = ap (λ (bs : List Bool). false ∷ bs) (no_marks marks later)
  where
    later : (v : ℕ) → IsTrue (is_in marks v) → ⊥
    later zero e = let f : ⊥ = cc in f
    later (suc v) e = none (suc (suc v)) e

-- The marks of the first k visits are lowered.
pub record IsLowered (q : List Visit) (n : ℕ) (marks : List Bool) (k : ℕ) : Type 0 where
  pub size : length marks ≡ n
  pub left : (v : ℕ) → IsTrue (is_in marks v) → (j : ℕ) × (k ≤ j) × (j < length q) × ((visit_at q j).by ≡ v)

pub all_lowered : (q : List Visit) (n : ℕ) (marks : List Bool) (k : ℕ) → IsLowered q n marks k → length q ≤ k → marks ≡ replicate n false
all_lowered q n marks k h past =
    no_marks marks (λ v e. let w = h.left v e in let a = w.1 in let b = w.2 in omega (arith, a, b, past)) ∙ ap (λ (k : ℕ). replicate k false) h.size
