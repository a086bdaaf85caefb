-- How many clauses contain each literal, and the variables that occur in one sign only.
use Rattle.std.specs.Prelude.{◌≡◌, ◌≤◌, ◌<◌, ℕ, if◌then◌else◌, IsTrue, ◌+◌, ◌*◌, ◌-◌, Bool, ◌&&◌, ◌||◌, ◌==◌, nat_lt, List, [], ◌∷◌, length, Contains, ℤ, pos, neg_ℤ, slice_index, slice_set, Option, Some, None, find}
use Rattle.lk_model.specs.Formulas.Literal.{complement, rank_of, is_literal, contains as holds}
use Rattle.lk_model.specs.Formulas.PureRun.{literals_to}

-- a number for each literal over the variables from 1 to n, at its rank
pub record Counted : Type 0 where
  pub vars : ℕ
  pub counts : List ℕ

abbrev pub count_of : List ℕ → ℤ → ℕ
count_of counts l = slice_index counts (rank_of l)

-- the literal occurs, and its complement does not
abbrev pub is_lone : List ℕ → ℤ → Bool
is_lone counts l = nat_lt 0 (count_of counts l) && count_of counts (complement l) == 0

-- the variable occurs in one sign only
abbrev pub is_lone_variable : List ℕ → ℕ → Bool
is_lone_variable counts v = is_lone counts (pos v) || is_lone counts (neg_ℤ (pos v))

-- the literal that occurs, of a variable that occurs in one sign only
abbrev pub lone_of : List ℕ → ℕ → Option ℤ
lone_of counts v = find (is_lone counts) (pos v ∷ neg_ℤ (pos v) ∷ [])

-- the variables below next that occur in one sign only stand in back, where all are below next
pub record AreLone (vars : ℕ) (counts : List ℕ) (next : ℕ) (back : List ℕ) : Type 0 where
  pub small : vars ≤ 1000000
  pub size : length counts ≡ 2 * vars + 2
  pub first : 0 < next
  pub last : next ≤ vars + 1
  pub within : (v : ℕ) → Contains back v → (0 < v) × (v < next)
  pub told : (v : ℕ) → 0 < v → v < next → IsTrue (is_lone_variable counts v) → Contains back v

-- the least of some numbers
abbrev pub IsLeast : List ℕ → ℕ → Type 0
IsLeast xs x = Contains xs x × ((y : ℕ) → Contains xs y → x ≤ y)

-- of some variables those are left that occur in one sign only, and maybe more of them
pub record AreStill (counts before after : List ℕ) : Type 0 where
  pub kept : (v : ℕ) → Contains before v → IsTrue (is_lone_variable counts v) → Contains after v
  pub among : (v : ℕ) → Contains after v → Contains before v

-- the literal of the least of some variables, if there are any
abbrev pub IsFirstLone : List ℕ → List ℕ → Option ℤ → Type 0
IsFirstLone counts vs None = vs ≡ []
IsFirstLone counts vs (Some l) = (v : ℕ) × IsLeast vs v × (lone_of counts v ≡ Some l)

-- one less at a literal
abbrev pub lowered : Counted → ℤ → Counted
lowered c l = record c { counts = slice_set c.counts (rank_of l) (count_of c.counts l - 1) }

-- the least variable that occurs in one sign only, as the literal that occurs
abbrev pub least_lone : Counted → Option ℤ
least_lone c = find (is_lone c.counts) (literals_to c.vars)

-- each literal of the clause is counted
abbrev pub AreHeld : Counted → List ℤ → Type 0
AreHeld c clause = (l : ℤ) → IsTrue (holds clause l) → 0 < count_of c.counts l

-- one less at each literal of the clause, and at no other literal
pub record LowersAll (clause : List ℤ) (before after : Counted) : Type 0 where
  pub vars : after.vars ≡ before.vars
  pub width : length after.counts ≡ length before.counts
  pub less : (l : ℤ) → IsTrue (is_literal before.vars l) → count_of after.counts l + (if holds clause l then 1 else 0) ≡ count_of before.counts l
