-- Refutations by unit propagation, one after another.
use Rattle.std.specs.Prelude.{◌≡◌, ℕ, ◌<◌, Bool, ⊤, List, [], ◌∷◌, map, length, ℤ, Option, Some, None, slice_index_or, IsTrue}
use Rattle.std.specs.List.{list_all}
use Rattle.lk_model.specs.Lists.{among, is_between, rises_within}
use Rattle.lk_model.specs.Formulas.Literal.{variable, is_clause, rank_of}
use Rattle.lk_model.specs.Formulas.Formula.{Cnf, clause_at}
use Rattle.lk_model.specs.Formulas.Crossed.{crossed_out}
use Rattle.lk_model.specs.Held.VariableSets.{is_in, premises_of}
use Rattle.lk_model.specs.Chains.Chain.{chain_clause}
use Rattle.lk_model.specs.declared.crossed.Crossed.{Crossed}
use Rattle.lk_model.specs.declared.document.Turn.{Turn}
use Rattle.occurrence_lists.specs.Occurrences.{AreOccurrences}
use Rattle.unit_refutations.specs.Trails.{Came, IsReasoned}
use Rattle.unit_refutations.specs.Chains.{is_filled}
use Rattle.unit_refutations.specs.Looks.{IsLook}
use Rattle.unit_refutations.specs.declared.looking.Look.{Look}
use Rattle.unit_refutations.specs.declared.looking.Look.TheVariants.{Truth, Conflict}
use Rattle.unit_refutations.specs.declared.units.Found.{Found}
use Rattle.unit_refutations.specs.declared.units.Found.TheVariants.{Quiet, Forced, Conflict as AtConflict}
use Rattle.unit_refutations.specs.declared.units.Units.{Units}
use Rattle.unit_refutations.specs.declared.units.UnitRefutation.{UnitRefutation}

-- the list of each literal has numbers up to a bound, ascending
abbrev pub AreRanges : ℕ → List (List ℕ) → Type 0
AreRanges bound lists = (l : ℤ) → 0 < variable l → rank_of l < length lists → IsTrue (rises_within 0 bound (slice_index_or lists (rank_of l) []))

-- what is kept where some variables are blocked
pub record AreKept (F : Cnf) (blocked : List Bool) (lists : List (List ℕ)) (within : List Bool) (t : Came) : Type 0 where
  pub occurs : AreOccurrences F lists
  pub size : length lists ≡ length t.places
  pub ranges : AreRanges (length within) lists
  pub inside : length within ≡ length F.clauses
  pub reasoned : IsReasoned F (is_in within) blocked t

abbrev pub IsKept : Cnf → List Bool → Units → Type 0
IsKept F blocked u = AreKept F blocked u.lists u.agenda.inside u.trail

-- the clauses inside are those at positions of the part
abbrev pub IsWithin : List ℕ → Units → Type 0
IsWithin part u = (position : ℕ) → IsTrue (is_in u.agenda.inside position) → IsTrue (among part position)

-- the crossed clause at a position inside asks for it
pub record AsksAt (F : Cnf) (blocked : List Bool) (u : Units) (position : ℕ) (asked : Look) : Type 0 where
  pub inside : IsTrue (is_in u.agenda.inside position)
  pub clause : IsTrue (is_clause F.vars (clause_at F position))
  pub look : IsLook u.trail (crossed_out (is_in blocked) (clause_at F position)) asked

abbrev pub IsFoundAt : Cnf → List Bool → Units → Found → Type 0
IsFoundAt F blocked u Quiet = ⊤
IsFoundAt F blocked u (Forced l position) = AsksAt F blocked u position (Truth l)
IsFoundAt F blocked u (AtConflict position) = AsksAt F blocked u position Conflict

abbrev pub IsFalseAt : Cnf → List Bool → Units → Option ℕ → Type 0
IsFalseAt F blocked u None = ⊤
IsFalseAt F blocked u (Some position) = AsksAt F blocked u position Conflict

-- numbers of positions, in any order
abbrev pub are_between : Cnf → List ℕ → Bool
are_between F ps = list_all (is_between 1 (length F.clauses)) ps

-- One step with the empty clause, numbered `next`, whose chain names non-empty crossed clauses of the part, and the positions
-- that it names.
pub record IsUnitRefutation (over : Crossed) (next : ℕ) (r : UnitRefutation) : Type 0 where
  pub first : ℕ
  pub turns : List Turn
  pub steps : r.round.steps ≡ record { number = next; clause = []; first = first; turns = turns } ∷ []
  pub empty : chain_clause (premises_of over []) first turns ≡ Some []
  pub names : r.used ≡ first ∷ map (λ (t : Turn). t.with) turns
  pub filled : IsTrue (list_all (is_filled over) r.used)

-- a refutation, or none, of which nothing is claimed
abbrev pub IsAnswer : Crossed → ℕ → Option UnitRefutation → Type 0
IsAnswer over next None = ⊤
IsAnswer over next (Some r) = IsUnitRefutation over next r
