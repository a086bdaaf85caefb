-- What chains make of clauses under other variables and other numbers.
use Rattle.std.proofs.Common.{◌≡◌, ℕ, ◌<◌, ◌≤◌, Bool, true, false, cond, not, ◌&&◌, ◌==◌, nat_lt, nat_le, List, [], ◌∷◌, ◌++◌, refl, sym, ◌∙◌, ap, subst, ℤ, Option, Some, None, inl, inr, map, find, length, option_map}
use Rattle.std.specs.Prelude.{option_and_then}
use Rattle.std.specs.Option.{option_map_or}
use Rattle.std.proofs.lemmas.Bool.{cases_Bool, leb-true, leb-false, le-leb, lt-leb, lt-ltb, le-ltb}
use Rattle.std.proofs.lemmas.List.{map-append}
use Rattle.lk_model.specs.Lists.{among, is_empty}
use Rattle.lk_model.specs.Formulas.Literal.{is_within, is_same_set}
use Rattle.lk_model.specs.Formulas.Formula.{Cnf, clause_at}
use Rattle.lk_model.specs.Formulas.Crossed.{Variables, crossed_out}
use Rattle.lk_model.specs.Chains.Chain.{Premises, clause_named, resolvent, after_turns, chain_clause, states_its_clause, is_learned}
use Rattle.lk_model.specs.Chains.Rounds.{StepAt}
use Rattle.lk_model.specs.declared.document.Turn.{Turn}
use Rattle.lk_model.specs.declared.document.Step.{Step}
use Rattle.general_laws.proofs.Numbering.{premises_in, clause_of}
use Rattle.general_laws.proofs.Stated.{step_at, NoneOf}
use Rattle.general_laws.proofs.Reaching.{is_misstated}
use Rattle.general_laws.proofs.Learning.{is_unlearned}
use Rattle.general_laws.proofs.Renumbering.{among_renumbered}
use Rattle.renaming_laws.specs.Renaming.{turn_under, step_under}
use Rattle.renaming_laws.proofs.Mapped.{any_mapped, find_mapped, empty_mapped}
use Rattle.renaming_laws.proofs.RenamedClauses.{Renames, within_renamed, same_set_renamed, tautology_renamed, crossed_renamed, resolvent_renamed}

-- Variables have other numbers, and so have positions, which rise with the old ones; numbers past all positions of G go
-- past all positions of F.
pub record Translates (F G : Cnf) (ν : ℕ → ℕ) (g : ℤ → ℤ) (f : ℕ → ℕ) : Type 0 where
  pub renames : Renames ν g
  pub rise : (a b : ℕ) → a < b → f a < f b
  pub none : f 0 ≡ 0
  pub same : (a b : ℕ) → (f a == f b) ≡ (a == b)
  pub low : (k : ℕ) → k ≤ length G.clauses → f k ≤ length F.clauses
  pub past : (k : ℕ) → length G.clauses < k → length F.clauses < f k

-- F has the clauses of G under these variables and at these positions
pub record IsCopied (F G : Cnf) (ν : ℕ → ℕ) (g : ℤ → ℤ) (f : ℕ → ℕ) : Type 0 where
  pub numbers : Translates F G ν g f
  pub clauses : (k : ℕ) → clause_at F (f k) ≡ map g (clause_at G k)

-- the one set has the new numbers of the other set's variables
abbrev pub Agrees : (ℕ → ℕ) → Variables → Variables → Type 0
Agrees ν b d = (v : ℕ) → d (ν v) ≡ b v

-- F has the clauses of G there, each without the variables of its set
abbrev pub AreCrossed : Cnf → Cnf → (ℤ → ℤ) → (ℕ → ℕ) → Variables → Variables → Type 0
AreCrossed F G g f b d = (k : ℕ) → crossed_out d (clause_at F (f k)) ≡ map g (crossed_out b (clause_at G k))

-- the one part has the new positions of the other one
abbrev pub ArePlaced : (ℕ → ℕ) → List ℕ → List ℕ → Type 0
ArePlaced f P Q = (k : ℕ) → among Q (f k) ≡ among P k

-- WHAT A NUMBER STANDS FOR

-- new numbers lie on the same side
side_same : (F G : Cnf) (ν : ℕ → ℕ) (g : ℤ → ℤ) (f : ℕ → ℕ) → Translates F G ν g f → (k : ℕ) → nat_le (f k) (length F.clauses) ≡ nat_le k (length G.clauses)
side_same F G ν g f new k = elim (cases_Bool (nat_le k (length G.clauses))) [
  | inl le ↦ le-leb (f k) (length F.clauses) (new.low k (leb-true k (length G.clauses) le)) ∙ sym le
  | inr gt ↦ lt-leb (f k) (length F.clauses) (new.past k (leb-false k (length G.clauses) gt)) ∙ sym gt
]

pub lower_same : (F G : Cnf) (ν : ℕ → ℕ) (g : ℤ → ℤ) (f : ℕ → ℕ) → Translates F G ν g f → (k : ℕ) → nat_lt (length F.clauses) (f k) ≡ nat_lt (length G.clauses) k
lower_same F G ν g f new k = elim (cases_Bool (nat_le k (length G.clauses))) [
  | inl le ↦
      (let low = leb-true k (length G.clauses) le in
      le-ltb (length F.clauses) (f k) (new.low k low) ∙ sym (le-ltb (length G.clauses) k low))
  | inr gt ↦
      (let past = leb-false k (length G.clauses) gt in
      lt-ltb (length F.clauses) (f k) (new.past k past) ∙ sym (lt-ltb (length G.clauses) k past))
]

-- the clause of a step
clause_renamed : (g : ℤ → ℤ) (f : ℕ → ℕ) → ((a b : ℕ) → (f a == f b) ≡ (a == b)) → (steps : List Step) (k : ℕ)
    → clause_of (map (step_under g f) steps) (f k) ≡ option_map (map g) (clause_of steps k)
clause_renamed g f same steps k =
    ap (option_map (λ (s : Step). s.clause)) (find_mapped (step_under g f) (λ (s : Step). s.number == f k) (λ (s : Step). s.number == k) (λ s. same s.number k) steps)
    ∙ at_step (find (λ (s : Step). s.number == k) steps)
  where
    at_step : (o : Option Step) → option_map (λ (s : Step). s.clause) (option_map (step_under g f) o) ≡ option_map (map g) (option_map (λ (s : Step). s.clause) o)
    at_step None = refl
    at_step (Some s) = refl

-- the crossed clause at a position
pub crossed_copied : (F G : Cnf) (ν : ℕ → ℕ) (g : ℤ → ℤ) (f : ℕ → ℕ) → IsCopied F G ν g f → (b d : Variables) → Agrees ν b d → AreCrossed F G g f b d
crossed_copied F G ν g f new b d agree k = ap (crossed_out d) (new.clauses k) ∙ crossed_renamed ν g new.numbers.renames b d agree (clause_at G k)

-- the clause that a number stands for
named_renamed : (F G : Cnf) (ν : ℕ → ℕ) (g : ℤ → ℤ) (f : ℕ → ℕ) → Translates F G ν g f → (P Q : List ℕ) → ArePlaced f P Q
    → (b d : Variables) → AreCrossed F G g f b d → (earlier : List Step) (k : ℕ)
    → clause_named (premises_in F Q d (map (step_under g f) earlier)) (f k) ≡ option_map (map g) (clause_named (premises_in G P b earlier) k)
named_renamed F G ν g f new P Q placed b d crossed earlier k =
    rw (side_same F G ν g f new k, placed k, crossed k, clause_renamed g f new.same earlier k)
    (at_tests (nat_le k (length G.clauses)) (among P k))
  where
    at_tests : (x y : Bool) → cond x (cond y (Some (map g (crossed_out b (clause_at G k)))) None) (option_map (map g) (clause_of earlier k))
        ≡ option_map (map g) (cond x (cond y (Some (crossed_out b (clause_at G k))) None) (clause_of earlier k))
    at_tests true true = refl
    at_tests true false = refl
    at_tests false y = refl

-- CHAINS

-- the clause after turns
after_renamed : (ν : ℕ → ℕ) (g : ℤ → ℤ) (f : ℕ → ℕ) → Renames ν g → (from to : Premises) → ((k : ℕ) → clause_named to (f k) ≡ option_map (map g) (clause_named from k))
    → (turns : List Turn) (c : List ℤ) → after_turns to (map g c) (map (turn_under g f) turns) ≡ option_map (map g) (after_turns from c turns)
after_renamed ν g f new from to named [] c = refl
after_renamed ν g f new from to named (t ∷ turns) c =
    ap (option_and_then (λ d. option_and_then (λ r. after_turns to r (map (turn_under g f) turns)) (resolvent (g t.lit) (map g c) d))) (named t.with)
    ∙ at_clause (after_renamed ν g f new from to named turns) (clause_named from t.with)
  where
    at_resolvent : ((r : List ℤ) → after_turns to (map g r) (map (turn_under g f) turns) ≡ option_map (map g) (after_turns from r turns)) → (o : Option (List ℤ))
        → option_and_then (λ r. after_turns to r (map (turn_under g f) turns)) (option_map (map g) o) ≡ option_map (map g) (option_and_then (λ r. after_turns from r turns) o)
    at_resolvent rest None = refl
    at_resolvent rest (Some r) = rest r

    at_clause : ((r : List ℤ) → after_turns to (map g r) (map (turn_under g f) turns) ≡ option_map (map g) (after_turns from r turns)) → (o : Option (List ℤ))
        → option_and_then (λ d. option_and_then (λ r. after_turns to r (map (turn_under g f) turns)) (resolvent (g t.lit) (map g c) d)) (option_map (map g) o)
        ≡ option_map (map g) (option_and_then (λ d. option_and_then (λ r. after_turns from r turns) (resolvent t.lit c d)) o)
    at_clause rest None = refl
    at_clause rest (Some d) =
        ap (option_and_then (λ r. after_turns to r (map (turn_under g f) turns))) (resolvent_renamed ν g new t.lit c d)
        ∙ at_resolvent rest (resolvent t.lit c d)

-- the clause of a chain
chain_renamed : (ν : ℕ → ℕ) (g : ℤ → ℤ) (f : ℕ → ℕ) → Renames ν g → (from to : Premises) → ((k : ℕ) → clause_named to (f k) ≡ option_map (map g) (clause_named from k))
    → (first : ℕ) (turns : List Turn) → chain_clause to (f first) (map (turn_under g f) turns) ≡ option_map (map g) (chain_clause from first turns)
chain_renamed ν g f new from to named first turns =
    ap (option_and_then (λ c. after_turns to c (map (turn_under g f) turns))) (named first) ∙ at_clause (clause_named from first)
  where
    at_clause : (o : Option (List ℤ)) → option_and_then (λ c. after_turns to c (map (turn_under g f) turns)) (option_map (map g) o)
        ≡ option_map (map g) (option_and_then (λ c. after_turns from c turns) o)
    at_clause None = refl
    at_clause (Some c) = after_renamed ν g f new from to named turns c

-- STEPS

-- a step states its clause where the old one does
states_renamed : (ν : ℕ → ℕ) (g : ℤ → ℤ) (f : ℕ → ℕ) → Renames ν g → (from to : Premises) → ((k : ℕ) → clause_named to (f k) ≡ option_map (map g) (clause_named from k))
    → (s : Step) → states_its_clause to (step_under g f s) ≡ states_its_clause from s
unfolding states_its_clause
states_renamed ν g f new from to named s =
    ap (λ (o : Option (List ℤ)). option_map_or (is_same_set (map g s.clause)) o false) (chain_renamed ν g f new from to named s.first s.turns)
    ∙ at_clause (chain_clause from s.first s.turns)
  where
    at_clause : (o : Option (List ℤ)) → option_map_or (is_same_set (map g s.clause)) (option_map (map g) o) false ≡ option_map_or (is_same_set s.clause) o false
    at_clause None = refl
    at_clause (Some c) = same_set_renamed ν g new s.clause c

pub stated_crossed : (F G : Cnf) (ν : ℕ → ℕ) (g : ℤ → ℤ) (f : ℕ → ℕ) → Translates F G ν g f → (P Q : List ℕ) → ArePlaced f P Q
    → (b d : Variables) → AreCrossed F G g f b d → (earlier : List Step) (s : Step)
    → states_its_clause (premises_in F Q d (map (step_under g f) earlier)) (step_under g f s) ≡ states_its_clause (premises_in G P b earlier) s
stated_crossed F G ν g f new P Q placed b d crossed earlier s =
    states_renamed ν g f new.renames (premises_in G P b earlier) (premises_in F Q d (map (step_under g f) earlier))
    (named_renamed F G ν g f new P Q placed b d crossed earlier) s

pub misstated_renamed : (F G : Cnf) (ν : ℕ → ℕ) (g : ℤ → ℤ) (f : ℕ → ℕ) → IsCopied F G ν g f → (P : List ℕ) (b d : Variables) → Agrees ν b d → (earlier : List Step) (s : Step)
    → is_misstated (step_at F (map f P) d (map (step_under g f) earlier) (step_under g f s)) ≡ is_misstated (step_at G P b earlier s)
misstated_renamed F G ν g f new P b d agree earlier s =
    ap not (stated_crossed F G ν g f new.numbers P (map f P) (among_renumbered f new.numbers.same P) b d (crossed_copied F G ν g f new b d agree) earlier s)

-- and learns it where the old one does
learned_renamed : (F G : Cnf) (ν : ℕ → ℕ) (g : ℤ → ℤ) (f : ℕ → ℕ) → IsCopied F G ν g f → (P : List ℕ) (b d : Variables) → Agrees ν b d → (earlier : List Step) (c : List ℤ)
    → is_learned (premises_in F (map f P) d (map (step_under g f) earlier)) (map g c) ≡ is_learned (premises_in G P b earlier) c
unfolding is_learned
learned_renamed F G ν g f new P b d agree earlier c =
    rw (
      empty_mapped g c,
      tautology_renamed ν g new.numbers.renames c,
      any_mapped f (λ p. not (is_empty (crossed_out d (clause_at F p))) && is_within (crossed_out d (clause_at F p)) (map g c))
          (λ p. not (is_empty (crossed_out b (clause_at G p))) && is_within (crossed_out b (clause_at G p)) c) at_position P,
      any_mapped (step_under g f) (λ (s : Step). is_within s.clause (map g c)) (λ (s : Step). is_within s.clause c)
          (λ s. within_renamed ν g new.numbers.renames s.clause c) earlier,
    ) refl
  where
    at_position : (p : ℕ) → (not (is_empty (crossed_out d (clause_at F (f p)))) && is_within (crossed_out d (clause_at F (f p))) (map g c))
        ≡ (not (is_empty (crossed_out b (clause_at G p))) && is_within (crossed_out b (clause_at G p)) c)
    at_position p =
        ap (λ (x : List ℤ). not (is_empty x) && is_within x (map g c)) (crossed_copied F G ν g f new b d agree p)
        ∙ ap (λ (e : Bool). not e && is_within (map g (crossed_out b (clause_at G p))) (map g c)) (empty_mapped g (crossed_out b (clause_at G p)))
        ∙ ap (λ (e : Bool). not (is_empty (crossed_out b (clause_at G p))) && e) (within_renamed ν g new.numbers.renames (crossed_out b (clause_at G p)) c)

pub unlearned_renamed : (F G : Cnf) (ν : ℕ → ℕ) (g : ℤ → ℤ) (f : ℕ → ℕ) → IsCopied F G ν g f → (P : List ℕ) (b d : Variables) → Agrees ν b d → (earlier : List Step) (s : Step)
    → is_unlearned (step_at F (map f P) d (map (step_under g f) earlier) (step_under g f s)) ≡ is_unlearned (step_at G P b earlier s)
unlearned_renamed F G ν g f new P b d agree earlier s =
    ap (λ (e : Bool). not e && not (is_learned (premises_in F (map f P) d (map (step_under g f) earlier)) (map g s.clause))) (empty_mapped g s.clause)
    ∙ ap (λ (e : Bool). not (is_empty s.clause) && not e) (learned_renamed F G ν g f new P b d agree earlier s.clause)

-- so what fails at no step of a round fails at none of the new round
pub none_renamed : (t : StepAt → Bool) (F G : Cnf) (g : ℤ → ℤ) (f : ℕ → ℕ) (P : List ℕ) (b d : Variables)
    → ((earlier : List Step) (s : Step) → t (step_at F (map f P) d (map (step_under g f) earlier) (step_under g f s)) ≡ t (step_at G P b earlier s))
    → (earlier steps : List Step) → NoneOf t G P b earlier steps → NoneOf t F (map f P) d (map (step_under g f) earlier) (map (step_under g f) steps)
none_renamed t F G g f P b d same earlier [] none = tt
none_renamed t F G g f P b d same earlier (s ∷ steps) none = (
  same earlier s ∙ none.0,
  subst (λ (us : List Step). NoneOf t F (map f P) d us (map (step_under g f) steps)) (map-append (step_under g f) earlier (s ∷ []))
      (none_renamed t F G g f P b d same (earlier ++ s ∷ []) steps none.1),
)
