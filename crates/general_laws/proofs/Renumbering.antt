-- New numbers of steps: what is found, named and reached by them.
use Rattle.std.proofs.Common.{◌≡◌, ℕ, ◌<◌, ◌≤◌, Bool, true, false, cond, ◌==◌, nat_le, List, [], ◌∷◌, ◌++◌, refl, sym, ◌∙◌, ap, subst, ℤ, Option, Some, None, inl, inr, map, find, length, option_map}
use Rattle.std.proofs.lemmas.Bool.{cases_Bool, leb-true, leb-false, lt-leb, cond-false}
use Rattle.std.proofs.lemmas.List.{map-append}
use Rattle.lk_model.specs.Lists.{among, is_empty}
use Rattle.lk_model.specs.Formulas.Formula.{Cnf, clause_at}
use Rattle.lk_model.specs.Formulas.Crossed.{Variables, crossed_out}
use Rattle.lk_model.specs.Chains.Chain.{Premises, clause_named, names_of, after_turns, chain_clause, states_its_clause}
use Rattle.lk_model.specs.Chains.Rounds.{reached, is_refutation}
use Rattle.lk_model.specs.Documents.Form.{ends_at_empty}
use Rattle.lk_model.specs.declared.document.Turn.{Turn}
use Rattle.lk_model.specs.declared.document.Step.{Step}
use Rattle.lk_model.specs.declared.document.Round.{Round}
use Rattle.lk_model.proofs.Booleans.{or_right}
use Rattle.lk_model.proofs.Lists.{among_here}
use Rattle.general_laws.specs.JoinLaw.{renumbered_turn, renumbered, renumbered_round}
use Rattle.general_laws.proofs.Chains.{turned, chained, stated}
use Rattle.general_laws.proofs.Numbering.{premises_in, clause_of, named_position}

-- numbers stay apart, those up to m stay, and those past m stay past it
pub record IsRenumbering (m : ℕ) (f : ℕ → ℕ) : Type 0 where
  pub same : (a b : ℕ) → (f a == f b) ≡ (a == b)
  pub fixed : (k : ℕ) → k ≤ m → f k ≡ k
  pub past : (k : ℕ) → m < k → m < f k

-- WHAT A NEW NUMBER STANDS FOR

-- a step is found by its new number
found_renumbered : (f : ℕ → ℕ) → ((a b : ℕ) → (f a == f b) ≡ (a == b)) → (steps : List Step) (k : ℕ)
    → find (λ (s : Step). s.number == f k) (map (renumbered f) steps) ≡ option_map (renumbered f) (find (λ (s : Step). s.number == k) steps)
found_renumbered f same [] k = refl
found_renumbered f same (s ∷ steps) k = at_test (f s.number == f k) (s.number == k) (same s.number k) (found_renumbered f same steps k)
  where
    at_test : (a b : Bool) → a ≡ b → find (λ (s : Step). s.number == f k) (map (renumbered f) steps) ≡ option_map (renumbered f) (find (λ (s : Step). s.number == k) steps)
        → cond a (Some (renumbered f s)) (find (λ (s : Step). s.number == f k) (map (renumbered f) steps))
        ≡ option_map (renumbered f) (cond b (Some s) (find (λ (s : Step). s.number == k) steps))
    at_test true true e rest = refl
    at_test false false e rest = rest
    at_test true false e rest = absurd (let z : ⊥ = cc in z)
    at_test false true e rest = absurd (let z : ⊥ = cc in z)

-- with the same clause
clause_renumbered : (f : ℕ → ℕ) → ((a b : ℕ) → (f a == f b) ≡ (a == b)) → (steps : List Step) (k : ℕ) → clause_of (map (renumbered f) steps) (f k) ≡ clause_of steps k
clause_renumbered f same steps k = rw (found_renumbered f same steps k) (at_step (find (λ (s : Step). s.number == k) steps))
  where
    at_step : (o : Option Step) → option_map (λ (s : Step). s.clause) (option_map (renumbered f) o) ≡ option_map (λ (s : Step). s.clause) o
    at_step None = refl
    at_step (Some s) = refl

-- a number's new number stands for the same clause, over positions with the same crossed clauses
pub named_carried : (F : Cnf) (f : ℕ → ℕ) (P Q : List ℕ) (b c : Variables) (earlier : List Step) → IsRenumbering (length F.clauses) f
    → ((p : ℕ) → among P p ≡ true → crossed_out b (clause_at F p) ≡ crossed_out c (clause_at F p)) → (k : ℕ) (d : List ℤ) → (k ≤ length F.clauses → among Q k ≡ true)
    → clause_named (premises_in F P b earlier) k ≡ Some d → clause_named (premises_in F Q c (map (renumbered f) earlier)) (f k) ≡ Some d
named_carried F f P Q b c earlier new agree k d inside e = elim (cases_Bool (nat_le k (length F.clauses))) [
  | inl t ↦
      (let le = leb-true k (length F.clauses) t in
      let w = named_position F P b earlier k d t e in
      let found : clause_named (premises_in F Q c (map (renumbered f) earlier)) k ≡ Some d = rw (t, inside le) (ap (λ (x : List ℤ). Some x) (sym (agree k w.0) ∙ w.1)) in
      subst (λ (j : ℕ). clause_named (premises_in F Q c (map (renumbered f) earlier)) j ≡ Some d) (sym (new.fixed k le)) found)
  | inr n ↦
      (let lt = leb-false k (length F.clauses) n in
      let found : clause_of earlier k ≡ Some d = sym (cond-false (nat_le k (length F.clauses)) _ _ n) ∙ e in
      rw (lt-leb (f k) (length F.clauses) (new.past k lt)) (clause_renumbered f new.same earlier k ∙ found))
]

-- CHAINS BY NEW NUMBERS

-- the numbers that turns name
abbrev with_of : List Turn → List ℕ
with_of turns = map (λ (t : Turn). t.with) turns

-- turns make the same clause where the new numbers stand for the same clauses
after_carried : (f : ℕ → ℕ) (from to : Premises) (turns : List Turn) (c e : List ℤ)
    → ((k : ℕ) (d : List ℤ) → among (with_of turns) k ≡ true → clause_named from k ≡ Some d → clause_named to (f k) ≡ Some d)
    → after_turns from c turns ≡ Some e → after_turns to c (map (renumbered_turn f) turns) ≡ Some e
after_carried f from to [] c e carry h = h
after_carried f from to (t ∷ turns) c e carry h =
    let w = turned from c t turns e h in
    let n : clause_named to (f t.with) ≡ Some w.other = carry t.with w.other (among_here t.with (with_of turns)) w.named in
    rw (n, w.held, w.against) (after_carried f from to turns _ e (λ k d m. carry k d (or_right (t.with == k) (among (with_of turns) k) m)) w.rest)

-- and a step states it
pub step_carried : (f : ℕ → ℕ) (from to : Premises) (s : Step)
    → ((k : ℕ) (d : List ℤ) → among (names_of s) k ≡ true → clause_named from k ≡ Some d → clause_named to (f k) ≡ Some d)
    → states_its_clause from s ≡ true → states_its_clause to (renumbered f s) ≡ true
unfolding states_its_clause
step_carried f from to s carry h =
    let w = stated from s h in
    let x = chained from s.first s.turns w.clause w.is in
    let n : clause_named to (f s.first) ≡ Some x.start = carry s.first x.start (among_here s.first (with_of s.turns)) x.named in
    let after : after_turns to x.start (map (renumbered_turn f) s.turns) ≡ Some w.clause =
    after_carried f from to s.turns x.start w.clause (λ k d m. carry k d (or_right (s.first == k) (among (with_of s.turns) k) m)) x.rest in
    let e : chain_clause to (f s.first) (map (renumbered_turn f) s.turns) ≡ Some w.clause = rw n after in
    rw e w.same

-- WHAT IS REACHED BY NEW NUMBERS

-- a new number is among new numbers where the number is among the old
pub among_renumbered : (f : ℕ → ℕ) → ((a b : ℕ) → (f a == f b) ≡ (a == b)) → (ks : List ℕ) (k : ℕ) → among (map f ks) (f k) ≡ among ks k
among_renumbered f same [] k = refl
among_renumbered f same (j ∷ ks) k = rw (same j k, among_renumbered f same ks k) refl

-- what renumbered turns name
with_renumbered : (f : ℕ → ℕ) (turns : List Turn) → with_of (map (renumbered_turn f) turns) ≡ map f (with_of turns)
with_renumbered f [] = refl
with_renumbered f (t ∷ turns) = ap (λ (ks : List ℕ). f t.with ∷ ks) (with_renumbered f turns)

-- what a renumbered step names
pub names_renumbered : (f : ℕ → ℕ) (s : Step) → names_of (renumbered f s) ≡ map f (names_of s)
names_renumbered f s = ap (λ (ks : List ℕ). f s.first ∷ ks) (with_renumbered f s.turns)

-- what is reached by new numbers
pub reached_renumbered : (f : ℕ → ℕ) → ((a b : ℕ) → (f a == f b) ≡ (a == b)) → (steps : List Step) → reached (map (renumbered f) steps) ≡ map f (reached steps)
unfolding reached
reached_renumbered f same [] = refl
reached_renumbered f same (s ∷ []) = ap (λ (ks : List ℕ). f s.number ∷ ks) (names_renumbered f s)
reached_renumbered f same (s ∷ t ∷ later) =
    let known = reached (t ∷ later) in
    let rest = reached_renumbered f same (t ∷ later) in
    at_test (reached (map (renumbered f) (t ∷ later))) known rest (among (reached (map (renumbered f) (t ∷ later))) (f s.number)) (among known s.number)
    (ap (λ (ks : List ℕ). among ks (f s.number)) rest ∙ among_renumbered f same known s.number)
  where
    at_test : (new known : List ℕ) → new ≡ map f known → (a b : Bool) → a ≡ b
        → cond a (names_of (renumbered f s) ++ new) new ≡ map f (cond b (names_of s ++ known) known)
    at_test new known e true true g = ap (λ (ks : List ℕ). ks ++ new) (names_renumbered f s) ∙ ap (λ (ks : List ℕ). map f (names_of s) ++ ks) e ∙ sym (map-append f (names_of s) known)
    at_test new known e false false g = e
    at_test new known e true false g = absurd (let z : ⊥ = cc in z)
    at_test new known e false true g = absurd (let z : ⊥ = cc in z)

-- a refutation stays one
pub refutation_renumbered : (f : ℕ → ℕ) (steps : List Step) → is_refutation (map (renumbered f) steps) ≡ is_refutation steps
refutation_renumbered f [] = refl
refutation_renumbered f (s ∷ []) = refl
refutation_renumbered f (s ∷ t ∷ later) = refutation_renumbered f (t ∷ later)

-- and a whole round stays whole
pub whole_renumbered : (f : ℕ → ℕ) (steps : List Step) → ends_at_empty (map (renumbered f) steps) ≡ ends_at_empty steps
whole_renumbered f [] = refl
whole_renumbered f (s ∷ steps) =
    ap (λ (b : Bool). cond (is_empty s.clause) b (ends_at_empty (map (renumbered f) steps))) (empty_renumbered steps)
    ∙ ap (λ (b : Bool). cond (is_empty s.clause) (is_empty steps) b) (whole_renumbered f steps)
  where
    empty_renumbered : (steps : List Step) → is_empty (map (renumbered f) steps) ≡ is_empty steps
    empty_renumbered [] = refl
    empty_renumbered (s ∷ steps) = refl

-- NUMBERS THAT STAY

-- turns by the numbers that they have
same_turns : (turns : List Turn) → map (renumbered_turn (λ k. k)) turns ≡ turns
same_turns [] = refl
same_turns (t ∷ turns) = ap (λ (ts : List Turn). t ∷ ts) (same_turns turns)

-- a step by the number that it has
same_step : (s : Step) → renumbered (λ k. k) s ≡ s
same_step s = ap (λ (ts : List Turn). let u : Step = record { number = s.number; clause = s.clause; first = s.first; turns = ts } in u) (same_turns s.turns)

-- all steps of a round
pub same_steps : (steps : List Step) → map (renumbered (λ k. k)) steps ≡ steps
same_steps [] = refl
same_steps (s ∷ steps) = ap (λ (u : Step). u ∷ map (renumbered (λ k. k)) steps) (same_step s) ∙ ap (λ (us : List Step). s ∷ us) (same_steps steps)

-- and all rounds
pub same_rounds : (rounds : List Round) → map (renumbered_round (λ k. k)) rounds ≡ rounds
same_rounds [] = refl
same_rounds (r ∷ rounds) =
    ap (λ (us : List Step). (let q : Round = record { steps = us } in q) ∷ map (renumbered_round (λ k. k)) rounds) (same_steps r.steps)
    ∙ ap (λ (qs : List Round). r ∷ qs) (same_rounds rounds)

-- leaving each number is a renumbering
pub stay : (m : ℕ) → IsRenumbering m (λ k. k)
stay m = record { same = λ a b. refl; fixed = λ k le. refl; past = λ k lt. lt }
