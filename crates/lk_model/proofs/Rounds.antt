-- Rounds that are whole, and open ones; the literals of their steps.
use Rattle.std.proofs.Common.{◌≡◌, ℕ, ◌+◌, ◌-◌, ◌*◌, Bool, true, false, cond, List, [], ◌∷◌, refl, ◌++◌, arith, map}
use Rattle.std.proofs.lemmas.Bool.{and_from}
use Rattle.std.specs.List.{list_all}
use Rattle.lk_model.specs.Lists.{is_empty, is_between, rises_within}
use Rattle.lk_model.specs.Formulas.Literal.{rank_of, is_literal}
use Rattle.lk_model.specs.Chains.Rounds.{is_refutation}
use Rattle.lk_model.specs.Documents.Form.{ends_at_empty, is_whole, is_open, end_open, is_step, is_turn}
use Rattle.lk_model.specs.declared.document.Step.{Step}
use Rattle.lk_model.specs.declared.document.Round.{Round}
use Rattle.lk_model.proofs.Booleans.{and_true}
use Rattle.lk_model.proofs.ListTests.{all_weaker}
use Rattle.lk_model.proofs.Ranks.{ranked_literals}

-- a whole round is a refutation
pub whole_refutes : (steps : List Step) → ends_at_empty steps ≡ true → is_refutation steps ≡ true
whole_refutes [] e = absurd (let f : ⊥ = cc in f)
whole_refutes (s ∷ []) e = at_test (is_empty s.clause) e
  where
    at_test : (b : Bool) → cond b true false ≡ true → b ≡ true
    at_test true e = refl
    at_test false e = e
whole_refutes (s ∷ t ∷ later) e = at_test (is_empty s.clause) e (whole_refutes (t ∷ later))
  where
    at_test : (b : Bool) → cond b false (ends_at_empty (t ∷ later)) ≡ true → (ends_at_empty (t ∷ later) ≡ true → is_refutation (t ∷ later) ≡ true) → is_refutation (t ∷ later) ≡ true
    at_test true e rest = absurd (let f : ⊥ = cc in f)
    at_test false e rest = rest e

-- whole rounds, with an open one after them
pub ends_more : (rounds : List Round) (r : Round) → list_all is_whole rounds ≡ true → is_open r ≡ true → end_open (rounds ++ r ∷ []) ≡ true
ends_more [] r e f = f
ends_more (q ∷ []) r e f = and_from (is_whole q) (is_open r) (and_true (is_whole q) true e).0 f
ends_more (q ∷ p ∷ rounds) r e f =
    let both = and_true (is_whole q) (list_all is_whole (p ∷ rounds)) e in
    and_from _ _ both.0 (ends_more (p ∷ rounds) r both.1 f)

-- THE LITERALS OF STEPS

pub step_literals : (n : ℕ) (s : Step) → is_step n s ≡ true → list_all (is_literal n) s.clause ≡ true
step_literals n s form =
    let a = and_true _ (list_all (is_turn n s.number) s.turns) form in
    let b = and_true _ (is_between 1 (s.number - 1) s.first) a.0 in
    let c = and_true _ (rises_within 1 (2 * n + 1) (map rank_of s.clause)) b.0 in
    ranked_literals n 1 s.clause (omega arith) c.1

pub round_literals : (n : ℕ) (steps : List Step) → list_all (is_step n) steps ≡ true → list_all (λ (s : Step). list_all (is_literal n) s.clause) steps ≡ true
round_literals n steps form = all_weaker (is_step n) (λ (s : Step). list_all (is_literal n) s.clause) (λ s e. step_literals n s e) steps form
