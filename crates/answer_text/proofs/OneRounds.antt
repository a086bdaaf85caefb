-- Texts with one round: it is open, or it has ended.
use Rattle.std.proofs.Common.{◌≡◌, ℕ, ◌<◌, ◌∙◌, Bool, true, false, cond, ◌&&◌, List, [], ◌∷◌, ◌++◌, refl, sym, ap, subst, Some, None}
use Rattle.std.specs.List.{list_all, flat_map}
use Rattle.std.proofs.lemmas.List.{append-nil}
use Rattle.std.proofs.lemmas.Option.{cond_some}
use Rattle.lk_model.specs.Lists.{is_empty}
use Rattle.lk_model.specs.Texts.Lines.{Word}
use Rattle.lk_model.specs.Documents.Text.{round_lines}
use Rattle.lk_model.specs.Documents.Documents.{steps_of}
use Rattle.lk_model.specs.Documents.Form.{are_steps, ends_at_empty, is_whole}
use Rattle.lk_model.specs.declared.document.Step.{Step}
use Rattle.lk_model.specs.declared.document.Round.{Round}
use Rattle.lk_model.proofs.Booleans.{and_true}
use Rattle.line_text.proofs.Options.{map_some}
use Rattle.round_text.specs.declared.read_rounds.RoundsPart.{RoundsPart}
use Rattle.round_text.specs.RoundLines.{round_of, rounds_lines, closed, with_step, put_step, next_step, is_round, rounds_next}
use Rattle.round_text.proofs.RoundParts.{IsRounds}
use Rattle.round_text.proofs.RoundEnds.{closing, shut_rounds}
use Rattle.round_text.proofs.RoundRuns.{some_clauses}

-- NUMBERED FROM THE FIRST STEP ON

-- a round in form is over some clauses
pub over_some : (n m : ℕ) (steps : List Step) → are_steps n m steps ≡ true → ends_at_empty steps ≡ true → 0 < m
over_some n m steps h e = some_clauses n m steps [] e (ap (are_steps n m) (append-nil steps) ∙ h)

-- ONE ROUND

pub record IsOneRound (p : RoundsPart) : Type 0 where
  pub first : p.is_open ≡ true → p.rounds ≡ []
  pub ended : p.is_open ≡ false → (r : Round) × (p.rounds ≡ r ∷ [])

-- a step puts at most one round after none
one_put : (p : RoundsPart) (s : Step) → p.is_open ≡ true → p.rounds ≡ [] → IsOneRound (put_step p s)
one_put p s some none = by_empty (is_empty s.clause)
  where
    by_empty : (b : Bool) → IsOneRound (cond b (closed (with_step p s)) (with_step p s))
    by_empty true = record {
      first = λ t. absurd (let f : ⊥ = cc in f);
      ended = λ t. (round_of (p.steps ++ s ∷ []), ap (λ (rs : List Round). rs ++ round_of (p.steps ++ s ∷ []) ∷ []) none);
    }
    by_empty false = record {
      first = λ t. none;
      ended = λ t. absurd (let f : true ≡ false = sym some ∙ t in let g : ⊥ = cc in g);
    }

-- the first round begins, or goes on
pub one_step : (may : Bool) (n m : ℕ) (p q : RoundsPart) (words : List Word) → p.rounds ≡ [] → rounds_next may n m p words ≡ Some q → IsOneRound q
one_step may n m p q words none e = by_open p.is_open refl e
  where
    by_open : (b : Bool) → p.is_open ≡ b → cond b (next_step n m p words) (cond (may && is_round words) (Some (record p { is_open = true })) None) ≡ Some q → IsOneRound q
    by_open false t f =
        let next : RoundsPart = record p { is_open = true } in
        let parts = cond_some (may && is_round words) next q f in
        subst (λ (x : RoundsPart). IsOneRound x) parts.1 (record { first = λ u. none; ended = λ u. absurd (let g : ⊥ = cc in g) })
    by_open true t f =
        let put = map_some (put_step p) _ q f in
        subst (λ (x : RoundsPart). IsOneRound x) (sym put.is) (one_put p put.item t none)

-- a round that is brought to its end is still one
pub one_shut : (m : ℕ) (p : RoundsPart) → IsOneRound p → (r : Round) × ((shut_rounds m p).rounds ≡ r ∷ [])
one_shut m p h = by_open p.is_open refl
  where
    by_open : (b : Bool) → p.is_open ≡ b → (r : Round) × ((cond b (put_step p (closing m p)) p).rounds ≡ r ∷ [])
    by_open true t = (round_of (p.steps ++ closing m p ∷ []), ap (λ (rs : List Round). rs ++ round_of (p.steps ++ closing m p ∷ []) ∷ []) (h.first t))
    by_open false t = h.ended t

-- ONE ROUND THAT HAS ENDED

-- its lines are those that were read
pub ended_lines : (p : RoundsPart) (r : Round) → p.is_open ≡ false → p.rounds ≡ r ∷ [] → round_lines r ≡ rounds_lines p
ended_lines p r shut e =
    sym (ap (λ (b : Bool). flat_map round_lines p.rounds ++ cond b (round_lines (round_of p.steps)) []) shut
    ∙ ap (λ (rs : List Round). flat_map round_lines rs ++ []) e
    ∙ append-nil (round_lines r ++ []) ∙ append-nil (round_lines r))

-- its steps are in form, and it is whole
pub ended_form : (n m : ℕ) (p : RoundsPart) (r : Round) → IsRounds n m p → p.is_open ≡ false → p.rounds ≡ r ∷ [] → (are_steps n m r.steps ≡ true) × (is_whole r ≡ true)
ended_form n m p r h shut e =
    let steps : steps_of p.rounds ++ p.steps ≡ r.steps =
    ap (λ (us : List Step). steps_of p.rounds ++ us) (h.shut shut) ∙ append-nil (steps_of p.rounds) ∙ ap steps_of e ∙ append-nil r.steps in
    (ap (are_steps n m) (sym steps) ∙ h.steps, (and_true (is_whole r) true (ap (list_all is_whole) (sym e) ∙ h.whole)).0)
