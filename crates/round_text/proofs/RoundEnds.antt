-- Rounds that are brought to their end, and what they say then.
use Rattle.std.proofs.Common.{◌≡◌, ℕ, ◌+◌, ◌-◌, ◌^◌, ◌<◌, ◌≤◌, ◌∙◌, Bool, true, false, cond, if◌then◌else◌, ◌&&◌, List, [], ◌∷◌, ◌++◌, length, map, refl, sym, ap, arith, length-append, nat_lt}
use Rattle.std.specs.Prelude.{codes}
use Rattle.std.specs.List.{list_all, flat_map}
use Rattle.std.proofs.lemmas.Bool.{and_from, lt-ltb}
use Rattle.std.proofs.lemmas.List.{append-nil, length-map}
use Rattle.std.proofs.lemmas.List.Concat.{flat_map-append}
use Rattle.lk_model.specs.Texts.Lines.{Word}
use Rattle.lk_model.specs.Documents.Text.{comment, step_line, round_lines}
use Rattle.lk_model.specs.Documents.Documents.{steps_of}
use Rattle.lk_model.specs.Documents.Form.{is_step, are_steps, is_open, is_whole, end_open}
use Rattle.lk_model.specs.declared.document.Step.{Step}
use Rattle.lk_model.specs.declared.document.Round.{Round}
use Rattle.lk_model.proofs.Rounds.{ends_more as open_last}
use Rattle.round_text.specs.declared.read_rounds.RoundsPart.{RoundsPart}
use Rattle.round_text.specs.RoundLines.{rounds_lines, round_of, put_step, all_rounds}
use Rattle.line_text.proofs.NumberForms.{between}
use Rattle.round_text.proofs.RoundParts.{IsRounds, all_steps, put_step_form}

-- BROUGHT TO THEIR END

-- the empty step that closes the open round
abbrev pub closing : ℕ → RoundsPart → Step
closing m p = record { number = m + 1 + p.count; clause = []; first = 1; turns = [] }

closing_form : (n m : ℕ) (p : RoundsPart) → 0 < m → m + 1 + p.count < 2 ^ 64 → is_step n (closing m p) ≡ true
closing_form n m p some low =
    let number : nat_lt (m + 1 + p.count) (2 ^ 64) ≡ true = lt-ltb (m + 1 + p.count) (2 ^ 64) low in
    rw (number, between 1 (m + 1 + p.count - 1) 1 (omega arith) (omega (arith, some))) refl

-- rounds that go on from others by some lines
pub record GoesOnRounds (n m : ℕ) (p q : RoundsPart) : Type 0 where
  pub form : IsRounds n m q
  pub more : List (List Word)
  pub lines : rounds_lines q ≡ rounds_lines p ++ more

-- the open round is closed by an empty step
abbrev pub shut_rounds : ℕ → RoundsPart → RoundsPart
shut_rounds m p = if p.is_open then put_step p (closing m p) else p

pub rounds_shut : (n m : ℕ) (p : RoundsPart) → IsRounds n m p → (p.is_open ≡ true → 0 < m) → m + 1 + p.count < 2 ^ 64 → GoesOnRounds n m p (shut_rounds m p) × ((shut_rounds m p).is_open ≡ false)
rounds_shut n m p h some low = by_open p.is_open refl
  where
    by_open : (b : Bool) → p.is_open ≡ b → GoesOnRounds n m p (cond b (put_step p (closing m p)) p) × ((cond b (put_step p (closing m p)) p).is_open ≡ false)
    by_open true t =
        let step = put_step_form n m p (closing m p) (step_line (closing m p)) h t refl (closing_form n m p (some t) low) refl in
        (record { form = step.form; more = step_line (closing m p) ∷ []; lines = step.lines }, refl)
    by_open false t = (record { form = h; more = []; lines = sym (append-nil (rounds_lines p)) }, t)

-- a round without steps is opened where none is open
abbrev pub opened_rounds : RoundsPart → RoundsPart
opened_rounds p = record p { is_open = true }

pub rounds_opened : (n m : ℕ) (p : RoundsPart) → IsRounds n m p → GoesOnRounds n m p (opened_rounds p)
rounds_opened n m p h = by_open p.is_open refl
  where
    form : IsRounds n m (record p { is_open = true })
    form = record { steps = h.steps; count = h.count; whole = h.whole; nonempty = h.nonempty; shut = λ t. absurd (let f : ⊥ = cc in f) }

    before : List (List Word)
    before = flat_map round_lines p.rounds

    by_open : (b : Bool) → p.is_open ≡ b → GoesOnRounds n m p (record p { is_open = true })
    by_open true t = record {
      form = form;
      more = [];
      lines = ap (λ (b : Bool). before ++ cond b (round_lines (round_of p.steps)) []) (sym t) ∙ sym (append-nil (rounds_lines p));
    }
    by_open false t = record {
      form = form;
      more = comment (codes "round") [] ∷ [];
      lines = ap (λ (ss : List Step). before ++ comment (codes "round") [] ∷ map step_line ss) (h.shut t)
          ∙ ap (λ (ls : List (List Word)). ls ++ comment (codes "round") [] ∷ []) (sym (append-nil before))
          ∙ sym (ap (λ (b : Bool). (before ++ cond b (round_lines (round_of p.steps)) []) ++ comment (codes "round") [] ∷ []) t);
    }

-- WHAT ENDED ROUNDS SAY

-- the lines of all rounds are those that were read
pub all_lines : (p : RoundsPart) → flat_map round_lines (all_rounds p) ≡ rounds_lines p
all_lines p = by_open p.is_open
  where
    by_open : (b : Bool) → flat_map round_lines (p.rounds ++ cond b (round_of p.steps ∷ []) []) ≡ flat_map round_lines p.rounds ++ cond b (round_lines (round_of p.steps)) []
    by_open true =
        flat_map-append round_lines p.rounds (round_of p.steps ∷ []) ∙ ap (λ (ls : List (List Word)). flat_map round_lines p.rounds ++ ls) (append-nil (round_lines (round_of p.steps)))
    by_open false = flat_map-append round_lines p.rounds []

-- so are the steps
pub all_steps_read : (n m : ℕ) (p : RoundsPart) → IsRounds n m p → steps_of (all_rounds p) ≡ all_steps p
all_steps_read n m p h = by_open p.is_open refl
  where
    by_open : (b : Bool) → p.is_open ≡ b → steps_of (p.rounds ++ cond b (round_of p.steps ∷ []) []) ≡ steps_of p.rounds ++ p.steps
    by_open true t =
        flat_map-append (λ (r : Round). r.steps) p.rounds (round_of p.steps ∷ []) ∙ ap (λ (ss : List Step). steps_of p.rounds ++ ss) (append-nil p.steps)
    by_open false t =
        flat_map-append (λ (r : Round). r.steps) p.rounds [] ∙ ap (λ (ss : List Step). steps_of p.rounds ++ ss) (sym (h.shut t))

-- rounds that are all whole
pub rounds_whole : (n m : ℕ) (p : RoundsPart) → IsRounds n m p → p.is_open ≡ false → (are_steps n m (steps_of (all_rounds p)) && list_all is_whole (all_rounds p)) ≡ true
rounds_whole n m p h t =
    and_from (are_steps n m (steps_of (all_rounds p))) (list_all is_whole (all_rounds p))
    (ap (are_steps n m) (all_steps_read n m p h) ∙ h.steps)
    (ap (λ (b : Bool). list_all is_whole (p.rounds ++ cond b (round_of p.steps ∷ []) [])) t ∙ ap (list_all is_whole) (append-nil p.rounds) ∙ h.whole)

-- rounds of which the last one is open
pub rounds_open : (n m : ℕ) (p : RoundsPart) → IsRounds n m p → p.is_open ≡ true → (are_steps n m (steps_of (all_rounds p)) ≡ true) × (end_open (all_rounds p) ≡ true)
rounds_open n m p h t = (
  ap (are_steps n m) (all_steps_read n m p h) ∙ h.steps,
  ap (λ (b : Bool). end_open (p.rounds ++ cond b (round_of p.steps ∷ []) [])) t ∙ open_last p.rounds (round_of p.steps) h.whole h.nonempty,
)

-- HOW MANY STEPS THERE ARE

-- each step has a line
lines_of_rounds : (rs : List Round) → length (steps_of rs) ≤ length (flat_map round_lines rs)
lines_of_rounds [] = omega arith
lines_of_rounds (r ∷ rs) =
    omega (arith, length-append r.steps (steps_of rs), length-append (round_lines r) (flat_map round_lines rs), length-map r.steps step_line, lines_of_rounds rs)

pub few_steps : (n m : ℕ) (p : RoundsPart) → IsRounds n m p → p.count ≤ length (rounds_lines p)
few_steps n m p h =
    omega (arith, h.count, ap (λ (ss : List Step). length ss) (all_steps_read n m p h), lines_of_rounds (all_rounds p), ap (λ (ls : List (List Word)). length ls) (all_lines p))
