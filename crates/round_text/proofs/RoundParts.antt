-- Rounds in form, and what the next line does to them.
use Rattle.std.proofs.Common.{◌≡◌, ℕ, ◌+◌, ◌^◌, ◌<◌, ◌≤◌, ◌∙◌, Bool, true, false, cond, not, ◌&&◌, ◌==◌, List, [], ◌∷◌, ◌++◌, length, map, refl, sym, ap, subst, arith, Some, None, append_assoc, length-append, nat_lt}
use Rattle.std.specs.Prelude.{option_and_then, codes}
use Rattle.std.specs.List.{list_all, flat_map}
use Rattle.std.proofs.lemmas.Bool.{and_from, eq-eqb, ltb-true}
use Rattle.std.proofs.lemmas.List.{append-nil, map-append, length-map}
use Rattle.std.proofs.lemmas.List.Concat.{flat_map-append}
use Rattle.lk_model.specs.Lists.{is_empty}
use Rattle.lk_model.specs.Texts.Lines.{Word}
use Rattle.lk_model.specs.Documents.Text.{comment, step_line, round_lines}
use Rattle.lk_model.specs.Documents.Documents.{steps_of}
use Rattle.lk_model.specs.Documents.Form.{counts_from, is_step, are_steps, ends_at_empty, is_whole}
use Rattle.lk_model.specs.declared.document.Step.{Step}
use Rattle.lk_model.specs.declared.document.Round.{Round}
use Rattle.lk_model.proofs.Booleans.{and_true}
use Rattle.lk_model.proofs.ListTests.{all_more as tested_more}
use Rattle.round_text.specs.declared.read_rounds.RoundsPart.{RoundsPart}
use Rattle.line_text.specs.Fields.{after}
use Rattle.round_text.specs.RoundLines.{rounds_lines, round_of, step_within, number_after, closed, with_step, put_step, next_step, is_round, rounds_next}
use Rattle.line_text.proofs.Words.{after_form}
use Rattle.round_text.proofs.RoundSteps.{round_form}
use Rattle.round_text.proofs.RoundForms.{step_form}
use Rattle.line_text.proofs.Options.{map_some, then_some}

-- NUMBERED STEPS

counts_more : (next : ℕ) (ns : List ℕ) → counts_from next ns ≡ true → counts_from next (ns ++ (next + length ns) ∷ []) ≡ true
counts_more next [] h = and_from (next + 0 == next) true (eq-eqb (next + 0) next (omega arith)) refl
counts_more next (n ∷ ns) h =
    let both = and_true (n == next) (counts_from (next + 1) ns) h in
    let same : next + length (n ∷ ns) ≡ (next + 1) + length ns = omega arith in
    and_from (n == next) (counts_from (next + 1) (ns ++ (next + length (n ∷ ns)) ∷ [])) both.0
    (ap (λ (k : ℕ). counts_from (next + 1) (ns ++ k ∷ [])) same ∙ counts_more (next + 1) ns both.1)

-- one step more, with the next number
pub steps_more : (n m : ℕ) (steps : List Step) (s : Step) → are_steps n m steps ≡ true → s.number ≡ m + 1 + length steps → is_step n s ≡ true → are_steps n m (steps ++ s ∷ []) ≡ true
steps_more n m steps s h number form =
    let numbers = map (λ (x : Step). x.number) steps in
    let both = and_true (counts_from (m + 1) numbers) (list_all (is_step n) steps) h in
    let size : length numbers ≡ length steps = length-map steps (λ (x : Step). x.number) in
    let next : m + 1 + length numbers ≡ s.number = omega (arith, number, size) in
    and_from (counts_from (m + 1) (map (λ (x : Step). x.number) (steps ++ s ∷ []))) (list_all (is_step n) (steps ++ s ∷ []))
    (ap (counts_from (m + 1)) (map-append (λ (x : Step). x.number) steps (s ∷ []))
    ∙ ap (λ (k : ℕ). counts_from (m + 1) (numbers ++ k ∷ [])) (sym next) ∙ counts_more (m + 1) numbers both.0)
    (tested_more (is_step n) steps s both.1 form)

-- steps without an empty clause, and then one with it
pub ends_with : (steps : List Step) (s : Step) → list_all (λ (x : Step). not (is_empty x.clause)) steps ≡ true → is_empty s.clause ≡ true → ends_at_empty (steps ++ s ∷ []) ≡ true
ends_with [] s h e = ap (λ (b : Bool). cond b true false) e
ends_with (x ∷ steps) s h e =
    let both = and_true (not (is_empty x.clause)) (list_all (λ (y : Step). not (is_empty y.clause)) steps) h in
    by_test (is_empty x.clause) both.0 (ends_with steps s both.1 e)
  where
    by_test : (b : Bool) → not b ≡ true → ends_at_empty (steps ++ s ∷ []) ≡ true → cond b (is_empty (steps ++ s ∷ [])) (ends_at_empty (steps ++ s ∷ [])) ≡ true
    by_test true t f = absurd (let n : ⊥ = cc in n)
    by_test false t f = f

-- ROUNDS IN FORM

-- all steps that were read
abbrev pub all_steps : RoundsPart → List Step
all_steps p = steps_of p.rounds ++ p.steps

pub record IsRounds (n m : ℕ) (p : RoundsPart) : Type 0 where
  pub steps : are_steps n m (all_steps p) ≡ true
  pub count : p.count ≡ length (all_steps p)
  pub whole : list_all is_whole p.rounds ≡ true
  pub nonempty : list_all (λ (s : Step). not (is_empty s.clause)) p.steps ≡ true
  pub shut : p.is_open ≡ false → p.steps ≡ []

-- the next rounds are in form, and have one line more
pub record IsRoundsStep (n m : ℕ) (p q : RoundsPart) (words : List Word) : Type 0 where
  pub form : IsRounds n m q
  pub lines : rounds_lines q ≡ rounds_lines p ++ words ∷ []

-- the rounds of a finished document, of which none is open over no clauses
pub record IsDoneRounds (n m : ℕ) (p : RoundsPart) : Type 0 where
  pub rounds : IsRounds n m p
  pub some : p.is_open ≡ true → 0 < m

open_step : (n m : ℕ) (p q : RoundsPart) (words : List Word) → IsRounds n m p → p.is_open ≡ false → is_round words ≡ true → q ≡ record p { is_open = true } → IsRoundsStep n m p q words
open_step n m p q words h none r e =
    let steps = h.shut none in
    subst (λ (x : RoundsPart). IsRoundsStep n m p x words) (sym e) (record {
      form = record { steps = h.steps; count = h.count; whole = h.whole; nonempty = h.nonempty; shut = λ t. absurd (let f : ⊥ = cc in f) };
      lines = ap (λ (ss : List Step). flat_map round_lines p.rounds ++ comment (codes "round") [] ∷ map step_line ss) steps
          ∙ ap (λ (l : List Word). flat_map round_lines p.rounds ++ l ∷ []) (sym (round_form words r))
          ∙ ap (λ (ls : List (List Word)). ls ++ words ∷ []) (sym (append-nil (flat_map round_lines p.rounds)))
          ∙ sym (ap (λ (b : Bool). (flat_map round_lines p.rounds ++ cond b (round_lines (round_of p.steps)) []) ++ words ∷ []) none);
    })

-- the lines of the open round with one step more
step_lines_more : (p : RoundsPart) (s : Step) (words : List Word) → p.is_open ≡ true → words ≡ step_line s
    → flat_map round_lines p.rounds ++ round_lines (round_of (p.steps ++ s ∷ [])) ≡ rounds_lines p ++ words ∷ []
step_lines_more p s words some line =
    ap (λ (ls : List (List Word)). flat_map round_lines p.rounds ++ comment (codes "round") [] ∷ ls) (map-append step_line p.steps (s ∷ []))
    ∙ ap (λ (l : List Word). flat_map round_lines p.rounds ++ comment (codes "round") [] ∷ (map step_line p.steps ++ l ∷ [])) (sym line)
    ∙ sym (append_assoc (flat_map round_lines p.rounds) (comment (codes "round") [] ∷ map step_line p.steps) (words ∷ []))
    ∙ sym (ap (λ (b : Bool). (flat_map round_lines p.rounds ++ cond b (round_lines (round_of p.steps)) []) ++ words ∷ []) some)

pub put_step_form : (n m : ℕ) (p : RoundsPart) (s : Step) (words : List Word) → IsRounds n m p → p.is_open ≡ true → s.number ≡ m + 1 + p.count → is_step n s ≡ true → words ≡ step_line s
    → IsRoundsStep n m p (put_step p s) words
put_step_form n m p s words h some number form line = by_empty (is_empty s.clause) refl
  where
    joined : steps_of p.rounds ++ (p.steps ++ s ∷ []) ≡ all_steps p ++ s ∷ []
    joined = sym (append_assoc (steps_of p.rounds) p.steps (s ∷ []))

    steps : are_steps n m (all_steps p ++ s ∷ []) ≡ true
    steps = steps_more n m (all_steps p) s h.steps (omega (arith, number, h.count)) form

    size : p.count + 1 ≡ length (all_steps p ++ s ∷ [])
    size = omega (arith, h.count, length-append (all_steps p) (s ∷ []))

    by_empty : (b : Bool) → is_empty s.clause ≡ b → IsRoundsStep n m p (cond b (closed (with_step p s)) (with_step p s)) words
    by_empty false t = record {
      form = record {
        steps = ap (are_steps n m) joined ∙ steps;
        count = size ∙ ap length (sym joined);
        whole = h.whole;
        nonempty = tested_more (λ (x : Step). not (is_empty x.clause)) p.steps s h.nonempty (ap not t);
        shut = λ u. absurd (let f : true ≡ false = sym some ∙ u in let g : ⊥ = cc in g);
      };
      lines = ap (λ (b : Bool). flat_map round_lines p.rounds ++ cond b (round_lines (round_of (p.steps ++ s ∷ []))) []) some ∙ step_lines_more p s words some line;
    }
    by_empty true t =
        let rounds = p.rounds ++ round_of (p.steps ++ s ∷ []) ∷ [] in
        let spread : steps_of rounds ++ [] ≡ all_steps p ++ s ∷ [] =
        append-nil (steps_of rounds) ∙ flat_map-append (λ (r : Round). r.steps) p.rounds (round_of (p.steps ++ s ∷ []) ∷ [])
        ∙ ap (λ (ss : List Step). steps_of p.rounds ++ ss) (append-nil (p.steps ++ s ∷ [])) ∙ joined in
        record {
          form = record {
            steps = ap (are_steps n m) spread ∙ steps;
            count = size ∙ ap length (sym spread);
            whole = tested_more is_whole p.rounds (round_of (p.steps ++ s ∷ [])) h.whole (ends_with p.steps s h.nonempty t);
            nonempty = refl;
            shut = λ u. refl;
          };
          lines = append-nil (flat_map round_lines rounds) ∙ flat_map-append round_lines p.rounds (round_of (p.steps ++ s ∷ []) ∷ [])
              ∙ ap (λ (ls : List (List Word)). flat_map round_lines p.rounds ++ ls) (append-nil (round_lines (round_of (p.steps ++ s ∷ []))))
              ∙ step_lines_more p s words some line;
        }

number_form : (m count number : ℕ) → number_after m count ≡ Some number → (number ≡ count + (m + 1)) × (number < 2 ^ 64)
number_form m count number e = by_test (nat_lt (count + (m + 1)) (2 ^ 64)) refl e
  where
    by_test : (b : Bool) → nat_lt (count + (m + 1)) (2 ^ 64) ≡ b → cond b (Some (count + (m + 1))) None ≡ Some number → (number ≡ count + (m + 1)) × (number < 2 ^ 64)
    by_test false t f = absurd (let n : ⊥ = cc in n)
    by_test true t f =
        let same : count + (m + 1) ≡ number = cc in
        let low = ltb-true (count + (m + 1)) (2 ^ 64) t in
        (sym same, omega (arith, same, low))

next_step_form : (n m : ℕ) (p q : RoundsPart) (words : List Word) → n ≤ 1000000 → IsRounds n m p → p.is_open ≡ true → next_step n m p words ≡ Some q → IsRoundsStep n m p q words
next_step_form n m p q words small h some e =
    let read = λ (ws : List Word). option_and_then (λ number. step_within n number ws) (number_after m p.count) in
    let one = map_some (put_step p) (option_and_then read (after (codes "c") (codes "step") words)) q e in
    let two = then_some read (after (codes "c") (codes "step") words) one.item one.there in
    let three = then_some (λ number. step_within n number two.item) (number_after m p.count) one.item two.gives in
    let number = number_form m p.count three.item three.there in
    let form = step_form n three.item two.item one.item small number.1 three.gives in
    let whole = (after_form (codes "c") (codes "step") words two.item two.there).whole in
    let line : words ≡ step_line one.item = whole ∙ ap (λ (ws : List Word). codes "c" ∷ codes "step" ∷ ws) form.line in
    subst (λ (x : RoundsPart). IsRoundsStep n m p x words) (sym one.is) (put_step_form n m p one.item words h some (omega (arith, form.number_is, number.0)) form.form line)

pub rounds_step : (may : Bool) (n m : ℕ) (p q : RoundsPart) (words : List Word) → n ≤ 1000000 → IsRounds n m p → rounds_next may n m p words ≡ Some q → IsRoundsStep n m p q words
rounds_step may n m p q words small h e = by_open p.is_open refl e
  where
    by_round : (b : Bool) → (may && is_round words) ≡ b → p.is_open ≡ false → cond b (Some (record p { is_open = true })) None ≡ Some q → IsRoundsStep n m p q words
    by_round false t u f = absurd (let g : ⊥ = cc in g)
    by_round true t u f =
        let next : RoundsPart = record p { is_open = true } in
        let same : next ≡ q = cc in
        open_step n m p q words h u (and_true may (is_round words) t).1 (sym same)

    by_open : (b : Bool) → p.is_open ≡ b → cond b (next_step n m p words) (cond (may && is_round words) (Some (record p { is_open = true })) None) ≡ Some q → IsRoundsStep n m p q words
    by_open true t f = next_step_form n m p q words small h t f
    by_open false t f = by_round (may && is_round words) refl t f

-- a finished document over no clauses has no line of rounds
pub rounds_over_some : (n m : ℕ) (p q : RoundsPart) (words : List Word) → IsDoneRounds n m p → rounds_next (nat_lt 0 m) n m p words ≡ Some q → 0 < m
rounds_over_some n m p q words h e = by_open p.is_open refl e
  where
    by_round : (b : Bool) → (nat_lt 0 m && is_round words) ≡ b → cond b (Some (record p { is_open = true })) None ≡ Some q → 0 < m
    by_round false t f = absurd (let g : ⊥ = cc in g)
    by_round true t f = ltb-true 0 m (and_true (nat_lt 0 m) (is_round words) t).0

    by_open : (b : Bool) → p.is_open ≡ b → cond b (next_step n m p words) (cond (nat_lt 0 m && is_round words) (Some (record p { is_open = true })) None) ≡ Some q → 0 < m
    by_open true t f = h.some t
    by_open false t f = by_round (nat_lt 0 m && is_round words) refl f
