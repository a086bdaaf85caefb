use Rattle.std.proofs.Common.{◌≡◌, ◌∙◌, ◌+◌, ◌<◌, ◌++◌, ◌∷◌, [], ℕ, Bool, List, false, length, take, get_or, count_by, ap, arith, sym, inl, inr}
use Rattle.std.proofs.Math.ListN.{get_or-append}
use Rattle.std.proofs.lemmas.Bool.{cases_eq}
use Rattle.std.proofs.lemmas.List.{get_or_push, length_push, length-take-le}
use Rattle.std.proofs.lemmas.List.Sums.{count_by-le-length, count_by_more_no, count_by_more_yes}
use Rattle.refutation_log.proofs.numbers.new_numbers.Goals as goal
use Rattle.refutation_log.proofs.numbers.new_numbers.Goals.{then-is_kept, else-is_kept}

-- one number more
each_more : (kept : List Bool) (next number i : ℕ) (numbers more : List ℕ) → more ≡ numbers ++ number ∷ [] → length numbers ≡ i → number ≡ next + count_by (λ b. b) (take i kept)
    → ((k : ℕ) → k < i → get_or numbers k 0 ≡ next + count_by (λ b. b) (take k kept)) → (k : ℕ) → k < i + 1 → get_or more k 0 ≡ next + count_by (λ b. b) (take k kept)
each_more kept next number i numbers more e size last each k below = ap (λ (ns : List ℕ). get_or ns k 0) e ∙ elim (cases_eq k i) [
  | inl y ↦ get_or_push numbers number 0 k (size ∙ sym y) ∙ last ∙ ap (λ (n : ℕ). next + count_by (λ b. b) (take n kept)) (sym y)
  | inr y ↦ (let lt : k < i = omega (arith, below, y) in get_or-append numbers (number ∷ []) 0 k (omega (arith, lt, size)) ∙ each k lt)
]

pub loop-is_kept-preserved : goal.loop-is_kept-preserved
loop-is_kept-preserved c =
    let kept = c.args.kept.now in
    let i = c.loop-is_kept.is_kept-index in
    let inv = c.loop-is_kept.invariant in
    let size = ap (λ (ns : List ℕ). length ns) c.in_ok-push.ensures.items ∙ length_push c.loop-is_kept.numbers.items c.loop-is_kept.number in
    record {
      count = omega (arith, size, inv.count);
      number = elim c.if-is_kept.branch [
        | then-is_kept w ↦ (let more = count_by_more_yes (λ b. b) kept i false c.loop-is_kept-test.true w.if-is_kept.true in let is = w.number-is in omega (arith, is, inv.number, more))
        | else-is_kept w ↦ (let more = count_by_more_no (λ b. b) kept i false c.loop-is_kept-test.true w.if-is_kept.false in let is = w.number-is in omega (arith, is, inv.number, more))
      ];
      each = each_more kept c.args.next c.loop-is_kept.number i c.loop-is_kept.numbers.items c.push.new.self.items c.in_ok-push.ensures.items inv.count inv.number inv.each;
    }

pub overflow_add-number : goal.overflow_add-number
overflow_add-number c =
    let inv = c.loop-is_kept.invariant in
    let i = c.loop-is_kept.is_kept-index in
    omega (arith, inv.number, count_by-le-length (λ b. b) (take i c.args.kept.now), length-take-le i c.args.kept.now (omega arith), c.requires)

pub returns : goal.returns
returns c =
    let inv = c.loop-is_kept.invariant in
    record { count = omega (arith, inv.count); each = λ i lt. inv.each i (omega (arith, lt)) }
