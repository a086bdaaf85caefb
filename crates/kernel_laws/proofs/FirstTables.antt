-- Tables of what the first lines with their keys have.
use Rattle.std.proofs.Common.{◌≡◌, ◌≢◌, ◌∙◌, ℕ, ◌+◌, ◌-◌, ◌<◌, ◌≤◌, List, [], ◌∷◌, length, get_or, drop, sym, ap, subst, arith, Option, Some, inl, inr, get_or-set_same, get_or-set_other}
use Rattle.std.specs.Prelude.{find, replicate, slice_set, ◌==◌}
use Rattle.std.specs.Option.{option_map_or}
use Rattle.std.proofs.lemmas.Bool.{cases_eq, cond-true, cond-false, eq-eqb, ne_eqb}
use Rattle.std.proofs.lemmas.List.{get_or-replicate, length-replicate, length-set, drop_more}
use Rattle.kernel_laws.specs.FirstTables.{IsFirstTable}

-- without lines
pub first_none : {X Y : Type 0} (size : ℕ) (key : X → ℕ) (entry : X → Y) (outside none : Y) (table : List Y)
    → table ≡ replicate size none → IsFirstTable size key entry outside none [] table
first_none size key entry outside none table e = record {
  size_is = ap length e ∙ length-replicate size none;
  told = λ k low high. ap (λ (ys : List _). get_or ys (k - 1) outside) e ∙ get_or-replicate size (k - 1) none outside (omega (arith, low, high));
}

-- with one line more before the others
pub first_more : {X Y : Type 0} (size : ℕ) (key : X → ℕ) (entry : X → Y) (outside none : Y) (lines : List X) (i j : ℕ) (d : X) (table : List Y) → j ≡ i + 1 → i < length lines → 1 ≤ key (get_or lines i d) → key (get_or lines i d) ≤ size
    → IsFirstTable size key entry outside none (drop j lines) table
    → IsFirstTable size key entry outside none (drop i lines) (slice_set table (key (get_or lines i d) - 1) (entry (get_or lines i d)))
first_more {X} {Y} size key entry outside none lines i j d table next lt low high h =
    let x : X = get_or lines i d in
    let rest : List X = drop j lines in
    let after : List Y = slice_set table (key x - 1) (entry x) in
    subst (λ (xs : List X). IsFirstTable size key entry outside none xs after) (sym (drop_more lines i d lt ∙ ap (λ (k : ℕ). x ∷ drop k lines) (sym next))) (record {
      size_is = length-set table (key x - 1) (entry x) ∙ h.size_is;
      told = λ k first last. elim (cases_eq (key x) k) [
        | inl same ↦
            let at : k - 1 ≡ key x - 1 = omega (arith, same) in
            ap (λ (j : ℕ). get_or after j outside) at
            ∙ get_or-set_same table (key x - 1) (entry x) outside (omega (arith, low, high, h.size_is))
            ∙ sym (ap (λ (o : Option X). option_map_or entry o none) (cond-true (key x == k) (Some x) (find (λ (y : X). key y == k) rest) (eq-eqb (key x) k same)))
        | inr other ↦
            let apart : k - 1 ≢ key x - 1 = λ e. other (omega (arith, e, low, first)) in
            get_or-set_other table (key x - 1) (k - 1) (entry x) outside apart ∙ h.told k first last
            ∙ sym (ap (λ (o : Option X). option_map_or entry o none) (cond-false (key x == k) (Some x) (find (λ (y : X). key y == k) rest) (ne_eqb (key x) k other)))
      ];
    })
