-- One clause more is counted.
use Rattle.std.proofs.Common.{◌≡◌, ℕ, ◌+◌, ◌<◌, ◌≤◌, List, [], take, length, get_or, Bool, true, false, ℤ, refl, arith}
use Rattle.std.specs.Prelude.{count_by}
use Rattle.std.specs.Int.{from_bool}
use Rattle.std.proofs.lemmas.List.{length-take}
use Rattle.std.proofs.lemmas.List.Sums.{count_by-le-length, count_by_more_yes, count_by_more_no, sum_by_more}
use Rattle.lk_model.specs.Lists.{is_empty}
use Rattle.lk_model.specs.Formulas.Literal.{is_tautology}
use Rattle.command_endings.specs.Commands.Report.{is_unit_clause}
use Rattle.command_endings.specs.Counting.{counts_of, with_clause}

one_more : (t : List ℤ → Bool) (cs : List (List ℤ)) (i : ℕ) → i < length cs → count_by t (take (i + 1) cs) ≡ count_by t (take i cs) + from_bool (t (get_or cs i []))
one_more t cs i h = by (t (get_or cs i [])) refl
  where
    by : (b : Bool) → t (get_or cs i []) ≡ b → count_by t (take (i + 1) cs) ≡ count_by t (take i cs) + from_bool b
    by true e = count_by_more_yes t cs i [] h e
    by false e = omega (arith, count_by_more_no t cs i [] h e)

pub counted : (cs : List (List ℤ)) (i : ℕ) → i < length cs → counts_of (take (i + 1) cs) ≡ with_clause (counts_of (take i cs)) (get_or cs i [])
counted cs i h =
    let literals = sum_by_more length cs i [] h in
    let empty = one_more is_empty cs i h in
    let units = one_more is_unit_clause cs i h in
    let tautologies = one_more is_tautology cs i h in
    λ k. record { literals = literals k; empty = empty k; units = units k; tautologies = tautologies k }

-- no more are counted than there are
pub few : (t : List ℤ → Bool) (cs : List (List ℤ)) (i : ℕ) → count_by t (take i cs) ≤ length cs
few t cs i = omega (arith, count_by-le-length t (take i cs), length-take i cs)
