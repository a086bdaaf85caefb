-- Under the numbers that name a copy's variables and positions it is a matching result of the part.
use Rattle.std.proofs.Common.{◌≡◌, ℕ, true, List, [], ◌∷◌, refl, sym, subst, map, length, arith, Contains}
use Rattle.lk_model.specs.Lists.{rises_within}
use Rattle.lk_model.specs.Formulas.Literal.{mentions}
use Rattle.lk_model.specs.Formulas.Formula.{Cnf, clause_at, positions_of}
use Rattle.lk_model.specs.declared.document.Own.{Own}
use Rattle.lk_model.specs.declared.document.MatchRow.{MatchRow}
use Rattle.lk_model.specs.declared.result.MatchingResult.{MatchingResult}
use Rattle.lk_model.proofs.Booleans.{and_true}
use Rattle.lk_model.proofs.Keys.{first_in, later_in}
use Rattle.lk_model.proofs.Variables.{variable_bound, position_bound}
use Rattle.matching_laws.specs.MatchingResults.{IsMatchingResult}
use Rattle.renaming_laws.specs.Renaming.{IsDense, nth}
use Rattle.renaming_laws.proofs.Copies.{variable_in, place_in, part_length, part_placed, dense_numbers}
use Rattle.renaming_laws.proofs.RenamingLaws.{copy}
use Rattle.renaming_laws.proofs.Told.{nth_told}
use Rattle.renaming_laws.proofs.Telling.{kept_told}
use Rattle.part_copy.specs.Renamed.{renamed_own, renamed_row, renamed_matching}
use Rattle.part_copy.specs.Copies.{Copy, IsCopy}
use Rattle.part_copy.proofs.CopiedMatchings.{own_under, row_under, matching_under, matching_copied}

-- told alike where each item is
same_told : {X Y : Type 0} (f g : X → Y) (xs : List X) → ((x : X) → Contains xs x → f x ≡ g x) → map f xs ≡ map g xs
same_told f g [] h = refl
same_told f g (x ∷ xs) h = rw (h x (first_in x xs), same_told f g xs (λ y c. h y (later_in x xs y c))) refl

-- the number of a clause with a variable is told alike
place_told : (F G : Cnf) (part names : List ℕ) → IsDense F part names G → (p v : ℕ) → mentions (clause_at G p) v ≡ true → nth part p ≡ place_in F part p
place_told F G part names dense p v e =
    let b = position_bound G p v e in
    let least = b.0 in let most = b.1 in
    let len = part_length F G part names dense in
    nth_told part (length F.clauses) p least (omega (arith, most, len))

-- and so is the variable
variable_told : (F G : Cnf) (part names : List ℕ) → IsDense F part names G → (p v : ℕ) → mentions (clause_at G p) v ≡ true → nth names v ≡ variable_in F names v
variable_told F G part names dense p v e =
    let b = variable_bound G p v dense.formula e in
    let least = b.0 in let most = b.1 in
    let vars = dense.vars in
    nth_told names F.vars v (omega (arith, least)) (omega (arith, most, vars))

own_told : (F G : Cnf) (part names : List ℕ) → IsDense F part names G → (o : Own) → mentions (clause_at G o.pos) o.var ≡ true
    → renamed_own part names o ≡ own_under (variable_in F names) (place_in F part) o
own_told F G part names dense o e =
    let p = place_told F G part names dense o.pos o.var e in
    let v = variable_told F G part names dense o.pos o.var e in
    λ j. record { pos = p j; var = v j }

row_told : (F G : Cnf) (part names : List ℕ) → IsDense F part names G → (w : MatchRow) → mentions (clause_at G w.own) w.var ≡ true → mentions (clause_at G w.escape) w.var ≡ true
    → renamed_row part names w ≡ row_under (variable_in F names) (place_in F part) w
row_told F G part names dense w e d =
    let v = variable_told F G part names dense w.own w.var e in
    let p = place_told F G part names dense w.own w.var e in
    let q = place_told F G part names dense w.escape w.var d in
    λ j. record { var = v j; own = p j; escape = q j; rank = w.rank }

-- so is the result
matching_told : (F G : Cnf) (part names : List ℕ) → IsDense F part names G → (r : MatchingResult) → IsMatchingResult G (positions_of G) r
    → renamed_matching part names r ≡ matching_under (variable_in F names) (place_in F part) r
matching_told F G part names dense r h =
    let ν = variable_in F names in
    let f = place_in F part in
    let kept : map (nth part) r.kept ≡ map f r.kept =
    kept_told part (length F.clauses) r.kept (subst (λ (n : ℕ). rises_within 0 n r.kept ≡ true) (sym (part_length F G part names dense)) h.positions) in
    let own : map (renamed_own part names) r.own ≡ map (own_under ν f) r.own =
    same_told (renamed_own part names) (own_under ν f) r.own (λ o c. own_told F G part names dense o (h.owned o c)) in
    let rows : map (renamed_row part names) r.rows ≡ map (row_under ν f) r.rows =
    same_told (renamed_row part names) (row_under ν f) r.rows (λ w c.
    let is = h.rows w c in
    row_told F G part names dense w (and_true _ _ is.own).1 (and_true _ _ is.escape).1) in
    λ j. record { kept = kept j; own = own j; rows = rows j }

-- so it is found in the part
pub matching_found : (c : Copy) (r : MatchingResult) → IsCopy c → IsMatchingResult c.clauses (positions_of c.clauses) r
    → IsMatchingResult c.formula c.part (renamed_matching c.part c.names r)
matching_found c r h is =
    let F = c.formula in
    let G = c.clauses in
    let ν = variable_in F c.names in
    let f = place_in F c.part in
    subst (λ (t : MatchingResult). IsMatchingResult F c.part t) (sym (matching_told F G c.part c.names h.dense r is))
    (subst (λ (ps : List ℕ). IsMatchingResult F ps (matching_under ν f r)) (part_placed (dense_numbers F G c.part c.names h.part h.dense))
    (matching_copied F G ν f (copy F G c.part c.names h.part h.dense) h.dense.formula r is))
