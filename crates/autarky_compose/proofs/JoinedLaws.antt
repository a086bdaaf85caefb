-- What is found in groups of positions that share no variable is, joined, what is found in all of them.
use Rattle.std.proofs.Common.{◌≡◌, ℕ, ◌^◌, ◌<◌, true, false, not, List, [], length, get_or, map, sym, ap, subst, arith, Contains}
use Rattle.std.proofs.lemmas.Bool.{both_ways, false_from_ne_true, and_from}
use Rattle.std.proofs.lemmas.List.{map-id}
use Rattle.lk_model.specs.Lists.{among, rises_within}
use Rattle.lk_model.specs.Formulas.Literal.{mentions}
use Rattle.lk_model.specs.Formulas.Formula.{Cnf, clause_at, positions_of, variable_occurs, variables_to, variables_at}
use Rattle.lk_model.specs.declared.document.Own.{Own}
use Rattle.lk_model.specs.declared.document.MatchRow.{MatchRow}
use Rattle.lk_model.specs.declared.result.MatchingResult.{MatchingResult}
use Rattle.lk_model.proofs.Counting.{in_filter, from_filter, among-range}
use Rattle.lk_model.proofs.Founds.{is_position}
use Rattle.lk_model.proofs.Keys.{key_found, key_among}
use Rattle.lk_model.proofs.Rising.{bounded, range_rises, filter_rises}
use Rattle.lk_model.proofs.Variables.{occurs, position_with}
use Rattle.kernel_laws.proofs.Occurrences.{occurs_more}
use Rattle.kernel_laws.proofs.Lists.{among_in as contains_among}
use Rattle.matching_laws.specs.MatchingResults.{IsMatchingResult, IsRow, removed_of}
use Rattle.par_parts.specs.Groups.{IsDisjointCover}
use Rattle.autarky_compose.specs.JoinedMatching.{AreMatchingResults, AreJoined, JoinedMatchingLaw}
use Rattle.autarky_compose.proofs.Orders.{same_rising, among_contains}
use Rattle.autarky_compose.proofs.PartCovers.{parts_cover}
use Rattle.autarky_compose.proofs.Sources.{nothing, one, into_all, result_with, KeptFrom, kept_from, OwnFrom, own_from, RowFrom, row_from}

-- WHAT ALL KEEP

-- a position that is kept of all is kept by a result
kept_by : (F : Cnf) (groups : List (List ℕ)) (found : List MatchingResult) (t : MatchingResult) (p : ℕ) → AreMatchingResults F groups found
    → AreJoined (length F.clauses) found t → among t.kept p ≡ true → KeptFrom F groups found p
kept_by F groups found t p all j e = kept_from F groups found p all (j.kept.only p (among_contains t.kept p e))

-- and what a result keeps is kept of all
kept_of_all : (m : ℕ) (found : List MatchingResult) (t : MatchingResult) (k p : ℕ) → AreJoined m found t → k < length found
    → among (get_or found k nothing).kept p ≡ true → among t.kept p ≡ true
kept_of_all m found t k p j lt e =
    contains_among t.kept p (j.kept.every p (into_all nothing (λ (r : MatchingResult). r.kept) found p k lt (among_contains (get_or found k nothing).kept p e)))

positions_rise : (m : ℕ) (found : List MatchingResult) (t : MatchingResult) → AreJoined m found t → rises_within 0 m t.kept ≡ true
positions_rise m found t j = subst (λ (ps : List ℕ). rises_within 0 m ps ≡ true) (map-id t.kept) j.kept.rising

-- OWN LINES

-- no kept clause has the variable of an own line
unmentioned : (F : Cnf) (groups : List (List ℕ)) (found : List MatchingResult) (t : MatchingResult) (o : Own) (p : ℕ) → IsDisjointCover F groups
    → AreMatchingResults F groups found → AreJoined (length F.clauses) found t → OwnFrom F groups found o → among t.kept p ≡ true
    → mentions (clause_at F p) o.var ≡ true → ⊥
unmentioned F groups found t o p cover all j s e m =
    let k = kept_by F groups found t p all j e in
    let same : k.place ≡ s.place = cover.apart k.place s.place o.var (occurs F (get_or groups k.place []) p o.var k.in_group m) s.on in
    s.result.owns_removed o p s.there (subst (λ (n : ℕ). among (get_or found n nothing).kept p ≡ true) same k.kept) m

-- the position of an own line is not kept
own_removed : (F : Cnf) (groups : List (List ℕ)) (found : List MatchingResult) (t : MatchingResult) (p : ℕ) → IsDisjointCover F groups
    → AreMatchingResults F groups found → AreJoined (length F.clauses) found t → among (map (λ (o : Own). o.pos) t.own) p ≡ true
    → among (removed_of (positions_of F) t.kept) p ≡ true
own_removed F groups found t p cover all j e =
    let w = key_found (λ (o : Own). o.pos) t.own p e in
    let s = own_from F groups found w.value all (j.own.only w.value w.there) in
    let holds = subst (λ (q : ℕ). mentions (clause_at F q) w.value.var ≡ true) w.at s.holds in
    let out : among t.kept p ≡ false = false_from_ne_true _ (λ k. unmentioned F groups found t w.value p cover all j s k holds) in
    let b = bounded 0 (length F.clauses) (map (λ (o : Own). o.pos) t.own) p j.own.rising e in
    let most = b.1 in
    in_filter (λ q. not (among t.kept q)) (positions_of F) p (ap not out) (among-range 1 (length F.clauses) p b.0 (omega (arith, most)))

-- and each position that is not kept has an own line
removed_own : (F : Cnf) (groups : List (List ℕ)) (found : List MatchingResult) (t : MatchingResult) (p : ℕ) → IsDisjointCover F groups
    → AreMatchingResults F groups found → AreJoined (length F.clauses) found t → among (removed_of (positions_of F) t.kept) p ≡ true
    → among (map (λ (o : Own). o.pos) t.own) p ≡ true
removed_own F groups found t p cover all j e =
    let f = from_filter (λ q. not (among t.kept q)) (positions_of F) p e in
    let k = result_with F groups found p all (cover.whole p (is_position F p f.1)) in
    let h = one F groups found k.0 all k.1 in
    let r = get_or found k.0 nothing in
    let out : among r.kept p ≡ false = false_from_ne_true _ (λ kept. both_ways (not (among t.kept p)) (ap not (kept_of_all (length F.clauses) found t k.0 p j k.1 kept)) f.0) in
    let listed = subst (λ (ps : List ℕ). among ps p ≡ true) (sym h.removed) (in_filter (λ q. not (among r.kept q)) (get_or groups k.0 []) p (ap not out) k.2) in
    let w = key_found (λ (o : Own). o.pos) r.own p listed in
    let there = j.own.every w.value (into_all nothing (λ (r : MatchingResult). r.own) found w.value k.0 k.1 w.there) in
    subst (λ (q : ℕ). among (map (λ (o : Own). o.pos) t.own) q ≡ true) w.at (key_among (λ (o : Own). o.pos) t.own w.value there)

removed : (F : Cnf) (groups : List (List ℕ)) (found : List MatchingResult) (t : MatchingResult) → IsDisjointCover F groups
    → AreMatchingResults F groups found → AreJoined (length F.clauses) found t → map (λ (o : Own). o.pos) t.own ≡ removed_of (positions_of F) t.kept
removed F groups found t cover all j =
    let m = length F.clauses in
    same_rising 0 m 0 m (map (λ (o : Own). o.pos) t.own) (removed_of (positions_of F) t.kept) j.own.rising
    (filter_rises 0 m (λ q. not (among t.kept q)) (positions_of F) (range_rises 0 m 1 m (omega arith) (omega arith)))
    (λ p e. own_removed F groups found t p cover all j e) (λ p e. removed_own F groups found t p cover all j e)

-- ROWS

-- the variable of a row occurs in a kept clause
row_variable : (F : Cnf) (groups : List (List ℕ)) (found : List MatchingResult) (t : MatchingResult) (v : ℕ) → AreMatchingResults F groups found
    → AreJoined (length F.clauses) found t → among (map (λ (w : MatchRow). w.var) t.rows) v ≡ true → among (variables_at F t.kept) v ≡ true
row_variable F groups found t v all j e =
    let w = key_found (λ (x : MatchRow). x.var) t.rows v e in
    let s = row_from F groups found w.value all (j.rows.only w.value w.there) in
    let occur = occurs_more F (get_or found s.place nothing).kept t.kept w.value.var (λ p k. kept_of_all (length F.clauses) found t s.place p j s.inside k) s.listed.0 in
    subst (λ (u : ℕ). among (variables_at F t.kept) u ≡ true) w.at (in_filter (variable_occurs F t.kept) (variables_to F.vars) w.value.var occur s.listed.1)

-- and each variable of the kept clauses has a row
variable_row : (F : Cnf) (groups : List (List ℕ)) (found : List MatchingResult) (t : MatchingResult) (v : ℕ) → AreMatchingResults F groups found
    → AreJoined (length F.clauses) found t → among (variables_at F t.kept) v ≡ true → among (map (λ (w : MatchRow). w.var) t.rows) v ≡ true
variable_row F groups found t v all j e =
    let f = from_filter (variable_occurs F t.kept) (variables_to F.vars) v e in
    let p = position_with F t.kept v f.0 in
    let k = kept_by F groups found t p.0 all j p.1 in
    let r = get_or found k.place nothing in
    let listed = in_filter (variable_occurs F r.kept) (variables_to F.vars) v (occurs F r.kept p.0 v k.kept p.2) f.1 in
    let w = key_found (λ (x : MatchRow). x.var) r.rows v (subst (λ (vs : List ℕ). among vs v ≡ true) (sym k.result.variables) listed) in
    let there = j.rows.every w.value (into_all nothing (λ (r : MatchingResult). r.rows) found w.value k.place k.inside w.there) in
    subst (λ (u : ℕ). among (map (λ (x : MatchRow). x.var) t.rows) u ≡ true) w.at (key_among (λ (x : MatchRow). x.var) t.rows w.value there)

variables : (F : Cnf) (groups : List (List ℕ)) (found : List MatchingResult) (t : MatchingResult) → AreMatchingResults F groups found
    → AreJoined (length F.clauses) found t → map (λ (w : MatchRow). w.var) t.rows ≡ variables_at F t.kept
variables F groups found t all j =
    same_rising 0 (2 ^ 32) 0 F.vars (map (λ (w : MatchRow). w.var) t.rows) (variables_at F t.kept) j.rows.rising
    (filter_rises 0 F.vars (variable_occurs F t.kept) (variables_to F.vars) (range_rises 0 F.vars 1 F.vars (omega arith) (omega arith)))
    (λ v e. row_variable F groups found t v all j e) (λ v e. variable_row F groups found t v all j e)

row : (F : Cnf) (groups : List (List ℕ)) (found : List MatchingResult) (t : MatchingResult) (w : MatchRow) → AreJoined (length F.clauses) found t
    → RowFrom F groups found w → IsRow F t.kept w
row F groups found t w j s = record {
  own = and_from _ _ (kept_of_all (length F.clauses) found t s.place w.own j s.inside s.own.0) s.own.1;
  escape = and_from _ _ (kept_of_all (length F.clauses) found t s.place w.escape j s.inside s.escape.0) s.escape.1;
}

-- rows of which one has for its own a kept position with the variable of the other are in one result
same_result : (F : Cnf) (groups : List (List ℕ)) (found : List MatchingResult) (w u : MatchRow) (p : ℕ) → IsDisjointCover F groups
    → (s : RowFrom F groups found w) → (r : RowFrom F groups found u) → u.own ≡ p → mentions (clause_at F p) w.var ≡ true → r.place ≡ s.place
same_result F groups found w u p cover s r e m =
    cover.apart r.place s.place w.var
    (occurs F (get_or groups r.place []) p w.var (subst (λ (q : ℕ). among (get_or groups r.place []) q ≡ true) e (r.result.within u.own r.own.0)) m) s.on

-- THE WHOLE

whole : (F : Cnf) (groups : List (List ℕ)) (found : List MatchingResult) (t : MatchingResult) → IsDisjointCover F groups → AreMatchingResults F groups found
    → AreJoined (length F.clauses) found t → IsMatchingResult F (positions_of F) t
whole F groups found t cover all j =
    let m = length F.clauses in
    let own : (o : Own) → Contains t.own o → OwnFrom F groups found o = λ o c. own_from F groups found o all (j.own.only o c) in
    let rows : (w : MatchRow) → Contains t.rows w → RowFrom F groups found w = λ w c. row_from F groups found w all (j.rows.only w c) in
    record {
      positions = positions_rise m found t j;
      within = λ p e. let b = bounded 0 m t.kept p (positions_rise m found t j) e in let most = b.1 in among-range 1 m p b.0 (omega (arith, most));
      removed = removed F groups found t cover all j;
      owned = λ o c. (own o c).holds;
      owns_differ = λ o u co cu e.
          let s = own o co in
          let r = own u cu in
          let same : r.place ≡ s.place = cover.apart r.place s.place u.var r.on (subst (λ (v : ℕ). variable_occurs F (get_or groups s.place []) v ≡ true) e s.on) in
          s.result.owns_differ o u s.there (subst (λ (n : ℕ). Contains (get_or found n nothing).own u) same r.there) e;
      owns_removed = λ o p c k m. unmentioned F groups found t o p cover all j (own o c) k m;
      variables = variables F groups found t all j;
      rows = λ w c. row F groups found t w j (rows w c);
      rows_differ = λ w u cw cu e.
          let s = rows w cw in
          let r = rows u cu in
          let same = same_result F groups found w u w.own cover s r (sym e) s.own.1 in
          s.result.rows_differ w u s.there (subst (λ (n : ℕ). Contains (get_or found n nothing).rows u) same r.there) e;
      ranks = λ w u cw cu e.
          let s = rows w cw in
          let r = rows u cu in
          let same = same_result F groups found w u w.escape cover s r e s.escape.1 in
          s.result.ranks w u s.there (subst (λ (n : ℕ). Contains (get_or found n nothing).rows u) same r.there) e;
      ranks_fit = λ w c. let s = rows w c in s.result.ranks_fit w s.there;
    }

pub joined_matching_law : JoinedMatchingLaw
joined_matching_law = record { whole = whole; parts = parts_cover }
