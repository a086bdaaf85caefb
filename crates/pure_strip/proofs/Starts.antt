-- Where the run starts and what it leaves.
use Rattle.std.proofs.Common.{◌≡◌, ℕ, ◌+◌, ◌-◌, ◌<◌, ◌≤◌, ◌∙◌, Bool, true, false, not, ◌&&◌, List, [], length, map, sym, ap, arith, ℤ}
use Rattle.std.specs.Prelude.{filter, replicate}
use Rattle.std.proofs.lemmas.Bool.{leb-true}
use Rattle.std.proofs.lemmas.List.{get_or-replicate, length-replicate, length-map, get_or-map}
use Rattle.std.proofs.lemmas.List.Sums.{length-filter}
use Rattle.lk_model.specs.Lists.{up_to}
use Rattle.lk_model.specs.Formulas.Literal.{contains, rank_of}
use Rattle.lk_model.specs.Formulas.Formula.{Cnf, clause_at, positions_of}
use Rattle.lk_model.specs.Formulas.PureRun.{untouched}
use Rattle.lk_model.proofs.Booleans.{and_true}
use Rattle.lk_model.proofs.Ranks.{rank_small}
use Rattle.pure_laws.proofs.PureLiterals.{touches_none}
use Rattle.occurrence_lists.specs.Occurrences.{AreOccurrences}
use Rattle.pure_strip.specs.Counted.{Counted, count_of}
use Rattle.pure_strip.specs.Live.{is_live, AreCounted, AreUntouched}
use Rattle.pure_strip.proofs.Selections.{count_by-agree}
use Rattle.pure_strip.proofs.Runs.{live_is_untouched}

-- each flag is up at first
all_live : (m p : ℕ) → 1 ≤ p → p ≤ m → is_live (replicate m true) p ≡ true
all_live m p low high = get_or-replicate m (p - 1) true false (omega (arith, low, high))

-- the counts at first
pub Counted-start : (F : Cnf) (live : List Bool) (table : List (List ℕ)) (c : Counted) → live ≡ replicate (length F.clauses) true → AreOccurrences F table → c ≡ record { vars = F.vars; counts = map length table } → AreCounted F live c
Counted-start F live table c live_is holders is = record {
  size = ap length live_is ∙ length-replicate (length F.clauses) true;
  vars = ap (λ (s : Counted). s.vars) is;
  width = ap (λ (s : Counted). length s.counts) is ∙ length-map table length ∙ holders.size;
  counted = λ l lit.
      let within : rank_of l < length table = omega (arith, holders.size, rank_small F.vars l lit) in
      let same : (p : ℕ) → 1 ≤ p → p < 1 + length F.clauses → contains (clause_at F p) l ≡ (is_live live p && contains (clause_at F p) l) = λ p low high.
      sym (ap (λ (b : Bool). b && contains (clause_at F p) l) (ap (λ (s : List Bool). is_live s p) live_is ∙ all_live (length F.clauses) p low (omega (arith, high)))) in
      ap (λ (s : Counted). count_of s.counts l) is
      ∙ get_or-map length table (rank_of l) [] 0 within
      ∙ ap length (holders.held l lit)
      ∙ length-filter (λ p. contains (clause_at F p) l) (positions_of F)
      ∙ count_by-agree 1 (length F.clauses) (λ p. contains (clause_at F p) l) (λ p. is_live live p && contains (clause_at F p) l) same;
}

pub Untouched-start : (F : Cnf) (live : List Bool) → live ≡ replicate (length F.clauses) true → AreUntouched F [] live
Untouched-start F live is = record {
  size = ap length is ∙ length-replicate (length F.clauses) true;
  told = λ p within.
      let b = and_true _ _ within in
      ap (λ (s : List Bool). is_live s p) is ∙ all_live (length F.clauses) p (leb-true 1 p b.0) (leb-true p (length F.clauses) b.1) ∙ sym (ap not (touches_none (clause_at F p)));
}

-- the positions whose flags are up are the untouched ones
pub kept_is : (F : Cnf) (order : List ℤ) (live : List Bool) → AreUntouched F order live → filter (is_live live) (up_to (length live)) ≡ untouched F order
kept_is F order live h = ap (λ (n : ℕ). filter (is_live live) (up_to n)) h.size ∙ live_is_untouched F order live h
