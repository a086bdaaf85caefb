use Rattle.std.proofs.Common.{◌≡◌, ◌∙◌, ℕ, ◌+◌, ◌<◌, true, List, ℤ, get_or, set, drop, length, length-set, get_or-set_other, sym, ap, subst, arith}
use Rattle.std.specs.Ordering.{int_eq}
use Rattle.std.proofs.lemmas.Bool.{false≢true}
use Rattle.std.proofs.lemmas.List.{get_or_read}
use Rattle.lk_model.specs.Formulas.Literal.{contains, is_distinct, rank_of}
use Rattle.lk_model.proofs.Booleans.{or_right}
use Rattle.lk_model.proofs.Lists.{drop_read}
use Rattle.watch_prop.specs.Watchers.{count_of, with_counted}
use Rattle.watch_prop.proofs.Counts.{rank_at, none_after, other_rank}
use Rattle.watch_prop.proofs.watcher_lists.count_literals.Goals as goal

-- one literal counted
counted : (counts all : List ℕ) (c : List ℤ) (i : ℕ) (l : ℤ) → i < length c → l ≡ get_or c i l → with_counted counts (drop i c) ≡ all
    → with_counted (set counts (rank_of l) (count_of counts l + 1)) (drop (i + 1) c) ≡ all
counted counts all c i l lt e h = ap (λ (ls : List ℤ). with_counted counts ls) (sym (drop_read c i l lt e)) ∙ h

-- the counts of the later ones stay
uncounted : (counts : List ℕ) (c : List ℤ) (i : ℕ) (l k : ℤ) → is_distinct c ≡ true → i < length c → l ≡ get_or c i l
    → contains (drop (i + 1) c) k ≡ true → count_of (set counts (rank_of l) (count_of counts l + 1)) k ≡ count_of counts k
uncounted counts c i l k d lt e there =
    get_or-set_other counts (rank_of l) (rank_of k) (count_of counts l + 1) 0 (other_rank l k (λ s. false≢true
    (sym (none_after c i l d lt e) ∙ subst (λ (m : ℤ). contains (drop (i + 1) c) m ≡ true) s there)))

later : (c : List ℤ) (i : ℕ) (l k : ℤ) → i < length c → l ≡ get_or c i l → contains (drop (i + 1) c) k ≡ true → contains (drop i c) k ≡ true
later c i l k lt e there = subst (λ (ls : List ℤ). contains ls k ≡ true) (sym (drop_read c i l lt e)) (or_right (int_eq k l) (contains (drop (i + 1) c) k) there)

pub loop-l-preserved : goal.loop-l-preserved
loop-l-preserved c =
    let s = c.args.lits.now in
    let H = c.loop-l.counts in
    let i = c.loop-l.l-index in
    let l = c.l-item.result in
    let n = c.index_mut.result.now in
    let lt : i < length s = omega (arith, c.loop-l-test.true) in
    let low = rank_at s i (length c.args.counts.now) l c.requires.ranks lt c.l-item.is in
    let held : n ≡ count_of H l = get_or_read H (rank_of l) n (omega (arith, low, c.loop-l.invariant.long)) c.index_mut.ensures.value 0 in
    rw held (record {
      rest = counted H (with_counted c.args.counts.now s) s i l lt c.l-item.is c.loop-l.invariant.rest;
      long = length-set H (rank_of l) (count_of H l + 1) ∙ c.loop-l.invariant.long;
      later = λ k there. uncounted H s i l k c.requires.distinct lt c.l-item.is there ∙ c.loop-l.invariant.later k (later s i l k lt c.l-item.is there);
    })
