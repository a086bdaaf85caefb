-- Clauses that are found by lists, and what the lists of one literal more change.
use Rattle.std.proofs.Common.{◌≡◌, ◌∙◌, ℕ, zero, suc, ◌+◌, ◌-◌, ◌<◌, ◌≤◌, Bool, true, false, not, ◌&&◌, ◌||◌, nat_le, nat_lt, List, [], ◌∷◌, ◌++◌, length, get_or, take, replicate, refl, sym, ap, subst, arith, ℤ, ◌⊎◌, inl, inr, slice_index, slice_index_or, get_or-set_same, get_or-set_other}
use Rattle.std.specs.Prelude.{slice_set}
use Rattle.std.specs.List.{list_all, All}
use Rattle.std.specs.Ordering.{int_eq}
use Rattle.std.proofs.lemmas.Bool.{cases_eq, leb-true, le-leb, le-ltb, ltb-false, not-true}
use Rattle.std.proofs.lemmas.Bool.Decides.{Decides-int_eq}
use Rattle.std.proofs.lemmas.List.{take_more, take_all, get_or_default, length-take, get_or-take}
use Rattle.std.proofs.lemmas.List.Elements.{All-get_or, All-replicate, All-set}
use Rattle.std.proofs.lemmas.List.Folds.{list_all-append}
use Rattle.lk_model.specs.Lists.{among, is_between, is_empty}
use Rattle.lk_model.specs.Formulas.Literal.{variable, contains, is_literal, is_same_list, rank_of}
use Rattle.lk_model.specs.Formulas.Formula.{Cnf, clause_at}
use Rattle.lk_model.specs.Formulas.Crossed.{Variables, crossed_out}
use Rattle.lk_model.specs.declared.document.Step.{Step}
use Rattle.lk_model.specs.declared.document.Round.{Round}
use Rattle.lk_model.proofs.Booleans.{and_true, or_left, or_right}
use Rattle.lk_model.proofs.Crossings.{contains_crossed}
use Rattle.lk_model.proofs.Flags.{contains-push}
use Rattle.lk_model.proofs.ListTests.{passes_each}
use Rattle.lk_model.proofs.Literals.{some_literal}
use Rattle.lk_model.proofs.Ranks.{literal_bounds}
use Rattle.lk_model.proofs.Lists.{among_front, among_last}
use Rattle.kernel_laws.proofs.Lists.{same_list}
use Rattle.check_rounds.specs.Blocking.{is_before}
use Rattle.check_rounds.specs.Index.{list_of, block_of, IsListed, IsClauseListed, AreClausesListed, AreLast, is_clause_of, AreStepsListed, AreRoundsListed, KeepsListed}

-- a variable is not blocked before a round up to its number
before_is : (n k : ℕ) (blocks : List ℕ) (l : ℤ) → length blocks ≡ n → is_literal n l ≡ true → is_before k blocks (variable l) ≡ nat_lt (block_of blocks l) k
before_is n k blocks l size lit = (let b = literal_bounds n l lit in at (variable l) b.0 b.1)
  where
    at : (v : ℕ) → 1 ≤ v → v ≤ n → is_before k blocks v ≡ nat_lt (slice_index blocks (v - 1)) k
    at zero low high = absurd (omega (arith, low))
    at (suc i) low high =
        ap (λ (m : ℕ). nat_lt m k) (get_or_default blocks i k 0 (omega (arith, size, high)) ∙ ap (λ (j : ℕ). slice_index blocks j) (omega arith))

-- so a literal on a variable that is blocked last is left where one is
last_left : (n k : ℕ) (blocks : List ℕ) (c : List ℤ) (l : ℤ) → length blocks ≡ n → list_all (is_literal n) c ≡ true → contains c l ≡ true
    → list_all (λ j. nat_le (block_of blocks j) (block_of blocks l)) c ≡ true → is_empty (crossed_out (is_before k blocks) c) ≡ false
    → contains (crossed_out (is_before k blocks) c) l ≡ true
last_left n k blocks c l size lits there all some =
    let b : Variables = is_before k blocks in
    let one = some_literal (crossed_out b c) some in
    let both = and_true (not (b (variable one.0))) (contains c one.0) (sym (contains_crossed b c one.0) ∙ one.1) in
    let open_one : nat_lt (block_of blocks one.0) k ≡ false = sym (before_is n k blocks one.0 size (passes_each (is_literal n) c one.0 lits both.1)) ∙ not-true (b (variable one.0)) both.0 in
    let least : k ≤ block_of blocks one.0 = ltb-false (block_of blocks one.0) k open_one in
    let most : block_of blocks one.0 ≤ block_of blocks l = leb-true (block_of blocks one.0) (block_of blocks l) (passes_each (λ j. nat_le (block_of blocks j) (block_of blocks l)) c one.0 all both.1) in
    let open_l : b (variable l) ≡ false = before_is n k blocks l size (passes_each (is_literal n) c l lits there) ∙ le-ltb (block_of blocks l) k (omega (arith, least, most)) in
    contains_crossed b c l ∙ (λ i. not (open_l i) && there i)

-- ONE NUMBER MORE IN A LIST

-- the clause is found where its number is put into the list of such a literal
pub found_new : (n : ℕ) (blocks : List ℕ) (lists : List (List ℕ)) (c : List ℤ) (number : ℕ) (l : ℤ) (more : List ℕ) → length blocks ≡ n → list_all (is_literal n) c ≡ true → contains c l ≡ true
    → list_all (λ j. nat_le (block_of blocks j) (block_of blocks l)) c ≡ true → rank_of l < length lists → more ≡ list_of lists l ++ number ∷ []
    → IsListed blocks (slice_set lists (rank_of l) more) c number
found_new n blocks lists c number l more size lits there all inside is k some = (
  l,
  last_left n k blocks c l size lits there all some,
  ap (λ (ns : List ℕ). among ns number) (get_or-set_same lists (rank_of l) more [] inside ∙ is) ∙ among_last (list_of lists l) number,
)

-- and the others are found still
pub found_kept : (blocks : List ℕ) (lists : List (List ℕ)) (number : ℕ) (l : ℤ) (more : List ℕ) → rank_of l < length lists → more ≡ list_of lists l ++ number ∷ []
    → KeepsListed blocks lists (slice_set lists (rank_of l) more)
found_kept blocks lists number l more inside is c other h k some =
    let w = h k some in (
      w.0,
      w.1,
      elim (cases_eq (rank_of w.0) (rank_of l)) [
        | inl same ↦
            ap (λ (r : ℕ). among (slice_index_or (slice_set lists (rank_of l) more) r []) other) same
            ∙ ap (λ (ns : List ℕ). among ns other) (get_or-set_same lists (rank_of l) more [] inside ∙ is)
            ∙ among_front (list_of lists l) number other (ap (λ (r : ℕ). among (slice_index_or lists r []) other) (sym same) ∙ w.2)
        | inr apart ↦ ap (λ (ns : List ℕ). among ns other) (get_or-set_other lists (rank_of l) (rank_of w.0) more [] apart) ∙ w.2
      ],
    )

-- THE BEST LITERAL

-- one literal more
pub best_more : (blocks : List ℕ) (c : List ℤ) (i : ℕ) (l b : ℤ) (k : ℤ) → i < length c → l ≡ get_or c i l → contains (take i c) k ≡ true
    → list_all (λ j. nat_le (block_of blocks j) (block_of blocks k)) (take i c) ≡ true → (b ≡ k) ⊎ (b ≡ l) → block_of blocks k ≤ block_of blocks b → block_of blocks l ≤ block_of blocks b
    → (contains (take (i + 1) c) b ≡ true) × (list_all (λ j. nat_le (block_of blocks j) (block_of blocks b)) (take (i + 1) c) ≡ true)
best_more blocks c i l b k lt is there all one first second =
    let more : take (i + 1) c ≡ take i c ++ l ∷ [] = take_more c i l lt ∙ ap (λ (j : ℤ). take i c ++ j ∷ []) (sym is) in
    let holds : contains (take (i + 1) c) b ≡ true = ap (λ (ls : List ℤ). contains ls b) more ∙ contains-push (take i c) l b ∙ elim one [
      | inl same ↦ or_left (contains (take i c) b) (int_eq b l || false) (ap (contains (take i c)) same ∙ there)
      | inr same ↦ or_right (contains (take i c) b) (int_eq b l || false) (or_left (int_eq b l) false ((Decides-int_eq b l).1 same))
    ] in
    let test : ℤ → Bool = λ j. nat_le (block_of blocks j) (block_of blocks b) in
    let each : list_all test (take (i + 1) c) ≡ true = ap (list_all test) more ∙ list_all-append test (take i c) (l ∷ [])
    ∙ rw (front (take i c) all, le-leb (block_of blocks l) (block_of blocks b) second) refl in
    (holds, each)
  where
    front : (ls : List ℤ) → list_all (λ j. nat_le (block_of blocks j) (block_of blocks k)) ls ≡ true → list_all (λ j. nat_le (block_of blocks j) (block_of blocks b)) ls ≡ true
    front [] e = refl
    front (j ∷ ls) e =
        let both = and_true (nat_le (block_of blocks j) (block_of blocks k)) (list_all (λ h. nat_le (block_of blocks h) (block_of blocks k)) ls) e in
        rw (le-leb (block_of blocks j) (block_of blocks b) (omega (arith, first, leb-true (block_of blocks j) (block_of blocks k) both.0)), front ls both.1) refl

-- the first literal
pub best_first : (blocks : List ℕ) (c : List ℤ) (i : ℕ) (l : ℤ) → i < length c → l ≡ get_or c i l → take i c ≡ []
    → (contains (take (i + 1) c) l ≡ true) × (list_all (λ j. nat_le (block_of blocks j) (block_of blocks l)) (take (i + 1) c) ≡ true)
best_first blocks c i l lt is none =
    let more : take (i + 1) c ≡ l ∷ [] = take_more c i l lt ∙ (λ m. none m ++ sym is m ∷ []) in (
      ap (λ (ls : List ℤ). contains ls l) more ∙ or_left (int_eq l l) false ((Decides-int_eq l l).1 refl),
      ap (list_all (λ j. nat_le (block_of blocks j) (block_of blocks l))) more ∙ rw (le-leb (block_of blocks l) (block_of blocks l) (omega arith)) refl,
    )

-- ITEM BY ITEM

-- what holds of each of the first items, and of one more
pub all_next : {X : Type 0} (P : X → Type 0) (xs : List X) (i : ℕ) (x : X) → i < length xs → x ≡ get_or xs i x → All P (take i xs) → P x → All P (take (i + 1) xs)
all_next P xs i x lt is before here k d inside =
    let low : k < i + 1 = omega (arith, inside, length-take (i + 1) xs) in
    let read : get_or xs k d ≡ get_or (take (i + 1) xs) k d = sym (get_or-take (i + 1) xs k d low) in
    subst P read (elim (cases_eq k i) [
      | inl same ↦ subst P (is ∙ get_or_default xs i x d lt ∙ ap (λ (j : ℕ). get_or xs j d) (sym same)) here
      | inr other ↦ subst P (get_or-take i xs k d (omega (arith, low, other))) (before k d (omega (arith, low, other, length-take i xs, lt)))
    ])

-- and then of all
pub all_end : {X : Type 0} (P : X → Type 0) (xs : List X) (i : ℕ) → length xs ≤ i → All P (take i xs) → All P xs
all_end P xs i le h = subst (λ (ys : List _). All P ys) (take_all i xs le) h

-- each item passes a weaker one
pub all_later : {X : Type 0} (P Q : X → Type 0) (xs : List X) → ((x : X) → P x → Q x) → All P xs → All Q xs
all_later P Q xs f h k d inside = f (get_or xs k d) (h k d inside)

-- steps of rounds that were found are found still
pub rounds_kept : (blocks : List ℕ) (before after : List (List ℕ)) (rounds : List Round) → KeepsListed blocks before after → AreRoundsListed blocks before rounds → AreRoundsListed blocks after rounds
rounds_kept blocks before after rounds keeps h =
    all_later (λ (r : Round). AreStepsListed blocks before r.steps) (λ (r : Round). AreStepsListed blocks after r.steps) rounds
    (λ r found. all_later (λ (s : Step). IsListed blocks before s.clause s.number) (λ (s : Step). IsListed blocks after s.clause s.number) r.steps (λ s one. keeps s.clause s.number one) found) h

pub steps_kept : (blocks : List ℕ) (before after : List (List ℕ)) (steps : List Step) → KeepsListed blocks before after → AreStepsListed blocks before steps → AreStepsListed blocks after steps
steps_kept blocks before after steps keeps h =
    all_later (λ (s : Step). IsListed blocks before s.clause s.number) (λ (s : Step). IsListed blocks after s.clause s.number) steps (λ s one. keeps s.clause s.number one) h

-- a table without a position
pub last_none : (blocks : List ℕ) (lists : List (List ℕ)) (F : Cnf) (n : ℕ) (table : List ℕ) → table ≡ replicate n 0 → AreLast blocks lists F table
last_none blocks lists F n table none =
    subst (λ (ps : List ℕ). AreLast blocks lists F ps) (sym none) (All-replicate (λ (p : ℕ). 1 ≤ p → p ≤ length F.clauses → IsListed blocks lists (clause_at F p) p) n 0 (λ low _. absurd (omega (arith, low))))

-- a position of it more
pub last_more : (blocks : List ℕ) (lists : List (List ℕ)) (F : Cnf) (table : List ℕ) (place p : ℕ) (clause : List ℤ) → AreLast blocks lists F table → clause ≡ clause_at F p → IsListed blocks lists clause p
    → AreLast blocks lists F (slice_set table place p)
last_more blocks lists F table place p clause h is here =
    All-set (λ (q : ℕ). 1 ≤ q → q ≤ length F.clauses → IsListed blocks lists (clause_at F q) q) table place p (λ _ _. subst (λ (c : List ℤ). IsListed blocks lists c p) is here) h

-- the clause at one of its positions is listed for each that is equal
pub listed_by : (blocks : List ℕ) (lists : List (List ℕ)) (F : Cnf) (table : List ℕ) (place at p : ℕ) (clause : List ℤ) (same : Bool) → AreLast blocks lists F table → place < length table → at ≡ get_or table place at
    → clause ≡ clause_at F p → same ≡ is_clause_of F at clause → same ≡ true → IsClauseListed blocks lists F p
listed_by blocks lists F table place at p clause same h inside is own test passed =
    let both = and_true (is_between 1 (length F.clauses) at) (is_same_list (clause_at F at) clause) (sym test ∙ passed) in
    let bounds = and_true (nat_le 1 at) (nat_le at (length F.clauses)) both.0 in
    let low : 1 ≤ at = leb-true 1 at bounds.0 in
    let high : at ≤ length F.clauses = leb-true at (length F.clauses) bounds.1 in
    record {
      at = at;
      least = low;
      most = high;
      same = same_list (clause_at F at) clause both.1 ∙ own;
      listed = subst (λ (q : ℕ). 1 ≤ q → q ≤ length F.clauses → IsListed blocks lists (clause_at F q) q) (sym is)
          (All-get_or (λ (q : ℕ). 1 ≤ q → q ≤ length F.clauses → IsListed blocks lists (clause_at F q) q) table place at inside h) low high;
    }

-- it is listed itself
pub listed_itself : (blocks : List ℕ) (lists : List (List ℕ)) (F : Cnf) (p : ℕ) (clause : List ℤ) → 1 ≤ p → p ≤ length F.clauses → clause ≡ clause_at F p → IsListed blocks lists clause p → IsClauseListed blocks lists F p
listed_itself blocks lists F p clause low high is here = record { at = p; least = low; most = high; same = refl; listed = subst (λ (c : List ℤ). IsListed blocks lists c p) is here }

-- positions of a table are listed still
pub last_kept : (blocks : List ℕ) (before after : List (List ℕ)) (F : Cnf) (table : List ℕ) → KeepsListed blocks before after → AreLast blocks before F table → AreLast blocks after F table
last_kept blocks before after F table keeps h =
    all_later (λ (p : ℕ). 1 ≤ p → p ≤ length F.clauses → IsListed blocks before (clause_at F p) p) (λ (p : ℕ). 1 ≤ p → p ≤ length F.clauses → IsListed blocks after (clause_at F p) p) table
    (λ p one low high. keeps (clause_at F p) p (one low high)) h

-- one position more, listed by an equal clause
pub clauses_next : (blocks : List ℕ) (before after : List (List ℕ)) (F : Cnf) (i : ℕ) → KeepsListed blocks before after → AreClausesListed blocks before F (i - 1) → IsClauseListed blocks after F i
    → AreClausesListed blocks after F i
clauses_next blocks before after F i keeps h here p low high = elim (cases_eq p i) [
  | inl same ↦ subst (λ (q : ℕ). IsClauseListed blocks after F q) (sym same) here
  | inr other ↦
      let w = h p low (omega (arith, high, other)) in
      record { at = w.at; least = w.least; most = w.most; same = w.same; listed = keeps (clause_at F w.at) w.at w.listed }
]
