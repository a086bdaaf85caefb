-- What is read word by word is what is written.
use Rattle.std.proofs.Common.{◌≡◌, ℕ, ◌+◌, ◌<◌, ◌≤◌, ◌^◌, ◌∙◌, Bool, true, false, not, cond, ◌&&◌, ◌||◌, List, [], ◌∷◌, ◌++◌, map, refl, sym, ap, arith, inl, inr, ℤ, pos, negsuc, Option, Some, None, append_assoc}
use Rattle.std.specs.Prelude.{option_map, nat_lt, nat_le, codes, decimal}
use Rattle.std.specs.List.{list_all}
use Rattle.std.specs.Str.{bytes_eq}
use Rattle.std.specs.Fmt.{signed_decimal}
use Rattle.std.proofs.lemmas.Bool.{cases_Bool, leb-true, le-leb, ltb-true, lt-ltb}
use Rattle.std.proofs.lemmas.List.{append-nil}
use Rattle.std.proofs.lemmas.List.Folds.{list_all-append}
use Rattle.std.proofs.lemmas.Slice.Eq.{bytes_eq-Decides}
use Rattle.std.proofs.lemmas.Option.{same_Some}
use Rattle.lk_model.specs.Lists.{is_between, rises_within}
use Rattle.lk_model.specs.Formulas.Literal.{variable, contains, is_literal, is_distinct, is_clause}
use Rattle.lk_model.specs.Texts.Lines.{Word}
use Rattle.lk_model.specs.Texts.NumberWords.{plain_number}
use Rattle.lk_model.specs.Texts.PlainText.{ended, literal_words, number_words}
use Rattle.lk_model.proofs.Booleans.{and_true}
use Rattle.lk_model.proofs.Literals.{clause-more, no_repeat}
use Rattle.line_text.specs.Fields.{number_within, literal_within}
use Rattle.line_text.specs.FieldLists.{in_front, in_order, if_new, rising_from, literals_from, clause_from}
use Rattle.line_text.proofs.NumberTexts.{spelled, plain_spelled}

-- an item in front of others
record Parts {X : Type 0} (o : Option X) (others : X → Option (List X)) (xs : List X) : Type 0 where
  item : X
  rest : List X
  here : o ≡ Some item
  later : others item ≡ Some rest
  whole : xs ≡ item ∷ rest

parts_of : {X : Type 0} (o : Option X) (others : X → Option (List X)) (xs : List X) → in_front o others ≡ Some xs → Parts o others xs
parts_of None others xs e = absurd (let f : ⊥ = cc in f)
parts_of (Some x) others xs e = by_rest (others x) refl e
  where
    by_rest : (o : Option (List _)) → others x ≡ o → option_map (λ ys. x ∷ ys) o ≡ Some xs → Parts (Some x) others xs
    by_rest None h g = absurd (let f : ⊥ = cc in f)
    by_rest (Some ys) h g = record { item = x; rest = ys; here = refl; later = h; whole = sym (same_Some (x ∷ ys) xs g) }

-- words that a last one closes have a first
pub ended_parts : (words : List Word) → (first : Word) × (more : List Word) × (ended words ≡ first ∷ more)
ended_parts [] = (codes "0", [], refl)
ended_parts (word ∷ words) = (word, ended words, refl)

-- the closing word
closing : {X : Type 0} (word : Word) (xs : List X) → cond (bytes_eq word (codes "0")) (Some []) None ≡ Some xs → (word ≡ codes "0") × (xs ≡ [])
closing word xs e = by_test (bytes_eq word (codes "0")) refl e
  where
    by_test : (b : Bool) → bytes_eq word (codes "0") ≡ b → cond b (Some []) None ≡ Some xs → (word ≡ codes "0") × (xs ≡ [])
    by_test true t h = ((bytes_eq-Decides word (codes "0")).0 t, sym (same_Some [] xs h))
    by_test false t h = absurd (let f : ⊥ = cc in f)

-- NUMBERS

-- a number that was read from a word
pub read_number : (low high n : ℕ) (o : Option ℤ) → number_within low high o ≡ Some n → (o ≡ Some (pos n)) × (is_between low high n ≡ true)
read_number low high n None e = absurd (let f : ⊥ = cc in f)
read_number low high n (Some (negsuc k)) e = absurd (let f : ⊥ = cc in f)
read_number low high n (Some (pos m)) e = by_test (is_between low high m) refl e
  where
    by_test : (b : Bool) → is_between low high m ≡ b → cond b (Some m) None ≡ Some n → (Some (pos m) ≡ Some (pos n)) × (is_between low high n ≡ true)
    by_test true t h = let same = same_Some m n h in (ap (λ (k : ℕ). Some (pos k)) same, ap (is_between low high) (sym same) ∙ t)
    by_test false t h = absurd (let f : ⊥ = cc in f)

pub number_read : (low high n : ℕ) → high ≤ 4000000 → low ≤ n → n ≤ high → number_within low high (plain_number (decimal n)) ≡ Some n
number_read low high n small a b =
    ap (number_within low high) (plain_spelled (pos n) (omega (arith, small, b)))
    ∙ rw (le-leb low n a, le-leb n high b) refl

pub number_back : (low high n : ℕ) → n < 10 ^ 64 → low ≤ n → n ≤ high → number_within low high (plain_number (decimal n)) ≡ Some n
number_back low high n small a b =
    ap (number_within low high) (plain_spelled (pos n) small)
    ∙ rw (le-leb low n a, le-leb n high b) refl

pub rising_form : (last high : ℕ) (words : List Word) (ns : List ℕ) → rising_from last high words ≡ Some ns → (words ≡ ended (number_words ns)) × (rises_within last high ns ≡ true)
rising_form last high [] ns e = absurd (let f : ⊥ = cc in f)
rising_form last high (word ∷ []) ns e =
    let c = closing word ns e in
    (ap (λ (w : Word). w ∷ []) c.0 ∙ sym (ap (λ (ms : List ℕ). ended (number_words ms)) c.1), ap (rises_within last high) c.1)
rising_form last high (word ∷ next ∷ words) ns e =
    let p = parts_of (number_within (last + 1) high (plain_number word)) (λ n. rising_from n high (next ∷ words)) ns e in
    let r = read_number (last + 1) high p.item (plain_number word) p.here in
    let rest = rising_form p.item high (next ∷ words) p.rest p.later in
    let between = and_true _ _ r.1 in
    let above : last < p.item = omega (arith, leb-true (last + 1) p.item between.0) in (
      ap (λ (w : Word). w ∷ next ∷ words) (spelled word (pos p.item) r.0) ∙ ap (λ (ws : List Word). decimal p.item ∷ ws) rest.0 ∙ sym (ap (λ (ms : List ℕ). ended (number_words ms)) p.whole),
      ap (rises_within last high) p.whole ∙ rw (lt-ltb last p.item above, between.1, rest.1) refl,
    )

rising_next : (last high : ℕ) (word : Word) (words : List Word) (first : Word) (more : List Word) → words ≡ first ∷ more
    → rising_from last high (word ∷ words) ≡ in_front (number_within (last + 1) high (plain_number word)) (λ n. rising_from n high words)
rising_next last high word words first more e =
    ap (λ (ws : List Word). rising_from last high (word ∷ ws)) e ∙ sym (ap (λ (ws : List Word). in_front (number_within (last + 1) high (plain_number word)) (λ n. rising_from n high ws)) e)

pub rising_back : (last high : ℕ) (ns : List ℕ) → high ≤ 4000000 → rises_within last high ns ≡ true → rising_from last high (ended (number_words ns)) ≡ Some ns
rising_back last high [] small h = refl
rising_back last high (n ∷ ns) small h =
    let both = and_true _ _ h in
    let here = and_true _ _ both.0 in
    let parts = ended_parts (number_words ns) in
    let above : last + 1 ≤ n = omega (arith, ltb-true last n here.0) in
    rising_next last high (decimal n) (ended (number_words ns)) parts.0 parts.1 parts.2
    ∙ ap (λ (o : Option ℕ). in_front o (λ m. rising_from m high (ended (number_words ns)))) (number_read (last + 1) high n small above (leb-true n high here.1))
    ∙ ap (option_map (λ ms. n ∷ ms)) (rising_back n high ns small both.1)

-- LITERALS

-- a literal that was read from a word
pub read_literal : (n : ℕ) (l : ℤ) (o : Option ℤ) → literal_within n o ≡ Some l → (o ≡ Some l) × (is_literal n l ≡ true)
read_literal n l None e = absurd (let f : ⊥ = cc in f)
read_literal n l (Some x) e = by_test (is_literal n x) refl e
  where
    by_test : (b : Bool) → is_literal n x ≡ b → cond b (Some x) None ≡ Some l → (Some x ≡ Some l) × (is_literal n l ≡ true)
    by_test true t h = let same = same_Some x l h in (h, ap (is_literal n) (sym same) ∙ t)
    by_test false t h = absurd (let f : ⊥ = cc in f)

pub literal_read : (n : ℕ) (l : ℤ) → n ≤ 1000000 → is_literal n l ≡ true → literal_within n (plain_number (signed_decimal l)) ≡ Some l
literal_read n l small h =
    let below = leb-true (variable l) n (and_true _ _ h).1 in
    ap (literal_within n) (plain_spelled l (omega (arith, small, below))) ∙ ap (λ (b : Bool). cond b (Some l) None) h

-- a literal that was let through
passed : (rising : Bool) (last : ℕ) (l : ℤ) (o : Option ℤ) → in_order rising last o ≡ Some l → (o ≡ Some l) × ((not rising || nat_lt last (variable l)) ≡ true)
passed rising last l None e = absurd (let f : ⊥ = cc in f)
passed rising last l (Some x) e = by_test (not rising || nat_lt last (variable x)) refl e
  where
    by_test : (b : Bool) → (not rising || nat_lt last (variable x)) ≡ b → cond b (Some x) None ≡ Some l → (Some x ≡ Some l) × ((not rising || nat_lt last (variable l)) ≡ true)
    by_test true t h = let same = same_Some x l h in (h, ap (λ (k : ℤ). not rising || nat_lt last (variable k)) (sym same) ∙ t)
    by_test false t h = absurd (let f : ⊥ = cc in f)

-- literals as they may stand
abbrev pub are_literals : Bool → ℕ → ℕ → List ℤ → Bool
are_literals rising n last [] = true
are_literals rising n last (l ∷ ls) = is_literal n l && (not rising || nat_lt last (variable l)) && are_literals rising n (variable l) ls

pub literals_form : (rising : Bool) (n last : ℕ) (words : List Word) (ls : List ℤ) → literals_from rising n last words ≡ Some ls → (words ≡ literal_words ls) × (are_literals rising n last ls ≡ true)
literals_form rising n last [] ls e = absurd (let f : ⊥ = cc in f)
literals_form rising n last (word ∷ []) ls e =
    let c = closing word ls e in
    (ap (λ (w : Word). w ∷ []) c.0 ∙ sym (ap literal_words c.1), ap (are_literals rising n last) c.1)
literals_form rising n last (word ∷ next ∷ words) ls e =
    let p = parts_of (in_order rising last (literal_within n (plain_number word))) (λ l. literals_from rising n (variable l) (next ∷ words)) ls e in
    let q = passed rising last p.item (literal_within n (plain_number word)) p.here in
    let r = read_literal n p.item (plain_number word) q.0 in
    let rest = literals_form rising n (variable p.item) (next ∷ words) p.rest p.later in (
      ap (λ (w : Word). w ∷ next ∷ words) (spelled word p.item r.0) ∙ ap (λ (ws : List Word). signed_decimal p.item ∷ ws) rest.0 ∙ sym (ap literal_words p.whole),
      ap (are_literals rising n last) p.whole ∙ rw (r.1, q.1, rest.1) refl,
    )

literals_next : (rising : Bool) (n last : ℕ) (word : Word) (words : List Word) (first : Word) (more : List Word) → words ≡ first ∷ more
    → literals_from rising n last (word ∷ words) ≡ in_front (in_order rising last (literal_within n (plain_number word))) (λ l. literals_from rising n (variable l) words)
literals_next rising n last word words first more e =
    ap (λ (ws : List Word). literals_from rising n last (word ∷ ws)) e
    ∙ sym (ap (λ (ws : List Word). in_front (in_order rising last (literal_within n (plain_number word))) (λ l. literals_from rising n (variable l) ws)) e)

pub literals_back : (rising : Bool) (n last : ℕ) (ls : List ℤ) → n ≤ 1000000 → are_literals rising n last ls ≡ true → literals_from rising n last (literal_words ls) ≡ Some ls
literals_back rising n last [] small h = refl
literals_back rising n last (l ∷ ls) small h =
    let both = and_true _ _ h in
    let here = and_true _ _ both.0 in
    let parts = ended_parts (map signed_decimal ls) in
    literals_next rising n last (signed_decimal l) (literal_words ls) parts.0 parts.1 parts.2
    ∙ ap (λ (o : Option ℤ). in_front (in_order rising last o) (λ k. literals_from rising n (variable k) (literal_words ls))) (literal_read n l small here.0)
    ∙ ap (λ (b : Bool). in_front (cond b (Some l) None) (λ k. literals_from rising n (variable k) (literal_words ls))) here.1
    ∙ ap (option_map (λ ks. l ∷ ks)) (literals_back rising n (variable l) ls small both.1)

-- any literals
pub any_literals : (n last : ℕ) (ls : List ℤ) → are_literals false n last ls ≡ list_all (is_literal n) ls
any_literals n last [] = refl
any_literals n last (l ∷ ls) = elim (cases_Bool (is_literal n l)) [ inl e ↦ rw e (any_literals n (variable l) ls) | inr e ↦ rw e refl ]

-- literals whose variables rise
pub rising_literals : (n last : ℕ) (ls : List ℤ) → are_literals true n last ls ≡ true → rises_within last n (map variable ls) ≡ true
rising_literals n last [] h = refl
rising_literals n last (l ∷ ls) h =
    let both = and_true _ _ h in
    let here = and_true _ _ both.0 in
    let near = and_true (nat_le 1 (variable l)) (nat_le (variable l) n) here.0 in
    rw (here.1, near.1, rising_literals n (variable l) ls both.1) refl

pub literals_rising : (n last : ℕ) (ls : List ℤ) → rises_within last n (map variable ls) ≡ true → are_literals true n last ls ≡ true
literals_rising n last [] h = refl
literals_rising n last (l ∷ ls) h =
    let both = and_true _ _ h in
    let here = and_true _ _ both.0 in
    let least : nat_le 1 (variable l) ≡ true = le-leb 1 (variable l) (omega (arith, ltb-true last (variable l) here.0)) in
    rw (least, here.1, here.0, literals_rising n (variable l) ls both.1) refl

-- CLAUSES

-- a literal that the clause does not contain
new_literal : (clause : List ℤ) (l : ℤ) (o : Option ℤ) → if_new clause o ≡ Some l → (o ≡ Some l) × (contains clause l ≡ false)
new_literal clause l None e = absurd (let f : ⊥ = cc in f)
new_literal clause l (Some x) e = by_test (contains clause x) refl e
  where
    by_test : (b : Bool) → contains clause x ≡ b → cond b None (Some x) ≡ Some l → (Some x ≡ Some l) × (contains clause l ≡ false)
    by_test true t h = absurd (let f : ⊥ = cc in f)
    by_test false t h = let same = same_Some x l h in (h, ap (contains clause) (sym same) ∙ t)

pub clause_form : (n : ℕ) (clause : List ℤ) (words : List Word) (ls : List ℤ) → is_clause n clause ≡ true → clause_from n clause words ≡ Some ls → (words ≡ literal_words ls) × (is_clause n (clause ++ ls) ≡ true)
clause_form n clause [] ls h e = absurd (let f : ⊥ = cc in f)
clause_form n clause (word ∷ []) ls h e =
    let c = closing word ls e in
    (ap (λ (w : Word). w ∷ []) c.0 ∙ sym (ap literal_words c.1), ap (λ (ks : List ℤ). is_clause n (clause ++ ks)) c.1 ∙ ap (is_clause n) (append-nil clause) ∙ h)
clause_form n clause (word ∷ next ∷ words) ls h e =
    let p = parts_of (if_new clause (literal_within n (plain_number word))) (λ l. clause_from n (clause ++ l ∷ []) (next ∷ words)) ls e in
    let q = new_literal clause p.item (literal_within n (plain_number word)) p.here in
    let r = read_literal n p.item (plain_number word) q.0 in
    let rest = clause_form n (clause ++ p.item ∷ []) (next ∷ words) p.rest (clause-more n clause p.item h r.1 q.1) p.later in (
      ap (λ (w : Word). w ∷ next ∷ words) (spelled word p.item r.0) ∙ ap (λ (ws : List Word). signed_decimal p.item ∷ ws) rest.0 ∙ sym (ap literal_words p.whole),
      ap (λ (ks : List ℤ). is_clause n (clause ++ ks)) p.whole ∙ ap (is_clause n) (sym (append_assoc clause (p.item ∷ []) p.rest)) ∙ rest.1,
    )

clause_next : (n : ℕ) (clause : List ℤ) (word : Word) (words : List Word) (first : Word) (more : List Word) → words ≡ first ∷ more
    → clause_from n clause (word ∷ words) ≡ in_front (if_new clause (literal_within n (plain_number word))) (λ l. clause_from n (clause ++ l ∷ []) words)
clause_next n clause word words first more e =
    ap (λ (ws : List Word). clause_from n clause (word ∷ ws)) e
    ∙ sym (ap (λ (ws : List Word). in_front (if_new clause (literal_within n (plain_number word))) (λ l. clause_from n (clause ++ l ∷ []) ws)) e)

-- a literal in the midst of a clause
record Midst (n : ℕ) (clause : List ℤ) (l : ℤ) : Type 0 where
  literal : is_literal n l ≡ true
  new : contains clause l ≡ false

in_midst : (n : ℕ) (clause : List ℤ) (l : ℤ) (ls : List ℤ) → is_clause n (clause ++ l ∷ ls) ≡ true → Midst n clause l
in_midst n clause l ls h =
    let both = and_true (list_all (is_literal n) (clause ++ l ∷ ls)) (is_distinct (clause ++ l ∷ ls)) h in
    let parts = and_true _ _ (sym (list_all-append (is_literal n) clause (l ∷ ls)) ∙ both.0) in
    record {
      literal = (and_true (is_literal n l) (list_all (is_literal n) ls) parts.1).0;
      new = elim (cases_Bool (contains clause l)) [ inl e ↦ absurd (no_repeat clause l ls both.1 e) | inr e ↦ e ];
    }

pub clause_back : (n : ℕ) (clause ls : List ℤ) → n ≤ 1000000 → is_clause n (clause ++ ls) ≡ true → clause_from n clause (literal_words ls) ≡ Some ls
clause_back n clause [] small h = refl
clause_back n clause (l ∷ ls) small h =
    let m = in_midst n clause l ls h in
    let parts = ended_parts (map signed_decimal ls) in
    clause_next n clause (signed_decimal l) (literal_words ls) parts.0 parts.1 parts.2
    ∙ ap (λ (o : Option ℤ). in_front (if_new clause o) (λ k. clause_from n (clause ++ k ∷ []) (literal_words ls))) (literal_read n l small m.literal)
    ∙ ap (λ (b : Bool). in_front (cond b None (Some l)) (λ k. clause_from n (clause ++ k ∷ []) (literal_words ls))) m.new
    ∙ ap (option_map (λ ks. l ∷ ks)) (clause_back n (clause ++ l ∷ []) ls small (ap (is_clause n) (append_assoc clause (l ∷ []) ls) ∙ h))
