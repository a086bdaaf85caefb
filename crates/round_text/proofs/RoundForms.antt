-- What the words of steps are read as, and spelled by.
use Rattle.std.proofs.Common.{◌≡◌, ℕ, ◌+◌, ◌-◌, ◌*◌, ◌^◌, ◌<◌, ◌≤◌, ◌∙◌, Bool, true, false, cond, ◌&&◌, List, [], ◌∷◌, ◌++◌, map, refl, sym, ap, subst, arith, ℤ, Option, Some, None, append_assoc}
use Rattle.std.specs.Prelude.{option_and_then, codes, nat_lt, decimal}
use Rattle.std.specs.Fmt.{digits, signed_decimal}
use Rattle.std.specs.List.{list_all, flat_map}
use Rattle.std.specs.Str.{bytes_eq}
use Rattle.std.proofs.lemmas.Bool.{lt-ltb, ltb-true, and_from}
use Rattle.std.proofs.lemmas.List.{append-nil, map-append}
use Rattle.std.proofs.lemmas.Slice.Eq.{bytes_eq-Decides}
use Rattle.lk_model.specs.Lists.{is_between, rises_within}
use Rattle.lk_model.specs.Formulas.Literal.{rank_of, is_literal}
use Rattle.lk_model.specs.Texts.Lines.{Word}
use Rattle.lk_model.specs.Texts.NumberWords.{plain_number}
use Rattle.lk_model.specs.Texts.PlainText.{ended, literal_words}
use Rattle.lk_model.specs.Documents.Form.{is_turn, is_step}
use Rattle.lk_model.specs.declared.document.Turn.{Turn}
use Rattle.lk_model.specs.declared.document.Step.{Step}
use Rattle.lk_model.proofs.Booleans.{and_true}
use Rattle.lk_model.proofs.Ranks.{rank_bounds as literal_rank, ranked_literal as rank_literal}
use Rattle.lk_model.proofs.ListTests.{all_more as tested_more}
use Rattle.line_text.specs.Fields.{literal_within, number_within}
use Rattle.line_text.specs.FieldLists.{twos}
use Rattle.line_text.specs.LastVars.{last_or}
use Rattle.round_text.specs.RoundLines.{if_above, ranked_then, turn_by, turn_within, chain_by, chain_within, step_by, step_within}
use Rattle.line_text.proofs.NumberTexts.{spelled}
use Rattle.line_text.proofs.ListForms.{read_literal, literal_read, number_back}
use Rattle.line_text.proofs.NumberForms.{number_form}
use Rattle.line_text.proofs.LastOnes.{are_listed, listed_more, rises_last, rises_front, last_above, tested_last, tested_front}
use Rattle.line_text.proofs.NumberForms.{IsBetween, between, is_between_of}
use Rattle.line_text.proofs.TwosSteps.{AreTwos, twos_form, twos_back}

-- TURNS

abbrev pub turn_words : Turn → List Word
turn_words t = signed_decimal t.lit ∷ decimal t.with ∷ []

turn_parts : (a : Option ℤ) (b : Option ℕ) (t : Turn) → turn_by a b ≡ Some t → (a ≡ Some t.lit) × (b ≡ Some t.with)
turn_parts None b t e = absurd (let f : ⊥ = cc in f)
turn_parts (Some l) None t e = absurd (let f : ⊥ = cc in f)
turn_parts (Some l) (Some k) t e =
    let one : Turn = record { lit = l; with = k } in
    let same : one ≡ t = cc in
    (ap (λ (y : Turn). Some y.lit) same, ap (λ (y : Turn). Some y.with) same)

pub turns_two : (n number : ℕ) → n ≤ 1000000 → number < 2 ^ 64 → AreTwos (turn_within n number) turn_words (list_all (is_turn n number))
turns_two n number small low = record {
  form = λ ts word other t h e.
      let parts = turn_parts (literal_within n (plain_number word)) (number_within 1 (number - 1) (plain_number other)) t e in
      let l = read_literal n t.lit (plain_number word) parts.0 in
      let b = number_form 1 (number - 1) t.with other parts.1 in (
        cc (spelled word t.lit l.0, b.spelled),
        tested_more (is_turn n number) ts t h (and_from (is_literal n t.lit) (is_between 1 (number - 1) t.with) l.1 (between 1 (number - 1) t.with b.least b.most)),
      );
  first = λ t. signed_decimal t.lit;
  second = λ t. decimal t.with;
  spelled = λ t. refl;
  back = λ ts t h.
      let both = and_true (is_literal n t.lit) (is_between 1 (number - 1) t.with) (tested_last (is_turn n number) ts t h) in
      let b = is_between_of 1 (number - 1) t.with both.1 in
      ap (λ (l : Option ℤ). turn_by l (number_within 1 (number - 1) (plain_number (decimal t.with)))) (literal_read n t.lit small both.0)
      ∙ ap (turn_by (Some t.lit)) (number_back 1 (number - 1) t.with (omega (arith, b.most, low)) b.least b.most);
  front = λ ts us h. tested_front (is_turn n number) ts us h;
}

-- LITERALS BY RANK

abbrev pub are_ranked : ℕ → List ℤ → Bool
are_ranked n ls = are_listed rank_of (is_literal n) 1 (2 * n + 1) ls

-- the literal, if it is above the others
above_form : (ls : List ℤ) (l : ℤ) (o : Option ℤ) → if_above ls o ≡ Some l → (o ≡ Some l) × (last_or 1 (map rank_of ls) < rank_of l)
above_form ls l None e = absurd (let f : ⊥ = cc in f)
above_form ls l (Some k) e = by_test (nat_lt (last_or 1 (map rank_of ls)) (rank_of k)) refl e
  where
    by_test : (b : Bool) → nat_lt (last_or 1 (map rank_of ls)) (rank_of k) ≡ b → cond b (Some k) None ≡ Some l → (Some k ≡ Some l) × (last_or 1 (map rank_of ls) < rank_of l)
    by_test false t f = absurd (let n : ⊥ = cc in n)
    by_test true t f = let same : k ≡ l = cc in (f, subst (λ (x : ℤ). last_or 1 (map rank_of ls) < rank_of x) same (ltb-true (last_or 1 (map rank_of ls)) (rank_of k) t))

pub record RankedForm (n : ℕ) (ls : List ℤ) (words : List Word) (h : List ℤ × List Word) : Type 0 where
  pub more : List ℤ
  pub whole : h.0 ≡ ls ++ more
  pub line : words ≡ map signed_decimal more ++ codes "0" ∷ h.1
  pub form : are_ranked n h.0 ≡ true

pub ranked_form : (n : ℕ) (ls : List ℤ) (words : List Word) (h : List ℤ × List Word) → are_ranked n ls ≡ true → ranked_then n ls words ≡ Some h → RankedForm n ls words h
ranked_form n ls [] h r e = absurd (let f : ⊥ = cc in f)
ranked_form n ls (word ∷ []) h r e = absurd (let f : ⊥ = cc in f)
ranked_form n ls (word ∷ next ∷ words) h r e =
    by_test (λ l g f. ranked_form n (ls ++ l ∷ []) (next ∷ words) h g f) (bytes_eq word (codes "0")) refl e
  where
    by_literal : ((l : ℤ) → are_ranked n (ls ++ l ∷ []) ≡ true → ranked_then n (ls ++ l ∷ []) (next ∷ words) ≡ Some h → RankedForm n (ls ++ l ∷ []) (next ∷ words) h)
        → (o : Option ℤ) → if_above ls (literal_within n (plain_number word)) ≡ o → option_and_then (λ l. ranked_then n (ls ++ l ∷ []) (next ∷ words)) o ≡ Some h → RankedForm n ls (word ∷ next ∷ words) h
    by_literal later None t f = absurd (let m : ⊥ = cc in m)
    by_literal later (Some l) t f =
        let a = above_form ls l (literal_within n (plain_number word)) t in
        let c = read_literal n l (plain_number word) a.0 in
        let rest = later l (listed_more rank_of (is_literal n) 1 (2 * n + 1) ls l r (record { above = a.1; within = (literal_rank n l c.1).1; form = c.1 })) f in
        record {
          more = l ∷ rest.more;
          whole = rest.whole ∙ append_assoc ls (l ∷ []) rest.more;
          line = ap (λ (w : Word). w ∷ next ∷ words) (spelled word l c.0) ∙ ap (λ (ws : List Word). signed_decimal l ∷ ws) rest.line;
          form = rest.form;
        }

    by_test : ((l : ℤ) → are_ranked n (ls ++ l ∷ []) ≡ true → ranked_then n (ls ++ l ∷ []) (next ∷ words) ≡ Some h → RankedForm n (ls ++ l ∷ []) (next ∷ words) h)
        → (b : Bool) → bytes_eq word (codes "0") ≡ b
        → cond b (Some (ls, next ∷ words)) (option_and_then (λ l. ranked_then n (ls ++ l ∷ []) (next ∷ words)) (if_above ls (literal_within n (plain_number word)))) ≡ Some h → RankedForm n ls (word ∷ next ∷ words) h
    by_test later true t f =
        let same : (ls, next ∷ words) ≡ h = cc in
        subst (RankedForm n ls (word ∷ next ∷ words)) same (record { more = []; whole = sym (append-nil ls); line = ap (λ (w : Word). w ∷ next ∷ words) ((bytes_eq-Decides word (codes "0")).0 t); form = r })
    by_test later false t f = by_literal later (if_above ls (literal_within n (plain_number word))) refl f

-- a literal is not spelled as the closing word
not_closing : (n : ℕ) (l : ℤ) → n ≤ 1000000 → is_literal n l ≡ true → bytes_eq (signed_decimal l) (codes "0") ≡ false
unfolding digits
not_closing n l small h = by_test (bytes_eq (signed_decimal l) (codes "0")) refl
  where
    by_test : (b : Bool) → bytes_eq (signed_decimal l) (codes "0") ≡ b → b ≡ false
    by_test false t = refl
    by_test true t =
        let same = (bytes_eq-Decides (signed_decimal l) (codes "0")).0 t in
        let none : None ≡ Some l = ap (λ (w : Word). literal_within n (plain_number w)) (sym same) ∙ literal_read n l small h in
        absurd (let f : ⊥ = cc in f)

pub ranked_back : (n : ℕ) (xs ys : List ℤ) (first : Word) (more : List Word) → n ≤ 1000000 → rises_within 1 (2 * n + 1) (map rank_of (xs ++ ys)) ≡ true
    → ranked_then n xs (map signed_decimal ys ++ codes "0" ∷ first ∷ more) ≡ Some (xs ++ ys, first ∷ more)
ranked_back n xs [] first more small h = ap (λ (ls : List ℤ). Some (ls, first ∷ more)) (sym (append-nil xs))
ranked_back n xs (y ∷ ys) first more small h =
    let joined : (xs ++ y ∷ []) ++ ys ≡ xs ++ y ∷ ys = append_assoc xs (y ∷ []) ys in
    let ahead : rises_within 1 (2 * n + 1) (map rank_of ((xs ++ y ∷ []) ++ ys)) ≡ true = ap (λ (ls : List ℤ). rises_within 1 (2 * n + 1) (map rank_of ls)) joined ∙ h in
    let front = rises_front 1 (2 * n + 1) (map rank_of (xs ++ y ∷ [])) (map rank_of ys) (ap (rises_within 1 (2 * n + 1)) (sym (map-append rank_of (xs ++ y ∷ []) ys)) ∙ ahead) in
    let last = rises_last 1 (2 * n + 1) (rank_of y) (map rank_of xs) (ap (rises_within 1 (2 * n + 1)) (sym (map-append rank_of xs (y ∷ []))) ∙ front) in
    let above : 1 < rank_of y = omega (arith, last.0, last_above 1 (2 * n + 1) (map rank_of xs) (rises_front 1 (2 * n + 1) (map rank_of xs) (rank_of y ∷ []) (ap (rises_within 1 (2 * n + 1)) (sym (map-append rank_of xs (y ∷ []))) ∙ front))) in
    let literal = rank_literal n y above last.1 in
    let rest = map signed_decimal ys ++ codes "0" ∷ first ∷ more in
    let here : if_above xs (literal_within n (plain_number (signed_decimal y))) ≡ Some y =
    ap (if_above xs) (literal_read n y small literal) ∙ ap (λ (b : Bool). cond b (Some y) None) (lt-ltb (last_or 1 (map rank_of xs)) (rank_of y) last.0) in
    by_rest rest (some_rest ys first more) (not_closing n y small literal) here
    ∙ ranked_back n (xs ++ y ∷ []) ys first more small ahead
    ∙ ap (λ (ls : List ℤ). Some (ls, first ∷ more)) joined
  where
    some_rest : (zs : List ℤ) (w : Word) (ws : List Word) → (a : Word) × (b : List Word) × (map signed_decimal zs ++ codes "0" ∷ w ∷ ws ≡ a ∷ b)
    some_rest [] w ws = (codes "0", w ∷ ws, refl)
    some_rest (z ∷ zs) w ws = (signed_decimal z, map signed_decimal zs ++ codes "0" ∷ w ∷ ws, refl)

    by_rest : (ws : List Word) → (a : Word) × (b : List Word) × (ws ≡ a ∷ b) → bytes_eq (signed_decimal y) (codes "0") ≡ false → if_above xs (literal_within n (plain_number (signed_decimal y))) ≡ Some y
        → ranked_then n xs (signed_decimal y ∷ ws) ≡ ranked_then n (xs ++ y ∷ []) ws
    by_rest ws s e f =
        ap (λ (vs : List Word). ranked_then n xs (signed_decimal y ∷ vs)) s.2
        ∙ ap (λ (b : Bool). cond b (Some (xs, s.0 ∷ s.1)) (option_and_then (λ l. ranked_then n (xs ++ l ∷ []) (s.0 ∷ s.1)) (if_above xs (literal_within n (plain_number (signed_decimal y)))))) e
        ∙ ap (option_and_then (λ l. ranked_then n (xs ++ l ∷ []) (s.0 ∷ s.1))) f
        ∙ ap (ranked_then n (xs ++ y ∷ [])) (sym s.2)

-- STEPS

abbrev pub chain_words : Step → List Word
chain_words s = decimal s.first ∷ ended (flat_map turn_words s.turns)

abbrev pub step_words : Step → List Word
step_words s = decimal s.number ∷ literal_words s.clause ++ chain_words s

chain_parts : (number : ℕ) (clause : List ℤ) (a : Option ℕ) (ts : Option (List Turn)) (s : Step) → chain_by number clause a ts ≡ Some s
    → (number ≡ s.number) × (clause ≡ s.clause) × (a ≡ Some s.first) × (ts ≡ Some s.turns)
chain_parts number clause None ts s e = absurd (let f : ⊥ = cc in f)
chain_parts number clause (Some a) None s e = absurd (let f : ⊥ = cc in f)
chain_parts number clause (Some a) (Some ts) s e =
    let one : Step = record { number = number; clause = clause; first = a; turns = ts } in
    let same : one ≡ s = cc in
    (ap (λ (x : Step). x.number) same, ap (λ (x : Step). x.clause) same, ap (λ (x : Step). Some x.first) same, ap (λ (x : Step). Some x.turns) same)

pub record StepForm (n number : ℕ) (words : List Word) (s : Step) : Type 0 where
  pub number_is : s.number ≡ number
  pub line : words ≡ step_words s
  pub form : is_step n s ≡ true

pub step_form : (n number : ℕ) (words : List Word) (s : Step) → n ≤ 1000000 → number < 2 ^ 64 → step_within n number words ≡ Some s → StepForm n number words s
step_form n number [] s small low e = absurd (let f : ⊥ = cc in f)
step_form n number (k ∷ words) s small low e = by_parts (number_within number number (plain_number k)) (ranked_then n [] words) refl refl e
  where
    by_chain : (h : List ℤ × List Word) (rest : List Word) → h.1 ≡ rest → ranked_then n [] words ≡ Some h → k ≡ decimal number → chain_within n number h.0 rest ≡ Some s → StepForm n number (k ∷ words) s
    by_chain h [] w g spelled_k f = absurd (let m : ⊥ = cc in m)
    by_chain h (a ∷ rest) w g spelled_k f =
        let parts = chain_parts number h.0 (number_within 1 (number - 1) (plain_number a)) (twos (turn_within n number) [] rest) s f in
        let first = number_form 1 (number - 1) s.first a parts.2 in
        let turns = twos_form (turn_within n number) turn_words (list_all (is_turn n number)) (turns_two n number small low) [] rest s.turns refl parts.3 in
        let clause = ranked_form n [] words h refl g in
        let ranks = and_true (rises_within 1 (2 * n + 1) (map rank_of h.0)) (list_all (is_literal n) h.0) clause.form in
        let chain : a ∷ rest ≡ chain_words s = ap (λ (x : Word). x ∷ rest) first.spelled ∙ ap (λ (ws : List Word). decimal s.first ∷ ws) (turns.line ∙ ap (λ (ts : List Turn). ended (flat_map turn_words ts)) (sym turns.whole)) in
        let line : words ≡ literal_words s.clause ++ chain_words s =
        clause.line ∙ ap (λ (ls : List ℤ). map signed_decimal ls ++ codes "0" ∷ h.1) (sym clause.whole ∙ parts.1)
        ∙ ap (λ (ws : List Word). map signed_decimal s.clause ++ codes "0" ∷ ws) (w ∙ chain)
        ∙ sym (append_assoc (map signed_decimal s.clause) (codes "0" ∷ []) (chain_words s)) in
        let low_s : nat_lt s.number (2 ^ 64) ≡ true = lt-ltb s.number (2 ^ 64) (omega (arith, low, parts.0)) in
        let rises : rises_within 1 (2 * n + 1) (map rank_of s.clause) ≡ true = ap (λ (ls : List ℤ). rises_within 1 (2 * n + 1) (map rank_of ls)) (sym parts.1) ∙ ranks.0 in
        let begins : is_between 1 (s.number - 1) s.first ≡ true = ap (λ (x : ℕ). is_between 1 (x - 1) s.first) (sym parts.0) ∙ between 1 (number - 1) s.first first.least first.most in
        let turned : list_all (is_turn n s.number) s.turns ≡ true = ap (λ (x : ℕ). list_all (is_turn n x) s.turns) (sym parts.0) ∙ turns.form in
        record {
          number_is = sym parts.0;
          line = ap (λ (x : Word). x ∷ words) (spelled_k ∙ ap decimal parts.0) ∙ ap (λ (ws : List Word). decimal s.number ∷ ws) line;
          form = rw (low_s, rises, begins, turned) refl;
        }

    by_parts : (a : Option ℕ) (b : Option (List ℤ × List Word)) → number_within number number (plain_number k) ≡ a → ranked_then n [] words ≡ b → step_by n number a b ≡ Some s → StepForm n number (k ∷ words) s
    by_parts None b t u f = absurd (let m : ⊥ = cc in m)
    by_parts (Some x) None t u f = absurd (let m : ⊥ = cc in m)
    by_parts (Some x) (Some h) t u f =
        let form = number_form number number x k t in
        let same : x ≡ number = omega (arith, form.least, form.most) in
        by_chain h h.1 refl u (form.spelled ∙ ap decimal same) f

-- what a step in form says, one by one
pub record StepParts (n : ℕ) (s : Step) : Type 0 where
  pub low : s.number < 2 ^ 64
  pub rises : rises_within 1 (2 * n + 1) (map rank_of s.clause) ≡ true
  pub first : IsBetween 1 (s.number - 1) s.first
  pub turns : list_all (is_turn n s.number) s.turns ≡ true

pub step_parts : (n : ℕ) (s : Step) → is_step n s ≡ true → StepParts n s
step_parts n s h =
    let one = and_true ((nat_lt s.number (2 ^ 64) && rises_within 1 (2 * n + 1) (map rank_of s.clause)) && is_between 1 (s.number - 1) s.first) (list_all (is_turn n s.number) s.turns) h in
    let two = and_true (nat_lt s.number (2 ^ 64) && rises_within 1 (2 * n + 1) (map rank_of s.clause)) (is_between 1 (s.number - 1) s.first) one.0 in
    let three = and_true (nat_lt s.number (2 ^ 64)) (rises_within 1 (2 * n + 1) (map rank_of s.clause)) two.0 in
    record { low = ltb-true s.number (2 ^ 64) three.0; rises = three.1; first = is_between_of 1 (s.number - 1) s.first two.1; turns = one.1 }

pub step_back : (n : ℕ) (s : Step) → n ≤ 1000000 → is_step n s ≡ true → step_within n s.number (step_words s) ≡ Some s
step_back n s small h =
    let parts = step_parts n s h in
    let low = parts.low in
    let first = parts.first in
    ap (λ (a : Option ℕ). step_by n s.number a (ranked_then n [] (literal_words s.clause ++ chain_words s))) (number_back s.number s.number s.number (omega (arith, low)) (omega arith) (omega arith))
    ∙ ap (λ (ws : List Word). step_by n s.number (Some s.number) (ranked_then n [] ws)) (append_assoc (map signed_decimal s.clause) (codes "0" ∷ []) (chain_words s))
    ∙ ap (step_by n s.number (Some s.number)) (ranked_back n [] s.clause (decimal s.first) (ended (flat_map turn_words s.turns)) small parts.rises)
    ∙ ap (λ (a : Option ℕ). chain_by s.number s.clause a (twos (turn_within n s.number) [] (ended (flat_map turn_words s.turns)))) (number_back 1 (s.number - 1) s.first (omega (arith, low, first.most)) first.least first.most)
    ∙ ap (chain_by s.number s.clause (Some s.first)) (twos_back (turn_within n s.number) turn_words (list_all (is_turn n s.number)) (turns_two n s.number small low) [] s.turns parts.turns)
