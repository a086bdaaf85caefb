-- The problem line, one byte after the other.
use Rattle.std.proofs.Common.{◌≡◌, ◌⊎◌, ℕ, ◌+◌, ◌-◌, ◌*◌, ◌^◌, ◌<◌, ◌≤◌, ◌∙◌, min, Bool, true, false, not, cond, ◌||◌, ◌&&◌, List, [], ◌∷◌, ◌++◌, length, Option, Some, None, refl, sym, ap, subst, arith, inl, inr, append_assoc, length-append, nat_lt}
use Rattle.std.specs.Prelude.{codes}
use Rattle.std.specs.Str.{bytes_eq}
use Rattle.std.specs.Option.{option_zip}
use Rattle.std.specs.Char.{is_ascii_digit}
use Rattle.std.proofs.lemmas.Bool.{and_from, lt-ltb, ne_eqb as not_equal}
use Rattle.std.proofs.lemmas.List.{append-nil}
use Rattle.std.proofs.lemmas.List.Folds.{list_all-append}
use Rattle.lk_model.specs.Limits.{max_vars, max_clauses}
use Rattle.lk_model.specs.Texts.Lines.{Word, is_blank}
use Rattle.lk_model.specs.Texts.Dimacs.{stated_by}
use Rattle.lk_model.specs.Texts.NumberWords.{digits_value, natural}
use Rattle.lk_model.specs.declared.text_fault.FaultKind.TheVariants.{Limit}
use Rattle.dimacs_reader.specs.Contents.{words_in, has_no_blank}
use Rattle.dimacs_reader.specs.Words.{AreDigits}
use Rattle.dimacs_reader.specs.ProblemLines.{BeginsAs, IsLineSoFar, problem_line_kind}
use Rattle.dimacs_reader.specs.declared.problem.ProblemLine.{ProblemLine}
use Rattle.dimacs_reader.specs.declared.problem.ProblemLine.TheVariants.{P, BehindP, C, Cn, Cnf, BehindCnf, Vars, BehindVars, Clauses, BehindClauses, Other}
use Rattle.lk_model.proofs.Pieces.{blank_before}
use Rattle.dimacs_reader.proofs.Cuts.{word_before, one_word, grows}
use Rattle.dimacs_reader.proofs.Digits.{digits_no_blank, digits_more, one_digit, natural_is, natural_wrong}

-- BYTES AFTER

-- a word ends
ends_word : (bytes : List ℕ) (words : List Word) (word : List ℕ) (b : ℕ) → 0 < length word → has_no_blank word ≡ true → is_blank b ≡ true → BeginsAs bytes words word → BeginsAs (bytes ++ b ∷ []) (words ++ word ∷ []) []
ends_word bytes words word b some h blank begins more =
    ap words_in (append_assoc bytes (b ∷ []) more) ∙ begins (b ∷ more)
    ∙ ap (λ (ws : List Word). words ++ ws) (word_before word more some h b blank)
    ∙ sym (append_assoc words (word ∷ []) (words_in more))

-- a blank after a blank
more_blanks : (bytes : List ℕ) (words : List Word) (b : ℕ) → is_blank b ≡ true → BeginsAs bytes words [] → BeginsAs (bytes ++ b ∷ []) words []
more_blanks bytes words b blank begins more =
    ap words_in (append_assoc bytes (b ∷ []) more) ∙ begins (b ∷ more) ∙ ap (λ (ws : List Word). words ++ ws) (blank_before b more blank)

-- a byte more of a word
more_word : (bytes : List ℕ) (words : List Word) (word : List ℕ) (b : ℕ) → BeginsAs bytes words word → BeginsAs (bytes ++ b ∷ []) words (word ++ b ∷ [])
more_word bytes words word b begins more =
    ap words_in (append_assoc bytes (b ∷ []) more) ∙ begins (b ∷ more) ∙ ap (λ (bs : List ℕ). words ++ words_in bs) (sym (append_assoc word (b ∷ []) more))

-- WRONG WORDS

first_wrong : (p : Word) (words : List Word) → bytes_eq p (codes "p") ≡ false → stated_by (p ∷ words) ≡ None
first_wrong p [] e = refl
first_wrong p (cnf ∷ []) e = refl
first_wrong p (cnf ∷ v ∷ []) e = refl
first_wrong p (cnf ∷ v ∷ c ∷ []) e = ap (λ (t : Bool). cond (t && bytes_eq cnf (codes "cnf")) (option_zip (natural v) (natural c)) None) e
first_wrong p (cnf ∷ v ∷ c ∷ d ∷ words) e = refl

second_wrong : (cnf : Word) (words : List Word) → bytes_eq cnf (codes "cnf") ≡ false → stated_by (codes "p" ∷ cnf ∷ words) ≡ None
second_wrong cnf [] e = refl
second_wrong cnf (v ∷ []) e = refl
second_wrong cnf (v ∷ c ∷ []) e = ap (λ (t : Bool). cond (true && t) (option_zip (natural v) (natural c)) None) e
second_wrong cnf (v ∷ c ∷ d ∷ words) e = refl

third_wrong : (v : Word) (words : List Word) → natural v ≡ None → stated_by (codes "p" ∷ codes "cnf" ∷ v ∷ words) ≡ None
third_wrong v [] e = refl
third_wrong v (c ∷ []) e = ap (λ (o : Option ℕ). option_zip o (natural c)) e
third_wrong v (c ∷ d ∷ words) e = refl

no_second : (o n : Option ℕ) → n ≡ None → option_zip o n ≡ None
no_second None None e = refl
no_second None (Some k) e = refl
no_second (Some k) n e = ap (λ (m : Option ℕ). option_zip (Some k) m) e

fourth_wrong : (v c : Word) (words : List Word) → natural c ≡ None → stated_by (codes "p" ∷ codes "cnf" ∷ v ∷ c ∷ words) ≡ None
fourth_wrong v c [] e = no_second (natural v) (natural c) e
fourth_wrong v c (d ∷ words) e = refl

-- a word goes on as one that is wrong, whatever comes after
goes_wrong : (bytes : List ℕ) (words : List Word) (word : List ℕ) → BeginsAs bytes words word → 0 < length word → has_no_blank word ≡ true
    → ((rest : List ℕ) (others : List Word) → stated_by (words ++ (word ++ rest) ∷ others) ≡ None) → IsLineSoFar bytes Other
goes_wrong bytes words word begins some h wrong more =
    let g = grows word more some h in
    ap stated_by (begins more ∙ ap (λ (ws : List Word). words ++ ws) g.words) ∙ wrong g.rest g.others

-- BY STATES

no_blank_one : (b : ℕ) → is_blank b ≡ false → has_no_blank (b ∷ []) ≡ true
no_blank_one b h = ap (λ (t : Bool). not t && true) h

digits_before : (ds : List ℕ) (v b : ℕ) → AreDigits ds v → is_blank b ≡ false → has_no_blank (ds ++ b ∷ []) ≡ true
digits_before ds v b a h = list_all-append (λ x. not (is_blank x)) ds (b ∷ []) ∙ and_from _ _ (digits_no_blank ds a.all) (no_blank_one b h)

-- a byte with which the line is none that states something
pub other_byte : (line : ProblemLine) (b : ℕ) → is_blank b ≡ false → is_ascii_digit b ≡ false
    → (line ≡ BehindP → b ≡ 99 → ⊥) → (line ≡ C → b ≡ 110 → ⊥) → (line ≡ Cn → b ≡ 102 → ⊥)
    → (bytes : List ℕ) → IsLineSoFar bytes line → IsLineSoFar (bytes ++ b ∷ []) Other
other_byte P b h d no_c no_n no_f bytes begins =
    goes_wrong (bytes ++ b ∷ []) [] (112 ∷ b ∷ []) (more_word bytes [] (112 ∷ []) b begins) (omega arith) (no_blank_one b h)
    (λ rest others. first_wrong (112 ∷ b ∷ rest) others refl)
other_byte BehindP b h d no_c no_n no_f bytes begins =
    goes_wrong (bytes ++ b ∷ []) (codes "p" ∷ []) (b ∷ []) (more_word bytes (codes "p" ∷ []) [] b begins) (omega arith) (no_blank_one b h)
    (λ rest others. second_wrong (b ∷ rest) others (ap (λ (t : Bool). t && bytes_eq rest (110 ∷ 102 ∷ [])) (not_equal b 99 (no_c refl))))
other_byte C b h d no_c no_n no_f bytes begins =
    goes_wrong (bytes ++ b ∷ []) (codes "p" ∷ []) (99 ∷ b ∷ []) (more_word bytes (codes "p" ∷ []) (99 ∷ []) b begins) (omega arith) (no_blank_one b h)
    (λ rest others. second_wrong (99 ∷ b ∷ rest) others (ap (λ (t : Bool). t && bytes_eq rest (102 ∷ [])) (not_equal b 110 (no_n refl))))
other_byte Cn b h d no_c no_n no_f bytes begins =
    goes_wrong (bytes ++ b ∷ []) (codes "p" ∷ []) (99 ∷ 110 ∷ b ∷ []) (more_word bytes (codes "p" ∷ []) (99 ∷ 110 ∷ []) b begins) (omega arith) (no_blank_one b h)
    (λ rest others. second_wrong (99 ∷ 110 ∷ b ∷ rest) others (ap (λ (t : Bool). t && bytes_eq rest []) (not_equal b 102 (no_f refl))))
other_byte Cnf b h d no_c no_n no_f bytes begins =
    goes_wrong (bytes ++ b ∷ []) (codes "p" ∷ []) (99 ∷ 110 ∷ 102 ∷ b ∷ []) (more_word bytes (codes "p" ∷ []) (99 ∷ 110 ∷ 102 ∷ []) b begins) (omega arith) (no_blank_one b h)
    (λ rest others. second_wrong (99 ∷ 110 ∷ 102 ∷ b ∷ rest) others refl)
other_byte BehindCnf b h d no_c no_n no_f bytes begins =
    goes_wrong (bytes ++ b ∷ []) (codes "p" ∷ codes "cnf" ∷ []) (b ∷ []) (more_word bytes (codes "p" ∷ codes "cnf" ∷ []) [] b begins) (omega arith) (no_blank_one b h)
    (λ rest others. third_wrong (b ∷ rest) others (natural_wrong [] b rest d))
other_byte (Vars vars) b h d no_c no_n no_f bytes begins =
    let ds = begins.0 in
    goes_wrong (bytes ++ b ∷ []) (codes "p" ∷ codes "cnf" ∷ []) (ds ++ b ∷ []) (more_word bytes (codes "p" ∷ codes "cnf" ∷ []) ds b begins.2) (omega (arith, length-append ds (b ∷ []))) (digits_before ds vars b begins.1 h)
    (λ rest others. ap (λ (w : Word). stated_by (codes "p" ∷ codes "cnf" ∷ w ∷ others)) (append_assoc ds (b ∷ []) rest) ∙ third_wrong (ds ++ b ∷ rest) others (natural_wrong ds b rest d))
other_byte (BehindVars vars) b h d no_c no_n no_f bytes begins =
    let v = begins.0 in
    goes_wrong (bytes ++ b ∷ []) (codes "p" ∷ codes "cnf" ∷ v ∷ []) (b ∷ []) (more_word bytes (codes "p" ∷ codes "cnf" ∷ v ∷ []) [] b begins.2) (omega arith) (no_blank_one b h)
    (λ rest others. fourth_wrong v (b ∷ rest) others (natural_wrong [] b rest d))
other_byte (Clauses vars clauses) b h d no_c no_n no_f bytes begins =
    let v = begins.0 in
    let ds = begins.1 in
    goes_wrong (bytes ++ b ∷ []) (codes "p" ∷ codes "cnf" ∷ v ∷ []) (ds ++ b ∷ []) (more_word bytes (codes "p" ∷ codes "cnf" ∷ v ∷ []) ds b begins.4) (omega (arith, length-append ds (b ∷ []))) (digits_before ds clauses b begins.3 h)
    (λ rest others. ap (λ (w : Word). stated_by (codes "p" ∷ codes "cnf" ∷ v ∷ w ∷ others)) (append_assoc ds (b ∷ []) rest) ∙ fourth_wrong v (ds ++ b ∷ rest) others (natural_wrong ds b rest d))
other_byte (BehindClauses vars clauses) b h d no_c no_n no_f bytes begins =
    let v = begins.0 in
    let c = begins.1 in
    goes_wrong (bytes ++ b ∷ []) (codes "p" ∷ codes "cnf" ∷ v ∷ c ∷ []) (b ∷ []) (more_word bytes (codes "p" ∷ codes "cnf" ∷ v ∷ c ∷ []) [] b begins.4) (omega arith) (no_blank_one b h)
    (λ rest others. refl)
other_byte Other b h d no_c no_n no_f bytes wrong = λ more. ap (λ (bs : List ℕ). stated_by (words_in bs)) (append_assoc bytes (b ∷ []) more) ∙ wrong (b ∷ more)

-- a blank after a blank
pub blank_again : (line : ProblemLine) → (line ≡ P → ⊥) → (line ≡ C → ⊥) → (line ≡ Cn → ⊥) → (line ≡ Cnf → ⊥) → ((v : ℕ) → line ≡ Vars v → ⊥) → ((v c : ℕ) → line ≡ Clauses v c → ⊥)
    → (bytes : List ℕ) (b : ℕ) → is_blank b ≡ true → IsLineSoFar bytes line → IsLineSoFar (bytes ++ b ∷ []) line
blank_again P n1 n2 n3 n4 n5 n6 bytes b h begins = absurd (n1 refl)
blank_again BehindP n1 n2 n3 n4 n5 n6 bytes b h begins = more_blanks bytes (codes "p" ∷ []) b h begins
blank_again C n1 n2 n3 n4 n5 n6 bytes b h begins = absurd (n2 refl)
blank_again Cn n1 n2 n3 n4 n5 n6 bytes b h begins = absurd (n3 refl)
blank_again Cnf n1 n2 n3 n4 n5 n6 bytes b h begins = absurd (n4 refl)
blank_again BehindCnf n1 n2 n3 n4 n5 n6 bytes b h begins = more_blanks bytes (codes "p" ∷ codes "cnf" ∷ []) b h begins
blank_again (Vars v) n1 n2 n3 n4 n5 n6 bytes b h begins = absurd (n5 v refl)
blank_again (BehindVars v) n1 n2 n3 n4 n5 n6 bytes b h begins = (begins.0, begins.1, more_blanks bytes (codes "p" ∷ codes "cnf" ∷ begins.0 ∷ []) b h begins.2)
blank_again (Clauses v c) n1 n2 n3 n4 n5 n6 bytes b h begins = absurd (n6 v c refl)
blank_again (BehindClauses v c) n1 n2 n3 n4 n5 n6 bytes b h begins =
    (begins.0, begins.1, begins.2, begins.3, more_blanks bytes (codes "p" ∷ codes "cnf" ∷ begins.0 ∷ begins.1 ∷ []) b h begins.4)
blank_again Other n1 n2 n3 n4 n5 n6 bytes b h wrong = λ more. ap (λ (bs : List ℕ). stated_by (words_in bs)) (append_assoc bytes (b ∷ []) more) ∙ wrong (b ∷ more)

-- numbers that end
pub vars_end : (vars : ℕ) (bytes : List ℕ) (b : ℕ) → is_blank b ≡ true → IsLineSoFar bytes (Vars vars) → IsLineSoFar (bytes ++ b ∷ []) (BehindVars vars)
vars_end vars bytes b h begins =
    let a = begins.1 in (begins.0, a, ends_word bytes (codes "p" ∷ codes "cnf" ∷ []) begins.0 b a.some (digits_no_blank begins.0 a.all) h begins.2)

pub clauses_end : (vars clauses : ℕ) (bytes : List ℕ) (b : ℕ) → is_blank b ≡ true → IsLineSoFar bytes (Clauses vars clauses) → IsLineSoFar (bytes ++ b ∷ []) (BehindClauses vars clauses)
clauses_end vars clauses bytes b h begins =
    let a = begins.3 in
    (begins.0, begins.1, begins.2, a, ends_word bytes (codes "p" ∷ codes "cnf" ∷ begins.0 ∷ []) begins.1 b a.some (digits_no_blank begins.1 a.all) h begins.4)

-- numbers that begin, and go on
pub vars_begin : (bytes : List ℕ) (b : ℕ) → is_ascii_digit b ≡ true → IsLineSoFar bytes BehindCnf → IsLineSoFar (bytes ++ b ∷ []) (Vars (b - 48))
vars_begin bytes b d begins = (b ∷ [], one_digit b d, more_word bytes (codes "p" ∷ codes "cnf" ∷ []) [] b begins)

pub vars_more : (vars : ℕ) (bytes : List ℕ) (b : ℕ) → is_ascii_digit b ≡ true → IsLineSoFar bytes (Vars vars) → IsLineSoFar (bytes ++ b ∷ []) (Vars (min (10 * vars + (b - 48)) (2 ^ 32 - 1)))
vars_more vars bytes b d begins = (begins.0 ++ b ∷ [], digits_more begins.0 vars b d begins.1, more_word bytes (codes "p" ∷ codes "cnf" ∷ []) begins.0 b begins.2)

pub clauses_begin : (vars : ℕ) (bytes : List ℕ) (b : ℕ) → is_ascii_digit b ≡ true → IsLineSoFar bytes (BehindVars vars) → IsLineSoFar (bytes ++ b ∷ []) (Clauses vars (b - 48))
clauses_begin vars bytes b d begins = (begins.0, b ∷ [], begins.1, one_digit b d, more_word bytes (codes "p" ∷ codes "cnf" ∷ begins.0 ∷ []) [] b begins.2)

pub clauses_more : (vars clauses : ℕ) (bytes : List ℕ) (b : ℕ) → is_ascii_digit b ≡ true → IsLineSoFar bytes (Clauses vars clauses) → IsLineSoFar (bytes ++ b ∷ []) (Clauses vars (min (10 * clauses + (b - 48)) (2 ^ 32 - 1)))
clauses_more vars clauses bytes b d begins =
    (begins.0, begins.1 ++ b ∷ [], begins.2, digits_more begins.1 clauses b d begins.3, more_word bytes (codes "p" ∷ codes "cnf" ∷ begins.0 ∷ []) begins.1 b begins.4)

-- THE END OF THE LINE

whole_line : (bytes : List ℕ) (words : List Word) (word : List ℕ) → BeginsAs bytes words word → words_in bytes ≡ words ++ words_in word
whole_line bytes words word begins = ap words_in (sym (append-nil bytes)) ∙ begins [] ∙ ap (λ (bs : List ℕ). words ++ words_in bs) (append-nil word)

-- a line that states no numbers
pub states_none : (line : ProblemLine) → ((v c : ℕ) → line ≡ Clauses v c → ⊥) → ((v c : ℕ) → line ≡ BehindClauses v c → ⊥) → (bytes : List ℕ) → IsLineSoFar bytes line → stated_by (words_in bytes) ≡ None
states_none P n1 n2 bytes begins = ap stated_by (whole_line bytes [] (codes "p") begins)
states_none BehindP n1 n2 bytes begins = ap stated_by (whole_line bytes (codes "p" ∷ []) [] begins)
states_none C n1 n2 bytes begins = ap stated_by (whole_line bytes (codes "p" ∷ []) (codes "c") begins)
states_none Cn n1 n2 bytes begins = ap stated_by (whole_line bytes (codes "p" ∷ []) (codes "cn") begins)
states_none Cnf n1 n2 bytes begins = ap stated_by (whole_line bytes (codes "p" ∷ []) (codes "cnf") begins)
states_none BehindCnf n1 n2 bytes begins = ap stated_by (whole_line bytes (codes "p" ∷ codes "cnf" ∷ []) [] begins)
states_none (Vars v) n1 n2 bytes begins =
    let a = begins.1 in
    ap stated_by (whole_line bytes (codes "p" ∷ codes "cnf" ∷ []) begins.0 begins.2 ∙ ap (λ (ws : List Word). codes "p" ∷ codes "cnf" ∷ ws) (one_word begins.0 a.some (digits_no_blank begins.0 a.all)))
states_none (BehindVars v) n1 n2 bytes begins = ap stated_by (whole_line bytes (codes "p" ∷ codes "cnf" ∷ begins.0 ∷ []) [] begins.2)
states_none (Clauses v c) n1 n2 bytes begins = absurd (n1 v c refl)
states_none (BehindClauses v c) n1 n2 bytes begins = absurd (n2 v c refl)
states_none Other n1 n2 bytes wrong = ap (λ (bs : List ℕ). stated_by (words_in bs)) (sym (append-nil bytes)) ∙ wrong []

-- the numbers of a line, each as it stands or as 2^32 - 1 where it is more
pub record Capped (words : List Word) (vars clauses : ℕ) : Type 0 where
  pub v : ℕ
  pub c : ℕ
  pub stated : stated_by words ≡ Some (v, c)
  pub vars_is : vars ≡ min v (2 ^ 32 - 1)
  pub clauses_is : clauses ≡ min c (2 ^ 32 - 1)

four_words : (v c : List ℕ) (vars clauses : ℕ) → AreDigits v vars → AreDigits c clauses → Capped (codes "p" ∷ codes "cnf" ∷ v ∷ c ∷ []) vars clauses
four_words v c vars clauses a b = record {
  v = digits_value v;
  c = digits_value c;
  stated = ap (λ (o : Option ℕ). option_zip o (natural c)) (natural_is v a.some a.all) ∙ ap (option_zip (Some (digits_value v))) (natural_is c b.some b.all);
  vars_is = a.value_is;
  clauses_is = b.value_is;
}

pub clauses_capped : (vars clauses : ℕ) (bytes : List ℕ) → IsLineSoFar bytes (Clauses vars clauses) → Capped (words_in bytes) vars clauses
clauses_capped vars clauses bytes begins =
    let a = begins.3 in
    subst (λ (ws : List Word). Capped ws vars clauses)
    (sym (whole_line bytes (codes "p" ∷ codes "cnf" ∷ begins.0 ∷ []) begins.1 begins.4 ∙ ap (λ (ws : List Word). codes "p" ∷ codes "cnf" ∷ begins.0 ∷ ws) (one_word begins.1 a.some (digits_no_blank begins.1 a.all))))
    (four_words begins.0 begins.1 vars clauses begins.2 a)

pub behind_capped : (vars clauses : ℕ) (bytes : List ℕ) → IsLineSoFar bytes (BehindClauses vars clauses) → Capped (words_in bytes) vars clauses
behind_capped vars clauses bytes begins =
    subst (λ (ws : List Word). Capped ws vars clauses) (sym (whole_line bytes (codes "p" ∷ codes "cnf" ∷ begins.0 ∷ begins.1 ∷ []) [] begins.4))
    (four_words begins.0 begins.1 vars clauses begins.2 begins.3)

pub capped_within : (words : List Word) (vars clauses : ℕ) → Capped words vars clauses → vars ≤ max_vars → clauses ≤ max_clauses → stated_by words ≡ Some (vars, clauses)
capped_within words vars clauses h v c =
    let left = h.vars_is in
    let right = h.clauses_is in
    let a : h.v ≡ vars = omega (arith, left, v) in
    let b : h.c ≡ clauses = omega (arith, right, c) in
    h.stated ∙ ap (λ (n : ℕ). Some (n, h.c)) a ∙ ap (λ (n : ℕ). Some (vars, n)) b

pub capped_past : (words : List Word) (vars clauses : ℕ) → Capped words vars clauses → (max_vars < vars) ⊎ (max_clauses < clauses) → problem_line_kind (stated_by words) ≡ Some Limit
capped_past words vars clauses h past =
    ap problem_line_kind h.stated ∙ ap (λ (b : Bool). cond b (Some Limit) None) (elim past [
      | inl p ↦ let left = h.vars_is in let q : max_vars < h.v = omega (arith, left, p) in ap (λ (t : Bool). t || nat_lt max_clauses h.c) (lt-ltb max_vars h.v q)
      | inr p ↦ let right = h.clauses_is in let q : max_clauses < h.c = omega (arith, right, p) in ap (λ (t : Bool). nat_lt max_vars h.v || t) (lt-ltb max_clauses h.c q) ∙ or_true (nat_lt max_vars h.v)
    ])
  where
    or_true : (t : Bool) → (t || true) ≡ true
    or_true true = refl
    or_true false = refl
