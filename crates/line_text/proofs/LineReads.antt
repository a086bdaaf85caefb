-- A text beside the reader of its lines.
use Rattle.std.proofs.Common.{◌≡◌, ◌↔◌, ℕ, ◌+◌, ◌<◌, ◌≤◌, ◌∙◌, Bool, true, false, cond, ◌==◌, List, [], ◌∷◌, ◌++◌, length, take, drop, refl, sym, ap, subst, arith, append_assoc}
use Rattle.std.specs.Prelude.{slice_range}
use Rattle.std.specs.List.{concat}
use Rattle.std.proofs.lemmas.Bool.{not-true, and_from}
use Rattle.std.proofs.lemmas.List.{append-nil, length-append, length-take, take-append-le, take_at, take_all, take-append-drop}
use Rattle.std.proofs.lemmas.List.Folds.{list_all-append}
use Rattle.std.proofs.Math.Seq.{drop-length}
use Rattle.lk_model.specs.Lists.{is_empty}
use Rattle.lk_model.specs.Documents.Reading.{cut_lines, onto_first, GoesOnAs, StopsAs}
use Rattle.lk_model.proofs.Booleans.{and_true}
use Rattle.lk_text.specs.Cutting.{is_one_line, IsNextLine}
use Rattle.lk_text.specs.declared.cuts.Cut.{Cut}
use Rattle.line_text.specs.LineReading.{is_whole_line, are_whole_lines, Grammar, IsReadBy, IsAdmitted, CanComplete, LeadsOn, LeadsNowhere, TakesLine}
use Rattle.line_text.proofs.LineCuts.{cut_byte, cut_nothing, cut_next, cut_last}

-- WHOLE LINES

-- a line with its byte 10
pub whole_line : (content : List ℕ) → is_one_line content ≡ true → is_whole_line (content ++ 10 ∷ []) ≡ true
whole_line [] h = refl
whole_line (b ∷ bs) h =
    let p = and_true _ _ h in
    ap (λ (t : Bool). cond t (is_empty (bs ++ 10 ∷ [])) (is_whole_line (bs ++ 10 ∷ []))) (not-true (b == 10) p.0) ∙ whole_line bs p.1

-- and one without it
open_line : (content : List ℕ) → is_one_line content ≡ true → is_whole_line content ≡ false
open_line [] h = refl
open_line (b ∷ bs) h =
    let p = and_true _ _ h in
    ap (λ (t : Bool). cond t (is_empty bs) (is_whole_line bs)) (not-true (b == 10) p.0) ∙ open_line bs p.1

-- a whole line in front of a text
cut_whole : (line rest : List ℕ) → is_whole_line line ≡ true → cut_lines (line ++ rest) ≡ line ∷ cut_lines rest
unfolding cut_lines
cut_whole [] rest h = absurd (let f : ⊥ = cc in f)
cut_whole (b ∷ bs) rest h = by_byte (cut_whole bs rest) (b == 10) refl h
  where
    alone : (cs : List ℕ) → is_empty cs ≡ true → cs ≡ []
    alone [] e = refl
    alone (c ∷ cs) e = absurd (let f : ⊥ = cc in f)

    by_byte : (is_whole_line bs ≡ true → cut_lines (bs ++ rest) ≡ bs ∷ cut_lines rest) → (t : Bool) → (b == 10) ≡ t → cond t (is_empty bs) (is_whole_line bs) ≡ true → cut_lines (b ∷ bs ++ rest) ≡ (b ∷ bs) ∷ cut_lines rest
    by_byte later true e w =
        let none = alone bs w in
        ap (λ (s : Bool). cond s ((b ∷ []) ∷ cut_lines (bs ++ rest)) (onto_first b (cut_lines (bs ++ rest)))) e
        ∙ ap (λ (cs : List ℕ). (b ∷ []) ∷ cut_lines (cs ++ rest)) none
        ∙ ap (λ (cs : List ℕ). (b ∷ cs) ∷ cut_lines rest) (sym none)
    by_byte later false e w = cut_byte b (bs ++ rest) e ∙ ap (onto_first b) (later w)

-- whole lines in front of a text
pub cut_behind : (lines : List (List ℕ)) (rest : List ℕ) → are_whole_lines lines ≡ true → cut_lines (concat lines ++ rest) ≡ lines ++ cut_lines rest
cut_behind [] rest h = refl
cut_behind (line ∷ lines) rest h =
    let p = and_true (is_whole_line line) (are_whole_lines lines) h in
    ap cut_lines (append_assoc line (concat lines) rest) ∙ cut_whole line (concat lines ++ rest) p.0
    ∙ ap (λ (ls : List (List ℕ)). line ∷ ls) (cut_behind lines rest p.1)

-- A PLACE OF A TEXT

-- the lines before the place were taken, and led from what the reader was to what it is now
pub record IsAt {V : Type 0} (Start Now : Grammar V) (bytes : List ℕ) (at number : ℕ) : Type 0 where
  pub taken : List (List ℕ)
  pub whole : are_whole_lines taken ≡ true
  pub lines : cut_lines bytes ≡ taken ++ cut_lines (drop at bytes)
  pub count : length taken ≡ number
  pub same : (value : V) (more : List (List ℕ)) → Now value more ↔ Start value (taken ++ more)
  pub completed : CanComplete Now

-- one line more
pub at_next : {V : Type 0} (Start Now Next : Grammar V) (bytes : List ℕ) (at number : ℕ) (cut : Cut) → IsAt Start Now bytes at number → IsNextLine bytes at cut → cut.end < length bytes
    → LeadsOn Now Next (slice_range bytes cut.begin cut.end ++ 10 ∷ []) → IsAt Start Next bytes cut.next (number + 1)
at_next {V = V} Start Now Next bytes at number cut h c w on =
    let line = slice_range bytes cut.begin cut.end ++ 10 ∷ [] in
    let longer : (more : List (List ℕ)) → (h.taken ++ line ∷ []) ++ more ≡ h.taken ++ line ∷ more = λ more. append_assoc h.taken (line ∷ []) more in
    record {
      taken = h.taken ++ line ∷ [];
      whole = list_all-append is_whole_line h.taken (line ∷ [])
          ∙ and_from (are_whole_lines h.taken) (are_whole_lines (line ∷ [])) h.whole
          (and_from (is_whole_line line) true (whole_line (slice_range bytes cut.begin cut.end) c.one_line) refl);
      lines = h.lines ∙ ap (λ (ls : List (List ℕ)). h.taken ++ ls) (cut_next bytes at cut c w) ∙ sym (longer (cut_lines (drop cut.next bytes)));
      count = omega (arith, h.count, length-append h.taken (line ∷ []));
      same = λ value more. (
        λ x. subst (λ (ls : List (List ℕ)). Start value ls) (sym (longer more)) ((h.same value (line ∷ more)).0 ((on.same value more).0 x)),
        λ x. (on.same value more).1 ((h.same value (line ∷ more)).1 (subst (λ (ls : List (List ℕ)). Start value ls) (longer more) x)),
      );
      completed = on.completed;
    }

-- WHERE A TEXT STOPS

-- a text whose lines are those taken and some more
goes_as_far : {V : Type 0} (Start Now : Grammar V) (bytes : List ℕ) (at number : ℕ) → IsAt Start Now bytes at number → (k : ℕ) → k < number + 1 → GoesOnAs (IsAdmitted Start) bytes k
goes_as_far Start Now bytes at number h k lt =
    let more = h.completed.0 in
    let value = h.completed.1.0 in
    let read = h.completed.1.1 in
    let text = concat h.taken ++ more in
    let cut : cut_lines text ≡ h.taken ++ cut_lines more = cut_behind h.taken more h.whole in
    let within : k ≤ length h.taken = omega (arith, lt, h.count) in
    record {
      text = text;
      admitted = (
        value,
        record {
          whole = ap are_whole_lines cut ∙ list_all-append is_whole_line h.taken (cut_lines more)
              ∙ and_from (are_whole_lines h.taken) (are_whole_lines (cut_lines more)) h.whole read.whole;
          lines = subst (λ (ls : List (List ℕ)). Start value ls) (sym cut) ((h.same value (cut_lines more)).0 read.lines);
        },
      );
      same = ap (take k) h.lines ∙ take-append-le k h.taken (cut_lines (drop at bytes)) within
          ∙ sym (ap (take k) cut ∙ take-append-le k h.taken (cut_lines more) within);
    }

-- one element more than so many
taken_past : {X : Type 0} (xs ys rest : List X) (x : X) (n : ℕ) → length xs ≡ n → take (n + 1) (xs ++ x ∷ rest) ≡ take (n + 1) ys → ys ≡ xs ++ x ∷ drop (n + 1) ys
taken_past {X = X} xs ys rest x n size e =
    let longer : length (xs ++ x ∷ []) ≡ n + 1 = omega (arith, length-append xs (x ∷ []), size) in
    let front : take (n + 1) (xs ++ x ∷ rest) ≡ xs ++ x ∷ [] =
    ap (take (n + 1)) (sym (append_assoc xs (x ∷ []) rest)) ∙ take_at (xs ++ x ∷ []) rest (n + 1) longer in
    sym (take-append-drop (n + 1) ys)
    ∙ ap (λ (zs : List X). zs ++ drop (n + 1) ys) (sym e ∙ front)
    ∙ append_assoc xs (x ∷ []) (drop (n + 1) ys)

-- no element more than so many
taken_all : {X : Type 0} (xs ys : List X) (n : ℕ) → length xs ≡ n → take (n + 1) xs ≡ take (n + 1) ys → ys ≡ xs
taken_all xs ys n size e =
    let whole : take (n + 1) xs ≡ xs = take_all (n + 1) xs (omega (arith, size)) in
    let short : length ys ≤ n + 1 = omega (arith, length-take (n + 1) ys, ap length (sym e ∙ whole), size) in
    sym (take_all (n + 1) ys short) ∙ sym e ∙ whole

-- the lines of a text that begins like this one
next_of_text : {V : Type 0} (Start Now : Grammar V) (bytes : List ℕ) (at number : ℕ) (raw : List ℕ) (rest : List (List ℕ)) (h : IsAt Start Now bytes at number) → cut_lines (drop at bytes) ≡ raw ∷ rest
    → (g : GoesOnAs (IsAdmitted Start) bytes (number + 1)) → cut_lines g.text ≡ h.taken ++ raw ∷ drop (number + 1) (cut_lines g.text)
next_of_text Start Now bytes at number raw rest h cuts g =
    taken_past h.taken (cut_lines g.text) rest raw number h.count
    (sym (ap (take (number + 1)) (h.lines ∙ ap (λ (ls : List (List ℕ)). h.taken ++ ls) cuts)) ∙ g.same)

-- a line that may not come
pub stops_at_line : {V : Type 0} (Start Now : Grammar V) (bytes : List ℕ) (at number : ℕ) (cut : Cut) → IsAt Start Now bytes at number → IsNextLine bytes at cut → cut.end < length bytes
    → LeadsNowhere Now (slice_range bytes cut.begin cut.end ++ 10 ∷ []) → StopsAs (IsAdmitted Start) bytes (number + 1)
stops_at_line Start Now bytes at number cut h c w nowhere = record { stops = never; first = goes_as_far Start Now bytes at number h }
  where
    never : GoesOnAs (IsAdmitted Start) bytes (number + 1) → ⊥
    never g =
        let line = slice_range bytes cut.begin cut.end ++ 10 ∷ [] in
        let more = drop (number + 1) (cut_lines g.text) in
        let value = g.admitted.0 in
        let cuts = next_of_text Start Now bytes at number line (cut_lines (drop cut.next bytes)) h (cut_next bytes at cut c w) g in
        nowhere value more ((h.same value (line ∷ more)).1 (subst (λ (ls : List (List ℕ)). Start value ls) cuts g.admitted.1.lines))

-- a line without its end
pub stops_unended : {V : Type 0} (Start Now : Grammar V) (bytes : List ℕ) (at number : ℕ) (cut : Cut) → IsAt Start Now bytes at number → at < length bytes → IsNextLine bytes at cut → cut.end ≡ length bytes
    → StopsAs (IsAdmitted Start) bytes (number + 1)
stops_unended Start Now bytes at number cut h i c e = record { stops = never; first = goes_as_far Start Now bytes at number h }
  where
    never : GoesOnAs (IsAdmitted Start) bytes (number + 1) → ⊥
    never g =
        let line = slice_range bytes cut.begin cut.end in
        let more = drop (number + 1) (cut_lines g.text) in
        let cuts = next_of_text Start Now bytes at number line [] h (cut_last bytes at cut i c e) g in
        let parts = and_true (are_whole_lines h.taken) (are_whole_lines (line ∷ more))
        (sym (list_all-append is_whole_line h.taken (line ∷ more)) ∙ ap are_whole_lines (sym cuts) ∙ g.admitted.1.whole) in
        let whole = (and_true (is_whole_line line) (are_whole_lines more) parts.1).0 in
        let clash : false ≡ true = sym (open_line line c.one_line) ∙ whole in
        cc

-- where the text ends, its lines are those that were taken
lines_at_end : {V : Type 0} (Start Now : Grammar V) (bytes : List ℕ) (number : ℕ) (h : IsAt Start Now bytes (length bytes) number) → cut_lines bytes ≡ h.taken
lines_at_end Start Now bytes number h =
    h.lines ∙ ap (λ (bs : List ℕ). h.taken ++ cut_lines bs) (drop-length bytes)
    ∙ ap (λ (ls : List (List ℕ)). h.taken ++ ls) cut_nothing
    ∙ append-nil h.taken

-- an end that comes too early
stops_early : {V : Type 0} (Start Now : Grammar V) (bytes : List ℕ) (number : ℕ) → IsAt Start Now bytes (length bytes) number → ((value : V) → Now value [] → ⊥) → StopsAs (IsAdmitted Start) bytes (number + 1)
stops_early Start Now bytes number h none = record { stops = never; first = goes_as_far Start Now bytes (length bytes) number h }
  where
    never : GoesOnAs (IsAdmitted Start) bytes (number + 1) → ⊥
    never g =
        let value = g.admitted.0 in
        let all = taken_all h.taken (cut_lines g.text) number h.count (ap (take (number + 1)) (sym (lines_at_end Start Now bytes number h)) ∙ g.same) in
        none value ((h.same value []).1 (subst (λ (ls : List (List ℕ)). Start value ls) (all ∙ sym (append-nil h.taken)) g.admitted.1.lines))

-- a whole text
reads_whole : {V : Type 0} (Start Now : Grammar V) (bytes : List ℕ) (number : ℕ) (value : V) → IsAt Start Now bytes (length bytes) number → Now value [] → IsReadBy Start bytes value
reads_whole Start Now bytes number value h e =
    let all = lines_at_end Start Now bytes number h in
    record {
      whole = ap are_whole_lines all ∙ h.whole;
      lines = subst (λ (ls : List (List ℕ)). Start value ls) (append-nil h.taken ∙ sym all) ((h.same value []).0 e);
    }

-- WHAT BECAME OF A LINE

pub was_taken : {V : Type 0} (Before After : Grammar V) (line : List ℕ) (taken : Bool) → TakesLine Before After line taken → taken ≡ true → LeadsOn Before After (line ++ 10 ∷ [])
was_taken Before After line true h t = h
was_taken Before After line false h t = absurd (let f : ⊥ = cc in f)

pub was_refused : {V : Type 0} (Before After : Grammar V) (line : List ℕ) (taken : Bool) → TakesLine Before After line taken → taken ≡ false → LeadsNowhere Before (line ++ 10 ∷ [])
was_refused Before After line true h t = absurd (let f : ⊥ = cc in f)
was_refused Before After line false h t = h

-- THE END OF A TEXT

pub ends_whole : {V : Type 0} (Start Now : Grammar V) (bytes : List ℕ) (at number : ℕ) (value : V) → IsAt Start Now bytes at number → at ≡ length bytes → Now value [] → IsReadBy Start bytes value
ends_whole Start Now bytes at number value h e is = reads_whole Start Now bytes number value (subst (λ (n : ℕ). IsAt Start Now bytes n number) e h) is

pub ends_early : {V : Type 0} (Start Now : Grammar V) (bytes : List ℕ) (at number : ℕ) → IsAt Start Now bytes at number → at ≡ length bytes → ((value : V) → Now value [] → ⊥) → StopsAs (IsAdmitted Start) bytes (number + 1)
ends_early Start Now bytes at number h e none = stops_early Start Now bytes number (subst (λ (n : ℕ). IsAt Start Now bytes n number) e h) none
