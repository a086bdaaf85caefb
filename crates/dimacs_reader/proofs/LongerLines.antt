-- A line that goes on after the first bytes of a text, and its words.
use Rattle.std.proofs.Common.{◌≡◌, ◌⊎◌, ℕ, ◌+◌, ◌-◌, ◌<◌, ◌≤◌, not, cond, ◌==◌, List, [], ◌∷◌, ◌++◌, length, Option, None, refl, sym, ◌∙◌, ap, subst, arith, inl, inr, length-append}
use Rattle.std.specs.Prelude.{filter}
use Rattle.std.specs.List.{slice_split}
use Rattle.lk_model.specs.Lists.{is_empty}
use Rattle.lk_model.specs.Texts.Lines.{Piece, is_blank, placed_after, words_of}
use Rattle.lk_model.specs.Texts.Fault.{word_faults}
use Rattle.lk_model.specs.declared.text_fault.Fault.{Fault}
use Rattle.dimacs_reader.specs.LineKinds.{Skipped, EndMark, Problem, Numbers, kind_by}
use Rattle.dimacs_reader.specs.FirstFaults.{first_or, fault_among}
use Rattle.dimacs_reader.proofs.Least.{At}
use Rattle.dimacs_reader.proofs.Placing.{AreWords, room, room_split, placed, not_empty_words}
use Rattle.dimacs_reader.proofs.WordFaults.{word_at}
use Rattle.dimacs_reader.proofs.Cuts.{piece, words_of_line}
use Rattle.dimacs_reader.proofs.NumberLemmas.{glue, split_part, split-append}
use Rattle.dimacs_reader.proofs.LateFaults.{within, late_fault}

-- WORDS

-- the pieces that are not empty, as words after so many bytes
abbrev words_at : ℕ → List (List ℕ) → List Piece
words_at n parts = filter (λ word. not (is_empty word.bytes)) (placed_after n parts)

-- faults at one late place, and a late fault after them
late_or : (k place : ℕ) (fs : List Fault) (o : Option Fault) → k < place → At place fs → within k o ≡ None → within k (first_or fs o) ≡ None
late_or k place [] o h a e = e
late_or k place (f ∷ fs) o h a e = let b = a.0 in late_fault k f (omega (arith, h, b))

-- the same faults before two that agree
same_or : (k : ℕ) (fs : List Fault) (a b : Option Fault) → within k a ≡ within k b → within k (first_or fs a) ≡ within k (first_or fs b)
same_or k [] a b e = e
same_or k (f ∷ fs) a b e = refl

-- words that end after the first k bytes
late_words : (k vars clauses n : ℕ) (run : List ℕ) (parts : List (List ℕ)) (earlier : List Piece) → k < n + length run
    → within k (fault_among vars clauses earlier (words_at n (run ∷ parts))) ≡ None
late_words k vars clauses n [] [] earlier h = refl
late_words k vars clauses n [] (next ∷ parts) earlier h = late_words k vars clauses (n + 0 + 1) next parts earlier (omega (arith, h))
late_words k vars clauses n (b ∷ bs) [] earlier h =
    let word = piece (b ∷ bs) (n + length (b ∷ bs)) in late_or k word.last (word_faults vars clauses (earlier, word)) None h (word_at vars clauses earlier word) refl
late_words k vars clauses n (b ∷ bs) (next ∷ parts) earlier h =
    let word = piece (b ∷ bs) (n + length (b ∷ bs)) in
    let last = n + length (b ∷ bs) + 1 in
    late_or k word.last (word_faults vars clauses (earlier, word)) (fault_among vars clauses (earlier ++ word ∷ []) (words_at last (next ∷ parts))) h (word_at vars clauses earlier word)
    (late_words k vars clauses last next parts (earlier ++ word ∷ []) (omega (arith, h)))

-- the first fault of words, where the last of them goes on
same_words : (k vars clauses n : ℕ) (parts : List (List ℕ)) (first : List ℕ) (later : List (List ℕ)) (earlier : List Piece) → k + 1 < n + room parts
    → within k (fault_among vars clauses earlier (words_at n (glue parts (first ∷ later)))) ≡ within k (fault_among vars clauses earlier (words_at n parts))
unfolding glue
same_words k vars clauses n [] first later earlier h = late_words k vars clauses n first later earlier (omega (arith, h))
same_words k vars clauses n (run ∷ []) first later earlier h =
    late_words k vars clauses n (run ++ first) later earlier (omega (arith, h, length-append run first))
    ∙ sym (late_words k vars clauses n run [] earlier (omega (arith, h)))
same_words k vars clauses n ([] ∷ next ∷ parts) first later earlier h = same_words k vars clauses (n + 0 + 1) (next ∷ parts) first later earlier (omega (arith, h))
same_words k vars clauses n ((b ∷ bs) ∷ next ∷ parts) first later earlier h =
    let word = piece (b ∷ bs) (n + length (b ∷ bs)) in
    let last = n + length (b ∷ bs) + 1 in
    same_or k (word_faults vars clauses (earlier, word)) (fault_among vars clauses (earlier ++ word ∷ []) (words_at last (glue (next ∷ parts) (first ∷ later))))
    (fault_among vars clauses (earlier ++ word ∷ []) (words_at last (next ∷ parts)))
    (same_words k vars clauses last (next ∷ parts) first later (earlier ++ word ∷ []) (omega (arith, h)))

-- the kinds of lines with these words are the same, or the first line has no word and the words of the second one are late
abbrev pub HaveSameKind : ℕ → List Piece → List Piece → ℕ → Type 0
HaveSameKind k words words2 end = (kind_by words2 ≡ kind_by words) ⊎ ((words ≡ []) × AreWords k words2 end)

-- the kind of a line that goes on
kinds : (k n end : ℕ) (parts : List (List ℕ)) (first : List ℕ) (later : List (List ℕ)) → k + 1 < n + room parts → n + room (glue parts (first ∷ later)) ≤ end + 1
    → HaveSameKind k (words_at n parts) (words_at n (glue parts (first ∷ later))) end
unfolding glue
kinds k n end [] first later h o =
    inr (refl, not_empty_words k (placed_after n (first ∷ later)) end (placed k n (first ∷ later) end (omega (arith, h)) (omega (arith, h, o)) o))
kinds k n end ([] ∷ []) first later h o =
    inr (refl, not_empty_words k (placed_after n (first ∷ later)) end (placed k n (first ∷ later) end (omega (arith, h)) (omega (arith, h, o)) o))
kinds k n end ((b ∷ bs) ∷ []) first later h o =
    let place : n + length (b ∷ bs ++ first) + 1 - length (b ∷ bs ++ first) ≡ n + length (b ∷ bs) + 1 - length (b ∷ bs) = omega arith in
    inl (ap (λ (m : ℕ). cond (b == 37) (EndMark m) (cond (b == 99) Skipped (cond (b == 112) (Problem m) (Numbers m)))) place)
kinds k n end ([] ∷ next ∷ parts) first later h o = kinds k (n + 0 + 1) end (next ∷ parts) first later (omega (arith, h)) (omega (arith, o))
kinds k n end ((b ∷ bs) ∷ next ∷ parts) first later h o = inl refl

-- LINES

-- A line with some words goes on as one with others: its kind and the first fault of its words are the same, but for late ones.
pub record GoesOn (k : ℕ) (words words2 : List Piece) (end : ℕ) : Type 0 where
  pub kind : HaveSameKind k words words2 end
  pub same : (vars clauses : ℕ) (earlier : List Piece) → within k (fault_among vars clauses earlier words2) ≡ within k (fault_among vars clauses earlier words)

-- a line that ends after the first k bytes, where more bytes follow
pub line_goes_on : (k n : ℕ) (run first : List ℕ) → k < n + length run
    → GoesOn k (words_of (piece run (n + length run))) (words_of (piece (run ++ first) (n + length (run ++ first)))) (n + length (run ++ first))
line_goes_on k n run first h =
    let end = n + length (run ++ first) in
    let parts = slice_split is_blank run in
    let o = split_part is_blank first in
    let joined : slice_split is_blank (run ++ first) ≡ glue parts (o.0 ∷ o.1) = split-append is_blank run first ∙ ap (glue parts) o.2 in
    let room1 = room_split is_blank run in
    let room2 = room_split is_blank (run ++ first) in
    let room3 = ap room joined in
    let words2 : words_of (piece (run ++ first) end) ≡ words_at n (glue parts (o.0 ∷ o.1)) = words_of_line n (run ++ first) ∙ ap (words_at n) joined in
    let both : GoesOn k (words_at n parts) (words_at n (glue parts (o.0 ∷ o.1))) end = record {
      kind = kinds k n end parts o.0 o.1 (omega (arith, h, room1)) (omega (arith, room2, room3));
      same = λ vars clauses earlier. same_words k vars clauses n parts o.0 o.1 earlier (omega (arith, h, room1));
    } in
    subst (λ (ws : List Piece). GoesOn k ws (words_of (piece (run ++ first) end)) end) (sym (words_of_line n run))
    (subst (λ (ws : List Piece). GoesOn k (words_at n parts) ws end) (sym words2) both)
