-- Clauses whose literals stand one after another.
use Rattle.std.proofs.Common.{◌≡◌, ℕ, zero, suc, ◌+◌, ◌<◌, ◌≤◌, List, [], ◌∷◌, ◌++◌, length, get_or, take, drop, refl, sym, ◌∙◌, ap, subst, arith, length-take, length-append, ℤ, slice_range}
use Rattle.std.proofs.lemmas.List.{take-append-drop}
use Rattle.lk_model.specs.Held.Flat.{cut, AreEnds, begin_of}
use Rattle.lk_model.proofs.Cuts.{start_le, slice_range-append, cut_push, ends_push, length-cut}
use Rattle.watch_prop.specs.declared.clauses.Clauses.TheInside.{Inside}
use Rattle.watch_prop.specs.declared.entry.NumberedClause.{NumberedClause}
use Rattle.watch_prop.specs.Linked.{clause_at_place}
use Rattle.watch_prop.specs.HeldClauses.{numbered, clauses_seen, AreFlat}

-- NUMBERS AND LITERALS

length-numbered : (ns : List ℕ) (cs : List (List ℤ)) → length ns ≡ length cs → length (numbered ns cs) ≡ length ns
length-numbered [] cs e = refl
length-numbered (n ∷ ns) [] e = absurd (omega (arith, e))
length-numbered (n ∷ ns) (c ∷ cs) e = ap suc (length-numbered ns cs (omega (arith, e)))

numbered_at : (ns : List ℕ) (cs : List (List ℤ)) (k : ℕ) → length ns ≡ length cs → k < length ns
    → clause_at_place (numbered ns cs) k ≡ record { number = get_or ns k 0; lits = get_or cs k [] }
numbered_at [] cs k e lt = absurd (omega (arith, lt))
numbered_at (n ∷ ns) [] k e lt = absurd (omega (arith, e))
numbered_at (n ∷ ns) (c ∷ cs) zero e lt = refl
numbered_at (n ∷ ns) (c ∷ cs) (suc k) e lt = numbered_at ns cs k (omega (arith, e)) (omega (arith, lt))

numbered_push : (ns : List ℕ) (cs : List (List ℤ)) (n : ℕ) (c : List ℤ) → length ns ≡ length cs
    → numbered (ns ++ n ∷ []) (cs ++ c ∷ []) ≡ numbered ns cs ++ record { number = n; lits = c } ∷ []
numbered_push [] [] n c e = refl
numbered_push [] (d ∷ cs) n c e = absurd (omega (arith, e))
numbered_push (m ∷ ns) [] n c e = absurd (omega (arith, e))
numbered_push (m ∷ ns) (d ∷ cs) n c e = ap (λ (hs : List NumberedClause). record { number = m; lits = d } ∷ hs) (numbered_push ns cs n c (omega (arith, e)))

numbered_take : (k : ℕ) (ns : List ℕ) (cs : List (List ℤ)) → numbered (take k ns) (take k cs) ≡ take k (numbered ns cs)
numbered_take zero ns cs = refl
numbered_take (suc k) [] cs = refl
numbered_take (suc k) (n ∷ ns) [] = refl
numbered_take (suc k) (n ∷ ns) (c ∷ cs) = ap (λ (hs : List NumberedClause). record { number = n; lits = c } ∷ hs) (numbered_take k ns cs)

-- THE FIRST LISTS

cut_take : (k start : ℕ) (xs : List ℤ) (ends : List ℕ) → cut start xs (take k ends) ≡ take k (cut start xs ends)
cut_take zero start xs ends = refl
cut_take (suc k) start xs [] = refl
cut_take (suc k) start xs (end ∷ ends) = λ i. slice_range xs start end ∷ cut_take k end xs ends i

-- what stands after the last end does not matter
cut_more : (start : ℕ) (xs ys : List ℤ) (ends : List ℕ) → AreEnds start ends (length xs) → cut start (xs ++ ys) ends ≡ cut start xs ends
cut_more start xs ys [] e = refl
cut_more start xs ys (end ∷ ends) e = λ i. slice_range-append xs ys start end e.0 (start_le end ends (length xs) e.1) i ∷ cut_more end xs ys ends e.1 i

ends_take : (start : ℕ) (ends : List ℕ) (stop k : ℕ) → AreEnds start ends stop → k ≤ length ends → AreEnds start (take k ends) (begin_of start ends k)
ends_take start ends stop zero e le = refl
ends_take start [] stop (suc k) e le = absurd (omega (arith, le))
ends_take start (end ∷ ends) stop (suc zero) e le = (e.0, refl)
ends_take start (end ∷ ends) stop (suc (suc k)) e le = (e.0, ends_take end ends stop (suc k) e.1 (omega (arith, le)))

begin_within : (start : ℕ) (ends : List ℕ) (stop k : ℕ) → AreEnds start ends stop → k ≤ length ends → begin_of start ends k ≤ stop
begin_within start ends stop zero e le = start_le start ends stop e
begin_within start [] stop (suc k) e le = absurd (omega (arith, le))
begin_within start (end ∷ ends) stop (suc zero) e le = start_le end ends stop e.1
begin_within start (end ∷ ends) stop (suc (suc k)) e le = begin_within end ends stop (suc k) e.1 (omega (arith, le))

-- AS A LIST OF CLAUSES

pub held_length : (inside : Inside) (clauses : List NumberedClause) → clauses_seen inside ≡ clauses → AreFlat inside → length clauses ≡ length inside.ends.items
held_length inside clauses view flat =
    ap (λ (hs : List NumberedClause). length hs) (sym view)
    ∙ length-numbered inside.numbers.items (cut 0 inside.lits.items inside.ends.items) (flat.numbers ∙ sym (length-cut 0 inside.lits.items inside.ends.items)) ∙ flat.numbers

pub held_at : (inside : Inside) (clauses : List NumberedClause) (k : ℕ) → clauses_seen inside ≡ clauses → AreFlat inside → k < length clauses
    → clause_at_place clauses k ≡ record { number = get_or inside.numbers.items k 0; lits = get_or (cut 0 inside.lits.items inside.ends.items) k [] }
held_at inside clauses k view flat lt =
    ap (λ (hs : List NumberedClause). clause_at_place hs k) (sym view)
    ∙ numbered_at inside.numbers.items (cut 0 inside.lits.items inside.ends.items) k (flat.numbers ∙ sym (length-cut 0 inside.lits.items inside.ends.items))
    (let long = held_length inside clauses view flat in omega (arith, lt, long, flat.numbers))

-- with one clause more
pub held_push : (inside inside' : Inside) (clauses : List NumberedClause) (number : ℕ) (c : List ℤ) → clauses_seen inside ≡ clauses → AreFlat inside
    → inside'.numbers.items ≡ inside.numbers.items ++ number ∷ [] → inside'.lits.items ≡ inside.lits.items ++ c
    → inside'.ends.items ≡ inside.ends.items ++ (length inside.lits.items + length c) ∷ []
    → AreFlat inside' × (clauses_seen inside' ≡ clauses ++ record { number = number; lits = c } ∷ [])
held_push inside inside' clauses number c view flat numbers lits ends = (
  record {
    cuts = rw (ends, lits, length-append inside.lits.items c) (ends_push 0 inside.ends.items (length inside.lits.items) (length c) flat.cuts);
    numbers = rw (numbers, ends, length-append inside.numbers.items (number ∷ []), length-append inside.ends.items ((length inside.lits.items + length c) ∷ []), flat.numbers) refl;
  },
  rw (numbers, lits, ends, cut_push 0 inside.lits.items c inside.ends.items flat.cuts)
      (numbered_push inside.numbers.items (cut 0 inside.lits.items inside.ends.items) number c (flat.numbers ∙ sym (length-cut 0 inside.lits.items inside.ends.items))
      ∙ ap (λ (hs : List NumberedClause). hs ++ record { number = number; lits = c } ∷ []) view),
)

-- the first clauses
pub held_take : (inside inside' : Inside) (clauses : List NumberedClause) (k : ℕ) → clauses_seen inside ≡ clauses → AreFlat inside → k ≤ length clauses
    → inside'.numbers.items ≡ take k inside.numbers.items → inside'.lits.items ≡ take (begin_of 0 inside.ends.items k) inside.lits.items → inside'.ends.items ≡ take k inside.ends.items
    → AreFlat inside' × (clauses_seen inside' ≡ take k clauses)
held_take inside inside' clauses k view flat le numbers lits ends =
    let xs = inside.lits.items in
    let es = inside.ends.items in
    let b = begin_of 0 es k in
    let few : k ≤ length es = let long = held_length inside clauses view flat in omega (arith, le, long) in
    let low = begin_within 0 es (length xs) k flat.cuts few in
    let long : length (take b xs) ≡ b = let t = length-take b xs in omega (arith, t, low) in
    let cuts : AreEnds 0 (take k es) (length (take b xs)) = subst (λ (n : ℕ). AreEnds 0 (take k es) n) (sym long) (ends_take 0 es (length xs) k flat.cuts few) in
    let same : cut 0 (take b xs) (take k es) ≡ take k (cut 0 xs es) =
    sym (cut_more 0 (take b xs) (drop b xs) (take k es) cuts) ∙ ap (λ (ls : List ℤ). cut 0 ls (take k es)) (take-append-drop b xs) ∙ cut_take k 0 xs es in (
      record {
        cuts = rw (ends, lits) cuts;
        numbers = ap (λ (ns : List ℕ). length ns) numbers ∙ (let s = length-take k inside.numbers.items in let t = length-take k es in let u = flat.numbers in omega (arith, s, t, u))
            ∙ sym (ap (λ (ns : List ℕ). length ns) ends);
      },
      rw (numbers, lits, ends, same) (numbered_take k inside.numbers.items (cut 0 xs es) ∙ ap (take k) view),
    )
