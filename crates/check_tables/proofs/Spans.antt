-- What is found first in ranges that are cut from the places 1 to n.
use Rattle.std.proofs.Common.{◌≡◌, ◌∙◌, ℕ, zero, suc, ◌+◌, ◌-◌, ◌<◌, ◌≤◌, Bool, List, [], ◌∷◌, ◌++◌, length, get_or, true, false, refl, sym, ap, arith, Option, Some, None, Ok, Err}
use Rattle.std.specs.Prelude.{IfOk, find}
use Rattle.std.specs.List.{range_with_len}
use Rattle.std.specs.Option.{option_or}
use Rattle.std.proofs.lemmas.Result.{IfOk-weaker}
use Rattle.std.proofs.lemmas.List.Folds.{find-append}
use Rattle.lk_model.specs.Lists.{up_to}
use Rattle.check_tables.specs.declared.places.Span.{Span}
use Rattle.check_tables.specs.Places.{Answer, AreCut, places_in}
use Rattle.check_places.specs.FirstAnswers.{first_answer}

-- THE RANGES

-- a range of numbers is its front and its back
range_append : (a m n k : ℕ) → k ≡ m + n → range_with_len a k ≡ range_with_len a m ++ range_with_len (a + m) n
range_append a zero n k e =
    let from : a ≡ a + zero = omega arith in
    let count : k ≡ n = omega (arith, e) in
    λ i. range_with_len (from i) (count i)
range_append a (suc m) n zero e = absurd (omega (arith, e))
range_append a (suc m) n (suc k) e =
    let at : a + 1 + m ≡ a + suc m = omega arith in
    ap (λ (ps : List ℕ). a ∷ ps) (range_append (a + 1) m n k (omega (arith, e))) ∙ ap (λ (s : ℕ). a ∷ (range_with_len (a + 1) m ++ range_with_len s n)) at

-- what a range finds is what its front finds, or else its back
find_in : (by : ℕ → Bool) (a m n k : ℕ) → k ≡ m + n → find by (range_with_len a k) ≡ option_or (find by (range_with_len a m)) (find by (range_with_len (a + m) n))
find_in by a m n k e = ap (find by) (range_append a m n k e) ∙ find-append by (range_with_len a m) (range_with_len (a + m) n)

-- a place that the test passes over
pub none_at_more : (by : ℕ → Bool) (a p : ℕ) → a ≤ p → find by (range_with_len a (p - a)) ≡ None → by p ≡ false → find by (range_with_len a (p + 1 - a)) ≡ None
none_at_more by a p low none out =
    let at : a + (p - a) ≡ p = omega (arith, low) in
    find_in by a (p - a) 1 (p + 1 - a) (omega (arith, low)) ∙ rw (none, at, out) refl

-- the first place that passes
pub first_in : (by : ℕ → Bool) (a n p : ℕ) → a ≤ p → p < a + n → find by (range_with_len a (p - a)) ≡ None → by p ≡ true → Some p ≡ find by (range_with_len a n)
first_in by a n p low high none pass =
    let at : a + (p - a) ≡ p = omega (arith, low) in
    sym (find_in by a (p - a) (suc (a + n - p - 1)) n (omega (arith, low, high)) ∙ rw (none, at, pass) refl)

-- they end where the places end
cut_end : (first n : ℕ) (spans : List Span) → AreCut first n spans → first ≤ n + 1
cut_end first n [] cut = omega (arith, cut)
cut_end first n (span ∷ spans) cut = let more = cut_end (first + span.count) n spans cut.1 in omega (arith, more)

-- and each lies within them
pub cut_within : (first n : ℕ) (spans : List Span) (i : ℕ) (d : Span) → AreCut first n spans → i < length spans
    → (first ≤ (get_or spans i d).first) × ((get_or spans i d).first + (get_or spans i d).count ≤ n + 1)
cut_within first n [] i d cut inside = absurd (omega (arith, inside))
cut_within first n (span ∷ spans) zero d cut inside = let more = cut_end (first + span.count) n spans cut.1 in (omega (arith, cut.0), omega (arith, cut.0, more))
cut_within first n (span ∷ spans) (suc i) d cut inside = let more = cut_within (first + span.count) n spans i d cut.1 (omega (arith, inside)) in (omega (arith, more.0), more.1)

-- one range more
pub cut_more : (first done n count : ℕ) (spans : List Span) (span : Span) → AreCut first done spans → span.first ≡ done + 1 → span.count ≡ count → AreCut first (done + count) (spans ++ span ∷ [])
cut_more first done n count [] span cut at many = (omega (arith, cut, at), omega (arith, cut, many))
cut_more first done n count (s ∷ spans) span cut at many = (cut.0, cut_more (first + s.count) done n count spans span cut.1 at many)

-- THE ANSWERS

-- the first of all answers tells the first place of all ranges
pub first_of_all : (by : ℕ → Bool) (first n : ℕ) (spans : List Span) (rs : List Answer) → AreCut first n spans → length rs ≡ length spans
    → ((i : ℕ) (d : Span) (r : Answer) → i < length spans → IfOk (get_or rs i r) (λ place. place ≡ find by (places_in (get_or spans i d))))
    → IfOk (first_answer rs) (λ place. place ≡ find by (range_with_len first (n + 1 - first)))
first_of_all by first n [] [] cut len found = let none : 0 ≡ n + 1 - first = omega (arith, cut) in ap (λ (k : ℕ). find by (range_with_len first k)) none
first_of_all by first n [] (r ∷ rs) cut len found = absurd (omega (arith, len))
first_of_all by first n (span ∷ spans) [] cut len found = absurd (omega (arith, len))
first_of_all by first n (span ∷ spans) (r ∷ rs) cut len found =
    at_first r (found 0 span r (omega arith))
    (first_of_all by (first + span.count) n spans rs cut.1 (omega (arith, len)) (λ i d s inside. found (suc i) d s (omega (arith, inside))))
  where
    whole : find by (range_with_len first (n + 1 - first)) ≡ option_or (find by (range_with_len first span.count)) (find by (range_with_len (first + span.count) (n + 1 - (first + span.count))))
    whole =
        let end = cut_end (first + span.count) n spans cut.1 in
        find_in by first span.count (n + 1 - (first + span.count)) (n + 1 - first) (omega (arith, end))

    here : (o : Option ℕ) → o ≡ find by (places_in span) → o ≡ find by (range_with_len first span.count)
    here o e = e ∙ ap (λ (a : ℕ). find by (range_with_len a span.count)) cut.0

    at_first : (s : Answer) → IfOk s (λ place. place ≡ find by (places_in span)) → IfOk (first_answer rs) (λ place. place ≡ find by (range_with_len (first + span.count) (n + 1 - (first + span.count))))
        → IfOk (first_answer (s ∷ rs)) (λ place. place ≡ find by (range_with_len first (n + 1 - first)))
    at_first (Err e) f rest = tt
    at_first (Ok (Some p)) f rest = sym (whole ∙ ap (λ (o : Option ℕ). option_or o (find by (range_with_len (first + span.count) (n + 1 - (first + span.count))))) (sym (here (Some p) f)))
    at_first (Ok None) f rest = IfOk-weaker (first_answer rs) _ _
        (λ o e. e ∙ sym (whole ∙ ap (λ (x : Option ℕ). option_or x (find by (range_with_len (first + span.count) (n + 1 - (first + span.count))))) (sym (here None f)))) rest

-- the place of a check, from what is found first
pub place_told : (by : ℕ → Bool) (n m : ℕ) (r : Answer) (place : Option ℕ) → n ≡ m → find by (up_to m) ≡ place → IfOk r (λ found. found ≡ find by (up_to n)) → IfOk r (λ found. found ≡ place)
place_told by n m r place same is = IfOk-weaker r (λ found. found ≡ find by (up_to n)) (λ found. found ≡ place) (λ found e. e ∙ ap (λ (k : ℕ). find by (up_to k)) same ∙ is)
