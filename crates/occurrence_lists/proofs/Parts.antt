-- Lists of numbers that stand one after another, and how they are filled.
use Rattle.std.proofs.Common.{◌≡◌, ℕ, zero, suc, ◌+◌, ◌-◌, ◌<◌, ◌≤◌, ◌∙◌, List, [], ◌∷◌, ◌++◌, length, get_or, map, set, take, subst, refl, sym, ap, arith}
use Rattle.std.specs.Prelude.{slice_range, sum}
use Rattle.std.proofs.lemmas.List.{length-set, map_more, take_all, take_more}
use Rattle.std.proofs.lemmas.List.Sums.{sum_by-cons, sum_by_more}
use Rattle.lk_model.specs.Held.Flat.{AreEnds, begin_of}
use Rattle.lk_model.proofs.Cuts.{begin_le}
use Rattle.lk_model.specs.Limits.{max_literals}
use Rattle.occurrence_lists.specs.Parts.{cut, begun, sizes_of, AreWithin, IsFilling, Filled, placed}
use Rattle.occurrence_lists.proofs.Ranges.{range_length, range_none, range_before, range_behind, range_more, range_split}

-- LISTS THAT ARE CUT

pub length-cut : (start : ℕ) (ps ends : List ℕ) → length (cut start ps ends) ≡ length ends
length-cut start ps [] = refl
length-cut start ps (end ∷ ends) = ap suc (length-cut end ps ends)

pub cut_at : (start : ℕ) (ps ends : List ℕ) (k : ℕ) → k < length ends → get_or (cut start ps ends) k [] ≡ slice_range ps (begin_of start ends k) (get_or ends k 0)
cut_at start ps [] k h = absurd (omega (arith, h))
cut_at start ps (end ∷ ends) zero h = refl
cut_at start ps (end ∷ ends) (suc zero) h = cut_at end ps ends zero (omega (arith, h))
cut_at start ps (end ∷ ends) (suc (suc k)) h = cut_at end ps ends (suc k) (omega (arith, h))

-- the next list ends after
pub next_end : (ends : List ℕ) (stop k : ℕ) → AreEnds 0 ends stop → k + 1 < length ends → get_or ends k 0 ≤ get_or ends (k + 1) 0
next_end ends stop k e h =
    let one : k + 1 ≡ suc k = omega arith in
    let next : begin_of 0 ends (k + 1) ≡ get_or ends k 0 = ap (begin_of 0 ends) one in
    omega (arith, next, begin_le 0 ends stop (k + 1) e h)

-- a list and the next one
pub cut_two : (ps ends : List ℕ) (k : ℕ) → AreEnds 0 ends (length ps) → k + 1 < length ends → begin_of 0 ends k ≤ get_or ends k 0 → get_or ends k 0 ≤ get_or ends (k + 1) 0
    → slice_range ps (begin_of 0 ends k) (get_or ends (k + 1) 0) ≡ get_or (cut 0 ps ends) k [] ++ get_or (cut 0 ps ends) (k + 1) []
cut_two ps ends k e h low high =
    let next : begin_of 0 ends (k + 1) ≡ get_or ends k 0 = let one : k + 1 ≡ suc k = omega arith in ap (begin_of 0 ends) one in
    let here = cut_at 0 ps ends k (omega (arith, h)) in
    let there = cut_at 0 ps ends (k + 1) h ∙ ap (λ (b : ℕ). slice_range ps b (get_or ends (k + 1) 0)) next in
    range_split ps (begin_of 0 ends k) (get_or ends k 0) (get_or ends (k + 1) 0) low high
    ∙ ap (λ (us : List ℕ). us ++ slice_range ps (get_or ends k 0) (get_or ends (k + 1) 0)) (sym here)
    ∙ ap (λ (us : List ℕ). get_or (cut 0 ps ends) k [] ++ us) (sym there)

-- there are as many lists as ends
pub lists_kept : (ps ends : List ℕ) (lists : List (List ℕ)) → cut 0 ps ends ≡ lists → length lists ≡ length ends
lists_kept ps ends lists view = ap (λ (ls : List (List ℕ)). length ls) (sym view) ∙ length-cut 0 ps ends

-- the length of one list more
pub counts_next : (ps ends : List ℕ) (lists : List (List ℕ)) (ns : List ℕ) (n k : ℕ) → cut 0 ps ends ≡ lists → k < length ends → ns ≡ map (λ (us : List ℕ). length us) (take k lists) → n ≡ length (get_or (cut 0 ps ends) k [])
    → ns ++ n ∷ [] ≡ map (λ (us : List ℕ). length us) (take (k + 1) lists)
counts_next ps ends lists ns n k view lt is count =
    let within : k < length lists = omega (arith, lists_kept ps ends lists view, lt) in
    let here : n ≡ length (get_or lists k []) = count ∙ ap (λ (ls : List (List ℕ)). length (get_or ls k [])) view in
    ap (λ (us : List ℕ). us ++ n ∷ []) is ∙ ap (λ (m : ℕ). map (λ (us : List ℕ). length us) (take k lists) ++ m ∷ []) here
    ∙ sym (map_more (λ (us : List ℕ). length us) lists k [] within)

-- LISTS THAT ARE BEING FILLED

pub within_le : (start : ℕ) (ends ats : List ℕ) (stop : ℕ) → AreWithin start ends ats stop → start ≤ stop
within_le start [] [] stop w = omega (arith, w)
within_le start [] (at ∷ ats) stop w = absurd w
within_le start (end ∷ ends) [] stop w = absurd w
within_le start (end ∷ ends) (at ∷ ats) stop w = omega (arith, w.0, w.1, within_le end ends ats stop w.2)

-- where a list goes on
pub within_low : (start : ℕ) (ends ats : List ℕ) (stop k : ℕ) → AreWithin start ends ats stop → k < length ends → start ≤ get_or ats k 0
within_low start [] ats stop k w h = absurd (omega (arith, h))
within_low start (end ∷ ends) [] stop k w h = absurd w
within_low start (end ∷ ends) (at ∷ ats) stop zero w h = w.0
within_low start (end ∷ ends) (at ∷ ats) stop (suc k) w h = omega (arith, w.0, w.1, within_low end ends ats stop k w.2 (omega (arith, h)))

pub length-ats : (start : ℕ) (ends ats : List ℕ) (stop : ℕ) → AreWithin start ends ats stop → length ats ≡ length ends
length-ats start [] [] stop w = refl
length-ats start [] (at ∷ ats) stop w = absurd w
length-ats start (end ∷ ends) [] stop w = absurd w
length-ats start (end ∷ ends) (at ∷ ats) stop w = ap suc (length-ats end ends ats stop w.2)

-- a list that has not its size yet
pub record HasRoom (ends ats : List ℕ) (stop k : ℕ) : Type 0 where
  pub list : k < length ends
  pub below : get_or ats k 0 < get_or ends k 0
  pub within : get_or ends k 0 ≤ stop

pub has_room : (start : ℕ) (ps ends ats : List ℕ) (stop k : ℕ) → AreWithin start ends ats stop → stop ≤ length ps → length (get_or (begun start ps ends ats) k []) < get_or (sizes_of start ends) k 0 → HasRoom ends ats stop k
has_room start ps [] ats stop k w h room = absurd (omega (arith, room))
has_room start ps (end ∷ ends) [] stop k w h room = absurd w
has_room start ps (end ∷ ends) (at ∷ ats) stop zero w h room =
    let high = within_le end ends ats stop w.2 in
    let size = range_length ps start at (omega (arith, w.1, high, h)) in
    record { list = omega arith; below = omega (arith, room, size, w.0, w.1); within = high }
has_room start ps (end ∷ ends) (at ∷ ats) stop (suc k) w h room =
    let r = has_room end ps ends ats stop k w.2 h room in
    record { list = omega (arith, r.list); below = r.below; within = r.within }

-- a number before the lists
begun_before : (start : ℕ) (ps ends ats : List ℕ) (stop i p : ℕ) → AreWithin start ends ats stop → i < start → begun start (set ps i p) ends ats ≡ begun start ps ends ats
begun_before start ps [] ats stop i p w h = refl
begun_before start ps (end ∷ ends) [] stop i p w h = refl
begun_before start ps (end ∷ ends) (at ∷ ats) stop i p w h =
    λ j. range_before ps start at i p h j ∷ begun_before end ps ends ats stop i p w.2 (omega (arith, w.0, w.1, h)) j

-- one more number in a list
pub begun_more : (start : ℕ) (ps ends ats : List ℕ) (stop k p : ℕ) → AreWithin start ends ats stop → stop ≤ length ps → HasRoom ends ats stop k
    → begun start (set ps (get_or ats k 0) p) ends (set ats k (get_or ats k 0 + 1)) ≡ set (begun start ps ends ats) k (get_or (begun start ps ends ats) k [] ++ p ∷ [])
begun_more start ps [] ats stop k p w h r = absurd (let list = r.list in omega (arith, list))
begun_more start ps (end ∷ ends) [] stop k p w h r = absurd w
begun_more start ps (end ∷ ends) (at ∷ ats) stop zero p w h r =
    λ j. range_more ps start at p w.0 (omega (arith, r.below, r.within, h)) j ∷ begun_before end ps ends ats stop at p w.2 r.below j
begun_more start ps (end ∷ ends) (at ∷ ats) stop (suc k) p w h r =
    let list : k < length ends = omega (arith, r.list) in
    let low : at ≤ get_or ats k 0 = omega (arith, w.1, within_low end ends ats stop k w.2 list) in
    let rest : HasRoom ends ats stop k = record { list = list; below = r.below; within = r.within } in
    λ j. range_behind ps start at (get_or ats k 0) p w.0 low j ∷ begun_more end ps ends ats stop k p w.2 h rest j

pub within_more : (start : ℕ) (ends ats : List ℕ) (stop k : ℕ) → AreWithin start ends ats stop → get_or ats k 0 < get_or ends k 0 → AreWithin start ends (set ats k (get_or ats k 0 + 1)) stop
within_more start [] [] stop k w h = w
within_more start [] (at ∷ ats) stop k w h = absurd w
within_more start (end ∷ ends) [] stop k w h = absurd w
within_more start (end ∷ ends) (at ∷ ats) stop zero w h = (omega (arith, w.0), omega (arith, h), w.2)
within_more start (end ∷ ends) (at ∷ ats) stop (suc k) w h = (w.0, w.1, within_more end ends ats stop k w.2 h)

-- LISTS THAT HAVE THEIR SIZES

pub ends_of : (start : ℕ) (ends ats : List ℕ) (stop : ℕ) → AreWithin start ends ats stop → AreEnds start ends stop
ends_of start [] [] stop w = w
ends_of start [] (at ∷ ats) stop w = absurd w
ends_of start (end ∷ ends) [] stop w = absurd w
ends_of start (end ∷ ends) (at ∷ ats) stop w = (omega (arith, w.0, w.1), ends_of end ends ats stop w.2)

pub filled : (start : ℕ) (ps ends ats : List ℕ) (stop : ℕ) → AreWithin start ends ats stop → stop ≤ length ps → ((k : ℕ) → length (get_or (begun start ps ends ats) k []) ≡ get_or (sizes_of start ends) k 0)
    → cut start ps ends ≡ begun start ps ends ats
filled start ps [] ats stop w h full = refl
filled start ps (end ∷ ends) [] stop w h full = absurd w
filled start ps (end ∷ ends) (at ∷ ats) stop w h full =
    let high = within_le end ends ats stop w.2 in
    let size = range_length ps start at (omega (arith, w.1, high, h)) in
    let same : end ≡ at = omega (arith, full 0, size, w.0, w.1) in
    λ j. slice_range ps start (same j) ∷ filled end ps ends ats stop w.2 h (λ k. full (suc k)) j

-- LISTS THAT ARE BEGUN

-- where lists of these sizes end and begin
abbrev pub ends_from : ℕ → List ℕ → List ℕ
ends_from start [] = []
ends_from start (n ∷ ns) = (start + n) ∷ ends_from (start + n) ns

abbrev pub begins_from : ℕ → List ℕ → List ℕ
begins_from start [] = []
begins_from start (n ∷ ns) = start ∷ begins_from (start + n) ns

ends_from_push : (start : ℕ) (ns : List ℕ) (n : ℕ) → ends_from start (ns ++ n ∷ []) ≡ ends_from start ns ++ (start + sum ns + n) ∷ []
ends_from_push start [] n = let e : start + n ≡ start + sum [] + n = omega arith in ap (λ (m : ℕ). m ∷ []) e
ends_from_push start (x ∷ ns) n =
    let e : (start + x) + sum ns + n ≡ start + sum (x ∷ ns) + n = omega (arith, sum_by-cons (λ (m : ℕ). m) x ns) in
    ap (λ (us : List ℕ). (start + x) ∷ us) (ends_from_push (start + x) ns n ∙ ap (λ (m : ℕ). ends_from (start + x) ns ++ m ∷ []) e)

begins_from_push : (start : ℕ) (ns : List ℕ) (n : ℕ) → begins_from start (ns ++ n ∷ []) ≡ begins_from start ns ++ (start + sum ns) ∷ []
begins_from_push start [] n = let e : start ≡ start + sum [] = omega arith in ap (λ (m : ℕ). m ∷ []) e
begins_from_push start (x ∷ ns) n =
    let e : (start + x) + sum ns ≡ start + sum (x ∷ ns) = omega (arith, sum_by-cons (λ (m : ℕ). m) x ns) in
    ap (λ (us : List ℕ). start ∷ us) (begins_from_push (start + x) ns n ∙ ap (λ (m : ℕ). begins_from (start + x) ns ++ m ∷ []) e)

within_begun : (start : ℕ) (ns : List ℕ) → AreWithin start (ends_from start ns) (begins_from start ns) (start + sum ns)
within_begun start [] = omega arith
within_begun start (n ∷ ns) =
    let e : (start + n) + sum ns ≡ start + sum (n ∷ ns) = omega (arith, sum_by-cons (λ (m : ℕ). m) n ns) in
    (omega arith, omega arith, subst (λ (m : ℕ). AreWithin (start + n) (ends_from (start + n) ns) (begins_from (start + n) ns) m) e (within_begun (start + n) ns))

abbrev pub empty_for : ℕ → List ℕ
empty_for n = []

begun_none : (start : ℕ) (ps ns : List ℕ) → begun start ps (ends_from start ns) (begins_from start ns) ≡ map empty_for ns
begun_none start ps [] = refl
begun_none start ps (n ∷ ns) = λ j. range_none ps start j ∷ begun_none (start + n) ps ns j

sizes_begun : (start : ℕ) (ns : List ℕ) → sizes_of start (ends_from start ns) ≡ ns
sizes_begun start [] = refl
sizes_begun start (n ∷ ns) = let e : start + n - start ≡ n = omega arith in λ j. e j ∷ sizes_begun (start + n) ns j

-- what is known of the lists so far, and of one more
pub record AreBegun (ns : List ℕ) (i : ℕ) (es bs : List ℕ) (m : ℕ) : Type 0 where
  pub ends : es ≡ ends_from 0 (take i ns)
  pub next : bs ≡ begins_from 0 (take i ns)
  pub stop : m ≡ sum (take i ns)

pub begun_next : (ns : List ℕ) (i : ℕ) (ends ats : List ℕ) (stop : ℕ) → AreBegun ns i ends ats stop → i < length ns
    → AreBegun ns (i + 1) (ends ++ (stop + get_or ns i 0) ∷ []) (ats ++ stop ∷ []) (stop + get_or ns i 0)
begun_next ns i ends ats stop b lt =
    let n = get_or ns i 0 in
    let more : take (i + 1) ns ≡ take i ns ++ n ∷ [] = take_more ns i 0 lt in
    let end_is : 0 + sum (take i ns) + n ≡ stop + n = omega (arith, b.stop) in
    let begin_is : 0 + sum (take i ns) ≡ stop = omega (arith, b.stop) in
    record {
      ends = sym (
          ap (ends_from 0) more ∙ ends_from_push 0 (take i ns) n ∙ ap (λ (us : List ℕ). us ++ (0 + sum (take i ns) + n) ∷ []) (sym b.ends)
          ∙ ap (λ (m : ℕ). ends ++ m ∷ []) end_is);
      next = sym (
          ap (begins_from 0) more ∙ begins_from_push 0 (take i ns) n ∙ ap (λ (us : List ℕ). us ++ (0 + sum (take i ns)) ∷ []) (sym b.next)
          ∙ ap (λ (m : ℕ). ats ++ m ∷ []) begin_is);
      stop = omega (arith, b.stop, sum_by_more (λ (m : ℕ). m) ns i 0 lt);
    }

-- after the last size
record AreAllBegun (ns es bs : List ℕ) (m : ℕ) : Type 0 where
  ends : es ≡ ends_from 0 ns
  next : bs ≡ begins_from 0 ns
  stop : m ≡ sum ns

all_begun : (ns : List ℕ) (i : ℕ) (ends ats : List ℕ) (stop : ℕ) → AreBegun ns i ends ats stop → length ns ≤ i → AreAllBegun ns ends ats stop
all_begun ns i ends ats stop b h =
    let whole : take i ns ≡ ns = take_all i ns h in
    record { ends = b.ends ∙ ap (ends_from 0) whole; next = b.next ∙ ap (begins_from 0) whole; stop = b.stop ∙ ap sum whole }

pub begun_within : (ns : List ℕ) (i : ℕ) (ends ats : List ℕ) (stop size : ℕ) → AreBegun ns i ends ats stop → length ns ≤ i → size ≡ stop → sum ns ≤ max_literals → IsFilling ends ats size
begun_within ns i ends ats stop size b h same few =
    let all = all_begun ns i ends ats stop b h in
    let size_is : 0 + sum ns ≡ size = omega (arith, all.stop, same) in
    record {
      within = rw (all.ends, all.next) (subst (λ (m : ℕ). AreWithin 0 (ends_from 0 ns) (begins_from 0 ns) m) size_is (within_begun 0 ns));
      few = omega (arith, all.stop, same, few);
    }

abbrev pub filled_of : List (List ℕ) → List ℕ → Filled
filled_of lists sizes = record { lists = lists; sizes = sizes }

pub begun_empty : (ns : List ℕ) (i : ℕ) (ends ats : List ℕ) (stop : ℕ) (ps : List ℕ) → AreBegun ns i ends ats stop → length ns ≤ i
    → filled_of (begun 0 ps ends ats) (sizes_of 0 ends) ≡ filled_of (map empty_for ns) ns
begun_empty ns i ends ats stop ps b h =
    let all = all_begun ns i ends ats stop b h in
    let lists : begun 0 ps ends ats ≡ map empty_for ns = rw (all.ends, all.next) (begun_none 0 ps ns) in
    let sizes : sizes_of 0 ends ≡ ns = rw all.ends (sizes_begun 0 ns) in
    λ j. filled_of (lists j) (sizes j)

-- A LIST THAT GETS ONE MORE POSITION

-- the list has a place left, which lies in the vector
pub record HasPlace (ps ends ats : List ℕ) (k : ℕ) : Type 0 where
  pub list : k < length ats
  pub at : get_or ats k 0 < length ps
  pub few : get_or ats k 0 < max_literals
  pub room : HasRoom ends ats (length ps) k

pub has_place : (ps ends ats : List ℕ) (k : ℕ) (t : Filled) → IsFilling ends ats (length ps) → filled_of (begun 0 ps ends ats) (sizes_of 0 ends) ≡ t → length (get_or t.lists k []) < get_or t.sizes k 0 → HasPlace ps ends ats k
has_place ps ends ats k t f view h =
    let room = has_room 0 ps ends ats (length ps) k f.within (omega arith) (subst (λ (u : Filled). length (get_or u.lists k []) < get_or u.sizes k 0) (sym view) h) in
    record {
      list = omega (arith, room.list, length-ats 0 ends ats (length ps) f.within);
      at = omega (arith, room.below, room.within);
      few = omega (arith, room.below, room.within, f.few);
      room = room;
    }

pub filling_more : (ps ends ats : List ℕ) (k at p : ℕ) → IsFilling ends ats (length ps) → HasPlace ps ends ats k → at ≡ get_or ats k 0 → IsFilling ends (set ats k (at + 1)) (length (set ps at p))
filling_more ps ends ats k at p f h is = rw (is, length-set ps (get_or ats k 0) p) record { within = within_more 0 ends ats (length ps) k f.within h.room.below; few = f.few }

pub view_more : (ps ends ats : List ℕ) (k at p : ℕ) (t : Filled) → IsFilling ends ats (length ps) → HasPlace ps ends ats k → at ≡ get_or ats k 0 → filled_of (begun 0 ps ends ats) (sizes_of 0 ends) ≡ t
    → filled_of (begun 0 (set ps at p) ends (set ats k (at + 1))) (sizes_of 0 ends) ≡ placed k p t
view_more ps ends ats k at p t f h is view =
    ap (λ (n : ℕ). filled_of (begun 0 (set ps n p) ends (set ats k (n + 1))) (sizes_of 0 ends)) is
    ∙ ap (λ (ls : List (List ℕ)). filled_of ls (sizes_of 0 ends)) (begun_more 0 ps ends ats (length ps) k p f.within (omega arith) h.room)
    ∙ ap (placed k p) view
