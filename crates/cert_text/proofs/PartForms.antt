-- What was read of bodies in form, and what the next line does to it.
use Rattle.std.proofs.Common.{◌≡◌, ℕ, ◌+◌, ◌-◌, ◌^◌, ◌<◌, ◌≤◌, ◌∙◌, Bool, true, cond, ◌&&◌, List, [], ◌∷◌, ◌++◌, map, refl, sym, ap, arith, ℤ, Option, Some, None}
use Rattle.std.specs.Prelude.{decimal, nat_lt}
use Rattle.std.specs.Fmt.{signed_decimal}
use Rattle.std.specs.List.{list_all, flat_map}
use Rattle.std.proofs.lemmas.Bool.{lt-ltb, ltb-true, and_from}
use Rattle.lk_model.specs.Lists.{is_between, rises_within}
use Rattle.lk_model.specs.Limits.{is_in_range}
use Rattle.lk_model.specs.Texts.Lines.{Word}
use Rattle.lk_model.specs.Texts.NumberWords.{plain_number}
use Rattle.lk_model.specs.Texts.PlainText.{ended, number_words}
use Rattle.lk_model.specs.Documents.Form.{is_pair, is_match_row, is_linear_unit, is_weight}
use Rattle.lk_model.specs.declared.document.Pair.{Pair}
use Rattle.lk_model.specs.declared.document.Own.{Own}
use Rattle.lk_model.specs.declared.document.MatchRow.{MatchRow}
use Rattle.lk_model.specs.declared.document.Dual.{Dual}
use Rattle.lk_model.specs.declared.document.Share.{Share}
use Rattle.lk_model.specs.declared.document.Unit.{Unit}
use Rattle.lk_model.proofs.Booleans.{and_true}
use Rattle.lk_text.specs.Kinds.{if_in_range}
use Rattle.line_text.specs.Fields.{number_within}
use Rattle.cert_text.specs.Entries.{pair_by, pair_within, own_by, own_within, row_by, row_within, dual_by, dual_within}
use Rattle.line_text.specs.FieldLists.{twos}
use Rattle.line_text.specs.LastVars.{last_or}
use Rattle.cert_text.specs.LinearLines.{share_within, unit_by, unit_within}
use Rattle.line_text.proofs.NumberTexts.{spelled, plain_spelled}
use Rattle.line_text.proofs.ListForms.{number_back}
use Rattle.line_text.proofs.NumberForms.{number_form, between, is_between_of}
use Rattle.cert_text.proofs.LinearSteps.{range_form, shares_two, are_shares, share_words}
use Rattle.line_text.proofs.TwosSteps.{twos_form, twos_back}
use Rattle.line_text.proofs.LastOnes.{are_listed, listed_more, listed_last}
use Rattle.lk_text.proofs.Shortest.{fits_wide as in_range}

-- HOW THE ITEMS OF LINES ARE READ AND SPELLED

-- items that are read after a last number, each of a line of its own
pub record AreItems {X : Type 0} (read : ℕ → List Word → Option X) (spell : X → List Word) (key : X → ℕ) (test : X → Bool) (high : ℕ) : Type 0 where
  pub form : (last : ℕ) (words : List Word) (x : X) → read last words ≡ Some x → (words ≡ spell x) × (last < key x) × (key x ≤ high) × (test x ≡ true)
  pub back : (last : ℕ) (x : X) → last < key x → key x ≤ high → test x ≡ true → read last (spell x) ≡ Some x

-- PAIRS

pair_parts : (v a b : Option ℕ) (q : Pair) → pair_by v a b ≡ Some q → (v ≡ Some q.var) × (a ≡ Some q.with) × (b ≡ Some q.against)
pair_parts None a b q e = absurd (let f : ⊥ = cc in f)
pair_parts (Some v) None b q e = absurd (let f : ⊥ = cc in f)
pair_parts (Some v) (Some a) None q e = absurd (let f : ⊥ = cc in f)
pair_parts (Some v) (Some a) (Some b) q e =
    let whole : Pair = record { var = v; with = a; against = b } in
    let same : whole ≡ q = cc in
    (ap (λ (p : Pair). Some p.var) same, ap (λ (p : Pair). Some p.with) same, ap (λ (p : Pair). Some p.against) same)

pair_form : (n m last : ℕ) (words : List Word) (q : Pair) → pair_within last n m words ≡ Some q
    → (words ≡ number_words (q.var ∷ q.with ∷ q.against ∷ [])) × (last < q.var) × (q.var ≤ n) × (is_pair m q ≡ true)
pair_form n m last [] q e = absurd (let f : ⊥ = cc in f)
pair_form n m last (v ∷ []) q e = absurd (let f : ⊥ = cc in f)
pair_form n m last (v ∷ a ∷ []) q e = absurd (let f : ⊥ = cc in f)
pair_form n m last (v ∷ a ∷ b ∷ word ∷ words) q e = absurd (let f : ⊥ = cc in f)
pair_form n m last (v ∷ a ∷ b ∷ []) q e =
    let parts = pair_parts (number_within (last + 1) n (plain_number v)) (number_within 1 m (plain_number a)) (number_within 1 m (plain_number b)) q e in
    let x = number_form (last + 1) n q.var v parts.0 in
    let y = number_form 1 m q.with a parts.1 in
    let z = number_form 1 m q.against b parts.2 in
    (cc (x.spelled, y.spelled, z.spelled), omega (arith, x.least), x.most, and_from (is_between 1 m q.with) (is_between 1 m q.against) (between 1 m q.with y.least y.most) (between 1 m q.against z.least z.most))

pub pair_items : (n m : ℕ) → n ≤ 1000000 → m ≤ 4000000 → AreItems (λ last ws. pair_within last n m ws) (λ (q : Pair). number_words (q.var ∷ q.with ∷ q.against ∷ [])) (λ q. q.var) (is_pair m) n
pair_items n m few small = record {
  form = pair_form n m;
  back = λ last q above within form.
      let both = and_true (is_between 1 m q.with) (is_between 1 m q.against) form in
      let y = is_between_of 1 m q.with both.0 in
      let z = is_between_of 1 m q.against both.1 in
      rw (
        number_back (last + 1) n q.var (omega (arith, few, within)) (omega (arith, above)) within,
        number_back 1 m q.with (omega (arith, small, y.most)) y.least y.most,
        number_back 1 m q.against (omega (arith, small, z.most)) z.least z.most,
      ) refl;
}

-- OWN CLAUSES

own_parts : (p v : Option ℕ) (o : Own) → own_by p v ≡ Some o → (p ≡ Some o.pos) × (v ≡ Some o.var)
own_parts None v o e = absurd (let f : ⊥ = cc in f)
own_parts (Some p) None o e = absurd (let f : ⊥ = cc in f)
own_parts (Some p) (Some v) o e =
    let whole : Own = record { pos = p; var = v } in
    let same : whole ≡ o = cc in
    (ap (λ (q : Own). Some q.pos) same, ap (λ (q : Own). Some q.var) same)

own_form : (n m last : ℕ) (words : List Word) (o : Own) → own_within last n m words ≡ Some o → (words ≡ number_words (o.pos ∷ o.var ∷ [])) × (last < o.pos) × (o.pos ≤ m) × (is_between 1 n o.var ≡ true)
own_form n m last [] o e = absurd (let f : ⊥ = cc in f)
own_form n m last (p ∷ []) o e = absurd (let f : ⊥ = cc in f)
own_form n m last (p ∷ v ∷ word ∷ words) o e = absurd (let f : ⊥ = cc in f)
own_form n m last (p ∷ v ∷ []) o e =
    let parts = own_parts (number_within (last + 1) m (plain_number p)) (number_within 1 n (plain_number v)) o e in
    let x = number_form (last + 1) m o.pos p parts.0 in
    let y = number_form 1 n o.var v parts.1 in
    (cc (x.spelled, y.spelled), omega (arith, x.least), x.most, between 1 n o.var y.least y.most)

pub own_items : (n m : ℕ) → n ≤ 1000000 → m ≤ 4000000 → AreItems (λ last ws. own_within last n m ws) (λ (o : Own). number_words (o.pos ∷ o.var ∷ [])) (λ o. o.pos) (λ o. is_between 1 n o.var) m
own_items n m few small = record {
  form = own_form n m;
  back = λ last o above within form.
      let y = is_between_of 1 n o.var form in
      rw (
        number_back (last + 1) m o.pos (omega (arith, small, within)) (omega (arith, above)) within,
        number_back 1 n o.var (omega (arith, few, y.most)) y.least y.most,
      ) refl;
}

-- ROWS

row_parts : (v a b k : Option ℕ) (r : MatchRow) → row_by v a b k ≡ Some r → (v ≡ Some r.var) × (a ≡ Some r.own) × (b ≡ Some r.escape) × (k ≡ Some r.rank)
row_parts None a b k r e = absurd (let f : ⊥ = cc in f)
row_parts (Some v) None b k r e = absurd (let f : ⊥ = cc in f)
row_parts (Some v) (Some a) None k r e = absurd (let f : ⊥ = cc in f)
row_parts (Some v) (Some a) (Some b) None r e = absurd (let f : ⊥ = cc in f)
row_parts (Some v) (Some a) (Some b) (Some k) r e =
    let whole : MatchRow = record { var = v; own = a; escape = b; rank = k } in
    let same : whole ≡ r = cc in
    (ap (λ (q : MatchRow). Some q.var) same, ap (λ (q : MatchRow). Some q.own) same, ap (λ (q : MatchRow). Some q.escape) same, ap (λ (q : MatchRow). Some q.rank) same)

row_form : (n m last : ℕ) (words : List Word) (r : MatchRow) → row_within last n m words ≡ Some r
    → (words ≡ number_words (r.var ∷ r.own ∷ r.escape ∷ r.rank ∷ [])) × (last < r.var) × (r.var ≤ n) × (is_match_row m r ≡ true)
row_form n m last [] r e = absurd (let f : ⊥ = cc in f)
row_form n m last (v ∷ []) r e = absurd (let f : ⊥ = cc in f)
row_form n m last (v ∷ a ∷ []) r e = absurd (let f : ⊥ = cc in f)
row_form n m last (v ∷ a ∷ b ∷ []) r e = absurd (let f : ⊥ = cc in f)
row_form n m last (v ∷ a ∷ b ∷ k ∷ word ∷ words) r e = absurd (let f : ⊥ = cc in f)
row_form n m last (v ∷ a ∷ b ∷ k ∷ []) r e =
    let parts = row_parts (number_within (last + 1) n (plain_number v)) (number_within 1 m (plain_number a)) (number_within 1 m (plain_number b)) (number_within 0 (2 ^ 32 - 1) (plain_number k)) r e in
    let x = number_form (last + 1) n r.var v parts.0 in
    let y = number_form 1 m r.own a parts.1 in
    let z = number_form 1 m r.escape b parts.2 in
    let w = number_form 0 (2 ^ 32 - 1) r.rank k parts.3 in
    let low : nat_lt r.rank (2 ^ 32) ≡ true = lt-ltb r.rank (2 ^ 32) (omega (arith, w.most)) in
    (cc (x.spelled, y.spelled, z.spelled, w.spelled), omega (arith, x.least), x.most, rw (between 1 m r.own y.least y.most, between 1 m r.escape z.least z.most, low) refl)

pub row_items : (n m : ℕ) → n ≤ 1000000 → m ≤ 4000000
    → AreItems (λ last ws. row_within last n m ws) (λ (r : MatchRow). number_words (r.var ∷ r.own ∷ r.escape ∷ r.rank ∷ [])) (λ r. r.var) (is_match_row m) n
row_items n m few small = record {
  form = row_form n m;
  back = λ last r above within form.
      let all = and_true (is_between 1 m r.own && is_between 1 m r.escape) (nat_lt r.rank (2 ^ 32)) form in
      let both = and_true (is_between 1 m r.own) (is_between 1 m r.escape) all.0 in
      let y = is_between_of 1 m r.own both.0 in
      let z = is_between_of 1 m r.escape both.1 in
      let low = ltb-true r.rank (2 ^ 32) all.1 in
      rw (
        number_back (last + 1) n r.var (omega (arith, few, within)) (omega (arith, above)) within,
        number_back 1 m r.own (omega (arith, small, y.most)) y.least y.most,
        number_back 1 m r.escape (omega (arith, small, z.most)) z.least z.most,
        number_back 0 (2 ^ 32 - 1) r.rank (omega (arith, low)) (omega arith) (omega (arith, low)),
      ) refl;
}

-- DUALS

dual_parts : (p : Option ℕ) (y : Option ℤ) (d : Dual) → dual_by p y ≡ Some d → (p ≡ Some d.pos) × (y ≡ Some d.y)
dual_parts None y d e = absurd (let f : ⊥ = cc in f)
dual_parts (Some p) None d e = absurd (let f : ⊥ = cc in f)
dual_parts (Some p) (Some y) d e =
    let whole : Dual = record { pos = p; y = y } in
    let same : whole ≡ d = cc in
    (ap (λ (q : Dual). Some q.pos) same, ap (λ (q : Dual). Some q.y) same)

dual_form : (m last : ℕ) (words : List Word) (d : Dual) → dual_within last m words ≡ Some d → (words ≡ decimal d.pos ∷ signed_decimal d.y ∷ []) × (last < d.pos) × (d.pos ≤ m) × (is_in_range d.y ≡ true)
dual_form m last [] d e = absurd (let f : ⊥ = cc in f)
dual_form m last (p ∷ []) d e = absurd (let f : ⊥ = cc in f)
dual_form m last (p ∷ y ∷ word ∷ words) d e = absurd (let f : ⊥ = cc in f)
dual_form m last (p ∷ y ∷ []) d e =
    let parts = dual_parts (number_within (last + 1) m (plain_number p)) (if_in_range (plain_number y)) d e in
    let x = number_form (last + 1) m d.pos p parts.0 in
    let z = range_form d.y (plain_number y) parts.1 in
    (cc (x.spelled, spelled y d.y z.0), omega (arith, x.least), x.most, z.1)

-- a number in range, read back
range_back : (x : ℤ) → is_in_range x ≡ true → if_in_range (plain_number (signed_decimal x)) ≡ Some x
range_back x h = ap if_in_range (plain_spelled x (in_range x h)) ∙ ap (λ (b : Bool). cond b (Some x) None) h

pub dual_items : (m : ℕ) → m ≤ 4000000 → AreItems (λ last ws. dual_within last m ws) (λ (d : Dual). decimal d.pos ∷ signed_decimal d.y ∷ []) (λ d. d.pos) (λ d. is_in_range d.y) m
dual_items m small = record {
  form = dual_form m;
  back = λ last d above within form.
      ap (λ (p : Option ℕ). dual_by p (if_in_range (plain_number (signed_decimal d.y)))) (number_back (last + 1) m d.pos (omega (arith, small, within)) (omega (arith, above)) within)
      ∙ ap (dual_by (Some d.pos)) (range_back d.y form);
}

-- UNITS

unit_parts : (v : Option ℕ) (d : Option ℤ) (ss : Option (List Share)) (u : Unit) → unit_by v d ss ≡ Some u → (v ≡ Some u.var) × (d ≡ Some u.d) × (ss ≡ Some u.shares)
unit_parts None d ss u e = absurd (let f : ⊥ = cc in f)
unit_parts (Some v) None ss u e = absurd (let f : ⊥ = cc in f)
unit_parts (Some v) (Some d) None u e = absurd (let f : ⊥ = cc in f)
unit_parts (Some v) (Some d) (Some ss) u e =
    let whole : Unit = record { var = v; d = d; shares = ss } in
    let same : whole ≡ u = cc in
    (ap (λ (q : Unit). Some q.var) same, ap (λ (q : Unit). Some q.d) same, ap (λ (q : Unit). Some q.shares) same)

unit_form : (n m : ℕ) → m ≤ 4000000 → (last : ℕ) (words : List Word) (u : Unit) → unit_within last n m words ≡ Some u
    → (words ≡ decimal u.var ∷ signed_decimal u.d ∷ ended (flat_map share_words u.shares)) × (last < u.var) × (u.var ≤ n) × (is_linear_unit m u ≡ true)
unit_form n m small last [] u e = absurd (let f : ⊥ = cc in f)
unit_form n m small last (v ∷ []) u e = absurd (let f : ⊥ = cc in f)
unit_form n m small last (v ∷ d ∷ words) u e =
    let parts = unit_parts (number_within (last + 1) n (plain_number v)) (if_in_range (plain_number d)) (twos (share_within m) [] words) u e in
    let x = number_form (last + 1) n u.var v parts.0 in
    let y = range_form u.d (plain_number d) parts.1 in
    let z = twos_form (share_within m) share_words (are_shares m) (shares_two m small) [] words u.shares refl parts.2 in
    let spelled_d = spelled d u.d y.0 in
    let spelled_s : words ≡ ended (flat_map share_words u.shares) = z.line ∙ ap (λ (ss : List Share). ended (flat_map share_words ss)) (sym z.whole) in
    let shares = and_true (rises_within 0 m (map (λ (s : Share). s.pos) u.shares)) (list_all (λ (s : Share). is_weight s.z) u.shares) z.form in
    (cc (x.spelled, spelled_d, spelled_s), omega (arith, x.least), x.most, rw (y.1, shares.0, shares.1) refl)

pub unit_items : (n m : ℕ) → n ≤ 1000000 → m ≤ 4000000
    → AreItems (λ last ws. unit_within last n m ws) (λ (u : Unit). decimal u.var ∷ signed_decimal u.d ∷ ended (flat_map share_words u.shares)) (λ u. u.var) (is_linear_unit m) n
unit_items n m few small = record {
  form = unit_form n m small;
  back = λ last u above within form.
      let outer = and_true (is_in_range u.d && rises_within 0 m (map (λ (s : Share). s.pos) u.shares)) (list_all (λ (s : Share). is_weight s.z) u.shares) form in
      let inner = and_true (is_in_range u.d) (rises_within 0 m (map (λ (s : Share). s.pos) u.shares)) outer.0 in
      let shares : are_shares m u.shares ≡ true = and_from (rises_within 0 m (map (λ (s : Share). s.pos) u.shares)) (list_all (λ (s : Share). is_weight s.z) u.shares) inner.1 outer.1 in
      ap (λ (v : Option ℕ). unit_by v (if_in_range (plain_number (signed_decimal u.d))) (twos (share_within m) [] (ended (flat_map share_words u.shares))))
      (number_back (last + 1) n u.var (omega (arith, few, within)) (omega (arith, above)) within)
      ∙ ap (λ (d : Option ℤ). unit_by (Some u.var) d (twos (share_within m) [] (ended (flat_map share_words u.shares)))) (range_back u.d inner.0)
      ∙ ap (unit_by (Some u.var) (Some u.d)) (twos_back (share_within m) share_words (are_shares m) (shares_two m small) [] u.shares shares);
}

-- ONE ITEM MORE

pub items_more : {X : Type 0} (read : ℕ → List Word → Option X) (spell : X → List Word) (key : X → ℕ) (test : X → Bool) (high : ℕ) → AreItems read spell key test high → (xs : List X) (x : X) (words : List Word)
    → are_listed key test 0 high xs ≡ true → read (last_or 0 (map key xs)) words ≡ Some x → (words ≡ spell x) × (are_listed key test 0 high (xs ++ x ∷ []) ≡ true)
items_more read spell key test high a xs x words h e =
    let f = a.form (last_or 0 (map key xs)) words x e in
    (f.0, listed_more key test 0 high xs x h (record { above = f.1; within = f.2; form = f.3 }))

pub items_back : {X : Type 0} (read : ℕ → List Word → Option X) (spell : X → List Word) (key : X → ℕ) (test : X → Bool) (high : ℕ) → AreItems read spell key test high → (xs : List X) (x : X)
    → are_listed key test 0 high (xs ++ x ∷ []) ≡ true → read (last_or 0 (map key xs)) (spell x) ≡ Some x
items_back read spell key test high a xs x h =
    let m = listed_last key test 0 high xs x h in
    a.back (last_or 0 (map key xs)) x m.above m.within m.form
