-- What the next line does to what was read of a body, in form.
use Rattle.std.proofs.Common.{◌≡◌, ℕ, ◌≤◌, ◌∙◌, Bool, true, false, cond, List, [], ◌∷◌, ◌++◌, map, refl, sym, ap, subst, ℤ, Option, Some, None, append_assoc}
use Rattle.std.specs.Prelude.{option_map, option_and_then, codes, decimal, nat_lt}
use Rattle.std.specs.Fmt.{signed_decimal}
use Rattle.std.specs.List.{list_all, flat_map}
use Rattle.std.proofs.lemmas.List.{map-append, append-nil}
use Rattle.lk_model.specs.Lists.{is_between, is_empty}
use Rattle.lk_model.specs.Limits.{is_in_range}
use Rattle.lk_model.specs.Formulas.Literal.{is_literal}
use Rattle.lk_model.specs.Texts.Lines.{Word}
use Rattle.lk_model.specs.Texts.PlainText.{ended, number_words, literal_words}
use Rattle.lk_model.specs.Documents.Text.{comment, pair_line, own_line, row_line, stage_line, dual_line, unit_line}
use Rattle.lk_model.specs.Documents.Form.{is_pair, is_match_row, is_stage, is_linear_unit}
use Rattle.lk_model.specs.declared.document.Pair.{Pair}
use Rattle.lk_model.specs.declared.document.Own.{Own}
use Rattle.lk_model.specs.declared.document.MatchRow.{MatchRow}
use Rattle.lk_model.specs.declared.document.Weight.{Weight}
use Rattle.lk_model.specs.declared.document.Dual.{Dual}
use Rattle.lk_model.specs.declared.document.Unit.{Unit}
use Rattle.cert_text.specs.declared.part.Part.{Part}
use Rattle.cert_text.specs.declared.part.Part.TheVariants.{Pure, Matching, Linear, General, Unfinished}
use Rattle.cert_text.specs.declared.read_pure.PurePart.{PurePart}
use Rattle.cert_text.specs.declared.read_matching.MatchingPart.{MatchingPart}
use Rattle.cert_text.specs.declared.read_linear.LinearPart.{LinearPart}
use Rattle.line_text.specs.Fields.{after}
use Rattle.cert_text.specs.Entries.{pair_within, own_within, row_within, dual_within}
use Rattle.line_text.specs.FieldLists.{literals_from, twos}
use Rattle.line_text.specs.LastVars.{last_or}
use Rattle.cert_text.specs.PureLines.{next_order, next_pair, pure_next}
use Rattle.cert_text.specs.MatchingLines.{next_own, next_row, matching_by, matching_next}
use Rattle.cert_text.specs.LinearLines.{weight_within, unit_within, stage_of, next_stage, next_dual, next_unit, linear_by, linear_next}
use Rattle.round_text.specs.RoundLines.{rounds_next}
use Rattle.cert_text.specs.Parts.{part_word, part_lines, part_next, is_finished}
use Rattle.line_text.proofs.ListForms.{literals_form, any_literals}
use Rattle.line_text.proofs.Options.{map_some, then_some}
use Rattle.round_text.proofs.RoundParts.{IsRounds, IsDoneRounds, rounds_step, rounds_over_some}
use Rattle.line_text.proofs.Words.{after_form}
use Rattle.cert_text.proofs.LinearSteps.{weight_words, weights_two, are_weights, share_words}
use Rattle.line_text.proofs.TwosSteps.{twos_form}
use Rattle.line_text.proofs.LastOnes.{are_listed}
use Rattle.cert_text.proofs.PartForms.{pair_items, own_items, row_items, dual_items, unit_items, items_more}
use Rattle.lk_model.proofs.ListTests.{all_more as tested_more}

-- LINES

-- one line more after some
pub one_line_more : {X : Type 0} (front : List (List Word)) (spell : X → List Word) (xs : List X) (x : X) (words : List Word) → words ≡ spell x → front ++ map spell (xs ++ x ∷ []) ≡ (front ++ map spell xs) ++ words ∷ []
one_line_more front spell xs x words e =
    ap (λ (ls : List (List Word)). front ++ ls) (map-append spell xs (x ∷ [])) ∙ sym (append_assoc front (map spell xs) (spell x ∷ []))
    ∙ ap (λ (l : List Word). (front ++ map spell xs) ++ l ∷ []) (sym e)

-- words after a keyword
behind_words : (keyword : Word) (words rest more : List Word) → words ≡ codes "c" ∷ keyword ∷ rest → rest ≡ more → words ≡ comment keyword more
behind_words keyword words rest more e f = e ∙ ap (λ (ws : List Word). codes "c" ∷ keyword ∷ ws) f

-- an empty list, by its test
pub empty_is : {X : Type 0} (xs : List X) → is_empty xs ≡ true → xs ≡ []
empty_is [] h = refl
empty_is (x ∷ xs) h = absurd (let f : ⊥ = cc in f)

-- IN FORM

pub record IsPure (n m : ℕ) (p : PurePart) : Type 0 where
  pub order : list_all (is_literal n) p.order ≡ true
  pub pairs : are_listed (λ (q : Pair). q.var) (is_pair m) 0 n p.pairs ≡ true
  pub fresh : p.ordered ≡ false → p.pairs ≡ []

pub record IsMatching (n m : ℕ) (p : MatchingPart) : Type 0 where
  pub own : are_listed (λ (o : Own). o.pos) (λ (o : Own). is_between 1 n o.var) 0 m p.own ≡ true
  pub rows : are_listed (λ (r : MatchRow). r.var) (is_match_row m) 0 n p.rows ≡ true

pub record IsLinear (n m : ℕ) (p : LinearPart) : Type 0 where
  pub stages : list_all (is_stage n) p.stages ≡ true
  pub dual : are_listed (λ (y : Dual). y.pos) (λ (y : Dual). is_in_range y.y) 0 m p.dual ≡ true
  pub units : are_listed (λ (u : Unit). u.var) (is_linear_unit m) 0 n p.units ≡ true

abbrev pub IsPart : ℕ → ℕ → Part → Type 0
IsPart n m (Pure p) = IsPure n m p
IsPart n m (Matching p) = IsMatching n m p
IsPart n m (Linear p) = IsLinear n m p
IsPart n m (General p) = IsDoneRounds n m p
IsPart n m (Unfinished p) = IsRounds n m p

-- what was read then is in form, and has one line more
pub record IsPartStep (n m : ℕ) (p q : Part) (words : List Word) : Type 0 where
  pub form : IsPart n m q
  pub lines : part_lines q ≡ part_lines p ++ words ∷ []

-- PURE

order_step : (n m : ℕ) (p q : PurePart) (words : List Word) → IsPure n m p → p.ordered ≡ false → next_order n p words ≡ Some q → IsPartStep n m (Pure p) (Pure q) words
order_step n m p q words h none e =
    let f : List ℤ → PurePart = λ order. record p { ordered = true; order = order } in
    let one = map_some f (option_and_then (literals_from false n 0) (after (codes "c") (codes "order") words)) q e in
    let two = then_some (literals_from false n 0) (after (codes "c") (codes "order") words) one.item one.there in
    let whole = (after_form (codes "c") (codes "order") words two.item two.there).whole in
    let form = literals_form false n 0 two.item one.item two.gives in
    let line : words ≡ comment (codes "order") (literal_words one.item) = behind_words (codes "order") words two.item (literal_words one.item) whole form.0 in
    let pairs = h.fresh none in
    subst (λ (r : PurePart). IsPartStep n m (Pure p) (Pure r) words) (sym one.is) (record {
      form = record { order = sym (any_literals n 0 one.item) ∙ form.1; pairs = h.pairs; fresh = λ t. absurd (let n : ⊥ = cc in n) };
      lines = ap (λ (qs : List Pair). (comment (codes "order") (literal_words one.item) ∷ []) ++ map pair_line qs) pairs
          ∙ ap (λ (l : List Word). l ∷ []) (sym line)
          ∙ sym (ap (λ (b : Bool). (cond b (comment (codes "order") (literal_words p.order) ∷ []) [] ++ map pair_line p.pairs) ++ words ∷ []) none
          ∙ ap (λ (qs : List Pair). map pair_line qs ++ words ∷ []) pairs);
    })

pair_step : (n m : ℕ) (p q : PurePart) (words : List Word) → n ≤ 1000000 → m ≤ 4000000 → IsPure n m p → p.ordered ≡ true → next_pair n m p words ≡ Some q → IsPartStep n m (Pure p) (Pure q) words
pair_step n m p q words few small h some e =
    let f : Pair → PurePart = λ x. record p { pairs = p.pairs ++ x ∷ [] } in
    let read = pair_within (last_or 0 (map (λ (x : Pair). x.var) p.pairs)) n m in
    let one = map_some f (option_and_then read (after (codes "c") (codes "pair") words)) q e in
    let two = then_some read (after (codes "c") (codes "pair") words) one.item one.there in
    let whole = (after_form (codes "c") (codes "pair") words two.item two.there).whole in
    let more = items_more (λ last ws. pair_within last n m ws) (λ (x : Pair). number_words (x.var ∷ x.with ∷ x.against ∷ [])) (λ x. x.var) (is_pair m) n (pair_items n m few small) p.pairs one.item two.item h.pairs two.gives in
    let line : words ≡ pair_line one.item = behind_words (codes "pair") words two.item (number_words (one.item.var ∷ one.item.with ∷ one.item.against ∷ [])) whole more.0 in
    subst (λ (r : PurePart). IsPartStep n m (Pure p) (Pure r) words) (sym one.is) (record {
      form = record { order = h.order; pairs = more.1; fresh = λ t. absurd (let u : true ≡ false = sym some ∙ t in let n : ⊥ = cc in n) };
      lines = one_line_more (cond p.ordered (comment (codes "order") (literal_words p.order) ∷ []) []) pair_line p.pairs one.item words line;
    })

pure_step : (n m : ℕ) (p q : PurePart) (words : List Word) → n ≤ 1000000 → m ≤ 4000000 → IsPure n m p → pure_next n m p words ≡ Some q → IsPartStep n m (Pure p) (Pure q) words
pure_step n m p q words few small h e = by_order p.ordered refl e
  where
    by_order : (b : Bool) → p.ordered ≡ b → cond b (next_pair n m p words) (next_order n p words) ≡ Some q → IsPartStep n m (Pure p) (Pure q) words
    by_order true t f = pair_step n m p q words few small h t f
    by_order false t f = order_step n m p q words h t f

-- MATCHING

own_step : (n m : ℕ) (p q : MatchingPart) (words rest : List Word) → n ≤ 1000000 → m ≤ 4000000 → IsMatching n m p → words ≡ codes "c" ∷ codes "own" ∷ rest → next_own n m p rest ≡ Some q
    → IsPartStep n m (Matching p) (Matching q) words
own_step n m p q words rest few small h w e = by_rows (is_empty p.rows) refl e
  where
    f : Own → MatchingPart
    f x = record p { own = p.own ++ x ∷ [] }

    by_rows : (b : Bool) → is_empty p.rows ≡ b → cond b (option_map (λ (x : Own). let r : MatchingPart = record p { own = p.own ++ x ∷ [] } in r) (own_within (last_or 0 (map (λ (x : Own). x.pos) p.own)) n m rest)) None ≡ Some q
        → IsPartStep n m (Matching p) (Matching q) words
    by_rows false t g = absurd (let n : ⊥ = cc in n)
    by_rows true t g =
        let one = map_some f (own_within (last_or 0 (map (λ (x : Own). x.pos) p.own)) n m rest) q g in
        let more = items_more (λ last ws. own_within last n m ws) (λ (x : Own). number_words (x.pos ∷ x.var ∷ [])) (λ x. x.pos) (λ x. is_between 1 n x.var) m (own_items n m few small) p.own one.item rest h.own one.there in
        let line : words ≡ own_line one.item = behind_words (codes "own") words rest (number_words (one.item.pos ∷ one.item.var ∷ [])) w more.0 in
        let rows = empty_is p.rows t in
        subst (λ (r : MatchingPart). IsPartStep n m (Matching p) (Matching r) words) (sym one.is) (record {
          form = record { own = more.1; rows = h.rows };
          lines = ap (λ (rs : List MatchRow). map own_line (p.own ++ one.item ∷ []) ++ map row_line rs) rows
              ∙ append-nil (map own_line (p.own ++ one.item ∷ []))
              ∙ one_line_more [] own_line p.own one.item words line
              ∙ ap (λ (ls : List (List Word)). ls ++ words ∷ []) (sym (append-nil (map own_line p.own)) ∙ sym (ap (λ (rs : List MatchRow). map own_line p.own ++ map row_line rs) rows));
        })

row_step : (n m : ℕ) (p q : MatchingPart) (words rest : List Word) → n ≤ 1000000 → m ≤ 4000000 → IsMatching n m p → words ≡ codes "c" ∷ codes "row" ∷ rest → next_row n m p rest ≡ Some q
    → IsPartStep n m (Matching p) (Matching q) words
row_step n m p q words rest few small h w e =
    let f : MatchRow → MatchingPart = λ x. record p { rows = p.rows ++ x ∷ [] } in
    let one = map_some f (row_within (last_or 0 (map (λ (x : MatchRow). x.var) p.rows)) n m rest) q e in
    let more = items_more (λ last ws. row_within last n m ws) (λ (x : MatchRow). number_words (x.var ∷ x.own ∷ x.escape ∷ x.rank ∷ [])) (λ x. x.var) (is_match_row m) n (row_items n m few small) p.rows one.item rest h.rows one.there in
    let line : words ≡ row_line one.item = behind_words (codes "row") words rest (number_words (one.item.var ∷ one.item.own ∷ one.item.escape ∷ one.item.rank ∷ [])) w more.0 in
    subst (λ (r : MatchingPart). IsPartStep n m (Matching p) (Matching r) words) (sym one.is) (record {
      form = record { own = h.own; rows = more.1 };
      lines = one_line_more (map own_line p.own) row_line p.rows one.item words line;
    })

matching_step : (n m : ℕ) (p q : MatchingPart) (words : List Word) → n ≤ 1000000 → m ≤ 4000000 → IsMatching n m p → matching_next n m p words ≡ Some q → IsPartStep n m (Matching p) (Matching q) words
matching_step n m p q words few small h e = by_words (after (codes "c") (codes "own") words) (after (codes "c") (codes "row") words) refl refl e
  where
    by_words : (a b : Option (List Word)) → after (codes "c") (codes "own") words ≡ a → after (codes "c") (codes "row") words ≡ b → matching_by n m p a b ≡ Some q → IsPartStep n m (Matching p) (Matching q) words
    by_words None None s t f = absurd (let n : ⊥ = cc in n)
    by_words (Some rest) b s t f = own_step n m p q words rest few small h (after_form (codes "c") (codes "own") words rest s).whole f
    by_words None (Some rest) s t f = row_step n m p q words rest few small h (after_form (codes "c") (codes "row") words rest t).whole f

-- LINEAR

stage_step : (n m : ℕ) (p q : LinearPart) (words rest : List Word) → n ≤ 1000000 → IsLinear n m p → words ≡ codes "c" ∷ codes "stage" ∷ rest → next_stage n p rest ≡ Some q
    → IsPartStep n m (Linear p) (Linear q) words
stage_step n m p q words rest few h w e = by_empty (is_empty p.dual) (is_empty p.units) refl refl e
  where
    f : List Weight → LinearPart
    f ws = record p { stages = p.stages ++ stage_of ws ∷ [] }

    by_empty : (b c : Bool) → is_empty p.dual ≡ b → is_empty p.units ≡ c
        → cond b (cond c (option_map (λ (ws : List Weight). let r : LinearPart = record p { stages = p.stages ++ stage_of ws ∷ [] } in r) (twos (weight_within n) [] rest)) None) None ≡ Some q
        → IsPartStep n m (Linear p) (Linear q) words
    by_empty false c s t g = absurd (let n : ⊥ = cc in n)
    by_empty true false s t g = absurd (let n : ⊥ = cc in n)
    by_empty true true s t g =
        let one = map_some f (twos (weight_within n) [] rest) q g in
        let form = twos_form (weight_within n) weight_words (are_weights n) (weights_two n few) [] rest one.item refl one.there in
        let spelled : rest ≡ ended (flat_map weight_words one.item) = form.line ∙ ap (λ (ws : List Weight). ended (flat_map weight_words ws)) (sym form.whole) in
        let line : words ≡ stage_line (stage_of one.item) = behind_words (codes "stage") words rest (ended (flat_map weight_words one.item)) w spelled in
        let dual = empty_is p.dual s in
        let units = empty_is p.units t in
        subst (λ (r : LinearPart). IsPartStep n m (Linear p) (Linear r) words) (sym one.is) (record {
          form = record { stages = tested_more (is_stage n) p.stages (stage_of one.item) h.stages form.form; dual = h.dual; units = h.units };
          lines = alone (map stage_line (p.stages ++ stage_of one.item ∷ [])) dual units
              ∙ one_line_more [] stage_line p.stages (stage_of one.item) words line
              ∙ ap (λ (ls : List (List Word)). ls ++ words ∷ []) (sym (alone (map stage_line p.stages) dual units));
        })
      where
        alone : (ls : List (List Word)) → p.dual ≡ [] → p.units ≡ [] → (ls ++ map dual_line p.dual) ++ map unit_line p.units ≡ ls
        alone ls d u =
            ap (λ (ds : List Dual). (ls ++ map dual_line ds) ++ map unit_line p.units) d ∙ ap (λ (us : List Unit). (ls ++ []) ++ map unit_line us) u
            ∙ append-nil (ls ++ []) ∙ append-nil ls

dual_step : (n m : ℕ) (p q : LinearPart) (words rest : List Word) → m ≤ 4000000 → IsLinear n m p → words ≡ codes "c" ∷ codes "dual" ∷ rest → next_dual m p rest ≡ Some q
    → IsPartStep n m (Linear p) (Linear q) words
dual_step n m p q words rest small h w e = by_empty (is_empty p.units) refl e
  where
    f : Dual → LinearPart
    f x = record p { dual = p.dual ++ x ∷ [] }

    by_empty : (b : Bool) → is_empty p.units ≡ b
        → cond b (option_map (λ (x : Dual). let r : LinearPart = record p { dual = p.dual ++ x ∷ [] } in r) (dual_within (last_or 0 (map (λ (x : Dual). x.pos) p.dual)) m rest)) None ≡ Some q
        → IsPartStep n m (Linear p) (Linear q) words
    by_empty false t g = absurd (let n : ⊥ = cc in n)
    by_empty true t g =
        let one = map_some f (dual_within (last_or 0 (map (λ (x : Dual). x.pos) p.dual)) m rest) q g in
        let more = items_more (λ last ws. dual_within last m ws) (λ (x : Dual). decimal x.pos ∷ signed_decimal x.y ∷ []) (λ x. x.pos) (λ x. is_in_range x.y) m (dual_items m small) p.dual one.item rest h.dual one.there in
        let line : words ≡ dual_line one.item = behind_words (codes "dual") words rest (decimal one.item.pos ∷ signed_decimal one.item.y ∷ []) w more.0 in
        let units = empty_is p.units t in
        subst (λ (r : LinearPart). IsPartStep n m (Linear p) (Linear r) words) (sym one.is) (record {
          form = record { stages = h.stages; dual = more.1; units = h.units };
          lines = alone (map stage_line p.stages ++ map dual_line (p.dual ++ one.item ∷ [])) units
              ∙ one_line_more (map stage_line p.stages) dual_line p.dual one.item words line
              ∙ ap (λ (ls : List (List Word)). ls ++ words ∷ []) (sym (alone (map stage_line p.stages ++ map dual_line p.dual) units));
        })
      where
        alone : (ls : List (List Word)) → p.units ≡ [] → ls ++ map unit_line p.units ≡ ls
        alone ls u = ap (λ (us : List Unit). ls ++ map unit_line us) u ∙ append-nil ls

unit_step : (n m : ℕ) (p q : LinearPart) (words rest : List Word) → n ≤ 1000000 → m ≤ 4000000 → IsLinear n m p → words ≡ codes "c" ∷ codes "unit" ∷ rest → next_unit n m p rest ≡ Some q
    → IsPartStep n m (Linear p) (Linear q) words
unit_step n m p q words rest few small h w e =
    let f : Unit → LinearPart = λ x. record p { units = p.units ++ x ∷ [] } in
    let one = map_some f (unit_within (last_or 0 (map (λ (x : Unit). x.var) p.units)) n m rest) q e in
    let more = items_more (λ last ws. unit_within last n m ws) (λ (u : Unit). decimal u.var ∷ signed_decimal u.d ∷ ended (flat_map share_words u.shares)) (λ x. x.var) (is_linear_unit m) n (unit_items n m few small) p.units one.item rest h.units one.there in
    let line : words ≡ unit_line one.item = behind_words (codes "unit") words rest (decimal one.item.var ∷ signed_decimal one.item.d ∷ ended (flat_map share_words one.item.shares)) w more.0 in
    subst (λ (r : LinearPart). IsPartStep n m (Linear p) (Linear r) words) (sym one.is) (record {
      form = record { stages = h.stages; dual = h.dual; units = more.1 };
      lines = one_line_more (map stage_line p.stages ++ map dual_line p.dual) unit_line p.units one.item words line;
    })

linear_step : (n m : ℕ) (p q : LinearPart) (words : List Word) → n ≤ 1000000 → m ≤ 4000000 → IsLinear n m p → linear_next n m p words ≡ Some q → IsPartStep n m (Linear p) (Linear q) words
linear_step n m p q words few small h e =
    by_words (after (codes "c") (codes "stage") words) (after (codes "c") (codes "dual") words) (after (codes "c") (codes "unit") words) refl refl refl e
  where
    by_words : (a b c : Option (List Word)) → after (codes "c") (codes "stage") words ≡ a → after (codes "c") (codes "dual") words ≡ b → after (codes "c") (codes "unit") words ≡ c → linear_by n m p a b c ≡ Some q
        → IsPartStep n m (Linear p) (Linear q) words
    by_words None None None s t u f = absurd (let n : ⊥ = cc in n)
    by_words (Some rest) b c s t u f = stage_step n m p q words rest few h (after_form (codes "c") (codes "stage") words rest s).whole f
    by_words None (Some rest) c s t u f = dual_step n m p q words rest small h (after_form (codes "c") (codes "dual") words rest t).whole f
    by_words None None (Some rest) s t u f = unit_step n m p q words rest few small h (after_form (codes "c") (codes "unit") words rest u).whole f

-- EACH BODY

pub part_step : (n m : ℕ) (p q : Part) (words : List Word) → n ≤ 1000000 → m ≤ 4000000 → IsPart n m p → part_next n m p words ≡ Some q → IsPartStep n m p q words
part_step n m (Pure p) q words few small h e =
    let one = map_some Pure (pure_next n m p words) q e in
    subst (λ (r : Part). IsPartStep n m (Pure p) r words) (sym one.is) (pure_step n m p one.item words few small h one.there)
part_step n m (Matching p) q words few small h e =
    let one = map_some Matching (matching_next n m p words) q e in
    subst (λ (r : Part). IsPartStep n m (Matching p) r words) (sym one.is) (matching_step n m p one.item words few small h one.there)
part_step n m (Linear p) q words few small h e =
    let one = map_some Linear (linear_next n m p words) q e in
    subst (λ (r : Part). IsPartStep n m (Linear p) r words) (sym one.is) (linear_step n m p one.item words few small h one.there)
part_step n m (General p) q words few small h e =
    let one = map_some General (rounds_next (nat_lt 0 m) n m p words) q e in
    let step = rounds_step (nat_lt 0 m) n m p one.item words few h.rounds one.there in
    subst (λ (r : Part). IsPartStep n m (General p) r words) (sym one.is) (record { form = record { rounds = step.form; some = λ t. rounds_over_some n m p one.item words h one.there }; lines = step.lines })
part_step n m (Unfinished p) q words few small h e =
    let one = map_some Unfinished (rounds_next true n m p words) q e in
    let step = rounds_step true n m p one.item words few h one.there in
    subst (λ (r : Part). IsPartStep n m (Unfinished p) r words) (sym one.is) (record { form = step.form; lines = step.lines })

-- what was read then is of the same body
pub record IsSameKind (p q : Part) : Type 0 where
  pub word : part_word q ≡ part_word p
  pub finished : is_finished q ≡ is_finished p

pub same_kind : (n m : ℕ) (p q : Part) (words : List Word) → part_next n m p words ≡ Some q → IsSameKind p q
same_kind n m (Pure p) q words e =
    let one = map_some Pure (pure_next n m p words) q e in
    subst (IsSameKind (Pure p)) (sym one.is) (record { word = refl; finished = refl })
same_kind n m (Matching p) q words e =
    let one = map_some Matching (matching_next n m p words) q e in
    subst (IsSameKind (Matching p)) (sym one.is) (record { word = refl; finished = refl })
same_kind n m (Linear p) q words e =
    let one = map_some Linear (linear_next n m p words) q e in
    subst (IsSameKind (Linear p)) (sym one.is) (record { word = refl; finished = refl })
same_kind n m (General p) q words e =
    let one = map_some General (rounds_next (nat_lt 0 m) n m p words) q e in
    subst (IsSameKind (General p)) (sym one.is) (record { word = refl; finished = refl })
same_kind n m (Unfinished p) q words e =
    let one = map_some Unfinished (rounds_next true n m p words) q e in
    subst (IsSameKind (Unfinished p)) (sym one.is) (record { word = refl; finished = refl })
