use Rattle.std.proofs.Common.{◌≡◌, ◌∙◌, ◌++◌, ◌<◌, ℕ, List, get_or, length, subst, sym, ap, rules, append-nil, append_assoc, Bor, find, option_map}
use Rattle.std.specs.Prelude.{IfOk}
use Rattle.std.specs.Slice.Iter.{chunks_rest}
use Rattle.std.proofs.lemmas.List.{nil_from_length}
use Rattle.check_tables.specs.Places.{Answer, IsPart, joined}
use Rattle.check_places.specs.FirstAnswers.{first_answer}
use Rattle.check_tables.proofs.Parts.{joined_more, part_within, first_of_parts}
use Rattle.check_tables.proofs.places.Workers.first_found.Goals as goal

pub loop-part-preserved : goal.loop-part-preserved
loop-part-preserved g c =
    let part = c.in-Some.part in
    let steps = c.in-Some.ensures.steps in (
      search rules,
      tt,
      ap (λ (xs : List g.row.T.Denot). xs ++ chunks_rest c.next.new.self) (ap joined c.in_ok-push.ensures.items ∙ joined_more c.loop-part.parts.items part)
          ∙ append_assoc (joined c.loop-part.parts.items) part.now (chunks_rest c.next.new.self)
          ∙ ap (λ (xs : List g.row.T.Denot). joined c.loop-part.parts.items ++ xs) (sym steps.1.0)
          ∙ c.loop-part.invariant.2,
    )

-- all pieces have the list
all_parts : {T : Type 0} (parts given : List (Bor (List T))) (rest items : List T) → given ≡ parts → length rest ≡ 0 → joined parts ++ rest ≡ items → joined given ≡ items
all_parts parts given rest items same none e = ap joined same ∙ sym (ap (λ (xs : List _). joined parts ++ xs) (nil_from_length rest none) ∙ append-nil (joined parts)) ∙ e

pub map_halves-requires-clause-accepts : goal.map_halves-requires-clause-accepts
map_halves-requires-clause-accepts g c κs within = λ i p inside is.
    let parts = c.as_slice.result.now in
    let all = all_parts c.loop-part.parts.items parts (chunks_rest c.loop-part.part-iterator) c.args.items.now c.as_slice.ensures.value c.in-None.ensures.steps.1.0 c.loop-part.invariant.2 in
    let w : IsPart (get_or parts i p.now).now (joined parts) = part_within parts i p.now inside in
    c.requires p.now (subst (λ (q : Bor (List g.row.T.Denot)). IsPart q.now c.args.items.now) (sym is) (subst (λ (xs : List g.row.T.Denot). IsPart (get_or parts i p.now).now xs) all w))

pub returns : goal.returns
returns g c = λ by tell finds.
    let parts = c.as_slice.result.now in
    let answers = c.in_ok-answers.answers in
    let items = c.args.items.now in
    let all = all_parts c.loop-part.parts.items parts (chunks_rest c.loop-part.part-iterator) items c.as_slice.ensures.value c.in-None.ensures.steps.1.0 c.loop-part.invariant.2 in
    let told : (i : ℕ) (d : Bor (List g.row.T.Denot)) (r : Answer) → i < length parts → IfOk (get_or answers i r) (λ place. place ≡ option_map tell (find by (get_or parts i d).now)) = (λ i d r inside.
    let e = (c.in_ok-answers.ensures.each i r inside).1 in
    let is = e.item_is d in
    let w : IsPart (get_or parts i d).now items = subst (λ (xs : List g.row.T.Denot). IsPart (get_or parts i d).now xs) all (part_within parts i d inside) in
    let found : IfOk (get_or answers i r) (λ place. place ≡ option_map tell (find by e.item.now.now)) =
    finds e.item.now (get_or answers i r) (subst (λ (q : Bor (List g.row.T.Denot)). IsPart q.now items) is w) (let met = e.call in search rules) in
    subst (λ (q : Bor (List g.row.T.Denot)). IfOk (get_or answers i r) (λ place. place ≡ option_map tell (find by q.now))) (sym is) found) in
    let first = first_of_parts by tell parts answers c.in_ok-answers.ensures.len told in
    subst (λ (r : Answer). IfOk r (λ place. place ≡ option_map tell (find by items))) (sym (c.first_answer.ensures ∙ ap first_answer c.as_slice-2.ensures))
    (subst (λ (xs : List g.row.T.Denot). IfOk (first_answer answers) (λ place. place ≡ option_map tell (find by xs))) all first)
