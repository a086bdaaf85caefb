use Rattle.std.proofs.Common.{◌≡◌, ◌∙◌, ◌+◌, ◌-◌, ◌<◌, ◌≤◌, ℕ, List, get_or, length, subst, sym, ap, rules, arith}
use Rattle.std.specs.Prelude.{IfOk, find}
use Rattle.lk_model.specs.Lists.{up_to}
use Rattle.check_tables.specs.declared.places.Span.{Span}
use Rattle.check_tables.specs.Places.{Answer, AreCut, places_in}
use Rattle.check_places.specs.FirstAnswers.{first_answer}
use Rattle.check_tables.proofs.Spans.{cut_within, first_of_all}
use Rattle.check_tables.proofs.places.Workers.least_found.Goals as goal

pub map_halves-requires-clause-accepts : goal.map_halves-requires-clause-accepts
map_halves-requires-clause-accepts g c κs within = λ i p inside is.
    let cut = subst (λ (ss : List Span). AreCut 1 c.args.n ss) (sym c.as_slice.ensures.value) c.in_ok-spans.ensures in
    let w = cut_within 1 c.args.n c.as_slice.result.now i p.now cut inside in
    c.requires p.now (omega (arith, w.0, ap (λ (s : Span). s.first) is)) (subst (λ (s : Span). s.first + s.count ≤ c.args.n + 1) (sym is) w.1)

pub returns : goal.returns
returns g c = λ by finds.
    let spans = c.as_slice.result.now in
    let answers = c.in_ok-answers.answers in
    let cut = subst (λ (ss : List Span). AreCut 1 c.args.n ss) (sym c.as_slice.ensures.value) c.in_ok-spans.ensures in
    let told : (i : ℕ) (d : Span) (r : Answer) → i < length spans → IfOk (get_or answers i r) (λ place. place ≡ find by (places_in (get_or spans i d))) = (λ i d r inside.
    let e = (c.in_ok-answers.ensures.each i r inside).1 in
    let is = e.item_is d in
    let w = cut_within 1 c.args.n spans i d cut inside in
    let found : IfOk (get_or answers i r) (λ place. place ≡ find by (places_in e.item.now)) =
    finds e.item.now (get_or answers i r) (omega (arith, w.0, ap (λ (s : Span). s.first) is)) (subst (λ (s : Span). s.first + s.count ≤ c.args.n + 1) is w.1) (let met = e.call in search rules) in
    subst (λ (s : Span). IfOk (get_or answers i r) (λ place. place ≡ find by (places_in s))) (sym is) found) in
    let all = first_of_all by 1 c.args.n spans answers cut c.in_ok-answers.ensures.len told in
    let n : c.args.n + 1 - 1 ≡ c.args.n = omega arith in
    subst (λ (r : Answer). IfOk r (λ place. place ≡ find by (up_to c.args.n))) (sym (c.first_answer.ensures ∙ ap (λ (rs : List Answer). first_answer rs) c.as_slice-2.ensures))
    (subst (λ (k : ℕ). IfOk (first_answer answers) (λ place. place ≡ find by (up_to k))) n all)
