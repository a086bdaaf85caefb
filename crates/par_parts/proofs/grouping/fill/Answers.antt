use Rattle.std.proofs.Common.{◌≡◌, ℕ, ◌≤◌, ◌∙◌, List, [], ◌∷◌, ◌++◌, length, length-append, All, sym, ap, subst, arith}
use Rattle.std.proofs.lemmas.List.Elements.{All-weaker, All-push}
use Rattle.par_parts.proofs.grouping.fill.Goals as goal

pub loop-size-preserved : goal.loop-size-preserved
loop-size-preserved c =
    let before = c.loop-size.numbers.items in
    let last = c.next_group-last.result in
    let h = c.loop-size.invariant in
    let long = h.0 in
    let least = h.1 in
    let more = c.next_group-last.ensures.least in
    let is : c.push.new.self.items ≡ before ++ last ∷ [] = c.in_ok-push.ensures.items in
    let more_long = ap (λ (ns : List ℕ). length ns) is ∙ length-append before (last ∷ []) in
    let earlier = All-weaker (λ n. (1 ≤ n) × (n ≤ c.loop-size.last)) (λ n. (1 ≤ n) × (n ≤ last)) (λ n b. (b.0, let a = b.1 in omega (arith, a, more))) before h.3 in (
      omega (arith, long, more_long),
      omega (arith, least, more),
      c.next_group-last.ensures.most,
      subst (λ (ns : List ℕ). All (λ n. (1 ≤ n) × (n ≤ last)) ns) (sym is)
          (All-push (λ n. (1 ≤ n) × (n ≤ last)) before last earlier (omega (arith, least, more), omega arith)),
    )
