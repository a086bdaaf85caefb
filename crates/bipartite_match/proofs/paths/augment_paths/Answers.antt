use Rattle.std.proofs.Common.{◌≡◌, ◌<◌, ℕ, List, [], ◌∷◌, length, refl, arith, sym, ◌∙◌, ap, subst, Vec, Global}
use Rattle.bipartite_match.specs.declared.mates.Mates.{Mates}
use Rattle.bipartite_match.specs.declared.paths.Step.{Step}
use Rattle.bipartite_match.specs.Pairing.{IsPairing, pairing_of, count_of}
use Rattle.bipartite_match.specs.Augmented.{indices_of}
use Rattle.bipartite_match.proofs.paths.augment_paths.Goals as goal
use Rattle.bipartite_match.proofs.paths.augment_paths.Goals.{then-index-eq0+in_ok-end+then-end-ne0, then-index-eq0+in_ok-end+else-end-ne0, else-index-eq0}

pub augment_path-requires : goal.augment_path-requires
augment_path-requires c = (
  c.args.f.now,
  c.args.part.now,
  record { formula = c.requires.formula; few = c.requires.few; pairing = c.loop-root.invariant.pairing; ends = c.in_ok-end.ensures },
)

-- a list of steps without an index is empty
no_step : (path : List Step) → (0 < length (indices_of path) → ⊥) → path ≡ []
no_step [] h = refl
no_step (s ∷ path) h = absurd (h (omega arith))

pub loop-root-preserved : goal.loop-root-preserved
loop-root-preserved c =
    let inv = c.loop-root.invariant in
    let f = c.args.f.now in
    let part = c.args.part.now in
    elim c.if-index-eq0.branch [
      | then-index-eq0+in_ok-end+then-end-ne0 w ↦
          (let n = w.if-end-ne0.true in
          let long = w.in_ok-end.ensures.begun (omega (arith, n)) in
          let t = w.augment_path.ensures.pairs f part (record { formula = c.requires.formula; few = c.requires.few; pairing = inv.pairing; ends = w.in_ok-end.ensures }) in
          let one = t.1 long in
          let before = inv.more in
          let now = ap (λ (m : Mates). count_of (pairing_of m)) w.mates-is in
          let augmented = w.augmented-is in
          record {
            pairing = subst (λ (m : Mates). IsPairing f part (pairing_of m)) (sym w.mates-is) t.0;
            more = omega (arith, one, before, now, augmented);
            same = λ z. absurd (omega (arith, augmented, z));
            layers = let a = c.if-index-eq0.layer.ok in let b = c.loop-root.layer.ok in let long = ap (λ (v : Vec ℕ Global). v.len) w.layer-is in let e = inv.layers in omega (arith, a, b, long, e);
            empty = ap (λ (v : Vec Step Global). v.items) w.path-is ∙ w.augment_path.ensures.empty;
          })
      | then-index-eq0+in_ok-end+else-end-ne0 w ↦ record {
        pairing = subst (λ (m : Mates). IsPairing f part (pairing_of m)) (sym w.mates-is) inv.pairing;
        more = let before = inv.more in let now = ap (λ (m : Mates). count_of (pairing_of m)) w.mates-is in let augmented = w.augmented-is in omega (arith, before, now, augmented);
        same = λ z. ap (λ (m : Mates). pairing_of m) w.mates-is ∙ inv.same (sym w.augmented-is ∙ z);
        layers = let a = c.if-index-eq0.layer.ok in let b = c.loop-root.layer.ok in let long = ap (λ (v : Vec ℕ Global). v.len) w.layer-is in let e = inv.layers in omega (arith, a, b, long, e);
        empty = ap (λ (v : Vec Step Global). v.items) w.path-is
            ∙ no_step w.find_path.new.path.items (λ l. let s = w.in_ok-end.ensures.some l in let z = w.if-end-ne0.false in omega (arith, s, z));
      }
      | else-index-eq0 w ↦ record {
        pairing = subst (λ (m : Mates). IsPairing f part (pairing_of m)) (sym w.mates-is) inv.pairing;
        more = let before = inv.more in let now = ap (λ (m : Mates). count_of (pairing_of m)) w.mates-is in let augmented = w.augmented-is in omega (arith, before, now, augmented);
        same = λ z. ap (λ (m : Mates). pairing_of m) w.mates-is ∙ inv.same (sym w.augmented-is ∙ z);
        layers = ap (λ (v : Vec ℕ Global). length v.items) w.layer-is ∙ inv.layers;
        empty = ap (λ (v : Vec Step Global). v.items) w.path-is ∙ inv.empty;
      }
    ]
