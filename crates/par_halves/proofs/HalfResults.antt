-- What is answered on a list, from what is answered on its front and on its back.
use Rattle.std.proofs.Common.{◌≡◌, ◌∙◌, ℕ, ◌+◌, ◌-◌, ◌<◌, ◌≤◌, List, [], ◌∷◌, ◌++◌, take, drop, get_or, length, refl, sym, ap, subst, arith, inl, inr}
use denote.Ref.{Bor}
use denote.Param.Members.{Shared}
use Rattle.std.specs.Fn.{FnReturns}
use Rattle.std.proofs.lemmas.Bool.{cases_lt}
use Rattle.std.proofs.lemmas.List.{get_or_append_left, get_or-append_right, get_or_push, length-append, length-take-le, get_or-take, take-append-drop, get_or_default, take_all}
use Rattle.par_halves.specs.Answering.{GivesItem, GivesItems, GivesFrom}

module _ {F T R : Type 0} (g : Shared F (ℕ × (Bor T × Unit {0})) R) (f : F) where
  -- an item that stands elsewhere too
  moved : (number number' : ℕ) (xs ys : List T) (i j : ℕ) (r s : R) → number ≡ number' → ((d : T) → get_or ys j d ≡ get_or xs i d) → r ≡ s
      → GivesItem g f number xs i r → GivesItem g f number' ys j s
  moved number number' xs ys i j r s n e w h = record {
    item = h.item;
    item_is = λ d. e d ∙ h.item_is d;
    call = subst (λ (k : ℕ). FnReturns g f (k, (h.item, tt)) s) n (subst (λ (a : R). FnReturns g f (number, (h.item, tt)) a) w h.call);
  }

  -- nothing is answered on no item
  pub gives_none : (from : ℕ) (xs : List T) → GivesFrom g f from (take 0 xs) []
  gives_none from xs = record { len = refl; each = λ i d l. absurd (omega (arith, l)) }

  -- one item more
  pub gives_more : (from : ℕ) (xs : List T) (rs : List R) (k : ℕ) (p : Bor T) (r : R) → k < length xs → p.now ≡ get_or xs k p.now → FnReturns g f (from + k, (p, tt)) r
      → GivesFrom g f from (take k xs) rs → GivesFrom g f from (take (k + 1) xs) (rs ++ r ∷ [])
  gives_more from xs rs k p r lt is call h =
      let a = length-take-le k xs (omega (arith, lt)) in
      let b = length-take-le (k + 1) xs (omega (arith, lt)) in
      let n : length rs ≡ k = h.len ∙ a in
      record {
        len = length-append rs (r ∷ []) ∙ (let c : length rs + 1 ≡ k + 1 = omega (arith, n) in c ∙ sym b);
        each = λ i d l. elim (cases_lt i k) [
          | inl early ↦ moved (from + i) (from + i) (take k xs) (take (k + 1) xs) i i (get_or rs i d) (get_or (rs ++ r ∷ []) i d) refl
              (λ e. get_or-take (k + 1) xs i e (omega (arith, early)) ∙ sym (get_or-take k xs i e early))
              (sym (get_or_append_left rs (r ∷ []) d i (omega (arith, n, early))))
              (h.each i d (omega (arith, a, early)))
          | inr late ↦
              (let e : k ≡ i = omega (arith, late, l, b) in
              let one : GivesItem g f (from + k) (take (k + 1) xs) k (get_or (rs ++ r ∷ []) k d) = record {
                item = p;
                item_is = λ c. get_or-take (k + 1) xs k c (omega arith) ∙ (get_or_default xs k c p.now lt ∙ sym is);
                call = subst (λ (y : R). FnReturns g f (from + k, (p, tt)) y) (sym (get_or_push rs r d k n)) call;
              } in
              subst (λ (j : ℕ). GivesItem g f (from + j) (take (k + 1) xs) j (get_or (rs ++ r ∷ []) j d)) e one)
        ];
      }

  -- all items were taken
  pub gives_all : (from : ℕ) (xs : List T) (rs : List R) (k : ℕ) → length xs ≤ k → GivesFrom g f from (take k xs) rs → GivesFrom g f from xs rs
  gives_all from xs rs k past h = subst (λ (ys : List T). GivesFrom g f from ys rs) (take_all k xs past) h

  -- both halves
  pub gives_both : (from middle : ℕ) (all xs ys : List T) (us bs rs : List R) → all ≡ xs ++ ys → middle ≡ from + length xs → rs ≡ us ++ bs
      → GivesFrom g f from xs us → GivesFrom g f middle ys bs → GivesFrom g f from all rs
  gives_both from middle all xs ys us bs rs whole mid is a b =
      let n = length xs in
      let la = a.len in let lb = b.len in let lw = ap (λ (zs : List T). length zs) whole ∙ length-append xs ys in
      record {
        len = ap (λ (zs : List R). length zs) is ∙ (length-append us bs ∙ (let c : length us + length bs ≡ n + length ys = omega (arith, la, lb) in c ∙ sym lw));
        each = λ i d l. elim (cases_lt i n) [
          | inl early ↦ moved (from + i) (from + i) xs all i i (get_or us i d) (get_or rs i d) refl
              (λ e. ap (λ (zs : List T). get_or zs i e) whole ∙ get_or_append_left xs ys e i early)
              (sym (ap (λ (zs : List R). get_or zs i d) is ∙ get_or_append_left us bs d i (omega (arith, la, early))))
              (a.each i d early)
          | inr late ↦ moved (middle + (i - n)) (from + i) ys all (i - n) i (get_or bs (i - n) d) (get_or rs i d) (omega (arith, mid, late))
              (λ e. ap (λ (zs : List T). get_or zs i e) whole ∙ get_or-append_right xs ys n i e refl late)
              (sym (ap (λ (zs : List R). get_or zs i d) is ∙ get_or-append_right us bs n i d la late))
              (b.each (i - n) d (omega (arith, l, lw, late)))
        ];
      }

  -- from the first item on
  pub gives_items : (xs : List T) (rs : List R) → GivesFrom g f 0 xs rs → GivesItems g f xs rs
  gives_items xs rs h i d l = (refl, moved (0 + i) i xs xs i i (get_or rs i d) (get_or rs i d) (omega arith) (λ e. refl) refl (h.each i d l))

  -- both halves, cut at an index
  pub gives_halves : (from middle h : ℕ) (all xs ys : List T) (us ws rs : List R) → xs ≡ take h all → ys ≡ drop h all → length xs ≡ h → middle ≡ from + h → rs ≡ us ++ ws
      → GivesFrom g f from xs us → GivesFrom g f middle ys ws → GivesFrom g f from all rs
  gives_halves from middle h all xs ys us ws rs front back len mid is a b =
      let whole : all ≡ xs ++ ys = sym (ap (λ (zs : List T). zs ++ ys) front ∙ (ap (λ (zs : List T). take h all ++ zs) back ∙ take-append-drop h all)) in
      gives_both from middle all xs ys us ws rs whole (omega (arith, mid, len)) is a b
