-- What an option that is there tells.
use Rattle.std.proofs.Common.{◌≡◌, refl, sym, Option, Some, None}
use Rattle.std.specs.Prelude.{option_map, option_and_then}

pub record MapSome {X Y : Type 0} (f : X → Y) (o : Option X) (y : Y) : Type 0 where
  pub item : X
  pub there : o ≡ Some item
  pub is : y ≡ f item

pub map_some : {X Y : Type 0} (f : X → Y) (o : Option X) (y : Y) → option_map f o ≡ Some y → MapSome f o y
map_some f None y e = absurd (let n : ⊥ = cc in n)
map_some f (Some x) y e = let same : f x ≡ y = cc in record { item = x; there = refl; is = sym same }

pub record ThenSome {X Y : Type 0} (f : X → Option Y) (o : Option X) (y : Y) : Type 0 where
  pub item : X
  pub there : o ≡ Some item
  pub gives : f item ≡ Some y

pub then_some : {X Y : Type 0} (f : X → Option Y) (o : Option X) (y : Y) → option_and_then f o ≡ Some y → ThenSome f o y
then_some f None y e = absurd (let n : ⊥ = cc in n)
then_some f (Some x) y e = record { item = x; there = refl; gives = e }
