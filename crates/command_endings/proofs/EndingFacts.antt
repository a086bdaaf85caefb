-- What is known of an ending.
use Rattle.std.proofs.Common.{Result, Ok, Err, IfOk}
use Rattle.lk_model.specs.declared.list.OutOfMemory.{OutOfMemory}
use Rattle.status_lines.specs.declared.ending.Ending.{Ending}

-- what is known of an ending, where there is one
pub by_one : (P S : Ending → Type 0) (r : Result Ending OutOfMemory) → IfOk r P → ((e : Ending) → P e → S e) → IfOk r S
by_one P S (Err e) p f = tt
by_one P S (Ok e) p f = f e p

pub by_three : (P Q R S : Ending → Type 0) (r : Result Ending OutOfMemory) → IfOk r P → IfOk r Q → IfOk r R → ((e : Ending) → P e → Q e → R e → S e) → IfOk r S
by_three P Q R S (Err e) p q t f = tt
by_three P Q R S (Ok e) p q t f = f e p q t

pub by_five : (P Q R A B S : Ending → Type 0) (r : Result Ending OutOfMemory) → IfOk r P → IfOk r Q → IfOk r R → IfOk r A → IfOk r B → ((e : Ending) → P e → Q e → R e → A e → B e → S e) → IfOk r S
by_five P Q R A B S (Err e) p q t a b f = tt
by_five P Q R A B S (Ok e) p q t a b f = f e p q t a b
