-- What is said of a stop.
use Rattle.std.proofs.Common.{◌≡◌, sym, subst}
use Rattle.lk_model.specs.declared.text_fault.Fault.{Fault}
use Rattle.dimacs_reader.specs.Faults.{ForFault}
use Rattle.dimacs_reader.specs.declared.stop.Stop.{Stop}
use Rattle.dimacs_reader.specs.declared.stop.Stop.TheVariants as stop

-- a stop at a fault of which this holds
pub for_fault : (P : Fault → Type 0) (s : Stop) (f : Fault) → s ≡ stop.Fault f → P f → ForFault s P
for_fault P s f e h = subst (λ (t : Stop). ForFault t P) (sym e) h
