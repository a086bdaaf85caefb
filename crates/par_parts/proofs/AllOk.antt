-- What all answers found, place by place, for those who have `all_ok` from here.
pub use Rattle.par_halves.proofs.AllOk.{ok_count, ok_at}
