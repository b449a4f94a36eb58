-- That a claim leaves a coherent state, by `Claiming`.
pub use Rattle.sj_core.proofs.Claiming.{Claims-coherent, claim-order_elsewhere, claim-order_here, claim-rested, claim-rests}
