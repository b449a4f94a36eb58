-- Which entries a full node evicts: the words that nodes share.
pub use Rattle.sj_base.specs.Victims.{shortest_suffix, covers, victims}
