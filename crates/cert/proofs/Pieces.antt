-- Lines of a list, from a place on.
pub use Rattle.problem_model.proofs.Walking.{lines_more, lines_none}
