pub mod TimedTrees
