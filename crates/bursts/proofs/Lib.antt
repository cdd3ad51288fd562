pub mod Constants
pub mod LevelLaws
pub mod ClusterLaws
pub mod SearchLaws
pub mod Rows
pub mod Count
pub mod Runs
