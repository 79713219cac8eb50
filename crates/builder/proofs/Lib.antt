pub mod Running
pub mod LeafLaws
pub mod GrowthLaws
pub mod LayerLaws
