pub mod Canvases
pub mod Colours
pub mod Forests
pub mod Pictures
pub mod Texts
