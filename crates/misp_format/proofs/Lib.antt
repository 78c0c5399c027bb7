mod Ascending
mod Back
mod Categories
mod Depths
mod Edits
mod EventBack
mod Fitting
mod GroupBack
mod GroupNames
pub mod GroupTexts
mod Grouped
mod Kept
mod Moments
pub mod ReadBack
mod RowFacts
mod StandardFacts
mod Statements
mod Tags
mod TagsBack
mod Texts
pub mod Utf8
