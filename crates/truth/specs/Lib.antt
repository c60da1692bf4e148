-- The truth of a formula.
pub mod Truth
pub mod Computed
pub mod Even
pub mod EvenTest
pub mod TruthTable
pub mod Laws
