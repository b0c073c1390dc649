pub mod Analysis
pub mod AssumptionCore
pub mod Cells
pub mod Marks
pub mod Minimisation
pub mod Walk
pub mod Laws
