pub mod Certificates
pub mod CodeTests
pub mod ReadTests
pub mod Standing
pub mod WordTests
