pub mod Manifests
pub mod Faults
pub mod Laws
pub mod Lasts
pub mod Indexes
pub mod Readers
