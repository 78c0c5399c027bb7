pub mod ManifestReading
pub mod ManifestSpelling
pub mod Manifests
pub mod Wanting
