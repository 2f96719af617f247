-- How values are encoded as bytes.
pub mod Reading
pub mod ReadingLaws
pub mod Numbers
pub mod PlainNumbers
pub mod NumberLaws
pub mod Options
pub mod OptionLaws
pub mod Manifests
pub mod ManifestLaws
pub mod ByteStrings
pub mod ByteStringLaws
pub mod Consuming
